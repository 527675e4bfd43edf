use Rattle.level_dual.proofs.vanishing.spread.Goals as goal

pub returns : goal.returns
returns c = λ m keeps v. c.spread_back-2.ensures m keeps (c.spread_back.ensures m keeps (c.spread_onward-2.ensures m keeps (c.spread_onward.ensures m keeps v)))
