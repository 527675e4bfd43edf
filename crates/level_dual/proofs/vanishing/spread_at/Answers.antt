use Rattle.level_dual.proofs.vanishing.spread_at.Goals as goal

pub loop-i-preserved : goal.loop-i-preserved
loop-i-preserved c = λ m keeps v. c.spread_along.ensures m keeps (c.loop-i.invariant m keeps v)
