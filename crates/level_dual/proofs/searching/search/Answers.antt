use Rattle.std.proofs.Common.{refl}
use Rattle.level_dual.proofs.searching.search.Goals as goal

pub returns-in-None : goal.returns-in-None
returns-in-None c = λ size truth expression comps rows r h. c.in_ok-answer-2.ensures.none c.in-None.is refl size truth expression comps rows r h
