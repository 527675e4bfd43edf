use Rattle.termination_model.specs.sizes.Sizes.{rows_of}
use Rattle.number_tests.specs.Systems.{IsSystemUpTo}
use Rattle.number_tests.proofs.clause_systems.extend.Given as goal

abbrev pub invariant-loop-i : goal.invariant-loop-i
invariant-loop-i g l = IsSystemUpTo (g.N.Norm.expression l.norm) (rows_of l.sizes) l.clause l.i l.system
