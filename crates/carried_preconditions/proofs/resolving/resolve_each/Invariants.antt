use Rattle.bool_diagrams.specs.Rows.{Keeps}
use Rattle.carried_preconditions.specs.Resolving.{AreUpTo}
use Rattle.carried_preconditions.proofs.resolving.resolve_each.Given as goal

abbrev pub invariant-loop-c : goal.invariant-loop-c
invariant-loop-c g l =
    record {
      keeps : Keeps l.fn.table l.table;
      found : AreUpTo (g.N.Norm.truth l.sources.norm.now) l.sources l.c l.table l.progress;
    }
