use Rattle.std.proofs.Common.{◌≡◌, length}
use Rattle.bool_diagrams.specs.Rows.{Keeps}
use Rattle.solved_program.specs.Grounds.{AreGroundsTo}
use Rattle.solved_program.proofs.grounds.resolve_each.Given as goal

abbrev pub invariant-loop-c : goal.invariant-loop-c
invariant-loop-c g l =
    record {
      keeps : Keeps l.fn.table l.table;
      marks : length l.marks ≡ length l.sources.clauses.now.edit.now.after.now.clauses;
      found : AreGroundsTo (g.N.Norm.truth l.sources.norm.now) l.sources.clauses.now.edit.now l.sources.old.now l.sources.carried.now l.c l.table l.sets l.stayed;
    }
