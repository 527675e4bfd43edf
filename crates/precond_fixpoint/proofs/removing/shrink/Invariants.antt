use Rattle.std.proofs.Common.{◌≡◌, length}
use Rattle.bool_diagrams.specs.Rows.{Keeps}
use Rattle.termination_model.specs.grounds.Grounds.{IsInside}
use Rattle.truth_rows.specs.Sets.{AreSets, family_of}
use Rattle.precond_fixpoint.specs.Removing.{Needed, UnmarkedKeep, work}
use Rattle.precond_fixpoint.proofs.removing.shrink.Given as goal

abbrev pub invariant-loop : goal.invariant-loop
invariant-loop g l =
    record {
      keeps : Keeps l.fn.table l.table;
      marks : length l.marks ≡ length l.setting.program.now.clauses;
      sets : AreSets l.setting.program.now.preds l.table l.sets;
      needed : Needed (g.N.Norm.truth l.setting.norm.now) l.setting.program.now l.fn.table l.table l.setting.ranks.now l.component.rank l.setting.grounds.now l.component.allowed.now l.fn.sets l.sets;
      inside : IsInside (family_of l.setting.program.now.preds l.table l.sets) (family_of l.setting.program.now.preds l.fn.table l.fn.sets);
      kept : UnmarkedKeep (g.N.Norm.truth l.setting.norm.now) l.setting.program.now l.setting.ranks.now l.component.rank l.marks (family_of l.setting.program.now.preds l.table l.sets) (family_of l.setting.program.now.preds l.fn.table l.component.allowed.now) (family_of l.setting.program.now.preds l.fn.table l.setting.grounds.now);
    }

abbrev pub decreases-loop : goal.decreases-loop
decreases-loop g l = work l.setting.program.now.preds l.table l.sets l.marks
