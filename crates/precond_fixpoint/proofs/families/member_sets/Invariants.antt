use Rattle.std.proofs.Common.{◌≡◌, length}
use Rattle.bool_diagrams.specs.Rows.{Keeps}
use Rattle.precond_fixpoint.specs.Solving.{AreSolutions}
use Rattle.truth_rows.specs.Sets.{AreSets, family_of}
use Rattle.precond_fixpoint.proofs.families.member_sets.Given as goal

-- the columns of the mappings so far
abbrev pub invariant-loop-m : goal.invariant-loop-m
invariant-loop-m g l =
    record {
      keeps : Keeps l.fn.table l.table;
      marks : length l.marks ≡ length l.setting.program.now.clauses;
      sets : AreSets l.setting.program.now.preds l.table l.sets;
      each : length l.columns.items ≡ length l.component.members.now;
      solutions : AreSolutions (g.N.Norm.truth l.setting.norm.now) l.setting.program.now l.setting.ranks.now l.component.rank (family_of l.setting.program.now.preds l.fn.table l.component.allowed.now) (family_of l.setting.program.now.preds l.fn.table l.setting.grounds.now) l.setting.levels.now l.table l.m l.component.members.now l.columns.items;
    }
