use Rattle.std.proofs.Common.{◌≡◌, length}
use Rattle.bool_diagrams.specs.Rows.{Keeps}
use Rattle.termination_model.specs.grounds.Grounds.{IsInside}
use Rattle.truth_rows.specs.Sets.{AreSets, family_of}
use Rattle.groundness.specs.Components.{AddsOnlyNeededIn, UnmarkedAreClosedIn}
use Rattle.termination_model.specs.chains.Chain.{is_member}
use Rattle.groundness.specs.Marks.{work}
use Rattle.groundness.specs.Sets.{KeepsOtherSets}
use Rattle.groundness.proofs.solving.add_all.Given as goal

abbrev pub invariant-loop : goal.invariant-loop
invariant-loop g l =
    record {
      keeps : Keeps l.fn.table l.table;
      sets : AreSets l.setting.program.now.preds l.table l.sets;
      each : length l.marks ≡ length l.setting.program.now.clauses;
      needed : AddsOnlyNeededIn (g.N.Norm.truth l.setting.norm.now) l.setting.program.now (is_member l.setting.comps.now l.c) (family_of l.setting.program.now.preds l.fn.table l.fn.sets) (family_of l.setting.program.now.preds l.table l.sets);
      inside : IsInside (family_of l.setting.program.now.preds l.fn.table l.fn.sets) (family_of l.setting.program.now.preds l.table l.sets);
      others : KeepsOtherSets (is_member l.setting.comps.now l.c) l.fn.sets l.sets;
      closed : UnmarkedAreClosedIn (g.N.Norm.truth l.setting.norm.now) l.setting.program.now (is_member l.setting.comps.now l.c) l.marks (family_of l.setting.program.now.preds l.table l.sets);
    }

abbrev pub decreases-loop : goal.decreases-loop
decreases-loop g l = work l.setting.program.now.preds l.table l.sets l.marks
