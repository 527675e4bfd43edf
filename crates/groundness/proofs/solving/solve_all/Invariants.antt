use Rattle.std.proofs.Common.{◌≡◌, length}
use Rattle.bool_diagrams.specs.Rows.{Keeps}
use Rattle.truth_rows.specs.Sets.{AreSets, family_of}
use Rattle.groundness.proofs.ComponentLaws.{AreLeastTo}
use Rattle.groundness.proofs.solving.solve_all.Given as goal

abbrev pub invariant-loop-c : goal.invariant-loop-c
invariant-loop-c g l =
    record {
      keeps : Keeps l.fn.table l.table;
      sets : AreSets l.setting.program.now.preds l.table l.sets;
      each : length l.marks ≡ length l.setting.program.now.clauses;
      least : AreLeastTo (g.N.Norm.truth l.setting.norm.now) l.setting.program.now l.setting.comps.now l.c (family_of l.setting.program.now.preds l.table l.sets);
    }
