use Rattle.std.proofs.Common.{◌≡◌, Bool, List, length, take}
use Rattle.std.specs.List.{list_any}
use Rattle.bool_diagrams.specs.Cubes.{truth_rows}
use Rattle.bool_diagrams.specs.Rows.{IsDiagram, Keeps, ReadsBelow}
use Rattle.termination_model.specs.mappings.View.{all_upper}
use Rattle.truth_rows.proofs.upper.upward_union.Given as goal

abbrev pub invariant-loop-set : goal.invariant-loop-set
invariant-loop-set l =
    record {
      keeps : Keeps l.fn.table l.table;
      known : IsDiagram l.table l.rows;
      reads : ReadsBelow l.table l.rows l.width;
      rows : (row : List Bool) → length row ≡ l.width → truth_rows l.table l.rows row ≡ list_any (λ s. all_upper (truth_rows l.fn.table s) row) (take l.set-index l.sets);
    }
