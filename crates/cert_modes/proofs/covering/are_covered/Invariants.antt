use Rattle.std.proofs.Common.{◌≡◌, ◌<◌, ℕ, Bool, IsTrue, List, length, slice_get, Some}
use Rattle.bool_diagrams.specs.Cubes.{truth_rows}
use Rattle.bool_diagrams.specs.Rows.{Keeps}
use Rattle.bool_diagrams.specs.declared.diagram.Diagram.{Diagram}
use Rattle.number_tests.specs.declared.level_part.LevelPart.{LevelPart}
use Rattle.termination_model.specs.sizes.Rows.{Covers}
use Rattle.cert_modes.specs.Modes.{naturals}
use Rattle.cert_modes.proofs.covering.are_covered.Given as goal

-- the rows of the sets so far are true at their coefficients
abbrev pub invariant-loop-mapping : goal.invariant-loop-mapping
invariant-loop-mapping l =
    record {
      keeps : Keeps l.fn.table l.table;
      covered : (m : ℕ) → m < l.mapping → (level : LevelPart) (d : Diagram) → slice_get l.levels m ≡ Some level → slice_get l.sets m ≡ Some d
          → (row : List Bool) → length row ≡ length level.coeffs → IsTrue (truth_rows l.fn.table d row) → Covers (naturals (Some level)) row;
    }
