use Rattle.std.proofs.Common.{◌≡◌, ◌<◌, ℕ, slice_get, Some}
use Rattle.number_tests.specs.declared.level_part.LevelPart.{LevelPart}
use Rattle.linear_rows.specs.Plain.{plain_rows}
use Rattle.linear_rows.specs.declared.multipliers.Multipliers.{Multipliers}
use Rattle.termination_model.specs.sizes.Replacing.{over_columns}
use Rattle.linear_rows.specs.Showing.{IsShown}
use Rattle.number_tests.specs.Targets.{fall_weights}
use Rattle.cert_checker.proofs.fall_faults.mapping_fault.Given as goal

abbrev pub invariant-loop-m : goal.invariant-loop-m
invariant-loop-m l =
    (m : ℕ) → m < l.m → (head call : LevelPart) (by : Multipliers)
    → slice_get l.heads m ≡ Some head → slice_get l.calls m ≡ Some call → slice_get l.proofs m ≡ Some by
    → IsShown (plain_rows l.rows.list) (over_columns l.columns (fall_weights head call)) by
