use Rattle.std.proofs.Common.{◌≡◌, ◌<◌, ℕ, length, slice_get, Some}
use Rattle.number_tests.specs.Drops.{drop_weights}
use Rattle.linear_rows.specs.Plain.{plain_rows}
use Rattle.linear_rows.specs.Showing.{IsShown}
use Rattle.linear_rows.specs.declared.multipliers.Multipliers.{Multipliers}
use Rattle.number_tests.specs.declared.level_part.LevelPart.{LevelPart}
use Rattle.termination_model.specs.sizes.Replacing.{over_columns}
use Rattle.lex_checker.specs.Proved.{drop_at}
use Rattle.lex_checker.proofs.dropping.measures_drop.Given as goal

abbrev pub invariant-loop-i : goal.invariant-loop-i
invariant-loop-i l =
    (i : ℕ) → i < l.i → (head call : LevelPart) (by : Multipliers)
    → slice_get l.heads i ≡ Some head → slice_get l.calls i ≡ Some call → slice_get l.proofs i ≡ Some by
    → IsShown (plain_rows l.rows.list) (over_columns l.columns (drop_weights (drop_at i (length l.proofs)) head call)) by
