use Rattle.std.proofs.Common.{◌≡◌, ◌<◌, ◌+◌, ◌==◌, ◌||◌, ℕ, drop}
use Rattle.std.specs.List.{list_any}
use Rattle.bool_diagrams.specs.Rows.{bit_of}
use Rattle.truth_rows.proofs.of_modes.row_of_mode.Given as goal

-- an argument is in the row, or is still to come, exactly where the mode names it
abbrev pub invariant-loop-argument : goal.invariant-loop-argument
invariant-loop-argument l = (i : ℕ) → i < l.arity → (bit_of l.row i || list_any (λ j. j == i + 1) (drop l.argument-index l.mode)) ≡ list_any (λ j. j == i + 1) l.mode
