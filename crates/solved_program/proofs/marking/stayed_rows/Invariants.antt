use Rattle.std.proofs.Common.{◌≡◌, ℕ, Bool, length, slice_get, Some}
use Rattle.termination_model.specs.sizes.Sizes.{rows_of}
use Rattle.solved_program.specs.Marks.{IsMarkOf}
use Rattle.solved_program.proofs.marking.stayed_rows.Given as goal

abbrev pub invariant-loop-q : goal.invariant-loop-q
invariant-loop-q l = record {
  each : length l.marks.items ≡ l.q;
  at : (r : ℕ) (x : Bool) → slice_get l.marks.items r ≡ Some x → IsMarkOf l.edit (rows_of l.before) (rows_of l.rows) r x;
}
