use Rattle.std.proofs.Common.{◌≡◌, ℕ, List, length, slice_get, Some}
use Rattle.precond_fixpoint.specs.declared.mode.Mode.{Mode}
use Rattle.truth_rows.specs.Sets.{family_of}
use Rattle.carried_preconditions.specs.Modes.{AreModesOf}
use Rattle.carried_preconditions.proofs.modes.resolve_modes.Given as goal

abbrev pub invariant-loop-q : goal.invariant-loop-q
invariant-loop-q l =
    record {
      each : length l.list ≡ l.q;
      at : (r : ℕ) (own : List Mode) → slice_get l.list r ≡ Some own → AreModesOf l.edit.after.now.preds (family_of l.edit.after.now.preds l.table l.allowed) r own;
    }
