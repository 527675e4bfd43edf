use Rattle.std.proofs.Common.{◌≡◌, ◌<◌, ℕ, true, List, slice_get, Some}
use Rattle.bool_diagrams.specs.Cubes.{truth_rows}
use Rattle.termination_model.specs.claims.Descent.{mode_row}
use Rattle.cert_modes.proofs.admitting.are_admitted.Given as goal

-- the modes so far are admitted
abbrev pub invariant-loop-mode : goal.invariant-loop-mode
invariant-loop-mode l = (i : ℕ) (mode : List ℕ) → i < l.mode-index → slice_get l.modes i ≡ Some mode → truth_rows l.table l.set (mode_row mode 1 l.arity) ≡ true
