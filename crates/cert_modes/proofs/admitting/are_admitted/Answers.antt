use Rattle.std.proofs.Common.{sym, arith, ℕ, List}
use Rattle.termination_model.proofs.Lists.{place_below}
use Rattle.bool_diagrams.specs.Cubes.{truth_rows}
use Rattle.termination_model.specs.claims.Descent.{mode_row}
use Rattle.cert_modes.proofs.PlaceLaws.{all_true}
use Rattle.cert_modes.proofs.admitting.are_admitted.Goals as goal

pub returns : goal.returns
returns c =
    sym (all_true (λ (mode : List ℕ). truth_rows c.args.table.now c.args.set (mode_row mode 1 c.args.arity)) c.args.modes.now (λ i mode e.
    c.loop-mode.invariant i mode (omega (arith, place_below c.args.modes.now i mode e, c.loop-mode-test.false)) e))
