use Rattle.std.proofs.Common.{◌-◌, pos, List, ℤ, ap, sym, ◌∙◌, ◌++◌, ◌∷◌, length}
use Rattle.linear_rows.specs.Solving.{zeros}
use Rattle.fourier.proofs.StartRows.{units_parts}
use Rattle.termination_model.proofs.ImageLaw.{length-units}
use Rattle.polyhedra.proofs.image_system.natural_row.Goals as goal

pub returns-clause-row : goal.returns-clause-row
returns-clause-row c =
    let p = c.args.place in
    let w = c.args.width in
    ap (λ (cs : List ℤ). pos 0 ∷ cs) (c.in_ok-push_alone.ensures ∙ ap (λ (s : List ℤ). s ++ (zeros p ++ pos 1 ∷ zeros (w - p - 1))) c.new-coeffs.ensures ∙ sym (units_parts w p c.requires))

pub returns-clause-width : goal.returns-clause-width
returns-clause-width c =
    let p = c.args.place in
    let w = c.args.width in
    ap length (c.in_ok-push_alone.ensures ∙ ap (λ (s : List ℤ). s ++ (zeros p ++ pos 1 ∷ zeros (w - p - 1))) c.new-coeffs.ensures ∙ sym (units_parts w p c.requires)) ∙ length-units w p
