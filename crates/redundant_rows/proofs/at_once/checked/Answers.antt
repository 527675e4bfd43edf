use Rattle.std.proofs.Common.{rules, ℕ, ℤ, List, refl, sym, subst, ◌∙◌}
use Rattle.std.specs.Int.{w128}
use Rattle.std.specs.Prelude.{FitsSigned}
use Rattle.std.proofs.lemmas.Int.{to_z-of_z}
use Rattle.std.proofs.lemmas.List.{length-map}
use Rattle.linear_rows.specs.Plain.{plain_row, plain_rows}
use Rattle.linear_rows.specs.Proves.{Proves, AllColumnsFit}
use Rattle.linear_rows.specs.Showing.{AreMultipliers}
use Rattle.simplex.proofs.WideTests.{fits_same}
use Rattle.redundant_rows.proofs.at_once.checked.Goals as goal

pub returns-in-Holds : goal.returns-in-Holds
returns-in-Holds c =
    let rows = plain_rows c.args.rows.now.list in
    let row = plain_row c.args.row.now in
    let by = c.args.by in
    let g : FitsSigned w128 by.scale = search rules in
    let told = simp to_z-of_z at (c.in-Holds.ensures.holds.0 refl) in
    let here : Proves rows by.list row by.scale × AllColumnsFit rows by.list row by.scale = subst (λ (xs : List ℤ). Proves rows xs row by.scale × AllColumnsFit rows xs row by.scale) c.as_slice.ensures told in
    record {
      multipliers = subst (λ (n : ℕ). AreMultipliers n by) (sym (length-map c.args.rows.now.list plain_row)) c.requires.multipliers;
      shown = record { target_fits = fits_same row ∙ c.requires.fits; proves = here.0; numbers_fit = here.1 };
    }
