-- Private.
-- The laws of polyhedra.
use Rattle.std.proofs.Common.{◌≡◌, ℕ, zero, suc, ℤ, Bool, true, ◌&&◌, List, [], ◌∷◌, refl, ap, ◌∙◌, arith}
use Rattle.std.specs.Prelude.{All}
use Rattle.exact128.specs.Fits.{fits}
use Rattle.linear_rows.specs.Blown.{all_of}
use Rattle.linear_rows.specs.Solving.{zeros}
use Rattle.linear_rows.specs.Replacing.{row_fits}
use Rattle.linear_rows.specs.declared.row.Row.{Row}
use Rattle.linear_rows.specs.Plain.{HaveWidth, plain_row, plain_rows}
use Rattle.termination_model.specs.chains.ChainRows.{bottom_row, AreSpoken}

-- each row has numbers that fit (a ghost field has to be a proposition: no recursion)
abbrev pub HaveFit : List Row → Type 0
HaveFit rows = All (λ r. all_of fits (plain_row r) ≡ true) rows

zeros_fit : (n : ℕ) → all_of fits (zeros n) ≡ true
zeros_fit zero = refl
zeros_fit (suc n) = zeros_fit n

pub law_of_bottoms : (n : ℕ) → all_of fits (bottom_row n) ≡ true
law_of_bottoms n = zeros_fit n

same : (r : List ℤ) → row_fits r ≡ all_of fits r
same [] = refl
same (x ∷ xs) = ap (λ (b : Bool). fits x && b) (same xs)

pub law_of_fits : (r : List ℤ) → all_of fits r ≡ true → row_fits r ≡ true
law_of_fits r e = same r ∙ e

pub law_of_spoken : (n : ℕ) (rows : List Row) → HaveWidth n rows → HaveFit rows → AreSpoken (all_of fits) n (plain_rows rows)
law_of_spoken n [] h f = tt
law_of_spoken n (r ∷ rows) h f = ((ap suc (h 0 r (omega arith)), f 0 r (omega arith)), law_of_spoken n rows (λ j e m. h (suc j) e (omega arith)) (λ j e m. f (suc j) e (omega arith)))
