-- The row of constant -1 and zeros among rows.
use Rattle.std.proofs.Common.{◌≡◌, ℕ, suc, ◌<◌, ℤ, pos, List, [], ◌∷◌, map, length, slice_get, Some, refl, ap, sym, ◌∙◌, arith, inl, inr}
use Rattle.exact128.specs.Sums.{entry}
use Rattle.linear_rows.specs.Members.{In}
use Rattle.linear_rows.specs.Plain.{plain_row}
use Rattle.linear_rows.specs.Solving.{zeros}
use Rattle.linear_rows.specs.declared.row.Row.{Row}
use Rattle.termination_model.specs.chains.ChainRows.{bottom_row}
use Rattle.simplex.proofs.RowLists.{length-zeros}

pub zeros_all : (xs : List ℤ) → ((j : ℕ) → j < length xs → entry xs j ≡ pos 0) → xs ≡ zeros (length xs)
zeros_all [] h = refl
zeros_all (x ∷ xs) h =
    let here : x ≡ pos 0 = h 0 (omega arith) in
    let more = zeros_all xs (λ j l. h (suc j) (omega arith)) in
    λ i. here i ∷ more i

pub bottom_width : (r : Row) (n : ℕ) → plain_row r ≡ bottom_row n → length r.coeffs ≡ n
bottom_width r n e = let l : suc (length r.coeffs) ≡ suc (length (zeros n)) = ap length e in omega (arith, length-zeros n)

pub own_bottom : (r : Row) (n : ℕ) → plain_row r ≡ bottom_row n → plain_row r ≡ bottom_row (length r.coeffs)
own_bottom r n e = e ∙ ap bottom_row (sym (bottom_width r n e))

pub in_rows : (rows : List Row) (x : List ℤ) → In x (map plain_row rows) → (j : ℕ) × (r : Row) × (slice_get rows j ≡ Some r) × (plain_row r ≡ x)
in_rows [] x i = absurd i
in_rows (r ∷ rows) x (inl is) = (0, r, refl, is)
in_rows (r ∷ rows) x (inr i) = let h = in_rows rows x i in (suc h.0, h.1, h.2, h.3)
