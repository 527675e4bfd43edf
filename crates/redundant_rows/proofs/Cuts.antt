-- Rows cut to their first numbers, which fit.
use Rattle.std.proofs.Common.{◌≡◌, ℕ, zero, suc, ◌≤◌, ℤ, true, List, [], ◌∷◌, map, take, length, refl, ap, arith}
use Rattle.std.specs.Prelude.{All}
use Rattle.exact128.specs.Fits.{Fits, fits}
use Rattle.exact128.proofs.FitsLemmas.{to_fits}
use Rattle.linear_rows.specs.Blown.{all_of}
use Rattle.linear_rows.specs.Plain.{plain_row, plain_rows, HaveWidth}
use Rattle.linear_rows.specs.declared.row.Row.{Row}
use Rattle.sparse_rows.specs.Adding.{AllFit}
use Rattle.termination_model.specs.chains.ChainRows.{AreSpoken}

length_taken : (n : ℕ) (xs : List ℤ) → n ≤ length xs → length (take n xs) ≡ n
length_taken zero xs l = refl
length_taken (suc n) [] l = absurd (omega arith)
length_taken (suc n) (x ∷ xs) l = ap suc (length_taken n xs (omega arith))

taken_fit : (n : ℕ) (xs : List ℤ) → All Fits xs → all_of fits (take n xs) ≡ true
taken_fit zero xs f = refl
taken_fit (suc n) [] f = refl
taken_fit (suc n) (x ∷ xs) f =
    let one : fits x ≡ true = to_fits x (f 0 x (omega arith)) in
    rw one (taken_fit n xs (λ k d l. f (suc k) d (omega arith)))

pub cut_spoken : (n m : ℕ) (rows : List Row) → n ≤ m → HaveWidth m rows → AllFit (plain_rows rows) → AreSpoken (all_of fits) n (map (take (suc n)) (plain_rows rows))
cut_spoken n m [] le h f = tt
cut_spoken n m (r ∷ rows) le h f =
    let long : length r.coeffs ≡ m = h 0 r (omega arith) in (
      (length_taken (suc n) (plain_row r) (omega (arith, long)), taken_fit (suc n) (plain_row r) (f 0 (plain_row r) (omega arith))),
      cut_spoken n m rows le (λ k d l. h (suc k) d (omega arith)) (λ k d l. f (suc k) d (omega arith)),
    )
