-- The row that holds nowhere, shown with scale 0.
use Rattle.std.proofs.Common.{◌≡◌, ℕ, zero, suc, ◌≤◌, ◌<◌, ℤ, pos, negsuc, ◌≤ℤ◌, ◌+ℤ◌, ◌^◌, unsigned_abs, List, [], ◌∷◌, take, length, refl, ap, sym, subst, ◌∙◌, arith}
use Rattle.std.proofs.lemmas.Int.{ints}
use Rattle.std.proofs.lemmas.List.{length-map}
use Rattle.exact128.specs.Fits.{Fits}
use Rattle.exact128.specs.Sums.{DotFits, dot, entry}
use Rattle.linear_rows.specs.Proves.{AllColumnsFit, Proves, goal_number, rest_number}
use Rattle.linear_rows.specs.Rows.{column}
use Rattle.linear_rows.specs.Showing.{Shows, bottom_row}
use Rattle.linear_rows.specs.Solving.{zeros}
use Rattle.linear_rows.specs.declared.multipliers.Multipliers.{Multipliers}

length_zeros : (n : ℕ) → length (zeros n) ≡ n
length_zeros zero = refl
length_zeros (suc n) = ap suc (length_zeros n)

pub length_bottom : (n : ℕ) (coeffs : List ℤ) → suc (length coeffs) ≡ length (bottom_row n) → length coeffs ≡ n
length_bottom n coeffs e = omega (arith, e, length_zeros n)

entry_zeros : (n k : ℕ) → entry (zeros n) k ≡ pos 0
entry_zeros zero k = refl
entry_zeros (suc n) zero = refl
entry_zeros (suc n) (suc k) = entry_zeros n k

-- the goal with scale 0 is at least that with any other, and not above 0
goal_above : (n k d : ℕ) → goal_number (pos (suc d)) (bottom_row n) k ≤ℤ goal_number (pos 0) (bottom_row n) k
goal_above n zero d = omega (arith, ints)
goal_above n (suc k) d = let e = entry_zeros n k in rw e (omega (arith, ints))

goal_low : (n k : ℕ) → goal_number (pos 0) (bottom_row n) k ≤ℤ pos 0
goal_low n zero = omega (arith, ints)
goal_low n (suc k) = omega (arith, ints)

goal_abs : (n k : ℕ) → unsigned_abs (goal_number (pos 0) (bottom_row n) k) ≤ 1
goal_abs n zero = omega arith
goal_abs n (suc k) = omega arith

le_less : (n a b : ℕ) → n ≤ a → a < b → n < b
le_less n a b h k = omega (arith, h, k)

goal_fits : (n k : ℕ) → Fits (goal_number (pos 0) (bottom_row n) k)
goal_fits n k = le_less (unsigned_abs (goal_number (pos 0) (bottom_row n) k)) 1 (2 ^ 127) (goal_abs n k) (omega arith)

-- a natural number that is not above the opposite of one that fits
between : (z s : ℤ) → pos 0 ≤ℤ z → (z +ℤ s) ≤ℤ pos 0 → Fits s → Fits z
between (pos n) (pos m) h k f = le_less n m (2 ^ 127) (omega (arith, ints, k)) f
between (pos n) (negsuc m) h k f = le_less n (suc m) (2 ^ 127) (omega (arith, ints, k)) f
between (negsuc n) s h k f = absurd (omega (arith, ints, h))

take_whole : {X : Type 0} (xs : List X) (n : ℕ) → n ≡ length xs → take n xs ≡ xs
take_whole [] n e = ap (λ k. take k []) e
take_whole (x ∷ xs) n e = ap (λ k. take k (x ∷ xs)) e ∙ ap (λ s. x ∷ s) (take_whole xs (length xs) refl)

whole_fits : (rows : List (List ℤ)) (ms : List ℤ) (k : ℕ) → length ms ≡ length rows → DotFits (length rows) ms (column rows k) → Fits (dot ms (column rows k))
whole_fits rows ms k e f =
    let left = take_whole ms (length rows) (sym e) in
    let right = take_whole (column rows k) (length rows) (sym (length-map rows (λ row. entry row k))) in
    let here : Fits (dot (take (length rows) ms) (take (length rows) (column rows k))) = f.sums (length rows) (omega arith) in
    subst Fits (λ i. dot (left i) (right i)) here

module _ (n : ℕ) (rows : List (List ℤ)) (ms : List ℤ) (long : length ms ≡ length rows) where
  proves_zero : (d : ℤ) → pos 0 ≤ℤ d → Proves rows ms (bottom_row n) d → Proves rows ms (bottom_row n) (pos 0)
  proves_zero (pos zero) h p k l = p k l
  proves_zero (pos (suc d)) h p k l = let here = p k l in let above = goal_above n k d in omega (arith, ints, here, above)
  proves_zero (negsuc d) h p k l = absurd (omega (arith, ints, h))

  fit_zero : (d : ℤ) → pos 0 ≤ℤ d → Proves rows ms (bottom_row n) d → AllColumnsFit rows ms (bottom_row n) d → AllColumnsFit rows ms (bottom_row n) (pos 0)
  fit_zero d h p f k l =
      let column_fits = f k l in
      let zero_rest = proves_zero d h p k l in
      let low = goal_low n k in
      record {
        sums = column_fits.sums;
        goal = goal_fits n k;
        rest = between (rest_number rows ms (bottom_row n) (pos 0) k) (dot ms (column rows k)) zero_rest (omega (arith, ints, low)) (whole_fits rows ms k long column_fits.sums);
      }

pub shown_at_zero : (n : ℕ) (rows : List (List ℤ)) (by : Multipliers) (list : List ℤ) → list ≡ by.list → Shows rows (bottom_row n) by → Shows rows (bottom_row n) (record { scale = pos 0; list = list })
shown_at_zero n rows by list e h =
    let m = h.multipliers in
    let s = h.shown in
    subst (λ (xs : List ℤ). Shows rows (bottom_row n) (record { scale = pos 0; list = xs })) (sym e) (record {
      multipliers = record { each = m.each; naturals = m.naturals; scale = omega (arith, ints) };
      shown = record {
        target_fits = s.target_fits;
        proves = proves_zero n rows by.list m.each by.scale m.scale s.proves;
        numbers_fit = fit_zero n rows by.list m.each by.scale m.scale s.proves s.numbers_fit;
      };
    })
