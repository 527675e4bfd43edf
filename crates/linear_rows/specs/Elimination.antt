-- A procedure, to believe for who is blown.
-- Combinations of rows in which a variable vanishes.
--
-- A row that rises in a column bounds its variable from below, one that falls there from above. Each pair of the two
-- gives a row without the variable: their sum, each times the other's coefficient without what the two share.
--
-- Source: Fourier-Motzkin elimination, as in Schrijver 1986.
use Rattle.std.specs.Prelude.{ℕ, zero, suc, ℤ, pos, negsuc, List, [], ◌∷◌, ◌++◌, ◌/◌, Bool, true, false, map, filter, unsigned_abs, int_lt}
use Rattle.std.specs.List.{flat_map}
use Rattle.exact128.specs.Gcd.{gcd}
use Rattle.exact128.specs.Sums.{entry}
pub use Rattle.linear_rows.specs.RowSums.{scaled, added}

-- the sum of two rows in which column k vanishes, where r rises and s falls there
unfoldable pub crossed : ℕ → List ℤ → List ℤ → List ℤ
crossed k r s =
    let g = gcd (unsigned_abs (entry r k)) (unsigned_abs (entry s k)) in
    added (scaled (pos (unsigned_abs (entry s k) / g)) r) (scaled (pos (unsigned_abs (entry r k) / g)) s)

-- tests of a number's sign
abbrev pub is_positive : ℤ → Bool
is_positive z = int_lt (pos 0) z

abbrev pub is_negative : ℤ → Bool
is_negative z = int_lt z (pos 0)

abbrev pub is_zero : ℤ → Bool
is_zero (pos zero) = true
is_zero (pos (suc n)) = false
is_zero (negsuc n) = false

-- the rows that rise in column k, that fall there, and that have 0 there
abbrev pub rising : ℕ → List (List ℤ) → List (List ℤ)
rising k rows = filter (λ r. is_positive (entry r k)) rows

abbrev pub falling : ℕ → List (List ℤ) → List (List ℤ)
falling k rows = filter (λ r. is_negative (entry r k)) rows

abbrev pub without : ℕ → List (List ℤ) → List (List ℤ)
without k rows = filter (λ r. is_zero (entry r k)) rows

-- the sum of each row that rises with each that falls, in the order of the rows
unfoldable pub crossings : ℕ → List (List ℤ) → List (List ℤ)
crossings k rows = flat_map (λ r. map (λ s. crossed k r s) (falling k rows)) (rising k rows)

-- one step with no equation, before its rows are cleaned
abbrev pub crossed_out : ℕ → List (List ℤ) → List (List ℤ)
crossed_out k rows = without k rows ++ crossings k rows
