-- What the test of a row says of the points of rows.
use Rattle.std.proofs.Common.{◌≡◌, ℕ, zero, suc, ℤ, pos, negsuc, List, length, subst, arith}
use Rattle.std.specs.Prelude.{All, ◌≤ℤ◌}
use Rattle.std.proofs.lemmas.Int.{ints}
use Rattle.linear_rows.specs.Rows.{HoldsOn}
use Rattle.linear_rows.specs.Irredundant.{Fails}
use Rattle.linear_rows.specs.Proves.{Proves}
use Rattle.linear_rows.specs.Showing.{Shows, FailsAt}
use Rattle.linear_rows.specs.declared.multipliers.Multipliers.{Multipliers}
use Rattle.linear_rows.specs.declared.point.Point.{Point}
use Rattle.linear_rows.proofs.Soundness.{law_holds, law_empty}

pub scaled_holds : (rows : List (List ℤ)) (ms target : List ℤ) (d : ℤ) → pos 0 ≤ℤ d → All (λ m. pos 0 ≤ℤ m) ms → Proves rows ms target d → HoldsOn (length target) rows target
scaled_holds rows ms target (pos zero) nd nm p = λ t w some long all. absurd (law_empty rows ms target nm p t w some long all)
scaled_holds rows ms target (pos (suc d)) nd nm p = law_holds rows ms target d nm p
scaled_holds rows ms target (negsuc d) nd nm p = absurd (omega (arith, ints))

pub yes_holds : (n : ℕ) (rows : List (List ℤ)) (row : List ℤ) (by : Multipliers) → length row ≡ suc n → Shows rows row by → HoldsOn (suc n) rows row
yes_holds n rows row by long h = subst (λ (k : ℕ). HoldsOn k rows row) long (scaled_holds rows by.list row by.scale h.multipliers.scale h.multipliers.naturals h.shown.proves)

pub no_fails : (n : ℕ) (rows : List (List ℤ)) (row : List ℤ) (p : Point) → FailsAt n rows row p → Fails n rows row
no_fails n rows row p h = record { t = h.t; w = h.w; some = h.some; long = h.long; hold = h.hold; fails = h.fails }
