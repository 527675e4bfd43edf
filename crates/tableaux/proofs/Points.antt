-- Points in numbers, and rows that hold there.
use Rattle.std.proofs.Common.{◌≡◌, ℕ, zero, suc, ◌≤◌, ℤ, pos, negsuc, List, [], ◌∷◌, map, length, refl, subst, ◌∙◌, arith}
use Rattle.std.specs.Prelude.{All, ◌≤ℤ◌, unsigned_abs}
use Rattle.std.proofs.lemmas.Int.{ints}
use Rattle.std.proofs.lemmas.List.{length-map}
use Rattle.exact128.specs.Sums.{dot}
use Rattle.linear_rows.specs.Plain.{plain_row, plain_rows}
use Rattle.linear_rows.specs.Rows.{IsPoint}
use Rattle.linear_rows.specs.declared.row.Row.{Row}

natural_is : (x : ℤ) → pos 0 ≤ℤ x → x ≡ pos (unsigned_abs x)
natural_is (pos n) h = refl
natural_is (negsuc n) h = absurd (omega (arith, ints, h))

naturals_are : (w : List ℤ) → All (λ x. pos 0 ≤ℤ x) w → w ≡ map pos (map unsigned_abs w)
naturals_are [] h = refl
naturals_are (x ∷ w) h =
    let here = natural_is x (h 0 x (omega arith)) in
    let rest = naturals_are w (λ k d l. h (suc k) d (omega arith)) in
    λ i. here i ∷ rest i

plain_hold : (point : List ℤ) (rows : List Row) → All (λ (r : Row). pos 0 ≤ℤ dot (plain_row r) point) rows → All (λ (r : List ℤ). pos 0 ≤ℤ dot r point) (plain_rows rows)
plain_hold point [] h k d l = absurd (omega arith)
plain_hold point (r ∷ rows) h zero d l = h 0 r (omega arith)
plain_hold point (r ∷ rows) h (suc k) d l = plain_hold point rows (λ j e m. h (suc j) e (omega arith)) k d (omega arith)

some_is : (t : ℤ) → pos 1 ≤ℤ t → 1 ≤ unsigned_abs t
some_is (pos n) h = omega (arith, ints, h)
some_is (negsuc n) h = absurd (omega (arith, ints, h))

-- naturals at which each row holds are a point of the rows
pub point_is : (n : ℕ) (rows : List Row) (t : ℤ) (w : List ℤ) → pos 1 ≤ℤ t → length w ≡ n → All (λ x. pos 0 ≤ℤ x) w → All (λ (r : Row). pos 0 ≤ℤ dot (plain_row r) (t ∷ w)) rows → IsPoint n (plain_rows rows) t w
point_is n rows t w some long natural hold =
    let t_is : t ≡ pos (unsigned_abs t) = natural_is t (omega (arith, ints, some)) in
    let w_is : w ≡ map pos (map unsigned_abs w) = naturals_are w natural in
    record {
      scale = unsigned_abs t;
      values = map unsigned_abs w;
      t_is = t_is;
      w_is = w_is;
      some = some_is t some;
      long = length-map w unsigned_abs ∙ long;
      hold = subst (λ (point : List ℤ). All (λ (r : List ℤ). pos 0 ≤ℤ dot r point) (plain_rows rows)) (λ i. t_is i ∷ w_is i) (plain_hold (t ∷ w) rows hold);
    }
