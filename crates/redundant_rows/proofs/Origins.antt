-- Rows at the origin, and multipliers of one row.
use Rattle.std.proofs.Common.{◌≡◌, ℕ, zero, suc, ◌<◌, ℤ, pos, true, List, [], ◌∷◌, ◌++◌, map, length, refl, ap, sym, subst, ◌∙◌, arith}
use Rattle.std.specs.Prelude.{All, ◌≤ℤ◌}
use Rattle.std.proofs.lemmas.Int.{ints}
use Rattle.exact128.specs.Fits.{fits}
use Rattle.exact128.specs.Sums.{dot, entry}
use Rattle.linear_rows.specs.Blown.{all_of}
use Rattle.linear_rows.specs.Plain.{plain_row, plain_rows}
use Rattle.linear_rows.specs.Rows.{AllHold}
use Rattle.linear_rows.specs.Showing.{FailsAt}
use Rattle.linear_rows.specs.Solving.{zeros}
use Rattle.linear_rows.specs.declared.point.Point.{Point}
use Rattle.linear_rows.specs.declared.row.Row.{Row}
use Rattle.termination_model.proofs.ImageLaw.{naught, length-naught}

zeros_naught : (n : ℕ) → zeros n ≡ map pos (naught n)
zeros_naught zero = refl
zeros_naught (suc n) = ap (λ l. pos 0 ∷ l) (zeros_naught n)

dot-naught : (xs : List ℤ) (n : ℕ) → dot xs (map pos (naught n)) ≡ pos 0
unfolding dot
dot-naught [] n = refl
dot-naught (x ∷ xs) zero = refl
dot-naught (x ∷ xs) (suc n) = let e = dot-naught xs n in omega (arith, ints)

value_at_origin : (b : ℤ) (cs : List ℤ) (n : ℕ) → dot (b ∷ cs) (pos 1 ∷ map pos (naught n)) ≡ b
unfolding dot
value_at_origin b cs n = let e = dot-naught cs n in omega (arith, ints)

pub fails_at_origin : (n : ℕ) (rows : List Row) (row : Row) (p : Point) → All (λ (r : Row). pos 0 ≤ℤ r.constant) rows → (pos 0 ≤ℤ row.constant → ⊥) → p.t ≡ pos 1 → p.w ≡ zeros n → FailsAt n (plain_rows rows) (plain_row row) p
fails_at_origin n rows row p hold below t w = record {
  t = 1;
  w = naught n;
  t_is = t;
  w_is = w ∙ zeros_naught n;
  some = omega arith;
  long = length-naught n;
  hold = holds rows hold;
  fails = λ h. below (subst (λ (z : ℤ). pos 0 ≤ℤ z) (value_at_origin row.constant row.coeffs n) h);
}
  where
    holds : (rows : List Row) → All (λ (r : Row). pos 0 ≤ℤ r.constant) rows → AllHold (plain_rows rows) 1 (naught n)
    holds [] h k d l = absurd (omega arith)
    holds (r ∷ rows) h zero d l = subst (λ (z : ℤ). pos 0 ≤ℤ z) (sym (value_at_origin r.constant r.coeffs n)) (h 0 r (omega arith))
    holds (r ∷ rows) h (suc k) d l = holds rows (λ j e m. h (suc j) e (omega arith)) k d (omega arith)

-- ---- multipliers
pub zeros_natural : (n : ℕ) → All (λ x. pos 0 ≤ℤ x) (zeros n)
zeros_natural zero k d l = absurd (omega arith)
zeros_natural (suc n) zero d l = omega (arith, ints)
zeros_natural (suc n) (suc k) d l = zeros_natural n k d (omega arith)

pub alone_natural : (p r : ℕ) (x : ℤ) → pos 0 ≤ℤ x → All (λ y. pos 0 ≤ℤ y) (zeros p ++ x ∷ zeros r)
alone_natural zero r x h zero d l = h
alone_natural zero r x h (suc k) d l = zeros_natural r k d (omega arith)
alone_natural (suc p) r x h zero d l = omega (arith, ints)
alone_natural (suc p) r x h (suc k) d l = alone_natural p r x h k d (omega arith)

pub fit_row : (b : ℤ) (cs : List ℤ) → fits b ≡ true → ((k : ℕ) → k < length cs → fits (entry cs k) ≡ true) → all_of fits (b ∷ cs) ≡ true
fit_row b cs first more = rw first (each cs more)
  where
    each : (cs : List ℤ) → ((k : ℕ) → k < length cs → fits (entry cs k) ≡ true) → all_of fits cs ≡ true
    each [] h = refl
    each (c ∷ cs) h = let e : fits c ≡ true = h 0 (omega arith) in rw e (each cs (λ k l. h (suc k) (omega arith)))
