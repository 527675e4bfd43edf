-- A refutation in the words of the model, in those of a certificate.
use Rattle.std.proofs.Common.{◌≡◌, ℕ, ◌≤◌, ℤ, pos, negsuc, ◌≤ℤ◌, Bool, List, [], ◌∷◌, map, length, refl, ap, sym, subst, ◌∙◌, arith, inl, inr}
use Rattle.std.specs.Prelude.{All, unsigned_abs}
use Rattle.std.specs.List.{AllByRecursion}
use Rattle.std.proofs.lemmas.Int.{ints}
use Rattle.std.proofs.lemmas.List.Elements.{All-head, All-tail}
use Rattle.call_components.specs.Partition.{Partition}
use Rattle.number_tests.specs.declared.pair_point.PairPoint.{PairPoint}
use Rattle.cert_structure.specs.declared.parts.Parts.{Parts}
use Rattle.linear_rows.specs.declared.point.Point.{Point}
use Rattle.cert_checker.specs.Claimed.{claims_of}
use Rattle.cert_checker.specs.Excluded.{IsNatural, pair_of}
use Rattle.number_tests.specs.Refuting.{call_of, clause_of, head_loads, call_loads, numbers_of, values_of}
use Rattle.cti_terms.specs.Listing.{Listing}
use Rattle.cti_terms.specs.Tree.{Tree}
use Rattle.exact128.specs.Sums.{dot, entry}
use Rattle.termination_model.specs.claims.Claims.{Claims, SomeOf}
use Rattle.termination_model.specs.grounds.Grounds.{Family}
use Rattle.termination_model.specs.mappings.Refutation.{Pair, Load, gather, head_load, call_load, values_at}
use Rattle.report.specs.Refuted.{IsPointOf, RefutationsAreShown}

natural_is : (x : ℤ) → pos 0 ≤ℤ x → pos (unsigned_abs x) ≡ x
natural_is (pos n) h = refl
natural_is (negsuc n) h = absurd (omega (arith, ints, h))

naturals_are : (xs : List ℤ) → All (λ x. pos 0 ≤ℤ x) xs → map pos (map unsigned_abs xs) ≡ xs
naturals_are [] h = refl
naturals_are (x ∷ xs) h =
    let here = natural_is x (All-head (λ x. pos 0 ≤ℤ x) x xs h) in
    let rest = naturals_are xs (All-tail (λ x. pos 0 ≤ℤ x) x xs h) in
    λ i. here i ∷ rest i

numbers_are : (x : Point) → IsNatural x → (pos (unsigned_abs x.t) ∷ map pos (map unsigned_abs x.w)) ≡ numbers_of x
numbers_are x is = λ i. natural_is x.t is.t i ∷ naturals_are x.w is.w i

values_same : (expression : ℕ → Tree → List ℤ) (n : ℕ) (ts : List Tree) (x : Point) → length x.w ≡ n → IsNatural x
    → values_at expression n (map unsigned_abs x.w) (unsigned_abs x.t) ts ≡ values_of (map (expression (length x.w)) ts) x
values_same expression n ts x same is =
    (λ i. natural_is x.t is.t i ∷ map (λ e. dot e (numbers_are x is i)) (map (expression n) ts)) ∙ ap (λ (k : ℕ). values_of (map (expression k) ts) x) (sym same)

module _ (size : (ℕ → ℕ) → Tree → ℕ) (truth : (ℕ → Bool) → Tree → Bool) (expression : ℕ → Tree → List ℤ) (p : Listing) (comps : Partition) (parts : Parts) (grounds : Family) (pre : ℕ → Family) (r : ℕ) where
  abbrev c : Claims
  c = claims_of size truth expression comps parts grounds pre

  heads : (xs : List PairPoint) → AllByRecursion (IsPointOf p) xs → map (head_load expression) (map (pair_of p c r) xs) ≡ head_loads expression p xs
  heads [] h = refl
  heads (x ∷ xs) h =
      let vs = values_same expression (clause_of p x).vars (clause_of p x).head.args x.point h.0.width h.0.natural in
      let rest = heads xs h.1 in
      λ i. ((clause_of p x).head.pred.0, vs i) ∷ rest i

  calls : (xs : List PairPoint) → AllByRecursion (IsPointOf p) xs → map (call_load expression) (map (pair_of p c r) xs) ≡ call_loads expression p xs
  calls [] h = refl
  calls (x ∷ xs) h =
      let vs = values_same expression (clause_of p x).vars (call_of p x).args x.point h.0.width h.0.natural in
      let rest = calls xs h.1 in
      λ i. ((call_of p x).pred.0, vs i) ∷ rest i

  positive : (xs : List PairPoint) → AllByRecursion (IsPointOf p) xs → SomeOf (λ (y : Pair). 1 ≤ y.t) (map (pair_of p c r) xs) → SomeOf (λ (x : PairPoint). pos 1 ≤ℤ x.point.t) xs
  positive [] h s = s
  positive (x ∷ xs) h (inl s) = inl (at_least x.point.t h.0.natural.t s)
    where
      at_least : (t : ℤ) → pos 0 ≤ℤ t → 1 ≤ unsigned_abs t → pos 1 ≤ℤ t
      at_least (pos n) l m = omega (arith, ints)
      at_least (negsuc n) l m = absurd (omega (arith, ints, l))
  positive (x ∷ xs) h (inr s) = inr (positive xs h.1 s)

pub refutations_are_shown : RefutationsAreShown
refutations_are_shown size truth expression p comps parts grounds pre r members xs points is fit = record {
  positive = positive size truth expression p comps parts grounds pre r xs points is.positive;
  fit = fit;
  columns = λ q _ i.
      subst (λ (hs : List Load). entry (gather q hs) i ≤ℤ entry (gather q (call_loads expression p xs)) i) (heads size truth expression p comps parts grounds pre r xs points)
      (subst (λ (hs : List Load). entry (gather q (map (head_load expression) (map (pair_of p (claims_of size truth expression comps parts grounds pre) r) xs))) i ≤ℤ entry (gather q hs) i)
      (calls size truth expression p comps parts grounds pre r xs points) (is.columns q i));
}
