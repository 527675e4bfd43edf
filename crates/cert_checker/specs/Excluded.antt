-- Private.
-- What a certificate's refutations show of its claims: that no mapping of the component decreases.
--
-- To believe: nothing. `IsRefutation` is the definition of `termination_model`.
use Rattle.std.specs.Prelude.{◌≡◌, ◌≤ℤ◌, ◌⊎◌, ◌-◌, ℕ, ℤ, pos, Bool, List, All, map, slice_get, unsigned_abs, Some}
use Rattle.std.specs.List.{AllByRecursion}
use Rattle.cti_terms.specs.Tree.{Tree}
use Rattle.cti_terms.specs.Listing.{Listing, IsProgram}
use Rattle.call_components.specs.Partition.{Partition, AreComponents, IsIn}
use Rattle.number_tests.specs.declared.pair_point.PairPoint.{PairPoint}
use Rattle.cert_structure.specs.declared.parts.Parts.{Parts}
use Rattle.number_tests.specs.declared.refutation.Refutation.{Refutation}
use Rattle.linear_rows.specs.declared.point.Point.{Point}
use Rattle.termination_model.specs.claims.Claims.{Claims}
use Rattle.termination_model.specs.grounds.Grounds.{Family}
use Rattle.termination_model.specs.mappings.Refutation.{Pair, IsRefutation}
use Rattle.termination_model.specs.mappings.View.{view_of, rule_of}
use Rattle.termination_model.specs.mappings.View as view
use Rattle.cert_checker.specs.Claimed.{claims_of}
use Rattle.number_tests.specs.Refuting.{call_of, clause_of}
use Rattle.cert_checker.specs.Refuting.{RefutationsHold}
use Rattle.cert_checker.specs.Shape.{HaveRefutations}

-- natural numbers t and w
pub record IsNatural (x : Point) : Type 0 where
  pub t : pos 0 ≤ℤ x.t
  pub w : All (λ z. pos 0 ≤ℤ z) x.w

-- a pair of the component r, with natural points, of which one has a positive t
pub record IsPairIn (comps : Partition) (r : ℕ) (p : Listing) (x : PairPoint) : Type 0 where
  pub head : IsIn comps r (clause_of p x).head.pred.0
  pub call : IsIn comps r (call_of p x).pred.0
  pub natural : IsNatural x.point
  pub positive : (pos 1 ≤ℤ x.point.t) ⊎ ((y : Point) × (x.at ≡ Some y) × IsNatural y × (pos 1 ≤ℤ y.t))

-- a predicate's number stands for itself
abbrev pub itself : ℕ → ℕ
itself q = q

-- a pair of the certificate as one of the view of the component r
abbrev pub pair_of : Listing → Claims → ℕ → PairPoint → Pair
pair_of p c r x = record {
  rule = rule_of c r itself (clause_of p x);
  place = x.call - 1;
  call = view.call_of c r itself (call_of p x);
  member = (call_of p x).pred.0;
  w = map unsigned_abs x.point.w;
  t = unsigned_abs x.point.t;
}

module _ (size : (ℕ → ℕ) → Tree → ℕ) (truth : (ℕ → Bool) → Tree → Bool) (expression : ℕ → Tree → List ℤ) where
  abbrev pub RefutationsExclude : Type 0
  RefutationsExclude =
      (p : Listing) (comps : Partition) (parts : Parts) (grounds : Family) (pre : ℕ → Family)
      → IsProgram p → AreComponents p comps → HaveRefutations p parts → RefutationsHold expression p comps parts
      → (q r : ℕ) (f : Refutation) → slice_get parts.refutations q ≡ Some (Some f) → IsIn comps r q → AllByRecursion (IsPairIn comps r p) f.points
      → (let c = claims_of size truth expression comps parts grounds pre in
      IsRefutation expression (view_of p c r itself) (map (pair_of p c r) f.points))
