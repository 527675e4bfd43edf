-- Points of calls with positive t that refute the mappings at some positions exclude each list of such mappings.
use Rattle.std.proofs.Common.{◌≡◌, ℕ, zero, suc, ◌<◌, ◌≤◌, ℤ, pos, ◌≤ℤ◌, List, [], ◌∷◌, map, length, inl, inr, subst, arith}
use Rattle.std.specs.List.{AllByRecursion}
use Rattle.std.proofs.lemmas.Int.{ints}
use Rattle.exact128.specs.Sums.{entry}
use Rattle.linear_rows.specs.Members.{In}
use Rattle.cti_terms.specs.Tree.{Tree}
use Rattle.termination_model.specs.mappings.Coefficients.{coefficient}
use Rattle.termination_model.specs.mappings.Excluding.{IsZeroOutside, IsOfMembers, IsRefutationAt}
use Rattle.termination_model.specs.mappings.OwnCalls.{Position}
use Rattle.termination_model.specs.claims.Claims.{Mapping}
use Rattle.termination_model.specs.mappings.View.{Rule}
use Rattle.termination_model.specs.mappings.Refutation.{Pair, Load, gather, head_load, call_load}
use Rattle.termination_model.specs.lists.Stuck.{ListDescends}
use Rattle.termination_model.proofs.Excludes.{decide_member, each_load, gather_none}
use Rattle.termination_model.proofs.Refuted.{lighter, weights}
use Rattle.termination_model.proofs.Stuck.{IsNotLower, none_falls}

module _ (expression : ℕ → Tree → List ℤ) (view : List Rule) (positions : List Position) (members : List ℕ) (ps : List Pair) (of : AllByRecursion (IsOfMembers members) ps)
    (r : IsRefutationAt expression positions members view ps) where
  abbrev heads : List Load
  heads = map (head_load expression) ps

  abbrev called : List Load
  called = map (call_load expression) ps

  offset_order : (q : ℕ) → entry (gather q heads) 0 ≤ℤ entry (gather q called) 0
  offset_order q = elim (decide_member members q) [
    | inl i ↦ r.offsets q i
    | inr n ↦
        let h = gather_none q 0 heads (each_load (head_load expression) (IsOfMembers members) (λ (h : Load). h.0 ≡ q → entry h.1 0 ≡ pos 0) ps (λ p k e. absurd (n (subst (λ (z : ℕ). In z members) e k.0))) of) in
        let c = gather_none q 0 called (each_load (call_load expression) (IsOfMembers members) (λ (h : Load). h.0 ≡ q → entry h.1 0 ≡ pos 0) ps (λ p k e. absurd (n (subst (λ (z : ℕ). In z members) e k.1))) of) in
        omega (arith, ints, h, c)
  ]

  ordered : (l : Mapping) → IsZeroOutside positions l → (q i : ℕ) → 0 < coefficient (weights l q) i → entry (gather q heads) i ≤ℤ entry (gather q called) i
  ordered l at q zero k = offset_order q
  ordered l at q (suc a) k = r.columns q a (at q a k)

  none_lower : (ls : List Mapping) → AllByRecursion (IsZeroOutside positions) ls → AllByRecursion (IsNotLower expression ps) ls
  none_lower [] at = tt
  none_lower (l ∷ ls) at = (lighter (weights l) heads called (ordered l at.0), none_lower ls at.1)

-- no list of mappings at these positions descends
pub none_within : (expression : ℕ → Tree → List ℤ) (view : List Rule) (positions : List Position) (members : List ℕ) (ps : List Pair) (ls : List Mapping)
    → AllByRecursion (IsOfMembers members) ps → IsRefutationAt expression positions members view ps → 1 ≤ length ps → AllByRecursion (λ (p : Pair). 1 ≤ p.t) ps
    → AllByRecursion (IsZeroOutside positions) ls → ListDescends expression view ls → ⊥
none_within expression view positions members ps ls of r some times at d = none_falls expression view ps ls r.pairs some times (none_lower expression view positions members ps of r ls at) d
