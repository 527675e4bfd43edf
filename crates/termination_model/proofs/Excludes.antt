-- A refutation at some positions excludes the mappings at these.
use Rattle.std.proofs.Common.{◌≡◌, ℕ, zero, suc, ◌<◌, ◌≤◌, ◌==◌, ℤ, pos, ◌+ℤ◌, ◌≤ℤ◌, Bool, true, false, if◌then◌else◌, List, [], ◌∷◌, map, length, ◌⊎◌, inl, inr, refl, ap, subst, arith, eqb-true}
use Rattle.std.specs.List.{AllByRecursion}
use Rattle.std.proofs.lemmas.Int.{ints}
use Rattle.std.proofs.lemmas.List.{length-map}
use Rattle.cti_terms.specs.Tree.{Tree}
use Rattle.exact128.specs.Sums.{dot, entry}
use Rattle.linear_rows.specs.Members.{In}
use Rattle.termination_model.specs.mappings.Coefficients.{coefficient}
use Rattle.termination_model.specs.claims.Claims.{Mapping}
use Rattle.termination_model.specs.mappings.Refutation.{Pair, Load, gather, Decreases, head_load, call_load, values_at}
use Rattle.termination_model.specs.mappings.View.{Rule}
use Rattle.termination_model.specs.sizes.Rows.{added}
use Rattle.termination_model.specs.mappings.OwnCalls.{Position}
use Rattle.termination_model.proofs.Entries.{entry_added}
use Rattle.termination_model.specs.mappings.Excluding.{IsZeroOutside, IsRefutationAt, IsOfMembers, ExcludesAt, AllRefute}
use Rattle.termination_model.proofs.Refuted.{none_at, weights}
use Rattle.std.proofs.lemmas.Bool.Decides.{nat_tests}

either : (a b : ℕ) → (a ≡ b) ⊎ ((a == b) ≡ false)
either a b = go (a == b) refl
  where
    go : (t : Bool) → (a == b) ≡ t → (a ≡ b) ⊎ ((a == b) ≡ false)
    go true e = inl (eqb-true a b e)
    go false e = inr e

self : (a b : ℕ) → (a == b) ≡ false → a ≡ b → ⊥
self a b h e = grind (arith, nat_tests)

pub decide_member : (ms : List ℕ) (q : ℕ) → In q ms ⊎ (In q ms → ⊥)
decide_member [] q = inr (λ h. h)
decide_member (m ∷ ms) q = go (either m q) (decide_member ms q)
  where
    go : (m ≡ q) ⊎ ((m == q) ≡ false) → In q ms ⊎ (In q ms → ⊥) → In q (m ∷ ms) ⊎ (In q (m ∷ ms) → ⊥)
    go (inl e) r = inl (inl e)
    go (inr n) (inl i) = inl (inr i)
    go (inr n) (inr f) = inr (λ h. elim h [ inl e ↦ self m q n e | inr i ↦ f i ])

decide_position : (ps : List Position) (q a : ℕ) → In (q, a) ps ⊎ (In (q, a) ps → ⊥)
decide_position [] q a = inr (λ h. h)
decide_position (p ∷ ps) q a = go (either p.0 q) (either p.1 a) (decide_position ps q a)
  where
    go : (p.0 ≡ q) ⊎ ((p.0 == q) ≡ false) → (p.1 ≡ a) ⊎ ((p.1 == a) ≡ false) → In (q, a) ps ⊎ (In (q, a) ps → ⊥) → In (q, a) (p ∷ ps) ⊎ (In (q, a) (p ∷ ps) → ⊥)
    go (inl e) (inl f) r = inl (inl (λ i. (e i, f i)))
    go e f (inl i) = inl (inr i)
    go (inr n) f (inr r) = inr (λ h. elim h [ inl e ↦ self p.0 q n (ap (λ (z : Position). z.0) e) | inr i ↦ r i ])
    go (inl e) (inr n) (inr r) = inr (λ h. elim h [ inl e ↦ self p.1 a n (ap (λ (z : Position). z.1) e) | inr i ↦ r i ])

-- what no load of the member has in a column is 0 in the sum
pub gather_none : (q i : ℕ) (hs : List Load) → AllByRecursion (λ (h : Load). h.0 ≡ q → entry h.1 i ≡ pos 0) hs → entry (gather q hs) i ≡ pos 0
gather_none q i [] a = refl
gather_none q i (h ∷ hs) a = go (h.0 == q) refl (gather_none q i hs a.1)
  where
    added_entry : (xs ys : List ℤ) (k : ℕ) → entry (added xs ys) k ≡ entry xs k +ℤ entry ys k
    added_entry xs ys k = entry_added xs ys k

    go : (b : Bool) → (h.0 == q) ≡ b → entry (gather q hs) i ≡ pos 0 → entry (if b then added h.1 (gather q hs) else gather q hs) i ≡ pos 0
    go true e r = let here = a.0 (eqb-true h.0 q e) in let s = added_entry h.1 (gather q hs) i in omega (arith, ints, here, s, r)
    go false e r = r

all_loads : (f : Pair → Load) (P : Load → Type 0) (ps : List Pair) → ((p : Pair) → P (f p)) → AllByRecursion P (map f ps)
all_loads f P [] h = tt
all_loads f P (p ∷ ps) h = (h p, all_loads f P ps h)

pub each_load : (f : Pair → Load) (Q : Pair → Type 0) (P : Load → Type 0) (ps : List Pair) → ((p : Pair) → Q p → P (f p)) → AllByRecursion Q ps → AllByRecursion P (map f ps)
each_load f Q P [] h a = tt
each_load f Q P (p ∷ ps) h a = (h p a.0, each_load f Q P ps h a.1)

past_end : (xs : List ℤ) (i : ℕ) → length xs ≤ i → entry xs i ≡ pos 0
past_end [] i l = refl
past_end (x ∷ xs) zero l = absurd (omega arith)
past_end (x ∷ xs) (suc i) l = past_end xs i (omega arith)

below_or : (a n : ℕ) → (a < n) ⊎ (n ≤ a)
below_or a n = grind arith

module _ (expression : ℕ → Tree → List ℤ) (view : List Rule) (positions : List Position) (members : List ℕ) (ps : List Pair)
    (of : AllByRecursion (IsOfMembers members) ps) (r : IsRefutationAt expression positions members view ps) where
  abbrev heads : List Load
  heads = map (head_load expression) ps

  abbrev called : List Load
  called = map (call_load expression) ps

  offset_order : (q : ℕ) → entry (gather q heads) 0 ≤ℤ entry (gather q called) 0
  offset_order q = elim (decide_member members q) [
    | inl i ↦ r.offsets q i
    | inr n ↦
        let h = gather_none q 0 heads (each_load (head_load expression) (IsOfMembers members) (λ (h : Load). h.0 ≡ q → entry h.1 0 ≡ pos 0) ps (λ p k e. absurd (n (subst (λ (z : ℕ). In z members) e k.0))) of) in
        let c = gather_none q 0 called (each_load (call_load expression) (IsOfMembers members) (λ (h : Load). h.0 ≡ q → entry h.1 0 ≡ pos 0) ps (λ p k e. absurd (n (subst (λ (z : ℕ). In z members) e k.1))) of) in
        omega (arith, ints, h, c)
  ]

  ordered : (l : Mapping) → IsZeroOutside positions l → (q i : ℕ) → 0 < coefficient (weights l q) i → entry (gather q heads) i ≤ℤ entry (gather q called) i
  ordered l at q zero k = offset_order q
  ordered l at q (suc a) k = r.columns q a (at q a k)

  excludes : (l : Mapping) → IsZeroOutside positions l → Decreases expression view l → ⊥
  excludes l at d = none_at expression view ps l r.pairs r.positive (ordered l at) d

  abbrev HasAll : Pair → Type 0
  HasAll p = ((a : ℕ) → a < length p.rule.args → In (p.rule.member, a) positions) × ((a : ℕ) → a < length p.call.args → In (p.member, a) positions)

  long_values : (n t : ℕ) (w : List ℕ) (ts : List Tree) → length (values_at expression n w t ts) ≡ suc (length ts)
  long_values n t w ts = omega (arith, length-map ts (expression n), length-map (map (expression n) ts) (λ e. dot e (pos t ∷ map pos w)))

  no_head : (q a : ℕ) → (In (q, a) positions → ⊥) → (p : Pair) → HasAll p → (head_load expression p).0 ≡ q → entry (head_load expression p).1 (suc a) ≡ pos 0
  no_head q a n p h e = elim (below_or a (length p.rule.args)) [
    | inl l ↦ absurd (n (subst (λ (z : ℕ). In (z, a) positions) e (h.0 a l)))
    | inr l ↦ past_end (values_at expression p.rule.vars p.w p.t p.rule.args) (suc a) (omega (arith, long_values p.rule.vars p.t p.w p.rule.args))
  ]

  no_call : (q a : ℕ) → (In (q, a) positions → ⊥) → (p : Pair) → HasAll p → (call_load expression p).0 ≡ q → entry (call_load expression p).1 (suc a) ≡ pos 0
  no_call q a n p h e = elim (below_or a (length p.call.args)) [
    | inl l ↦ absurd (n (subst (λ (z : ℕ). In (z, a) positions) e (h.1 a l)))
    | inr l ↦ past_end (values_at expression p.rule.vars p.w p.t p.call.args) (suc a) (omega (arith, long_values p.rule.vars p.t p.w p.call.args))
  ]

  all_columns : AllByRecursion HasAll ps → (q i : ℕ) → entry (gather q heads) i ≤ℤ entry (gather q called) i
  all_columns all q zero = offset_order q
  all_columns all q (suc a) = elim (decide_position positions q a) [
    | inl i ↦ r.columns q a i
    | inr n ↦
        let h = gather_none q (suc a) heads (each_load (head_load expression) HasAll (λ (h : Load). h.0 ≡ q → entry h.1 (suc a) ≡ pos 0) ps (no_head q a n) all) in
        let c = gather_none q (suc a) called (each_load (call_load expression) HasAll (λ (h : Load). h.0 ≡ q → entry h.1 (suc a) ≡ pos 0) ps (no_call q a n) all) in
        omega (arith, ints, h, c)
  ]

pub excludes_at : ExcludesAt
excludes_at expression view positions members ps l of r at d = excludes expression view positions members ps of r l at d

pub all_refute : AllRefute
all_refute expression view positions members ps of all r = record { pairs = r.pairs; positive = r.positive; columns = all_columns expression view positions members ps of r all }
