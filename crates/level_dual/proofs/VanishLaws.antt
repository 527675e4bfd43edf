-- Coefficients that are 0 where others are.
use Rattle.std.proofs.Common.{◌≡◌, ◌≢◌, ℕ, zero, suc, ◌+◌, ◌*◌, ◌<◌, ◌≤◌, ℤ, pos, negsuc, ◌+ℤ◌, ◌*ℤ◌, ◌≤ℤ◌, Bool, true, false, if◌then◌else◌, List, [], ◌∷◌, ◌++◌, map, take, length, slice_get, slice_set, get_or, Some, ◌⊎◌, inl, inr, refl, ap, sym, subst, ◌∙◌, arith, nat_lt}
use Rattle.std.specs.Prelude.{All, None, unsigned_abs}
use Rattle.std.proofs.lemmas.List.{length-map}
use Rattle.std.specs.List.{AllByRecursion}
use Rattle.std.proofs.lemmas.Int.{ints}
use Rattle.std.proofs.lemmas.Bool.Decides.{nat_tests}
use lib.IntN.{*ℤ_comm}
use Rattle.cti_terms.specs.Listing.{Listing}
use Rattle.cti_terms.specs.Tree.{Tree}
use Rattle.call_components.specs.Partition.{Partition}
use Rattle.call_components.proofs.Lists.{slice_get-set_same, slice_get-set_other}
use Rattle.exact128.proofs.Rings.{mul_mono, mul_nonneg, rings}
use Rattle.exact128.specs.Sums.{dot, entry}
use Rattle.linear_rows.specs.Members.{In}
use Rattle.linear_rows.specs.Plain.{plain_row, plain_rows}
use Rattle.linear_rows.specs.Rows.{HoldsOn}
use Rattle.linear_rows.specs.declared.row.Row.{Row}
use Rattle.linear_rows.specs.declared.row.Rows.{Rows}
use Rattle.linear_rows.proofs.Members.{in-left, in-map, in-right, of-append}
use Rattle.termination_model.specs.mappings.Coefficients.{coefficient}
use Rattle.termination_model.specs.claims.Claims.{Mapping}
use Rattle.termination_model.specs.mappings.ComponentViews.{HasSupportIn, component_view, positions_in}
use Rattle.termination_model.specs.grounds.Minimal.{IsExcluded}
use Rattle.termination_model.specs.grounds.Modes.{is_part}
use Rattle.termination_model.specs.mappings.OwnCalls.{Position as Place, rows_before}
use Rattle.termination_model.specs.mappings.Refutation.{Decreases}
use Rattle.termination_model.specs.sizes.Rows.{added, scaled}
use Rattle.termination_model.specs.mappings.Supports.{support_from}
use Rattle.termination_model.specs.sizes.Systems.{row_over}
use Rattle.termination_model.specs.mappings.View.{Call, Member, Rule, fall_over, system_of}
use Rattle.termination_model.proofs.Refuted.{dot_over}
use Rattle.termination_model.proofs.SystemPoints.{dot_added, dot_scaled}
use Rattle.termination_model.proofs.Lists.{mapped_place, place_below}
use Rattle.termination_model.proofs.Readiness.{from_in, own_of, some_there}
use Rattle.termination_model.proofs.Sets.{of_part, to_part}
use Rattle.level_systems.specs.Held.{AreSizes, HasPoint, IsHeld, IsReach, spelled}
use Rattle.level_systems.specs.Pairs.{clause_at}
use Rattle.level_systems.specs.Searched.{IsComponent}
use Rattle.level_dual.specs.Vanishing.{AreMarkedOrIn, AreUnlisted, IsRay, IsSilent, IsVoid, KeepsRays, Vanishes, growths}
use Rattle.level_systems.specs.declared.component.Component.{Component}
use Rattle.level_systems.specs.declared.own_call.OwnCall.{OwnCall}
use Rattle.level_systems.specs.declared.position.Position.{Position}
use Rattle.level_systems.proofs.HeldCalls.{all_in, calls_are, re, recalls, rows_are}
use Rattle.termination_model.proofs.Naturals.{never_below}

-- ---- products of natural coefficients
-- one to which no positive coefficient adds is 0
pub silent_dot : (cs : List ℕ) (es : List ℤ) → ((a : ℕ) → 0 < coefficient cs a → entry es a ≡ pos 0) → dot (map pos cs) es ≡ pos 0
unfolding dot
silent_dot [] es h = refl
silent_dot (c ∷ cs) [] h = refl
silent_dot (zero ∷ cs) (e ∷ es) h = let rest = silent_dot cs es (λ a. h (suc a)) in omega (arith, ints, rest)
silent_dot (suc c ∷ cs) (e ∷ es) h =
    let here : e ≡ pos 0 = h 0 (omega arith) in
    let rest = silent_dot cs es (λ a. h (suc a)) in
    rw here (omega (arith, ints, rest))

dot_natural : (cs : List ℕ) (es : List ℤ) → ((a : ℕ) → pos 0 ≤ℤ entry es a) → pos 0 ≤ℤ dot (map pos cs) es
unfolding dot
dot_natural [] es h = omega (arith, ints)
dot_natural (c ∷ cs) [] h = omega (arith, ints)
dot_natural (c ∷ cs) (e ∷ es) h =
    let here = mul_nonneg (pos c) e (omega (arith, ints)) (h 0) in
    let rest = dot_natural cs es (λ a. h (suc a)) in
    omega (arith, ints, here, rest)

zero_factor : (c : ℕ) (e : ℤ) → 0 < c → pos 0 ≤ℤ e → (pos c *ℤ e) ≤ℤ pos 0 → e ≡ pos 0
zero_factor zero e k n l = absurd (omega (arith, k))
zero_factor (suc c) (pos zero) k n l = refl
zero_factor (suc c) (pos (suc e)) k n l =
    let m = mul_mono (pos 1) (pos (suc e)) (suc c) (omega (arith, ints)) in
    let swap = *ℤ_comm (pos (suc e)) (pos (suc c)) in
    absurd (omega (arith, ints, m, swap, l))
zero_factor (suc c) (negsuc e) k n l = absurd (omega (arith, ints, n))

-- where one of naturals is at most 0, each at a positive coefficient is 0
pub silent_of : (cs : List ℕ) (es : List ℤ) → ((a : ℕ) → pos 0 ≤ℤ entry es a) → dot (map pos cs) es ≤ℤ pos 0 → (a : ℕ) → 0 < coefficient cs a → entry es a ≡ pos 0
unfolding dot
silent_of [] es h d a k = absurd (omega (arith, k))
silent_of (c ∷ cs) [] h d a k = refl
silent_of (c ∷ cs) (e ∷ es) h d zero k =
    let rest = dot_natural cs es (λ a. h (suc a)) in
    let here : (pos c *ℤ e) ≤ℤ pos 0 = omega (arith, ints, rest, d) in
    zero_factor c e k (h 0) here
silent_of (c ∷ cs) (e ∷ es) h d (suc a) k =
    let here = mul_nonneg (pos c) e (omega (arith, ints)) (h 0) in
    silent_of cs es (λ b. h (suc b)) (omega (arith, ints, here, d)) a k

-- ---- rows along a ray
-- a point that is moved along a direction
abbrev moved : ℕ → List ℕ → List ℕ → List ℕ
moved k [] ds = []
moved k (w ∷ ws) [] = w ∷ ws
moved k (w ∷ ws) (d ∷ ds) = (w + k * d) ∷ moved k ws ds

length_moved : (k : ℕ) (ws ds : List ℕ) → length (moved k ws ds) ≡ length ws
length_moved k [] ds = refl
length_moved k (w ∷ ws) [] = refl
length_moved k (w ∷ ws) (d ∷ ds) = ap suc (length_moved k ws ds)

pos_moved : (w k d : ℕ) → pos (w + k * d) ≡ pos w +ℤ pos k *ℤ pos d
pos_moved w k d = refl

dot_moved : (es : List ℤ) (k : ℕ) (ws ds : List ℕ) → length ws ≡ length ds → dot es (map pos (moved k ws ds)) ≡ dot es (map pos ws) +ℤ pos k *ℤ dot es (map pos ds)
unfolding dot
dot_moved [] k ws ds l = omega (arith, ints)
dot_moved (e ∷ es) k [] [] l = omega (arith, ints)
dot_moved (e ∷ es) k [] (d ∷ ds) l = absurd (omega (arith, l))
dot_moved (e ∷ es) k (w ∷ ws) [] l = absurd (omega (arith, l))
dot_moved (e ∷ es) k (w ∷ ws) (d ∷ ds) l = rw (dot_moved es k ws ds (omega (arith, l)), pos_moved w k d) (simp rings (omega (arith, ints)))

point_moved : (row : List ℤ) (t k : ℕ) (ws ds : List ℕ) → length ws ≡ length ds
    → dot row (pos t ∷ map pos (moved k ws ds)) ≡ dot row (pos t ∷ map pos ws) +ℤ pos k *ℤ dot row (pos 0 ∷ map pos ds)
unfolding dot
point_moved [] t k ws ds l = omega (arith, ints)
point_moved (b ∷ cs) t k ws ds l = rw (dot_moved cs k ws ds l) (simp rings (omega (arith, ints)))

still_holds : (row : List ℤ) (t k : ℕ) (ws ds : List ℕ) → length ws ≡ length ds → pos 0 ≤ℤ dot row (pos t ∷ map pos ws) → pos 0 ≤ℤ dot row (pos 0 ∷ map pos ds) → pos 0 ≤ℤ dot row (pos t ∷ map pos (moved k ws ds))
still_holds row t k ws ds l at along =
    let e = point_moved row t k ws ds l in
    let more = mul_nonneg (pos k) (dot row (pos 0 ∷ map pos ds)) (omega (arith, ints)) along in
    omega (arith, ints, e, more, at)

-- a row that holds wherever others do does not fall along their ray
along_row : (n : ℕ) (rows : List (List ℤ)) (row : List ℤ) (ds : List ℕ) → HasPoint n rows → length ds ≡ n → All (λ (r : List ℤ). pos 0 ≤ℤ dot r (pos 0 ∷ map pos ds)) rows → HoldsOn (suc n) rows row
    → pos 0 ≤ℤ dot row (pos 0 ∷ map pos ds)
along_row n rows row ds point long along on =
    let same : length point.w ≡ length ds = point.long ∙ sym long in
    never_below (dot row (pos point.t ∷ map pos point.w)) (dot row (pos 0 ∷ map pos ds)) (λ k.
    let e = point_moved row point.t k point.w ds same in
    let wide = length_moved k point.w ds in
    let width = point.long in
    let holds = on point.t (moved k point.w ds) point.some (omega (arith, wide, width)) (λ j r less. still_holds (get_or rows j r) point.t k point.w ds same (point.hold j r less) (along j r less)) in
    omega (arith, ints, e, holds))

zero_first : (b : ℤ) (cs vs : List ℤ) → dot (b ∷ cs) (pos 0 ∷ vs) ≡ dot cs vs
unfolding dot
zero_first b cs vs = omega (arith, ints)

unit_at_zero : (vs : List ℤ) → dot (pos 1 ∷ []) (pos 0 ∷ vs) ≡ pos 0
unfolding dot
unit_at_zero vs = omega (arith, ints)

along_fall : (expression : ℕ → Tree → List ℤ) (r : Rule) (q : ℕ) (ts : List Tree) (l : Mapping) (ds : List ℤ) → pos 0 ≤ℤ dot (fall_over expression r q ts 1 l) (pos 0 ∷ ds)
    → dot (map pos (l.coefficients q)) (map (λ e. dot e (pos 0 ∷ ds)) (map (expression r.vars) ts))
    ≤ℤ dot (map pos (l.coefficients r.member)) (map (λ e. dot e (pos 0 ∷ ds)) (map (expression r.vars) r.args))
along_fall expression r q ts l ds le =
    let head = row_over expression r.vars r.args (pos (l.offset r.member) ∷ map pos (l.coefficients r.member)) in
    let call = row_over expression r.vars ts (pos (l.offset q) ∷ map pos (l.coefficients q)) in
    let a = dot_added head (scaled (negsuc 0) (added call (pos 1 ∷ []))) (pos 0 ∷ ds) in
    let b = dot_scaled (negsuc 0) (added call (pos 1 ∷ [])) (pos 0 ∷ ds) in
    let c = dot_added call (pos 1 ∷ []) (pos 0 ∷ ds) in
    let u = unit_at_zero ds in
    let h = dot_over r.vars (map (expression r.vars) r.args) (pos (l.offset r.member)) (map pos (l.coefficients r.member)) (pos 0) ds
    ∙ zero_first (pos (l.offset r.member)) (map pos (l.coefficients r.member)) (map (λ e. dot e (pos 0 ∷ ds)) (map (expression r.vars) r.args)) in
    let g = dot_over r.vars (map (expression r.vars) ts) (pos (l.offset q)) (map pos (l.coefficients q)) (pos 0) ds
    ∙ zero_first (pos (l.offset q)) (map pos (l.coefficients q)) (map (λ e. dot e (pos 0 ∷ ds)) (map (expression r.vars) ts)) in
    omega (arith, ints, le, a, b, c, u, h, g)

natural_is : (x : ℤ) → pos 0 ≤ℤ x → x ≡ pos (unsigned_abs x)
natural_is (pos n) h = refl
natural_is (negsuc n) h = absurd (omega (arith, ints, h))

naturals_are : (d : List ℤ) → All (λ x. pos 0 ≤ℤ x) d → d ≡ map pos (map unsigned_abs d)
naturals_are [] h = refl
naturals_are (x ∷ d) h =
    let here = natural_is x (h 0 x (omega arith)) in
    let rest = naturals_are d (λ k e l. h (suc k) e (omega (arith, l))) in
    λ i. here i ∷ rest i

rays_plain : (d : List ℤ) (rows : List Row) → All (λ (r : Row). pos 0 ≤ℤ dot (plain_row r) d) rows → All (λ (r : List ℤ). pos 0 ≤ℤ dot r d) (plain_rows rows)
rays_plain d [] h k e l = absurd (omega (arith, l))
rays_plain d (r ∷ rows) h zero e l = h 0 r (omega arith)
rays_plain d (r ∷ rows) h (suc k) e l = rays_plain d rows (λ j x m. h (suc j) x (omega (arith, m))) k e (omega (arith, l))

-- ---- sizes
pub growth_at : (rows : List Row) (d : List ℤ) (a : ℕ) (r : Row) → slice_get rows a ≡ Some r → entry (map (λ e. dot e (pos 0 ∷ d)) (map plain_row rows)) a ≡ dot (plain_row r) (pos 0 ∷ d)
growth_at [] d a r e = cc
growth_at (y ∷ rows) d zero r e = let same : y ≡ r = cc in ap (λ (z : Row). dot (plain_row z) (pos 0 ∷ d)) same
growth_at (y ∷ rows) d (suc a) r e = growth_at rows d a r e

growth_past : (rows : List Row) (d : List ℤ) (a : ℕ) → length rows ≤ a → entry (map (λ e. dot e (pos 0 ∷ d)) (map plain_row rows)) a ≡ pos 0
growth_past [] d a l = refl
growth_past (y ∷ rows) d zero l = absurd (omega (arith, l))
growth_past (y ∷ rows) d (suc a) l = growth_past rows d a (omega (arith, l))

below_or : (a n : ℕ) → (a < n) ⊎ (n ≤ a)
below_or a n = grind arith

-- what is so of all arguments is so of all numbers
pub silent_everywhere : (l : Mapping) (q : ℕ) (sizes : Rows) (d : List ℤ) → IsSilent l q sizes d (length sizes.list) → (a : ℕ) → 0 < coefficient (l.coefficients q) a → entry (growths sizes d) a ≡ pos 0
silent_everywhere l q sizes d h a more = elim (below_or a (length sizes.list)) [ inl lt ↦ h a lt more | inr le ↦ growth_past sizes.list d a le ]

natural_product : (es ds : List ℤ) → ((x : ℕ) → x < length ds → pos 0 ≤ℤ entry es x) → All (λ x. pos 0 ≤ℤ x) ds → pos 0 ≤ℤ dot es ds
unfolding dot
natural_product [] ds h n = omega (arith, ints)
natural_product (e ∷ es) [] h n = omega (arith, ints)
natural_product (e ∷ es) (d ∷ ds) h n =
    let here = mul_nonneg e d (h 0 (omega arith)) (n 0 d (omega arith)) in
    let rest = natural_product es ds (λ x l. h (suc x) (omega (arith, l))) (λ k y l. n (suc k) y (omega (arith, l))) in
    omega (arith, ints, here, rest)

from_zero : (d : List ℤ) → All (λ x. pos 0 ≤ℤ x) d → All (λ x. pos 0 ≤ℤ x) (pos 0 ∷ d)
from_zero d h zero y l = omega (arith, ints)
from_zero d h (suc k) y l = h k y (omega (arith, l))

pub natural_growths : (rows : List Row) (d : List ℤ) → ((x : ℕ) → x < suc (length d) → All (λ (r : Row). (x < length (plain_row r)) × (pos 0 ≤ℤ entry (plain_row r) x)) rows) → All (λ x. pos 0 ≤ℤ x) d
    → (a : ℕ) → pos 0 ≤ℤ entry (map (λ e. dot e (pos 0 ∷ d)) (map plain_row rows)) a
natural_growths [] d h n a = omega (arith, ints)
natural_growths (r ∷ rows) d h n zero = natural_product (plain_row r) (pos 0 ∷ d) (λ x l. (h x l 0 r (omega arith)).1) (from_zero d n)
natural_growths (r ∷ rows) d h n (suc a) = natural_growths rows d (λ x l k e m. h x l (suc k) e (omega (arith, m))) n a

-- where a call keeps its rays and the head is silent, so is the call
pub call_silent : (l : Mapping) (own : OwnCall) (d : List ℤ) → KeepsRays l own → own.empty ≡ None → IsRay own.rows d → ((x : ℕ) → x < suc own.rows.width → AreSizes x own.callee_sizes)
    → IsSilent l own.caller.0 own.caller_sizes d (length own.caller_sizes.list) → IsSilent l own.callee.0 own.callee_sizes d (length own.callee_sizes.list)
call_silent l own d keeps live ray sizes silent a less more =
    let head = silent_dot (l.coefficients own.caller.0) (growths own.caller_sizes d) (silent_everywhere l own.caller.0 own.caller_sizes d silent) in
    let kept = keeps live d ray in
    let long = ray.long in
    silent_of (l.coefficients own.callee.0) (growths own.callee_sizes d) (natural_growths own.callee_sizes.list d (λ x lt. sizes x (omega (arith, lt, long))) ray.natural) (omega (arith, ints, head, kept)) a more

-- ---- marks
pub zero_unless : (n : ℕ) → (0 < n → ⊥) → n ≡ 0
zero_unless zero h = refl
zero_unless (suc n) h = absurd (h (omega arith))

pub same_or : (i j : ℕ) → (i ≡ j) ⊎ (i ≢ j)
same_or zero zero = inl refl
same_or zero (suc j) = inr (λ e. omega (arith, e))
same_or (suc i) zero = inr (λ e. omega (arith, e))
same_or (suc i) (suc j) = elim (same_or i j) [ inl e ↦ inl (ap suc e) | inr n ↦ inr (λ e. n (omega (arith, e))) ]

-- one more mark
pub marked_too : (positions : List Position) (marks : List Bool) (k : ℕ) (q a : ℕ) (l : Mapping) (x : Position) → slice_get positions k ≡ Some x → x.pred.0 ≡ q → x.argument ≡ a
    → coefficient (l.coefficients q) a ≡ 0 → Vanishes positions marks l → Vanishes positions (slice_set marks k true) l
marked_too positions marks k q a l x at pred argument none v j y there marked = elim (same_or j k) [
  | inl e ↦
      let same : y ≡ x = let other : slice_get positions j ≡ Some x = ap (slice_get positions) e ∙ at in cc in
      ap (λ (z : Position). coefficient (l.coefficients z.pred.0) z.argument) same ∙ (λ i. coefficient (l.coefficients (pred i)) (argument i)) ∙ none
  | inr n ↦ v j y there (sym (slice_get-set_other marks k j true n) ∙ marked)
]

-- one more number of a set
pub cleared : (marks : List Bool) (s : List ℕ) (x j : ℕ) → AreUnlisted marks s → suc j ≡ x → j < length marks → AreUnlisted (slice_set marks j false) (s ++ x ∷ [])
cleared marks s x j h is lt k marked i = elim (same_or k j) [
  | inl same ↦
      let here : slice_get (slice_set marks j false) k ≡ Some false = ap (slice_get (slice_set marks j false)) same ∙ slice_get-set_same marks j false lt in
      cc
  | inr n ↦
      let there : slice_get marks k ≡ Some true = sym (slice_get-set_other marks j k false n) ∙ marked in
      elim (of-append s (x ∷ []) (suc k) i) [ inl a ↦ h k there a | inr b ↦ elim b [ inl f ↦ n (omega (arith, is, f)) | inr none ↦ none ] ]
]

pub still_unlisted : (marks : List Bool) (s : List ℕ) (x : ℕ) → AreUnlisted marks s → ((k : ℕ) → slice_get marks k ≡ Some true → x ≡ suc k → ⊥) → AreUnlisted marks (s ++ x ∷ [])
still_unlisted marks s x h n k marked i =
    elim (of-append s (x ∷ []) (suc k) i) [ inl a ↦ h k marked a | inr b ↦ elim b [ inl f ↦ n k marked f | inr none ↦ none ] ]

-- one more place
less_or_same : (i k : ℕ) → i < k + 1 → (i ≡ k) ⊎ (i < k)
less_or_same i k l = grind arith

pub listed_more : (k : ℕ) (marks : List Bool) (s : List ℕ) → AreMarkedOrIn k marks s → AreMarkedOrIn (k + 1) marks (s ++ (k + 1) ∷ [])
listed_more k marks s h i lt = elim (less_or_same i k lt) [
  | inl e ↦ let is : k + 1 ≡ suc i = omega (arith, e) in inr (in-right s ((k + 1) ∷ []) (suc i) (inl is))
  | inr less ↦ elim (h i less) [ inl m ↦ inl m | inr j ↦ inr (in-left s ((k + 1) ∷ []) (suc i) j) ]
]

pub marked_more : (k : ℕ) (marks : List Bool) (s : List ℕ) → AreMarkedOrIn k marks s → slice_get marks k ≡ Some true → AreMarkedOrIn (k + 1) marks s
marked_more k marks s h there i lt = elim (less_or_same i k lt) [
  | inl e ↦ inl (ap (slice_get marks) e ∙ there)
  | inr less ↦ h i less
]

module _ (size : (ℕ → ℕ) → Tree → ℕ) (truth : (ℕ → Bool) → Tree → Bool) (expression : ℕ → Tree → List ℤ) (p : Listing) (comps : Partition) (rows : ℕ → List (List ℤ)) (c : ℕ) (x : Component)
    (h : IsComponent size truth expression p comps rows c x) (l : Mapping) where
  module _ (dec : Decreases expression (component_view expression p comps rows c) l) where
    call_keeps : (own : OwnCall) → In own x.calls.items → KeepsRays l own
    call_keeps own i live d ray =
        let view = component_view expression p comps rows c in
        let held = from_in (IsHeld expression p rows) x.calls.items h.held own i in
        let o = re expression p comps rows c own in
        let r = recalls expression p comps rows c own held in
        let mine = own_of view o (subst (In o) (sym (calls_are expression p comps rows c x.calls.items h.pairs h.held)) (in-map (re expression p comps rows c) x.calls.items own i)) in
        let fall : HoldsOn (suc o.rule.vars) (rows_before expression o) (fall_over expression o.rule o.member o.call.args 1 l) = from_in (λ (k : Rule). (n : ℕ) (b : Call) (q : ℕ) → slice_get k.body n ≡ Some b → b.place ≡ Member q
        → HoldsOn (suc k.vars) (system_of expression k.vars (take n k.body)) (fall_over expression k q b.args 1 l)) view dec o.rule (some_there view o.rule mine.there) o.place o.call o.member mine.call mine.member in
        let before : plain_rows own.rows.list ≡ rows_before expression o = rows_are expression p comps rows c own held in
        let reach : HasPoint o.rule.vars (plain_rows own.rows.list) = subst (IsReach (clause_at p own.clause).vars (plain_rows own.rows.list)) live held.reach in
        let ds = map unsigned_abs d in
        let is : d ≡ map pos ds = naturals_are d ray.natural in
        let wide = r.vars in
        let long : length ds ≡ o.rule.vars = length-map d unsigned_abs ∙ ray.long ∙ wide in
        let along : All (λ (row : List ℤ). pos 0 ≤ℤ dot row (pos 0 ∷ map pos ds)) (rows_before expression o) =
        subst (λ (rs : List (List ℤ)). All (λ (row : List ℤ). pos 0 ≤ℤ dot row (pos 0 ∷ map pos ds)) rs) before (subst (λ (e : List ℤ). All (λ (row : List ℤ). pos 0 ≤ℤ dot row (pos 0 ∷ e)) (plain_rows own.rows.list)) is (rays_plain (pos 0 ∷ d) own.rows.list ray.holds)) in
        let kept = along_row o.rule.vars (rows_before expression o) (fall_over expression o.rule o.member o.call.args 1 l) ds (subst (HasPoint o.rule.vars) before reach) long along fall in
        let falls = along_fall expression o.rule o.member o.call.args l d (subst (λ (e : List ℤ). pos 0 ≤ℤ dot (fall_over expression o.rule o.member o.call.args 1 l) (pos 0 ∷ e)) (sym is) kept) in
        let call : dot (map pos (l.coefficients own.callee.0)) (growths own.callee_sizes d) ≡ dot (map pos (l.coefficients o.member)) (map (λ e. dot e (pos 0 ∷ d)) (map (expression o.rule.vars) o.call.args)) =
        λ i. dot (map pos (l.coefficients (r.callee i))) (map (λ e. dot e (pos 0 ∷ d)) (r.callee_sizes i)) in
        let head : dot (map pos (l.coefficients own.caller.0)) (growths own.caller_sizes d) ≡ dot (map pos (l.coefficients o.rule.member)) (map (λ e. dot e (pos 0 ∷ d)) (map (expression o.rule.vars) o.rule.args)) =
        λ i. dot (map pos (l.coefficients (r.caller i))) (map (λ e. dot e (pos 0 ∷ d)) (r.caller_sizes i)) in
        omega (arith, ints, falls, call, head)

    pub all_keep : AllByRecursion (KeepsRays l) x.calls.items
    all_keep = all_in (KeepsRays l) x.calls.items call_keeps

-- ---- supports
in_here : (b : Bool) (i : ℕ) (xs : List ℕ) → b ≡ true → In i (if b then i ∷ xs else xs)
in_here true i xs e = inl refl
in_here false i xs e = cc

in_later : (b : Bool) (i j : ℕ) (xs : List ℕ) → In j xs → In j (if b then i ∷ xs else xs)
in_later true i j xs h = inr h
in_later false i j xs h = h

is_less : (n : ℕ) → 0 < n → nat_lt 0 n ≡ true
is_less n h = grind (arith, nat_tests)

less_of : (n : ℕ) → nat_lt 0 n ≡ true → 0 < n
less_of n h = grind (arith, nat_tests)

support_has : (ps : List Place) (l : Mapping) (i k : ℕ) (y : Place) → slice_get ps k ≡ Some y → 0 < coefficient (l.coefficients y.0) y.1 → In (i + k) (support_from i ps l)
support_has [] l i k y e n = cc
support_has (z ∷ ps) l i zero y e n =
    let same : z ≡ y = cc in
    let yes : nat_lt 0 (coefficient (l.coefficients z.0) z.1) ≡ true = subst (λ (v : Place). nat_lt 0 (coefficient (l.coefficients v.0) v.1) ≡ true) (sym same) (is_less _ n) in
    let here : i + 0 ≡ i = omega arith in
    rw here (in_here (nat_lt 0 (coefficient (l.coefficients z.0) z.1)) i (support_from (suc i) ps l) yes)
support_has (z ∷ ps) l i (suc k) y e n =
    let more : i + suc k ≡ suc i + k = omega arith in
    rw more (in_later (nat_lt 0 (coefficient (l.coefficients z.0) z.1)) i (suc i + k) (support_from (suc i) ps l) (support_has ps l (suc i) k y e n))

-- a number of a support, with its position
pub record IsSupporting (ps : List Place) (l : Mapping) (i x : ℕ) : Type 0 where
  pub k : ℕ
  pub y : Place
  pub there : slice_get ps k ≡ Some y
  pub is : x ≡ i + k
  pub positive : 0 < coefficient (l.coefficients y.0) y.1

support_in : (ps : List Place) (l : Mapping) (i x : ℕ) → In x (support_from i ps l) → IsSupporting ps l i x
support_in [] l i x h = absurd h
support_in (z ∷ ps) l i x h = go (nat_lt 0 (coefficient (l.coefficients z.0) z.1)) refl h (support_in ps l (suc i) x)
  where
    later : IsSupporting ps l (suc i) x → IsSupporting (z ∷ ps) l i x
    later s = let e = s.is in record { k = suc s.k; y = s.y; there = s.there; is = omega (arith, e); positive = s.positive }

    go : (b : Bool) → nat_lt 0 (coefficient (l.coefficients z.0) z.1) ≡ b → In x (if b then i ∷ support_from (suc i) ps l else support_from (suc i) ps l)
        → (In x (support_from (suc i) ps l) → IsSupporting ps l (suc i) x) → IsSupporting (z ∷ ps) l i x
    go true e (inl s) rec = record { k = 0; y = z; there = refl; is = omega (arith, s); positive = less_of _ e }
    go true e (inr j) rec = later (rec j)
    go false e j rec = later (rec j)

-- a position of a list that is spelled
pub record IsSpelledAt (positions : List Position) (k : ℕ) (y : Place) : Type 0 where
  pub x : Position
  pub there : slice_get positions k ≡ Some x
  pub is : spelled x ≡ y

spelled_at : (positions : List Position) (k : ℕ) (y : Place) → slice_get (map spelled positions) k ≡ Some y → IsSpelledAt positions k y
spelled_at [] k y e = cc
spelled_at (x ∷ positions) zero y e = record { x = x; there = refl; is = cc }
spelled_at (x ∷ positions) (suc k) y e = let r = spelled_at positions k y e in record { x = r.x; there = r.there; is = r.is }

-- what is had within a set vanishes at all other places
pub vanishes_there : (positions : List Position) (places : List Place) (l : Mapping) (marks : List Bool) (u set : List ℕ) → map spelled positions ≡ places → support_from 1 places l ≡ u
    → is_part u set ≡ true → AreUnlisted marks set → Vanishes positions marks l
vanishes_there positions places l marks u set same support part unlisted k x at marked =
    zero_unless (coefficient (l.coefficients x.pred.0) x.argument) (λ more.
    let there : slice_get places k ≡ Some (spelled x) = ap (λ (ps : List Place). slice_get ps k) (sym same) ∙ mapped_place spelled positions k x at in
    let one : 1 + k ≡ suc k = omega arith in
    let inside : In (suc k) u = subst (λ (n : ℕ). In n u) one (subst (In (1 + k)) support (support_has places l 1 k (spelled x) there more)) in
    unlisted k marked (to_part u set part (suc k) inside))

module _ (expression : ℕ → Tree → List ℤ) (p : Listing) (comps : Partition) (rows : ℕ → List (List ℤ)) (c : ℕ) (positions : List Position) (same : map spelled positions ≡ positions_in p comps c) where
  -- where the set of the places without marks is excluded, so is each mapping that vanishes at the marks
  pub void_of : (marks : List Bool) (numbers : List ℕ) → AreMarkedOrIn (length positions) marks numbers → IsExcluded (HasSupportIn expression p comps rows c) numbers → IsVoid expression p comps rows c positions marks
  void_of marks numbers cover excluded l at d v =
      let places = positions_in p comps c in
      excluded (support_from 1 places l)
      (of_part (support_from 1 places l) numbers (λ n i.
      let s = support_in places l 1 n i in
      let z = spelled_at positions s.k s.y (ap (λ (ps : List Place). slice_get ps s.k) same ∙ s.there) in
      let positive : 0 < coefficient (l.coefficients z.x.pred.0) z.x.argument = subst (λ (y : Place). 0 < coefficient (l.coefficients y.0) y.1) (sym z.is) s.positive in
      elim (cover s.k (place_below positions s.k z.x z.there)) [
        | inl marked ↦ let none = v s.k z.x z.there marked in absurd (omega (arith, none, positive))
        | inr j ↦ let e : suc s.k ≡ n = let is = s.is in omega (arith, is) in subst (λ (m : ℕ). In m numbers) e j
      ]))
      (record { mapping = l; at = at; decreases = d; is = refl })
