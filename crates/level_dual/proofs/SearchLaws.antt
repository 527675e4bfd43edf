-- What the search at a set of positions finds.
use Rattle.std.proofs.Common.{◌≡◌, ℕ, zero, suc, ◌+◌, ◌<◌, ◌≤◌, ℤ, pos, negsuc, Bool, true, List, [], ◌∷◌, ◌++◌, map, filter, take, drop, length, slice_get, slice_index, slice_index_or, Option, None, Some, inl, inr, refl, ap, sym, subst, ◌∙◌, arith}
use Rattle.std.specs.List.{AllByRecursion, list_any}
use Rattle.std.specs.List.Sorted.{IsStrictlyIncreasing}
use Rattle.std.proofs.lemmas.List.{length-map}
use Rattle.cti_terms.specs.Listing.{Listing}
use Rattle.cti_terms.specs.Tree.{Tree}
use Rattle.call_components.specs.Numbers.{number_of}
use Rattle.call_components.specs.Partition.{IsIn, Partition}
use Rattle.linear_rows.specs.Members.{In}
use Rattle.linear_rows.specs.Plain.{plain_row}
use Rattle.linear_rows.specs.Rows.{AllHold}
use Rattle.linear_rows.specs.declared.multipliers.Multipliers.{Multipliers}
use Rattle.termination_model.specs.mappings.BlownSupports.{same_position}
use Rattle.termination_model.specs.claims.Claims.{Mapping as PlainMapping, SomeOf}
use Rattle.termination_model.specs.mappings.ComponentViews.{HasSupportIn, component_view, members_in, positions_in}
use Rattle.termination_model.specs.mappings.Excluding.{IsZeroOutside}
use Rattle.termination_model.specs.grounds.Modes.{is_part}
use Rattle.termination_model.specs.mappings.OwnCalls.{OwnCall as Recalled, Position, own_calls, rows_before}
use Rattle.termination_model.specs.mappings.Ready.{Apart, arity_in, positions_by}
use Rattle.termination_model.specs.mappings.Refutation.{Decreases}
use Rattle.termination_model.specs.mappings.SupportSystem.{mapping_at, row_count, support_rows}
use Rattle.termination_model.specs.mappings.Supports.{AreDistinct, MappingsFromSystems, picked_from, support_from}
use Rattle.termination_model.proofs.Having.{decreases, picked_in, systems_give_mappings}
use Rattle.termination_model.specs.mappings.Coefficients.{coefficient}
use Rattle.termination_model.specs.sizes.Rows.{added, scaled}
use Rattle.termination_model.specs.sizes.Systems.{row_over}
use Rattle.termination_model.specs.mappings.View.{Call, Member, Rule, fall_over, system_of}
use Rattle.linear_rows.specs.Rows.{HoldsOn}
use Rattle.linear_rows.proofs.Members.{of-map}
use Rattle.termination_model.proofs.Lists.{indexed}
use Rattle.termination_model.proofs.Points.{points_fall}
use Rattle.termination_model.proofs.Readiness.{own_of, positions_are_distinct}
use Rattle.level_systems.specs.Held.{IsHeld, live_of, with_live}
use Rattle.level_systems.specs.Mappings.{IsMappingOf, mapping_with, support_of}
use Rattle.level_systems.specs.Recalled.{count_of, with_count}
use Rattle.level_systems.specs.Searched.{IsComponent, IsFoundIn}
use Rattle.level_systems.specs.Valued.{IsPartOf}
use Rattle.level_systems.specs.declared.component.Component.{Component}
use Rattle.level_systems.specs.declared.mapping.Mapping.{Mapping}
use Rattle.level_systems.specs.declared.measure.Measure.{Measure}
use Rattle.level_systems.specs.declared.own_call.OwnCall.{OwnCall}
use Rattle.level_systems.proofs.HeldCalls.{are_lives, calls_are, lives_few, re, rows_are}
use Rattle.level_dual.proofs.SupportLaws.{mapping_same, of_ordered, offset_same, part_or_none, pred_of, support_same}
use Rattle.level_systems.proofs.SoundLaws.{inside_member}

some_all : {X : Type 0} (P : X → Type 0) (xs : List X) → AllByRecursion P xs → (x : X) → SomeOf (λ y. y ≡ x) xs → P x
some_all P [] all x s = absurd s
some_all P (y ∷ xs) all x (inl e) = subst P e all.0
some_all P (y ∷ xs) all x (inr s) = some_all P xs all.1 x s

at_in : {X : Type 0} (P : X → Type 0) (xs : List X) → AllByRecursion P xs → (x : X) → In x xs → P x
at_in P [] all x i = absurd i
at_in P (y ∷ xs) all x (inl e) = subst P e all.0
at_in P (y ∷ xs) all x (inr i) = at_in P xs all.1 x i

-- falls depend on the levels of the head and of the call
falls_over : (expression : ℕ → Tree → List ℤ) (r : Rule) (q : ℕ) (ts : List Tree) (k l : PlainMapping) → k.coefficients r.member ≡ l.coefficients r.member → k.offset r.member ≡ l.offset r.member
    → k.coefficients q ≡ l.coefficients q → k.offset q ≡ l.offset q → fall_over expression r q ts 1 k ≡ fall_over expression r q ts 1 l
falls_over expression r q ts k l a b d e =
    λ j. added (row_over expression r.vars r.args (pos (b j) ∷ map pos (a j))) (scaled (negsuc 0) (added (row_over expression r.vars ts (pos (e j) ∷ map pos (d j))) (pos 1 ∷ [])))

-- ---- lists of values
pub split_values : {X : Type 0} (n : ℕ) (xs : List X) → take n xs ++ drop n xs ≡ xs
split_values zero xs = refl
split_values (suc n) [] = refl
split_values (suc n) (x ∷ xs) = ap (λ s. x ∷ s) (split_values n xs)

pub length_take : {X : Type 0} (n : ℕ) (xs : List X) → n ≤ length xs → length (take n xs) ≡ n
length_take zero xs l = refl
length_take (suc n) [] l = absurd (omega arith)
length_take (suc n) (x ∷ xs) l = ap suc (length_take n xs (omega arith))

pub length_drop : {X : Type 0} (n : ℕ) (xs : List X) (k : ℕ) → length xs ≡ n + k → length (drop n xs) ≡ k
length_drop zero xs k l = omega (arith, l)
length_drop (suc n) [] k l = absurd (omega arith)
length_drop (suc n) (x ∷ xs) k l = length_drop n xs k (omega (arith, l))

pub length_drop_at : (n k : ℕ) (xs : List ℤ) → n + k ≤ length xs → k ≤ length (drop n xs)
length_drop_at zero k xs l = omega (arith, l)
length_drop_at (suc n) k [] l = absurd (omega (arith, l))
length_drop_at (suc n) k (x ∷ xs) l = length_drop_at n k xs (omega (arith, l))

pub take_mapped : {X Y : Type 0} (f : X → Y) (n : ℕ) (xs : List X) → take n (map f xs) ≡ map f (take n xs)
take_mapped f zero xs = refl
take_mapped f (suc n) [] = refl
take_mapped f (suc n) (x ∷ xs) = ap (λ s. f x ∷ s) (take_mapped f n xs)

pub drop_mapped : {X Y : Type 0} (f : X → Y) (n : ℕ) (xs : List X) → drop n (map f xs) ≡ map f (drop n xs)
drop_mapped f zero xs = refl
drop_mapped f (suc n) [] = refl
drop_mapped f (suc n) (x ∷ xs) = drop_mapped f n xs

missing : {X : Type 0} (xss : List (List X)) (k : ℕ) → slice_get xss k ≡ None → slice_index_or xss k [] ≡ []
missing [] k e = refl
missing (xs ∷ xss) zero e = cc
missing (xs ∷ xss) (suc k) e = missing xss k e

-- ---- increasing lists are apart
tail_increases : (x : ℕ) (xs : List ℕ) → IsStrictlyIncreasing (x ∷ xs) → IsStrictlyIncreasing xs
tail_increases x xs h k l =
    let more : suc k + 1 ≡ suc (k + 1) = omega arith in
    let one : slice_index (x ∷ xs) (suc k) < slice_index (x ∷ xs) (suc k + 1) = h (suc k) (omega (arith, l)) in
    subst (λ (n : ℕ). slice_index xs k < slice_index (x ∷ xs) n) more one

above_first : (x : ℕ) (xs : List ℕ) → IsStrictlyIncreasing (x ∷ xs) → (y : ℕ) → In y xs → x < y
above_first x [] h y i = absurd i
above_first x (z ∷ xs) h y (inl e) = let first : x < z = h 0 (omega arith) in omega (arith, first, e)
above_first x (z ∷ xs) h y (inr i) =
    let first : x < z = h 0 (omega arith) in
    let rest = above_first z xs (tail_increases x (z ∷ xs) h) y i in
    omega (arith, first, rest)

pub increasing_apart : (xs : List ℕ) → IsStrictlyIncreasing xs → Apart xs
increasing_apart [] h = tt
increasing_apart (x ∷ xs) h = ((λ i. let less = above_first x xs h x i in absurd (omega (arith, less))), increasing_apart xs (tail_increases x xs h))

-- ---- the multipliers are as many as the rows before calls that can be reached
count_case : (expression : ℕ → Tree → List ℤ) (p : Listing) (comps : Partition) (rows : ℕ → List (List ℤ)) (c : ℕ) (ps : List Position) (qs : List ℕ)
    (m : Option Multipliers) (own : OwnCall) (rest : List OwnCall) (n : ℕ) → length own.rows.list ≡ length (rows_before expression (re expression p comps rows c own))
    → row_count expression ps qs (map (re expression p comps rows c) rest) ≡ n → row_count expression ps qs (map (re expression p comps rows c) (with_live m own rest)) ≡ with_count m (length own.rows.list) n
count_case expression p comps rows c ps qs None own rest n e r = λ i. sym e i + r i
count_case expression p comps rows c ps qs (Some by) own rest n e r = r

pub counts : (expression : ℕ → Tree → List ℤ) (p : Listing) (comps : Partition) (rows : ℕ → List (List ℤ)) (c : ℕ) (ps : List Position) (qs : List ℕ) (owns : List OwnCall)
    → AllByRecursion (IsHeld expression p rows) owns → row_count expression ps qs (map (re expression p comps rows c) (live_of owns)) ≡ count_of owns
counts expression p comps rows c ps qs [] held = refl
counts expression p comps rows c ps qs (own ∷ owns) held =
    count_case expression p comps rows c ps qs own.empty own (live_of owns) (count_of owns)
    (sym (length-map own.rows.list plain_row) ∙ ap length (rows_are expression p comps rows c own held.0)) (counts expression p comps rows c ps qs owns held.1)

module _ (size : (ℕ → ℕ) → Tree → ℕ) (truth : (ℕ → Bool) → Tree → Bool) (expression : ℕ → Tree → List ℤ) (p : Listing) (comps : Partition) (rows : ℕ → List (List ℤ)) (c : ℕ) (x : Component)
    (h : IsComponent size truth expression p comps rows c x) where
  abbrev pub lives : List Recalled
  lives = map (re expression p comps rows c) (live_of x.calls.items)

  abbrev pub mine : List ℕ
  mine = map number_of x.by_clauses.items

  members_apart : Apart (members_in comps c)
  members_apart = go (slice_get comps.members c) refl
    where
      go : (o : Option (List ℕ)) → slice_get comps.members c ≡ o → Apart (members_in comps c)
      go None e = subst Apart (sym (missing comps.members c e)) tt
      go (Some ms) e = subst Apart (sym (indexed comps.members c ms [] e)) (increasing_apart ms (h.components.ascending c ms e).0)

  pub distinct : AreDistinct (positions_in p comps c)
  distinct = positions_are_distinct (arity_in p) (members_in comps c) members_apart

  pub laws : MappingsFromSystems expression (component_view expression p comps rows c) (positions_in p comps c) mine (arity_in p) lives
  laws =
      systems_give_mappings expression (component_view expression p comps rows c) (positions_in p comps c) mine (arity_in p) lives (λ n t. h.norm.width n t) distinct
      (are_lives expression p comps rows c x.calls.items h.pairs h.held)

  pub members_there : (o : Recalled) → In o (own_calls (component_view expression p comps rows c)) → In o.rule.member (members_in comps c) × In o.member (members_in comps c)
  members_there o i =
      let w = of-map (re expression p comps rows c) x.calls.items o (subst (In o) (calls_are expression p comps rows c x.calls.items h.pairs h.held) i) in
      let own : OwnCall = w.0 in
      let held = at_in (IsHeld expression p rows) x.calls.items h.held own w.1 in
      let caller = at_in (λ (y : OwnCall). IsIn comps c y.caller.0) x.calls.items h.callers own w.1 in
      let callee = at_in (λ (y : OwnCall). IsIn comps c y.callee.0) x.calls.items h.inside own w.1 in
      let a : own.caller.0 ≡ (re expression p comps rows c own).rule.member = held.caller in
      let d : own.callee.0 ≡ (re expression p comps rows c own).member = held.callee in (
        subst (λ (q : ℕ). In q (members_in comps c)) (a ∙ ap (λ (y : Recalled). y.rule.member) w.2) (inside_member expression p h.program comps h.components rows c own.caller.0 caller),
        subst (λ (q : ℕ). In q (members_in comps c)) (d ∙ ap (λ (y : Recalled). y.member) w.2) (inside_member expression p h.program comps h.components rows c own.callee.0 callee),
      )

  -- a mapping decreases with one that is the same for all members
  falls_same : (k l : PlainMapping) → ((q : ℕ) → In q (members_in comps c) → (k.coefficients q ≡ l.coefficients q) × (k.offset q ≡ l.offset q))
      → Decreases expression (component_view expression p comps rows c) l → Decreases expression (component_view expression p comps rows c) k
  falls_same k l same d = decreases expression k (component_view expression p comps rows c) (λ o i.
      let own = own_of (component_view expression p comps rows c) o i in
      let fall = some_all (λ (r : Rule). (j : ℕ) (b : Call) (q : ℕ) → slice_get r.body j ≡ Some b → b.place ≡ Member q
      → HoldsOn (suc r.vars) (system_of expression r.vars (take j r.body)) (fall_over expression r q b.args 1 l)) (component_view expression p comps rows c) d o.rule own.there o.place o.call o.member own.call own.member in
      let there = members_there o i in
      let head = same o.rule.member there.0 in
      let call = same o.member there.1 in
      subst (HoldsOn (suc o.rule.vars) (rows_before expression o)) (sym (falls_over expression o.rule o.member o.call.args k l head.0 head.1 call.0 call.1)) fall)

  -- a point of the system of a set of positions gives a mapping
  module _ (s : List ℕ) (at : List Position) (is : at ≡ filter (λ r. list_any (same_position r) (picked_from 1 (positions_in p comps c) s)) (positions_by (arity_in p) mine)) where
    pub point_decreases : (scale : ℕ) (cs os ms : List ℕ) → 1 ≤ scale → length cs ≡ length at → length os ≡ length mine → length ms ≡ count_of x.calls.items
        → AllHold (support_rows expression at mine lives) scale (cs ++ (os ++ ms)) → Decreases expression (component_view expression p comps rows c) (mapping_at (arity_in p) at mine cs os)
    point_decreases scale cs os ms some lc lo lm hold =
        laws.falls (mapping_at (arity_in p) at mine cs os) ms
        (points_fall expression at mine (arity_in p) lives scale cs os ms (λ n t. h.norm.width n t) (lives_few expression p comps rows c x.calls.items h.pairs h.held h.program) some lc lo
        (lm ∙ sym (counts expression p comps rows c at mine x.calls.items h.held)) hold)

    pub at_picked : (cs os : List ℕ) → IsZeroOutside (picked_from 1 (positions_in p comps c) s) (mapping_at (arity_in p) at mine cs os)
    at_picked cs os q a k =
        of_ordered (positions_by (arity_in p) mine) (picked_from 1 (positions_in p comps c) s) (q, a) (subst (In {X = Position} (q, a)) is (laws.at at cs os q a k))

    pub point_found : (scale : ℕ) (cs os ms : List ℕ) → 1 ≤ scale → length cs ≡ length at → length os ≡ length mine → length ms ≡ count_of x.calls.items
        → AllHold (support_rows expression at mine lives) scale (cs ++ (os ++ ms))
        → (m : Mapping) → IsMappingOf expression p rows comps c m → AllByRecursion (λ (y : Measure). IsPartOf (mapping_at (arity_in p) at mine cs os) y.pred.0 y.part) m.measures
        → IsFoundIn expression p comps rows c s m
    point_found scale cs os ms some lc lo lm hold m mapping parts =
        let l = mapping_at (arity_in p) at mine cs os in
        let (part, has) = laws.found s l (at_picked cs os) (point_decreases scale cs os ms some lc lo lm hold) in
        let measures = mapping.measures in
        let same : support_of (positions_in p comps c) m ≡ support_from 1 (positions_in p comps c) l =
        support_same (positions_in p comps c) 1 (mapping_with m.measures) l
        (λ y i. mapping_same l m.measures y.0 parts (subst (In y.0) (sym measures.each) (pred_of (arity_in p) (members_in comps c) y i).0)) in
        let member : (q : ℕ) → In q (members_in comps c) → In q (map (λ (y : Measure). y.pred.0) m.measures) = λ q i. subst (In q) (sym measures.each) i in
        record {
          mapping = record {
            mapping = mapping;
            at = λ q a lt. elim (part_or_none m.measures q) [
              | inl i ↦
                  let lt' : 0 < coefficient (l.coefficients q) a = subst (λ (zs : List ℕ). 0 < coefficient zs a) (mapping_same l m.measures q parts i) lt in
                  picked_in (positions_in p comps c) 1 s (q, a) (at_picked cs os q a lt')
              | inr none ↦ let lt' : 0 < coefficient [] a = subst (λ (zs : List ℕ). 0 < coefficient zs a) none lt in absurd (omega (arith, lt'))
            ];
            falling = falls_same (mapping_with m.measures) l (λ q i. (mapping_same l m.measures q parts (member q i), offset_same l m.measures q parts (member q i)))
                (point_decreases scale cs os ms some lc lo lm hold);
          };
          part = subst (λ (z : List ℕ). is_part z s ≡ true) (sym same) part;
          has = subst (HasSupportIn expression p comps rows c) (sym same) has;
        }
