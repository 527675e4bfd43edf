-- The walk after one more set of positions.
use Rattle.std.proofs.Common.{◌≡◌, ℕ, zero, suc, ◌≤◌, ◌||◌, inl, inr, Bool, true, false, List, [], ◌∷◌, ◌++◌, take, slice_get, length, Some, refl, ap, sym, subst, ◌∙◌, arith}
use Rattle.transitions.specs.Transitions.{Transition}
use Rattle.number_lists.specs.declared.position.Position.{Position}
use Rattle.number_lists.specs.FoundLists.{HasList, IsDescendingList, IsSingle, IsTurnBlown, IsUnmapped, MayBeMissing, all_marks, support_of_list}
use Rattle.number_lists.specs.Lists.{IsLong}
use Rattle.number_lists.specs.Features.{features_at}
use Rattle.number_lists.specs.Walked.{IsAllWalked, IsWalkedTo}
use Rattle.number_lists.specs.declared.walking.Walked.{Walked}
use Rattle.std.specs.List.{list_any}
use Rattle.linear_rows.proofs.Members.{of-append}
use Rattle.termination_model.specs.grounds.Minimal.{IsAbove, IsSet}
use Rattle.termination_model.specs.grounds.Modes.{chosen_up_to, is_part}
use Rattle.termination_model.proofs.Lists.{map_push}
use Rattle.termination_model.proofs.Sets.{part_self, part_trans}
use Rattle.level_dual.proofs.FoundCases.{below_there}
use Rattle.level_dual.proofs.Subsequences.{kept_order, once_push, pushed_order}
use Rattle.level_dual.proofs.Visits.{give_up_set, none_left, none_right, not_above_of, pass_set, refute_set}
use Rattle.level_dual.proofs.WalkSteps.{apart_still, walk_steps}
use Rattle.number_lists.specs.Found.{AreVoid, IsListIn, IsVoid}
use Rattle.number_lists.specs.declared.measure_list.MeasureList.{MeasureList}
use Rattle.number_lists.proofs.Courses.{all_push}
use Rattle.number_lists.proofs.ListSupports.{list_sets}

module _ (members : List ℕ) (positions : List Position) (τs : List Transition) (width : ℕ → ℕ) where
  abbrev n : ℕ
  n = length positions

  abbrev order : List (List ℕ)
  order = chosen_up_to n n

  abbrev has : List ℕ → Type 0
  has = HasList members positions τs

  sets : (s : List ℕ) → has s → IsSet 1 (suc n) s
  sets s k = list_sets members positions τs s k

  -- a part of a set at which no list descends
  pub part_void : (s t : List ℕ) → is_part s t ≡ true → IsVoid members positions τs width t → IsVoid members positions τs width s
  part_void s t part void u inside k = void u (part_trans u s t inside part) k

  pub below_void : (s : List ℕ) (ts : List (List ℕ)) → AreVoid members positions τs width ts → list_any (λ t. is_part s t) ts ≡ true → IsVoid members positions τs width s
  below_void s ts void below = let there = below_there s ts below in part_void s there.0 there.2 (void there.0 there.1)

  module _ (i : ℕ) (s : List ℕ) (w : Walked) (at : slice_get order i ≡ Some s) (before : IsWalkedTo members positions τs width (take i order) w) where
    abbrev passed : Bool
    passed = list_any (λ t. is_part t s) w.found || list_any (λ t. is_part t s) w.blown

    pub passed_on : passed ≡ true → IsWalkedTo members positions τs width (take (suc i) order) w
    passed_on e = record {
      walked = pass_set n has sets i s w.found w.blown at before.walked e;
      supports = before.supports;
      lists = before.lists;
      single = before.single;
      found_order = kept_order order w.found i s at before.found_order;
      blown_order = kept_order order w.blown i s at before.blown_order;
      given_up = before.given_up;
      once = before.once;
      apart = before.apart;
    }

    pub void_on : IsVoid members positions τs width s → IsWalkedTo members positions τs width (take (suc i) order) w
    void_on e = record {
      walked = refute_set n has sets i s w.found w.blown at before.walked e;
      supports = before.supports;
      lists = before.lists;
      single = before.single;
      found_order = kept_order order w.found i s at before.found_order;
      blown_order = kept_order order w.blown i s at before.blown_order;
      given_up = before.given_up;
      once = before.once;
      apart = before.apart;
    }

    not_found : passed ≡ false → IsAbove w.found s → ⊥
    not_found fresh = not_above_of s w.found (none_left (list_any (λ t. is_part t s) w.found) (list_any (λ t. is_part t s) w.blown) fresh)

    not_blown : passed ≡ false → IsAbove w.blown s → ⊥
    not_blown fresh = not_above_of s w.blown (none_right (list_any (λ t. is_part t s) w.found) (list_any (λ t. is_part t s) w.blown) fresh)

    pub given_up_on : passed ≡ false → MayBeMissing members positions τs s → (blown : List (List ℕ)) → blown ≡ w.blown ++ s ∷ []
        → IsWalkedTo members positions τs width (take (suc i) order) (record { found = w.found; lists = w.lists; blown = blown })
    given_up_on fresh here blown e = subst (λ (b : List (List ℕ)). IsWalkedTo members positions τs width (take (suc i) order) (record { found = w.found; lists = w.lists; blown = b })) (sym e) (record {
      walked = give_up_set n has sets i s w.found w.blown at before.walked;
      supports = before.supports;
      lists = before.lists;
      single = before.single;
      found_order = kept_order order w.found i s at before.found_order;
      blown_order = pushed_order order w.blown i s at before.blown_order;
      given_up = λ t j. elim (of-append w.blown (s ∷ []) t j) [
        | inl old ↦ before.given_up t old
        | inr (inl same) ↦ subst (MayBeMissing members positions τs) same here
        | inr (inr none) ↦ absurd none
      ];
      once = once_push w.blown s before.once (λ j. not_blown fresh (s, j, part_self s));
      apart = λ t j. elim (of-append w.blown (s ∷ []) t j) [
        | inl old ↦ before.apart t old
        | inr (inl same) ↦ subst (λ (v : List ℕ). IsAbove w.found v → ⊥) same (not_found fresh)
        | inr (inr none) ↦ absurd none
      ];
    })

    pub listed_on : passed ≡ false → (l : MeasureList) → IsListIn members positions τs width s l → (IsLong l → IsUnmapped members positions τs s)
        → (found : List (List ℕ)) (lists : List MeasureList) → found ≡ w.found ++ s ∷ [] → lists ≡ w.lists ++ l ∷ []
        → IsWalkedTo members positions τs width (take (suc i) order) (record { found = found; lists = lists; blown = w.blown })
    listed_on fresh l is chosen found lists ef el =
        let u = support_of_list members positions τs width l in
        let step = (walk_steps n has sets).mapped i s u w.found w.blown at before.walked (not_found fresh) (not_blown fresh) is.part is.has in
        let single : IsSingle members positions τs width l = λ long. elim (chosen long) [
          | inl blown ↦ inl (subst (λ (t : List ℕ). IsTurnBlown (features_at members positions t τs) τs (all_marks τs)) (sym step.0) blown)
          | inr excluded ↦ inr (λ k. excluded u is.part k)
        ] in
        subst (λ (f : List (List ℕ)). IsWalkedTo members positions τs width (take (suc i) order) (record { found = f; lists = lists; blown = w.blown })) (sym ef)
        (subst (λ (ls : List MeasureList). IsWalkedTo members positions τs width (take (suc i) order) (record { found = w.found ++ s ∷ []; lists = ls; blown = w.blown })) (sym el) (record {
          walked = step.1;
          supports = map_push (support_of_list members positions τs width) w.lists l ∙ (λ j. before.supports j ++ step.0 j ∷ []);
          lists = all_push (IsDescendingList members positions τs width) w.lists l before.lists is.list;
          single = all_push (IsSingle members positions τs width) w.lists l before.single single;
          found_order = pushed_order order w.found i s at before.found_order;
          blown_order = kept_order order w.blown i s at before.blown_order;
          given_up = before.given_up;
          once = before.once;
          apart = apart_still n has sets i s u w.found w.blown at before.walked (not_found fresh) (not_blown fresh) is.part is.has before.blown_order before.apart;
        }))

  pub none_walked : IsWalkedTo members positions τs width [] (record { found = []; lists = []; blown = [] })
  none_walked = record {
    walked = record { settled = λ s k. absurd k; minimal = λ s k. absurd k };
    supports = refl;
    lists = tt;
    single = tt;
    found_order = tt;
    blown_order = tt;
    given_up = λ s k. absurd k;
    once = tt;
    apart = λ s k. absurd k;
  }

  take_all : {X : Type 0} (xs : List X) (k : ℕ) → length xs ≤ k → take k xs ≡ xs
  take_all [] zero l = refl
  take_all [] (suc k) l = refl
  take_all (y ∷ xs) zero l = absurd (omega (arith, l))
  take_all (y ∷ xs) (suc k) l = ap (λ s. y ∷ s) (take_all xs k (omega (arith, l)))

  pub all_walked : (i : ℕ) (w : Walked) → length order ≤ i → IsWalkedTo members positions τs width (take i order) w → IsAllWalked members positions τs width w
  all_walked i w l at =
      subst (λ (o : List (List ℕ)). IsWalkedTo members positions τs width o w) (take_all order i l) at
