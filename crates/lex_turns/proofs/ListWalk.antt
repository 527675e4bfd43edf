-- The walk after one more set of positions.
use Rattle.std.proofs.Common.{◌≡◌, ◌↔◌, IsTrue, ℕ, zero, suc, ◌<◌, ◌≤◌, ◌||◌, inl, inr, ℤ, Bool, true, false, List, [], ◌∷◌, ◌++◌, take, slice_get, length, Some, refl, ap, sym, subst, ◌∙◌, arith}
use Rattle.std.specs.List.{list_any}
use Rattle.std.proofs.lemmas.List.{length-map}
use Rattle.cti_terms.specs.Listing.{Listing}
use Rattle.cti_terms.specs.Tree.{Tree}
use Rattle.call_components.specs.Partition.{Partition}
use Rattle.call_components.proofs.Lists.{all_append}
use Rattle.linear_rows.specs.Step.{columns}
use Rattle.linear_rows.proofs.Members.{of-append}
use Rattle.termination_model.specs.mappings.ComponentViews.{positions_in}
use Rattle.termination_model.specs.grounds.Minimal.{IsAbove, IsSet}
use Rattle.termination_model.specs.grounds.Modes.{chosen_up_to, is_part}
use Rattle.termination_model.proofs.Lists.{map_push}
use Rattle.termination_model.proofs.Sets.{part_self, part_trans}
use Rattle.level_systems.specs.Found.{IsBlownSet, count}
use Rattle.level_systems.specs.Held.{spelled}
use Rattle.level_systems.specs.Searched.{IsComponent}
use Rattle.level_systems.specs.declared.component.Component.{Component}
use Rattle.level_systems.specs.declared.position.Position.{Position}
use Rattle.level_dual.proofs.FoundCases.{below_there}
use Rattle.level_dual.proofs.Subsequences.{kept_order, once_push, pushed_order}
use Rattle.level_dual.proofs.Visits.{give_up_set, none_left, none_right, not_above_of, pass_set, refute_set}
use Rattle.level_dual.proofs.WalkSteps.{apart_still, walk_steps}
use Rattle.lex_turns.specs.Found.{AreVoid, IsListIn, IsVoid}
use Rattle.lex_turns.specs.FoundLists.{HasList, IsDescendingList, IsLong, IsUnmapped, MayBeMissing}
use Rattle.lex_turns.specs.Walked.{IsAllWalked, IsSingle, IsWalkedTo, own_support}
use Rattle.lex_turns.specs.declared.measure_list.MeasureList.{MeasureList}
use Rattle.lex_turns.specs.declared.walked.Walked.{Walked}
use Rattle.lex_turns.proofs.ListSupports.{list_sets}

module _ (size : (ℕ → ℕ) → Tree → ℕ) (truth : (ℕ → Bool) → Tree → Bool) (expression : ℕ → Tree → List ℤ) (p : Listing) (comps : Partition) (rows : ℕ → List (List ℤ)) (c : ℕ) (x : Component)
    (h : IsComponent size truth expression p comps rows c x) where
  abbrev n : ℕ
  n = length x.positions.items

  abbrev order : List (List ℕ)
  order = chosen_up_to n n

  abbrev has : List ℕ → Type 0
  has = HasList expression p comps rows c

  pub position_count : length (positions_in p comps c) ≡ n
  position_count = ap length (sym h.positions) ∙ length-map x.positions.items spelled

  pub full_same : columns 1 n ≡ columns 1 (length (positions_in p comps c))
  full_same = ap (columns 1) (sym position_count)

  -- whether there are more positions than are looked at in all supports
  pub large_told : (b : Bool) (qs : List Position) → IsTrue b ↔ (12 < length qs) → qs ≡ x.positions.items → (told : Bool) → b ≡ told → IsTrue told ↔ (12 < count expression p comps rows c)
  large_told b qs is e told same =
      subst (λ (m : ℕ). IsTrue told ↔ (12 < m)) (ap length e ∙ sym position_count) (subst (λ (d : Bool). IsTrue d ↔ (12 < length qs)) same is)

  sets : (s : List ℕ) → has s → IsSet 1 (suc n) s
  sets s k = subst (λ (m : ℕ). IsSet 1 (suc m) s) position_count (list_sets expression p comps rows c s k)

  -- a part of a set at which no list descends
  pub part_void : (s t : List ℕ) → is_part s t ≡ true → IsVoid expression p comps rows c t → IsVoid expression p comps rows c s
  part_void s t part void u inside k = void u (part_trans u s t inside part) k

  pub below_void : (s : List ℕ) (ts : List (List ℕ)) → AreVoid expression p comps rows c ts → list_any (λ t. is_part s t) ts ≡ true → IsVoid expression p comps rows c s
  below_void s ts void below = let there = below_there s ts below in part_void s there.0 there.2 (void there.0 there.1)

  module _ (i : ℕ) (s : List ℕ) (w : Walked) (at : slice_get order i ≡ Some s) (before : IsWalkedTo expression p comps rows c (take i order) w) where
    abbrev passed : Bool
    passed = list_any (λ t. is_part t s) w.found || list_any (λ t. is_part t s) w.blown

    pub passed_on : passed ≡ true → IsWalkedTo expression p comps rows c (take (suc i) order) w
    passed_on e = record {
      walked = pass_set n has sets i s w.found w.blown at before.walked e;
      supports = before.supports;
      lists = before.lists;
      single = before.single;
      found_order = kept_order order w.found i s at before.found_order;
      blown_order = kept_order order w.blown i s at before.blown_order;
      given_up = before.given_up;
      once = before.once;
      apart = before.apart;
    }

    pub void_on : IsVoid expression p comps rows c s → IsWalkedTo expression p comps rows c (take (suc i) order) w
    void_on e = record {
      walked = refute_set n has sets i s w.found w.blown at before.walked e;
      supports = before.supports;
      lists = before.lists;
      single = before.single;
      found_order = kept_order order w.found i s at before.found_order;
      blown_order = kept_order order w.blown i s at before.blown_order;
      given_up = before.given_up;
      once = before.once;
      apart = before.apart;
    }

    not_found : passed ≡ false → IsAbove w.found s → ⊥
    not_found fresh = not_above_of s w.found (none_left (list_any (λ t. is_part t s) w.found) (list_any (λ t. is_part t s) w.blown) fresh)

    not_blown : passed ≡ false → IsAbove w.blown s → ⊥
    not_blown fresh = not_above_of s w.blown (none_right (list_any (λ t. is_part t s) w.found) (list_any (λ t. is_part t s) w.blown) fresh)

    pub given_up_on : passed ≡ false → MayBeMissing expression p comps rows c s → (blown : List (List ℕ)) → blown ≡ w.blown ++ s ∷ []
        → IsWalkedTo expression p comps rows c (take (suc i) order) (record { found = w.found; lists = w.lists; blown = blown })
    given_up_on fresh here blown e = subst (λ (b : List (List ℕ)). IsWalkedTo expression p comps rows c (take (suc i) order) (record { found = w.found; lists = w.lists; blown = b })) (sym e) (record {
      walked = give_up_set n has sets i s w.found w.blown at before.walked;
      supports = before.supports;
      lists = before.lists;
      single = before.single;
      found_order = kept_order order w.found i s at before.found_order;
      blown_order = pushed_order order w.blown i s at before.blown_order;
      given_up = λ t j. elim (of-append w.blown (s ∷ []) t j) [
        | inl old ↦ before.given_up t old
        | inr (inl same) ↦ subst (MayBeMissing expression p comps rows c) same here
        | inr (inr none) ↦ absurd none
      ];
      once = once_push w.blown s before.once (λ j. not_blown fresh (s, j, part_self s));
      apart = λ t j. elim (of-append w.blown (s ∷ []) t j) [
        | inl old ↦ before.apart t old
        | inr (inl same) ↦ subst (λ (v : List ℕ). IsAbove w.found v → ⊥) same (not_found fresh)
        | inr (inr none) ↦ absurd none
      ];
    })

    pub listed_on : passed ≡ false → (l : MeasureList) → IsListIn expression p comps rows c s l → (IsLong l → IsUnmapped expression p comps rows c s)
        → (found : List (List ℕ)) (lists : List MeasureList) → found ≡ w.found ++ s ∷ [] → lists ≡ w.lists ++ l ∷ []
        → IsWalkedTo expression p comps rows c (take (suc i) order) (record { found = found; lists = lists; blown = w.blown })
    listed_on fresh l is chosen found lists ef el =
        let u = own_support expression p comps rows c l in
        let step = (walk_steps n has sets).mapped i s u w.found w.blown at before.walked (not_found fresh) (not_blown fresh) is.part is.has in
        let single : IsSingle expression p comps rows c l = λ long. elim (chosen long) [
          | inl blown ↦ inl (subst (IsBlownSet expression p comps rows c) (sym step.0) blown)
          | inr excluded ↦ inr (λ k. excluded u is.part k)
        ] in
        subst (λ (f : List (List ℕ)). IsWalkedTo expression p comps rows c (take (suc i) order) (record { found = f; lists = lists; blown = w.blown })) (sym ef)
        (subst (λ (ls : List MeasureList). IsWalkedTo expression p comps rows c (take (suc i) order) (record { found = w.found ++ s ∷ []; lists = ls; blown = w.blown })) (sym el) (record {
          walked = step.1;
          supports = map_push (own_support expression p comps rows c) w.lists l ∙ (λ j. before.supports j ++ step.0 j ∷ []);
          lists = all_append (IsDescendingList expression p comps rows c) w.lists (l ∷ []) before.lists (is.list, tt);
          single = all_append (IsSingle expression p comps rows c) w.lists (l ∷ []) before.single (single, tt);
          found_order = pushed_order order w.found i s at before.found_order;
          blown_order = kept_order order w.blown i s at before.blown_order;
          given_up = before.given_up;
          once = before.once;
          apart = apart_still n has sets i s u w.found w.blown at before.walked (not_found fresh) (not_blown fresh) is.part is.has before.blown_order before.apart;
        }))

  pub none_walked : IsWalkedTo expression p comps rows c [] (record { found = []; lists = []; blown = [] })
  none_walked = record {
    walked = record { settled = λ s k. absurd k; minimal = λ s k. absurd k };
    supports = refl;
    lists = tt;
    single = tt;
    found_order = tt;
    blown_order = tt;
    given_up = λ s k. absurd k;
    once = tt;
    apart = λ s k. absurd k;
  }

  take_all : {X : Type 0} (xs : List X) (k : ℕ) → length xs ≤ k → take k xs ≡ xs
  take_all [] zero l = refl
  take_all [] (suc k) l = refl
  take_all (y ∷ xs) zero l = absurd (omega (arith, l))
  take_all (y ∷ xs) (suc k) l = ap (λ s. y ∷ s) (take_all xs k (omega (arith, l)))

  pub all_walked : (i : ℕ) (w : Walked) → length order ≤ i → IsWalkedTo expression p comps rows c (take i order) w → IsAllWalked expression p comps rows c w
  all_walked i w l at =
      let whole : take i order ≡ chosen_up_to (length (positions_in p comps c)) (length (positions_in p comps c)) = take_all order i l ∙ (λ j. chosen_up_to (sym position_count j) (sym position_count j)) in
      subst (λ (o : List (List ℕ)). IsWalkedTo expression p comps rows c o w) whole at
