-- The walk after one more set of positions.
use Rattle.std.proofs.Common.{◌≡◌, ℕ, zero, suc, ◌≤◌, ◌||◌, inl, inr, ℤ, Bool, true, false, List, [], ◌∷◌, ◌++◌, take, slice_get, length, Some, refl, ap, sym, subst, ◌∙◌, arith}
use Rattle.std.specs.List.{list_any}
use Rattle.std.proofs.lemmas.List.{length-map}
use Rattle.cti_terms.specs.Listing.{Listing}
use Rattle.cti_terms.specs.Tree.{Tree}
use Rattle.call_components.specs.Partition.{Partition}
use Rattle.call_components.proofs.Lists.{all_append}
use Rattle.linear_rows.specs.Step.{columns}
use Rattle.linear_rows.proofs.Members.{of-append}
use Rattle.termination_model.specs.mappings.ComponentViews.{HasSupportIn, positions_in}
use Rattle.termination_model.specs.grounds.Minimal.{IsAbove, IsExcluded, IsSet}
use Rattle.termination_model.specs.grounds.Modes.{chosen_up_to, is_part}
use Rattle.termination_model.proofs.Lists.{map_push}
use Rattle.termination_model.proofs.Sets.{part_self}
use Rattle.level_systems.specs.Found.{IsBlownSet}
use Rattle.level_systems.specs.Held.{spelled}
use Rattle.level_systems.specs.Mappings.{support_of}
use Rattle.level_systems.specs.Searched.{IsComponent, IsDecreasing, IsFoundIn}
use Rattle.level_systems.specs.Subsequences.{IsSubsequence}
use Rattle.level_dual.specs.Walk.{IsWalked}
use Rattle.level_dual.specs.Walked.{IsAllWalked, IsWalkedTo}
use Rattle.level_systems.specs.declared.component.Component.{Component}
use Rattle.level_systems.specs.declared.mapping.Mapping.{Mapping}
use Rattle.level_dual.specs.declared.walked.Walked.{Walked}
use Rattle.level_dual.proofs.SearchLaws.{laws}
use Rattle.level_dual.proofs.Subsequences.{kept_order, once_push, pushed_order}
use Rattle.level_dual.proofs.Visits.{give_up_set, none_left, none_right, not_above_of, pass_set, refute_set}
use Rattle.level_dual.proofs.WalkSteps.{apart_still, walk_steps}

module _ (size : (ℕ → ℕ) → Tree → ℕ) (truth : (ℕ → Bool) → Tree → Bool) (expression : ℕ → Tree → List ℤ) (p : Listing) (comps : Partition) (rows : ℕ → List (List ℤ)) (c : ℕ) (x : Component)
    (h : IsComponent size truth expression p comps rows c x) where
  abbrev n : ℕ
  n = length x.positions.items

  abbrev had : List ℕ → Type 0
  had = HasSupportIn expression p comps rows c

  count : length (positions_in p comps c) ≡ n
  count = ap length (sym h.positions) ∙ length-map x.positions.items spelled

  pub sets_in : (s : List ℕ) → had s → IsSet 1 (suc (length (positions_in p comps c))) s
  sets_in = (laws size truth expression p comps rows c x h).sets

  pub full_in : columns 1 n ≡ columns 1 (length (positions_in p comps c))
  full_in = ap (columns 1) (sym count)

  pub sets : (s : List ℕ) → had s → IsSet 1 (suc n) s
  sets s k = subst (λ (m : ℕ). IsSet 1 (suc m) s) count ((laws size truth expression p comps rows c x h).sets s k)

  module _ (i : ℕ) (s : List ℕ) (w : Walked) (at : slice_get (chosen_up_to n n) i ≡ Some s) (before : IsWalkedTo expression p comps rows c n i w) where
    abbrev passed : Bool
    passed = list_any (λ t. is_part t s) w.found || list_any (λ t. is_part t s) w.blown

    pub passed_on : passed ≡ true → IsWalkedTo expression p comps rows c n (suc i) w
    passed_on e = record {
      walked = pass_set n had sets i s w.found w.blown at before.walked e;
      supports = before.supports;
      mappings = before.mappings;
      found_order = kept_order (chosen_up_to n n) w.found i s at before.found_order;
      blown_order = kept_order (chosen_up_to n n) w.blown i s at before.blown_order;
      given_up = before.given_up;
      once = before.once;
      apart = before.apart;
    }

    pub refuted_on : IsExcluded had s → IsWalkedTo expression p comps rows c n (suc i) w
    refuted_on e = record {
      walked = refute_set n had sets i s w.found w.blown at before.walked e;
      supports = before.supports;
      mappings = before.mappings;
      found_order = kept_order (chosen_up_to n n) w.found i s at before.found_order;
      blown_order = kept_order (chosen_up_to n n) w.blown i s at before.blown_order;
      given_up = before.given_up;
      once = before.once;
      apart = before.apart;
    }

    pub given_up_on : passed ≡ false → IsBlownSet expression p comps rows c s → (blown : List (List ℕ)) → blown ≡ w.blown ++ s ∷ [] → IsWalkedTo expression p comps rows c n (suc i) (record { found = w.found; mappings = w.mappings; blown = blown })
    given_up_on fresh here blown e = subst (λ (b : List (List ℕ)). IsWalkedTo expression p comps rows c n (suc i) (record { found = w.found; mappings = w.mappings; blown = b })) (sym e) (record {
      walked = give_up_set n had sets i s w.found w.blown at before.walked;
      supports = before.supports;
      mappings = before.mappings;
      found_order = kept_order (chosen_up_to n n) w.found i s at before.found_order;
      blown_order = pushed_order (chosen_up_to n n) w.blown i s at before.blown_order;
      given_up = λ t j. elim (of-append w.blown (s ∷ []) t j) [
        | inl old ↦ before.given_up t old
        | inr (inl e) ↦ subst (IsBlownSet expression p comps rows c) e here
        | inr (inr none) ↦ absurd none
      ];
      once = once_push w.blown s before.once (λ j. not_above_of s w.blown (none_right (list_any (λ t. is_part t s) w.found) (list_any (λ t. is_part t s) w.blown) fresh) (s, j, part_self s));
      apart = λ t j. elim (of-append w.blown (s ∷ []) t j) [
        | inl old ↦ before.apart t old
        | inr (inl e) ↦ subst (λ (v : List ℕ). IsAbove w.found v → ⊥) e (not_above_of s w.found (none_left (list_any (λ t. is_part t s) w.found) (list_any (λ t. is_part t s) w.blown) fresh))
        | inr (inr none) ↦ absurd none
      ];
    })

    pub mapped_on : passed ≡ false → (m : Mapping) → IsFoundIn expression p comps rows c s m → (found : List (List ℕ)) (mappings : List Mapping) → found ≡ w.found ++ s ∷ [] → mappings ≡ w.mappings ++ m ∷ []
        → IsWalkedTo expression p comps rows c n (suc i) (record { found = found; mappings = mappings; blown = w.blown })
    mapped_on fresh m is found mappings ef em =
        let u = support_of (positions_in p comps c) m in
        let step = (walk_steps n had sets).mapped i s u w.found w.blown at before.walked
        (not_above_of s w.found (none_left (list_any (λ t. is_part t s) w.found) (list_any (λ t. is_part t s) w.blown) fresh))
        (not_above_of s w.blown (none_right (list_any (λ t. is_part t s) w.found) (list_any (λ t. is_part t s) w.blown) fresh)) is.part is.has in
        subst (λ (f : List (List ℕ)). IsWalkedTo expression p comps rows c n (suc i) (record { found = f; mappings = mappings; blown = w.blown })) (sym ef)
        (subst (λ (ms : List Mapping). IsWalkedTo expression p comps rows c n (suc i) (record { found = w.found ++ s ∷ []; mappings = ms; blown = w.blown })) (sym em) (record {
          walked = step.1;
          supports = map_push (support_of (positions_in p comps c)) w.mappings m ∙ (λ j. before.supports j ++ step.0 j ∷ []);
          mappings = all_append (IsDecreasing expression p comps rows c) w.mappings (m ∷ []) before.mappings (is.mapping, tt);
          found_order = pushed_order (chosen_up_to n n) w.found i s at before.found_order;
          blown_order = kept_order (chosen_up_to n n) w.blown i s at before.blown_order;
          given_up = before.given_up;
          once = before.once;
          apart = apart_still n had sets i s u w.found w.blown at before.walked
              (not_above_of s w.found (none_left (list_any (λ t. is_part t s) w.found) (list_any (λ t. is_part t s) w.blown) fresh))
              (not_above_of s w.blown (none_right (list_any (λ t. is_part t s) w.found) (list_any (λ t. is_part t s) w.blown) fresh)) is.part is.has before.blown_order before.apart;
        }))

  pub none_walked : IsWalkedTo expression p comps rows c n 0 (record { found = []; mappings = []; blown = [] })
  none_walked = record { walked = record { settled = λ s k. absurd k; minimal = λ s k. absurd k }; supports = refl; mappings = tt; found_order = tt; blown_order = tt; given_up = λ s k. absurd k; once = tt; apart = λ s k. absurd k }

  take_all : {X : Type 0} (xs : List X) (k : ℕ) → length xs ≤ k → take k xs ≡ xs
  take_all [] zero l = refl
  take_all [] (suc k) l = refl
  take_all (y ∷ xs) zero l = absurd (omega (arith, l))
  take_all (y ∷ xs) (suc k) l = ap (λ s. y ∷ s) (take_all xs k (omega (arith, l)))

  pub all_walked : (i : ℕ) (w : Walked) → length (chosen_up_to n n) ≤ i → IsWalkedTo expression p comps rows c n i w → IsAllWalked expression p comps rows c w
  all_walked i w l at =
      let whole : take i (chosen_up_to n n) ≡ chosen_up_to (length (positions_in p comps c)) (length (positions_in p comps c)) =
      take_all (chosen_up_to n n) i l ∙ (λ j. chosen_up_to (sym count j) (sym count j)) in
      record {
        walked = subst (λ (o : List (List ℕ)). IsWalked had o w.found w.blown) whole at.walked;
        supports = at.supports;
        mappings = at.mappings;
        found_order = subst (IsSubsequence w.found) whole at.found_order;
        blown_order = subst (IsSubsequence w.blown) whole at.blown_order;
        given_up = at.given_up;
        once = at.once;
        apart = at.apart;
      }
