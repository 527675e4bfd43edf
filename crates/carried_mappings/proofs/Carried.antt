-- What was found of a component's mappings, where the component stands with its members in the same order.
use Rattle.std.proofs.Common.{◌≡◌, ℕ, suc, ◌<◌, ◌≤◌, ◌==◌, ◌⊎◌, ℤ, Bool, true, inl, inr, List, map, length, Option, None, Some, refl, ap, sym, subst, ◌∙◌}
use Rattle.std.specs.Prelude.{◌↔◌, IsTrue, option_map}
use Rattle.std.specs.List.{AllByRecursion}
use Rattle.call_components.specs.Partition.{Partition}
use Rattle.cti_terms.specs.Listing.{Listing}
use Rattle.cti_terms.specs.Tree.{Tree}
use Rattle.linear_rows.specs.Members.{In}
use Rattle.linear_rows.specs.Step.{columns}
use Rattle.linear_rows.proofs.Members.{of-map}
use Rattle.number_tests.specs.Shape.{IsLevelPart}
use Rattle.number_tests.specs.declared.refutation.Refutation.{Refutation}
use Rattle.termination_model.specs.chains.Chain.{clauses_of}
use Rattle.termination_model.specs.mappings.ComponentViews.{HasSupportIn, component_view, members_in, positions_in, rank_in}
use Rattle.termination_model.specs.mappings.Excluding.{IsZeroOutside}
use Rattle.termination_model.specs.grounds.Minimal.{IsAbove, IsExcluded, IsSet}
use Rattle.termination_model.specs.grounds.Modes.{chosen_up_to}
use Rattle.termination_model.specs.mappings.OwnCalls.{Position}
use Rattle.termination_model.specs.mappings.Ready.{arity_in}
use Rattle.termination_model.specs.mappings.Refutation.{Decreases}
use Rattle.termination_model.specs.mappings.Supports.{HasSupport, picked_from, support_from}
use Rattle.termination_model.specs.mappings.View.{Rule}
use Rattle.termination_model.proofs.ChainSieves.{all_of, of_all}
use Rattle.level_systems.specs.Found.{IsBlownSet, IsFound, IsLarge, IsRefutationOf, IsSmall, count, full, supports, without_number}
use Rattle.level_systems.specs.Mappings.{HasMeasures, IsFall, IsMappingOf, mapping_with, support_of}
use Rattle.level_systems.specs.Subsequences.{IsSubsequence}
use Rattle.level_systems.specs.declared.found.Found.{Found}
use Rattle.level_systems.specs.declared.mapping.Mapping.{Mapping}
use Rattle.level_systems.specs.declared.measure.Measure.{Measure}
use Rattle.component_laws.specs.Mapped.{AreSamePositions, renamed_rule}
use Rattle.carried_mappings.specs.Moved.{moved_fall, moved_found, moved_mapping, moved_refutation, with_members}
use Rattle.carried_mappings.proofs.Alike.{AreAlike, Rowed}
use Rattle.carried_mappings.proofs.MembersAlike.{AreInOrder}
use Rattle.carried_mappings.proofs.Numbers.{AreMoved, numbers_of}
use Rattle.carried_mappings.proofs.Parts.{at_there, blown_at, falling_there, falls_there, none_here, own_parts, pairs_there, part_there, some_mapped}
use Rattle.carried_mappings.proofs.Renamed.{length_mapped, map_alike, map_twice, mapping_pulled, picked_in, picked_renamed, preds_of, preds_renamed, renamed_measure, renamed_position, same_positions, support_here, support_renamed, with_renamed}

module _ (p new : Listing) (comps new_comps : Partition) (b c : ℕ) (rows new_rows : Rowed) (f back : ℕ → ℕ) (h : AreAlike p new comps new_comps b c rows new_rows f back) (o : AreInOrder p new comps new_comps b c f)
    (g : ℕ → ℕ) (moves : AreMoved g (numbers_of (clauses_of p comps b)) (numbers_of (clauses_of new new_comps c))) (expression : ℕ → Tree → List ℤ) where
  abbrev m : ℕ → Bool
  m q = rank_in comps q == b

  abbrev ps : List Position
  ps = positions_in p comps b

  abbrev view : List Rule
  view = component_view expression p comps rows b

  abbrev new_view : List Rule
  new_view = component_view expression new new_comps new_rows c

  abbrev members : List ℕ
  members = members_in new_comps c

  -- ---- mappings
  measures_are : (ms : List Measure) → preds_of ms ≡ members_in comps b → with_members members ms ≡ map (renamed_measure f) ms
  measures_are ms e = ap (λ (qs : List ℕ). with_members qs ms) (o.members ∙ ap (map f) (sym e)) ∙ with_renamed f ms

  has_measures : (ms : List Measure) → HasMeasures p (members_in comps b) ms → HasMeasures new members (map (renamed_measure f) ms)
  has_measures ms old = record {
    each = preds_renamed f ms ∙ ap (map f) old.each ∙ sym o.members;
    parts = all_of (λ (x : Measure). IsLevelPart (arity_in new x.pred.0) x.part) (map (renamed_measure f) ms) (λ y i.
        let x = of-map (renamed_measure f) ms y i in
        subst (λ (z : Measure). IsLevelPart (arity_in new z.pred.0) z.part) x.2
        (part_there p new comps new_comps b c rows new_rows f back h g moves expression ms old x.0 x.1));
  }

  mapping_there : (x : Mapping) → IsMappingOf expression p rows comps b x → IsMappingOf expression new new_rows new_comps c (moved_mapping g members x)
  mapping_there x old =
      let ms = x.measures in
      let each = old.measures.each in
      let are = measures_are ms each in
      record {
        measures = subst (HasMeasures new members) (sym are) (has_measures ms old.measures);
        pairs = pairs_there p new comps new_comps b c rows new_rows f back h g moves expression x.falls old.pairs;
        falls = subst (λ (z : List Measure). AllByRecursion (IsFall expression new new_rows z) (map (moved_fall g) x.falls)) (sym are)
            (falls_there p new comps new_comps b c rows new_rows f back h g moves expression ms each x.falls old.pairs old.falls);
      }

  -- the mapping there, as one of the members here
  pulled_is : (ms : List Measure) → preds_of ms ≡ members_in comps b → support_from 1 (positions_in new new_comps c) (mapping_with (with_members members ms)) ≡ support_from 1 ps (mapping_with ms)
  pulled_is ms e =
      ap (λ (z : List Measure). support_from 1 (positions_in new new_comps c) (mapping_with z)) (measures_are ms e)
      ∙ ap (λ (z : List Position). support_from 1 z (mapping_with (map (renamed_measure f) ms))) o.positions
      ∙ support_renamed f m 1 ps (mapping_with (map (renamed_measure f) ms)) h.all.own_positions
      ∙ ap (support_from 1 ps) (mapping_pulled f m h.all.apart ms (own_parts p new comps new_comps b c rows new_rows f back h g moves expression ms e))

  at_in_order : (ms : List Measure) → preds_of ms ≡ members_in comps b → IsZeroOutside ps (mapping_with ms) → IsZeroOutside (positions_in new new_comps c) (mapping_with (with_members members ms))
  at_in_order ms e at =
      subst (λ (z : List Measure). IsZeroOutside (positions_in new new_comps c) (mapping_with z)) (sym (measures_are ms e))
      (at_there p new comps new_comps b c rows new_rows f back h g moves expression ms e at)

  falling_in_order : (ms : List Measure) → preds_of ms ≡ members_in comps b → Decreases expression view (mapping_with ms) → Decreases expression new_view (mapping_with (with_members members ms))
  falling_in_order ms e falls =
      subst (λ (z : List Measure). Decreases expression new_view (mapping_with z)) (sym (measures_are ms e))
      (falling_there p new comps new_comps b c rows new_rows f back h g moves expression ms e falls)

  -- ---- supports
  had_here : (s : List ℕ) → HasSupportIn expression new new_comps new_rows c s → HasSupportIn expression p comps rows b s
  had_here s has =
      support_here f m expression view ps h.all.apart (h.rules expression) h.all.own_positions s
      (subst (λ (z : List Position). HasSupport expression (map (renamed_rule f) view) z s) o.positions
      (subst (λ (z : List Rule). HasSupport expression z (positions_in new new_comps c) s) (h.view expression) has))

  excluded_there : (s : List ℕ) → IsExcluded (HasSupportIn expression p comps rows b) s → IsExcluded (HasSupportIn expression new new_comps new_rows c) s
  excluded_there s out u part has = out u part (had_here u has)

  blown_there : (s : List ℕ) → IsBlownSet expression p comps rows b s → IsBlownSet expression new new_comps new_rows c s
  blown_there s old =
      let picked : List Position = picked_from 1 ps s in
      let of : (x : Position) → In x picked → m x.0 ≡ true = λ x i. h.all.own_positions x (picked_in 1 ps s x i) in
      let place : map (renamed_position f) picked ≡ picked_from 1 (positions_in new new_comps c) s = sym (picked_renamed f 1 ps s) ∙ ap (λ (z : List Position). picked_from 1 z s) (sym o.positions) in
      blown_at p new comps new_comps b c rows new_rows f back h g moves expression s s (subst (AreSamePositions f m picked) place (same_positions f m picked of)) old

  counts : count expression new new_comps new_rows c ≡ count expression p comps rows b
  counts = ap length o.positions ∙ length_mapped (renamed_position f) ps

  -- ---- what is found
  module _ (x : Found) (old : IsFound expression p comps rows b x) where
    abbrev moved_x : Found
    moved_x = moved_found g members x

    parts_at : (y : Mapping) → In y x.mappings → preds_of y.measures ≡ members_in comps b
    parts_at y i = (of_all (IsMappingOf expression p rows comps b) x.mappings y old.mappings i).measures.each

    each_there : (P Q : Mapping → Type 0) → ((y : Mapping) → In y x.mappings → P y → Q (moved_mapping g members y)) → AllByRecursion P x.mappings → AllByRecursion Q (map (moved_mapping g members) x.mappings)
    each_there P Q to all = all_of Q (map (moved_mapping g members) x.mappings) (λ y i.
        let z = of-map (moved_mapping g members) x.mappings y i in
        subst Q z.2 (to z.0 z.1 (of_all P x.mappings z.0 all z.1)))

    abbrev found_supports : List (List ℕ)
    found_supports = supports expression p comps rows b x

    same_supports : supports expression new new_comps new_rows c moved_x ≡ found_supports
    same_supports =
        map_twice (support_of (positions_in new new_comps c)) (moved_mapping g members) x.mappings
        ∙ map_alike (λ (y : Mapping). support_of (positions_in new new_comps c) (moved_mapping g members y)) (support_of ps) x.mappings (λ y i. pulled_is y.measures (parts_at y i))

    -- what is found is had there
    had_there : (s : List ℕ) → In s found_supports → HasSupportIn expression new new_comps new_rows c s
    had_there s i =
        let y = of-map (support_of ps) x.mappings s i in
        let each = parts_at y.0 y.1 in
        record {
          mapping = mapping_with (with_members members y.0.measures);
          at = at_in_order y.0.measures each (of_all (λ (z : Mapping). IsZeroOutside ps (mapping_with z.measures)) x.mappings y.0 old.at y.1);
          decreases = falling_in_order y.0.measures each (of_all (λ (z : Mapping). Decreases expression view (mapping_with z.measures)) x.mappings y.0 old.falling y.1);
          is = pulled_is y.0.measures each ∙ y.2;
        }

    back_support : (s : List ℕ) → In s (supports expression new new_comps new_rows c moved_x) → In s found_supports
    back_support s i = subst (In s) same_supports i

    small_there : IsSmall expression p comps rows b x → IsSmall expression new new_comps new_rows c moved_x
    small_there s = record {
      minimal = λ t i.
          let j = back_support t i in
          record { had = had_there t j; least = λ u part has. (s.minimal t j).least u part (had_here u has) };
      within = λ t has. subst (λ (z : List (List ℕ)). IsAbove z t ⊎ IsAbove x.blown t) (sym same_supports) (s.within t (had_here t has));
      order = subst (λ (z : List (List ℕ)). IsSubsequence z (chosen_up_to (count expression new new_comps new_rows c) (count expression new new_comps new_rows c))) (sym same_supports)
          (subst (λ (n : ℕ). IsSubsequence found_supports (chosen_up_to n n)) (sym counts) s.order);
    }

    full_same : full expression new new_comps new_rows c ≡ full expression p comps rows b
    full_same = ap (columns 1) counts

    full_there : In (full expression new new_comps new_rows c) x.blown → In (full expression p comps rows b) x.blown
    full_there i = subst (λ (s : List ℕ). In s x.blown) full_same i

    large_there : IsLarge expression p comps rows b x → IsLarge expression new new_comps new_rows c moved_x
    large_there s = record {
      few = subst (λ (n : ℕ). n ≤ 1) (sym (length_mapped (moved_mapping g members) x.mappings)) s.few;
      decreases = λ t i. had_there t (back_support t i);
      needed = λ t i k j. elim (s.needed t (back_support t i) k j) [
        | inl given_up ↦ inl given_up
        | inr out ↦ inr (excluded_there (without_number k t) out)
      ];
      left_out = λ t i. s.left_out t (back_support t i);
      decided = elim s.decided [
        | inl some ↦ inl (subst (λ (n : ℕ). 1 ≤ n) (sym (length_mapped (moved_mapping g members) x.mappings)) some)
        | inr (inl refuted) ↦ inr (inl ((some_mapped (moved_refutation g) x.refutation).1 refuted))
        | inr (inr blown) ↦ inr (inr (subst (λ (t : List ℕ). In t x.blown) (sym full_same) blown))
      ];
    }

    pub found_there : ((r : Refutation) → x.refutation ≡ Some r → IsRefutationOf expression new new_comps new_rows c (moved_refutation g r)) → IsFound expression new new_comps new_rows c moved_x
    found_there shown = record {
      large = subst (λ (n : ℕ). IsTrue x.large ↔ (12 < n)) (sym counts) old.large;
      mappings = each_there (IsMappingOf expression p rows comps b) (IsMappingOf expression new new_rows new_comps c) (λ y i is. mapping_there y is) old.mappings;
      at = each_there (λ (z : Mapping). IsZeroOutside ps (mapping_with z.measures)) (λ (z : Mapping). IsZeroOutside (positions_in new new_comps c) (mapping_with z.measures)) (λ y i at. at_in_order y.measures (parts_at y i) at) old.at;
      falling = each_there (λ (z : Mapping). Decreases expression view (mapping_with z.measures)) (λ (z : Mapping). Decreases expression new_view (mapping_with z.measures))
          (λ y i falls. falling_in_order y.measures (parts_at y i) falls) old.falling;
      small = λ e. small_there (old.small e);
      more = λ e. large_there (old.more e);
      refuted = (
        λ some. let no_had = old.refuted.0 ((some_mapped (moved_refutation g) x.refutation).0 some) in ((λ s has. no_had.0 s (had_here s has)), λ i. no_had.1 (full_there i)),
        λ none. (some_mapped (moved_refutation g) x.refutation).1 (old.refuted.1 (none_here p new comps new_comps b c rows new_rows f back h g moves expression none.0, λ i. none.1 (subst (λ (t : List ℕ). In t x.blown) (sym full_same) i))),
      );
      shown = λ r e. from_some x.refutation shown r e;
      sets = λ s i. subst (λ (n : ℕ). IsSet 1 (suc n) s) (sym counts) (old.sets s i);
      given_up = λ s i. blown_there s (old.given_up s i);
      once = old.once;
      apart = λ s i above. old.apart s i (subst (λ (z : List (List ℕ)). IsAbove z s) same_supports above);
    }
      where
        from_some : (o : Option Refutation) → ((r : Refutation) → o ≡ Some r → IsRefutationOf expression new new_comps new_rows c (moved_refutation g r)) → (r : Refutation) → option_map (moved_refutation g) o ≡ Some r → IsRefutationOf expression new new_comps new_rows c r
        from_some None all r e = cc
        from_some (Some z) all r e = let is : moved_refutation g z ≡ r = cc in subst (IsRefutationOf expression new new_comps new_rows c) is (all z refl)
