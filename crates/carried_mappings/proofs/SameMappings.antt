-- What is carried are the same mappings.
use Rattle.std.proofs.Common.{◌≡◌, ℕ, ◌==◌, List, map, length, ap, sym, subst, ◌∙◌}
use Rattle.std.specs.List.{AllByRecursion}
use Rattle.call_components.specs.Partition.{Partition}
use Rattle.cti_terms.specs.Listing.{Listing}
use Rattle.linear_rows.specs.Members.{In}
use Rattle.linear_rows.proofs.Members.{in-map, of-map}
use Rattle.termination_model.specs.mappings.ComponentViews.{members_in, positions_in, rank_in}
use Rattle.termination_model.proofs.ChainSieves.{of_all}
use Rattle.level_systems.specs.Mappings.{level_in, support_of}
use Rattle.level_systems.specs.declared.mapping.Mapping.{Mapping}
use Rattle.level_systems.specs.declared.measure.Measure.{Measure}
use Rattle.carried_mappings.specs.Moved.{moved_mapping, with_members}
use Rattle.carried_mappings.specs.Order.{AreSameMappingsIn, HaveSameParts}
use Rattle.carried_mappings.specs.Reordered.{ArePlaces, by_sets, reordered_mapping, support_there}
use Rattle.carried_mappings.proofs.BySets.{in_by_sets, of_by_sets}
use Rattle.carried_mappings.proofs.MembersAlike.{AreInOrder, AreMembersAlike}
use Rattle.carried_mappings.proofs.Renamed.{level_renamed, preds_of, renamed_measure, with_renamed}
use Rattle.carried_mappings.proofs.Renumbering.{renumbered_set}
use Rattle.carried_mappings.proofs.Reordered.{level_named}

abbrev Partly : Partition → ℕ → List Mapping → Type 0
Partly comps b xs = AllByRecursion (λ (x : Mapping). map (λ (y : Measure). y.pred.0) x.measures ≡ members_in comps b) xs

module _ (p new : Listing) (comps new_comps : Partition) (b c : ℕ) (f back : ℕ → ℕ) (h : AreMembersAlike p new comps new_comps b c f back) (g : ℕ → ℕ) where
  abbrev members : List ℕ
  members = members_in new_comps c

  -- ---- in the same order
  module _ (o : AreInOrder p new comps new_comps b c f) where
    same_moved : (x : Mapping) → preds_of x.measures ≡ members_in comps b → HaveSameParts p new comps b x (moved_mapping g members x)
    same_moved x each q r i e =
        let is = h.own_call q i in
        let own = λ (y : Measure) (j : In y x.measures). h.member y.pred.0 (subst (In y.pred.0) each (in-map (λ (z : Measure). z.pred.0) x.measures y j)) in
        let are : with_members members x.measures ≡ map (renamed_measure f) x.measures = ap (λ (qs : List ℕ). with_members qs x.measures) (o.members ∙ ap (map f) (sym each)) ∙ with_renamed f x.measures in
        ap (λ (ms : List Measure). level_in ms r) are ∙ ap (level_in (map (renamed_measure f) x.measures)) (sym (h.named q r is e))
        ∙ level_renamed f (λ z. rank_in comps z == b) h.apart x.measures own q is

    pub all_moved_same : (xs : List Mapping) → Partly comps b xs → AreSameMappingsIn p new comps b xs (map (moved_mapping g members) xs)
    all_moved_same xs parts = record {
      there = λ x i. (moved_mapping g members x, in-map (moved_mapping g members) xs x i, same_moved x (of_all (λ (z : Mapping). preds_of z.measures ≡ members_in comps b) xs x parts i));
      before = λ y i.
          let x = of-map (moved_mapping g members) xs y i in
          (x.0, x.1, subst (HaveSameParts p new comps b x.0) x.2 (same_moved x.0 (of_all (λ (z : Mapping). preds_of z.measures ≡ members_in comps b) xs x.0 parts x.1)));
    }

  -- ---- in another order
  module _ (places : List ℕ) (are_places : ArePlaces p new (members_in comps b) members places) (olds : List ℕ) where
    same_placed : (x : Mapping) → preds_of x.measures ≡ members_in comps b → HaveSameParts p new comps b x (reordered_mapping g members places x)
    same_placed x each q r i e = level_named p new comps new_comps b c f back h places are_places x.measures each q r (h.own_call q i) e

    abbrev there : Mapping → Mapping
    there = reordered_mapping g members places

    abbrev set_of : Mapping → List ℕ
    set_of = support_there (positions_in p comps b) olds

    pub all_placed_same : (xs : List Mapping) → Partly comps b xs → AreSameMappingsIn p new comps b xs (map there (by_sets (length olds) set_of xs))
    all_placed_same xs parts = record {
      there = λ x i. (
        there x,
        in-map there (by_sets (length olds) set_of xs) x (in_by_sets (length olds) set_of xs (λ y j. renumbered_set olds (support_of (positions_in p comps b) y)) x i),
        same_placed x (of_all (λ (z : Mapping). preds_of z.measures ≡ members_in comps b) xs x parts i),
      );
      before = λ y i.
          let x = of-map there (by_sets (length olds) set_of xs) y i in
          let own = of_by_sets (length olds) set_of xs x.0 x.1 in
          (x.0, own, subst (HaveSameParts p new comps b x.0) x.2 (same_placed x.0 (of_all (λ (z : Mapping). preds_of z.measures ≡ members_in comps b) xs x.0 parts own)));
    }
