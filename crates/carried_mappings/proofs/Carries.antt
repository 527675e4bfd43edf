-- What is carried is what is found.
use Rattle.std.proofs.Common.{◌≡◌, ℕ, suc, ◌-◌, ◌<◌, ◌≤◌, inl, inr, List, [], ◌∷◌, ◌++◌, map, length, slice_get, Option, Some, refl, ap, sym, subst, ◌∙◌, arith}
use Rattle.std.specs.List.{AllByRecursion}
use Rattle.call_components.specs.Numbers.{number_of}
use Rattle.call_components.specs.Partition.{Partition, AreComponents}
use Rattle.cti_terms.specs.Listing.{Listing, IsProgram}
use Rattle.cti_terms.specs.declared.clauses.Clause.{Clause}
use Rattle.cti_terms.specs.declared.predicates.PredId.{PredId}
use Rattle.linear_rows.specs.Members.{In}
use Rattle.linear_rows.proofs.Members.{in-map, of-map}
use Rattle.component_clauses.specs.Numbered.{paired, with_clauses}
use Rattle.termination_model.specs.chains.Chain.{clauses_of, component_of, is_number}
use Rattle.termination_model.specs.mappings.ComponentViews.{members_in, positions_in}
use Rattle.termination_model.specs.mappings.Ready.{arity_in}
use Rattle.termination_model.specs.mappings.OwnCalls.{Position as Place}
use Rattle.termination_model.proofs.ChainSieves.{all_of, of_all}
use Rattle.termination_model.proofs.Lists.{indexed, place_below, there}
use Rattle.level_systems.specs.Held.{spelled}
use Rattle.level_systems.specs.declared.found.Found.{Found}
use Rattle.level_systems.specs.declared.mapping.Mapping.{Mapping}
use Rattle.level_systems.specs.declared.measure.Measure.{Measure}
use Rattle.level_systems.specs.declared.position.Position.{Position}
use Rattle.component_laws.proofs.SupportedLaws.{numbered}
use Rattle.carried_mappings.specs.Carrying.{AreClauseNumbers, CarriesOver, HasParts, IsStanding, new_number}
use Rattle.carried_mappings.specs.Moved.{moved_found, moved_mapping}
use Rattle.carried_mappings.specs.Order.{AreSameMappings, HaveSameMembers, HaveSameOrder}
use Rattle.carried_mappings.specs.Reordered.{AreOldNumbers, ArePlaces, HasOldNumber, HasPlace, reordered_found}
use Rattle.carried_mappings.specs.declared.standing.Standing.{Standing}
use Rattle.carried_mappings.proofs.Alike.{alike}
use Rattle.carried_mappings.proofs.Carried.{found_there}
use Rattle.carried_mappings.proofs.Members.{same_members}
use Rattle.carried_mappings.proofs.MembersAlike.{AreMembersAlike, in_order, members_alike, name_there}
use Rattle.carried_mappings.proofs.Numbers.{AreMoved, Numbered, Rises, all_moved, numbers_of, rises_counted}
use Rattle.carried_mappings.proofs.Points.{refutation_there}
use Rattle.carried_mappings.proofs.Ranked.{in_member, member_in, ranked_in, to_contains}
use Rattle.carried_mappings.proofs.Renamed.{length_mapped, position_pred}
use Rattle.carried_mappings.proofs.Reordered.{found_reordered}
use Rattle.carried_mappings.proofs.SameMappings.{all_moved_same, all_placed_same}
use Rattle.solved_program.proofs.Names.{new_number as new_pred}

-- ---- the numbers of a component's clauses
numbers_are : (clauses : List Clause) (own : List ℕ) → AllByRecursion (λ k. (1 ≤ k) × (k ≤ length clauses)) own → numbers_of (with_clauses clauses own) ≡ own
numbers_are clauses [] h = refl
numbers_are clauses (k ∷ own) h =
    let first = h.0.0 in
    let last = h.0.1 in
    let none : Clause = record { head = record { pred = record { 0 = 0 }; args = [] }; body = []; vars = 0 } in
    let at = there clauses (k - 1) none (omega arith) in
    ap (λ (o : Option Clause). numbers_of (paired k o ++ with_clauses clauses own)) at ∙ ap (λ (z : List ℕ). k ∷ z) (numbers_are clauses own h.1)

pub own_numbers : (p : Listing) (comps : Partition) (c : ℕ) (own : List ℕ) → AreClauseNumbers p comps c own → own ≡ numbers_of (clauses_of p comps c)
own_numbers p comps c own are = sym (numbers_are p.clauses own are.within) ∙ ap numbers_of are.clauses

pub own_rises : (p : Listing) (comps : Partition) (c : ℕ) (own : List ℕ) → AreClauseNumbers p comps c own → Rises 1 own
own_rises p comps c own are = subst (Rises 1) (sym (own_numbers p comps c own are)) (rises_counted (λ (k : Numbered). is_number c (component_of comps k.1.head.pred.0)) 1 p.clauses)

module _ (s : Standing) (is : IsStanding s) (prog : IsProgram s.edit.now.before.now) (new_prog : IsProgram s.edit.now.after.now) where
  abbrev p : Listing
  p = s.edit.now.before.now

  abbrev new : Listing
  new = s.edit.now.after.now

  abbrev comps : Partition
  comps = s.edit.now.components_before.now

  abbrev new_comps : Partition
  new_comps = s.edit.now.components.now

  moves : AreMoved (new_number s) (numbers_of (clauses_of p comps s.before)) (numbers_of (clauses_of new new_comps s.after))
  moves =
      subst (λ (xs : List ℕ). AreMoved (new_number s) xs (numbers_of (clauses_of new new_comps s.after))) (own_numbers p comps s.before s.own_before.now is.own_before)
      (subst (AreMoved (new_number s) s.own_before.now) (own_numbers new new_comps s.after s.own.now is.own)
      (all_moved 1 s.own_before.now s.own.now (own_rises p comps s.before s.own_before.now is.own_before) is.each))

  -- ---- where members stand in the same order
  pub carries : HaveSameOrder s.edit.now s.before s.after → (x : Found) → CarriesOver s x (moved_found (new_number s) (members_in new_comps s.after) x)
  carries order x expression rows_before rows stands keeps old =
      let both = alike p new comps new_comps prog new_prog is.edit.components_before is.edit.components s.edit.now.kept.now is.edit.kept s.before s.after is.before is.after rows_before rows stands keeps in
      let names = same_members p new comps new_comps prog new_prog is.edit.components_before is.edit.components s.edit.now.kept.now is.edit.kept s.before s.after rows_before rows stands in
      let ordered = in_order p new comps new_comps prog new_prog is.edit.components_before is.edit.components s.before s.after is.before is.after names order in
      found_there p new comps new_comps s.before s.after rows_before rows _ _ both ordered (new_number s) moves expression x old
      (λ r e. refutation_there p new comps new_comps s.before s.after rows_before rows _ _ both (new_number s) moves expression r (old.shown r e))

  -- ---- and where they stand in another one
  pub carries_reordered : (places olds : List ℕ) → ArePlaces p new (members_in comps s.before) (members_in new_comps s.after) places
      → AreOldNumbers p new (positions_in p comps s.before) (positions_in new new_comps s.after) olds
      → (x : Found) → CarriesOver s x (reordered_found (new_number s) (members_in new_comps s.after) places (positions_in p comps s.before) olds x)
  carries_reordered places olds are_places are_olds x expression rows_before rows stands keeps old =
      let both = alike p new comps new_comps prog new_prog is.edit.components_before is.edit.components s.edit.now.kept.now is.edit.kept s.before s.after is.before is.after rows_before rows stands keeps in
      found_reordered p new comps new_comps s.before s.after rows_before rows _ _ both (new_number s) moves expression places are_places olds are_olds x old
      (λ r e. refutation_there p new comps new_comps s.before s.after rows_before rows _ _ both (new_number s) moves expression r (old.shown r e))

  -- ---- the same mappings
  module _ (names : HaveSameMembers s.edit.now s.before s.after) where
    named : AreMembersAlike p new comps new_comps s.before s.after (new_pred p.preds new.preds) (new_pred new.preds p.preds)
    named = members_alike p new comps new_comps prog new_prog is.edit.components_before is.edit.components s.before s.after is.before is.after names

    pub same_in_order : HaveSameOrder s.edit.now s.before s.after → (x : Found) → AllByRecursion (HasParts s) x.mappings
        → AreSameMappings s.edit.now s.before x.mappings (map (moved_mapping (new_number s) (members_in new_comps s.after)) x.mappings)
    same_in_order order x parts =
        all_moved_same p new comps new_comps s.before s.after _ _ named (new_number s)
        (in_order p new comps new_comps prog new_prog is.edit.components_before is.edit.components s.before s.after is.before is.after names order) x.mappings parts

    pub same_reordered : (places olds : List ℕ) → ArePlaces p new (members_in comps s.before) (members_in new_comps s.after) places → (x : Found) → AllByRecursion (HasParts s) x.mappings
        → AreSameMappings s.edit.now s.before x.mappings (reordered_found (new_number s) (members_in new_comps s.after) places (positions_in p comps s.before) olds x).mappings
    same_reordered places olds are_places x parts = all_placed_same p new comps new_comps s.before s.after _ _ named (new_number s) places are_places olds x.mappings parts

    -- ---- places and numbers from before
    pub has_place : (qs rs : List PredId) → members_in comps s.before ≡ map number_of qs → members_in new_comps s.after ≡ map number_of rs
        → AllByRecursion (λ (r : PredId). HasPlace p new (map number_of qs) r.0) rs
    has_place qs rs before after = all_of (λ (r : PredId). HasPlace p new (map number_of qs) r.0) rs (λ r i.
        let own = in_member new new_comps is.edit.components s.after is.after r.0 (subst (In r.0) (sym after) (in-map number_of rs r i)) in
        let q = names.before r.0 own in
        let at = at_place_of (map number_of qs) q.0 (subst (In q.0) before (member_in p comps is.edit.components_before s.before is.before q.0 q.1)) in
        (at.0, record { pred = q.0; at = at.1; named = q.2 }))
      where
        at_place_of : (xs : List ℕ) (x : ℕ) → In x xs → (j : ℕ) × (slice_get xs j ≡ Some x)
        at_place_of [] x i = absurd i
        at_place_of (y ∷ xs) x (inl e) = (0, ap Some e)
        at_place_of (y ∷ xs) x (inr i) = let more = at_place_of xs x i in (suc more.0, more.1)

    pub has_number : (us vs : List Position) → map spelled us ≡ positions_in p comps s.before → map spelled vs ≡ positions_in new new_comps s.after
        → AllByRecursion (λ (x : Position). HasOldNumber p new (map spelled us) (spelled x)) vs
    has_number us vs before after = all_of (λ (x : Position). HasOldNumber p new (map spelled us) (spelled x)) vs (λ x i.
        let own = subst (In (spelled x)) after (in-map spelled vs x i) in
        let q = named.positions.from x.pred.0 x.argument own in
        let member = ranked_in comps s.before is.before q.0 (named.own_positions (q.0, x.argument) q.2) in
        let number = numbered 1 (map spelled us) (q.0, x.argument) (subst (In (q.0, x.argument)) (sym before) q.2) in (
          number.0,
          record {
            at = (q.0, x.argument);
            number = number.1;
            named = sym (name_there p new comps new_comps prog new_prog is.edit.components_before is.edit.components s.before s.after is.before is.after names q.0 member) ∙ ap (slice_get new.preds) q.1;
            argument = refl;
          },
        ))

  -- the same of members and positions as the code has them
  module _ (qs rs : List PredId) (us vs : List Position) (before : members_in comps s.before ≡ map number_of qs) (after : members_in new_comps s.after ≡ map number_of rs)
      (stood : map spelled us ≡ positions_in p comps s.before) (stand : map spelled vs ≡ positions_in new new_comps s.after)
      (places olds : List ℕ) (are_places : ArePlaces p new (map number_of qs) (map number_of rs) places) (are_olds : AreOldNumbers p new (map spelled us) (map spelled vs) olds) (x : Found) where
    places_are : ArePlaces p new (members_in comps s.before) (members_in new_comps s.after) places
    places_are =
        subst (λ (z : List ℕ). ArePlaces p new z (members_in new_comps s.after) places) (sym before)
        (subst (λ (z : List ℕ). ArePlaces p new (map number_of qs) z places) (sym after) are_places)

    olds_are : AreOldNumbers p new (positions_in p comps s.before) (positions_in new new_comps s.after) olds
    olds_are =
        subst (λ (z : List Place). AreOldNumbers p new z (positions_in new new_comps s.after) olds) stood
        (subst (λ (z : List Place). AreOldNumbers p new (map spelled us) z olds) stand are_olds)

    abbrev found_now : Found
    found_now = reordered_found (new_number s) (map number_of rs) places (map spelled us) olds x

    found_is : reordered_found (new_number s) (members_in new_comps s.after) places (positions_in p comps s.before) olds x ≡ found_now
    found_is = λ i. reordered_found (new_number s) (after i) places (sym stood i) olds x

    pub carries_now : CarriesOver s x found_now
    carries_now = subst (CarriesOver s x) found_is (carries_reordered places olds places_are olds_are x)

    pub same_now : HaveSameMembers s.edit.now s.before s.after → AllByRecursion (HasParts s) x.mappings → AreSameMappings s.edit.now s.before x.mappings found_now.mappings
    same_now names parts = subst (λ (z : Found). AreSameMappings s.edit.now s.before x.mappings z.mappings) found_is (same_reordered names places olds places_are x parts)

-- ---- parts for each member
pub as_many_parts : (s : Standing) (count : ℕ) (ms : List Mapping) → length (members_in s.edit.now.components_before.now s.before) ≡ count → AllByRecursion (HasParts s) ms
    → AllByRecursion (λ (x : Mapping). length x.measures ≡ count) ms
as_many_parts s count [] e h = tt
as_many_parts s count (x ∷ ms) e h = (sym (length_mapped (λ (y : Measure). y.pred.0) x.measures) ∙ ap length h.0 ∙ e, as_many_parts s count ms e h.1)

pub has_places : (s : Standing) (p new : Listing) (rs places : List ℕ) (ms : List Mapping) → ArePlaces p new (members_in s.edit.now.components_before.now s.before) rs places → AllByRecursion (HasParts s) ms
    → AllByRecursion (λ (m : Mapping). AllByRecursion (λ j. j < length m.measures) places) ms
has_places s p new rs places [] are h = tt
has_places s p new rs places (x ∷ ms) are h =
    (below rs places are (sym (ap length h.0) ∙ length_mapped (λ (y : Measure). y.pred.0) x.measures), has_places s p new rs places ms are h.1)
  where
    below : (rs js : List ℕ) → ArePlaces p new (members_in s.edit.now.components_before.now s.before) rs js → length (members_in s.edit.now.components_before.now s.before) ≡ length x.measures → AllByRecursion (λ j. j < length x.measures) js
    below [] [] a e = tt
    below [] (j ∷ js) a e = absurd a
    below (r ∷ rs) [] a e = absurd a
    below (r ∷ rs) (j ∷ js) a e = let l = place_below (members_in s.edit.now.components_before.now s.before) j a.0.pred a.0.at in (omega arith, below rs js a.1 e)

-- ---- members as the code has them
module _ (p : Listing) (comps : Partition) (are : AreComponents p comps) (c : ℕ) (qs : List PredId) (at : slice_get comps.members c ≡ Some (map number_of qs)) where
  pub members_are : members_in comps c ≡ map number_of qs
  members_are = indexed comps.members c (map number_of qs) [] at

  pub members_below : AllByRecursion (λ (q : PredId). q.0 < length p.preds) qs
  members_below = all_of (λ (q : PredId). q.0 < length p.preds) qs (λ q i.
      let own = (are.members c (map number_of qs) at q.0).0 (to_contains (map number_of qs) q.0 (in-map number_of qs q i)) in
      let below = place_below comps.of q.0 c own in
      omega (arith, are.each))

  pub positions_below : (xs : List Position) → map spelled xs ≡ positions_in p comps c → AllByRecursion (λ (x : Position). x.pred.0 < length p.preds) xs
  positions_below xs is = all_of (λ (x : Position). x.pred.0 < length p.preds) xs (λ x i.
      let own = position_pred (arity_in p) (members_in comps c) (spelled x) (subst (In (spelled x)) is (in-map spelled xs x i)) in
      let q = of-map number_of qs x.pred.0 (subst (In x.pred.0) members_are own) in
      subst (λ (n : ℕ). n < length p.preds) q.2 (of_all (λ (z : PredId). z.0 < length p.preds) qs q.0 members_below q.1))
