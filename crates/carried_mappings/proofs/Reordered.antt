-- What was found of a component's mappings, where the component stands with its members in another order.
use Rattle.std.proofs.Common.{◌≡◌, ℕ, suc, ◌<◌, ◌≤◌, ◌==◌, ◌⊎◌, ℤ, Bool, true, false, if◌then◌else◌, inl, inr, List, [], ◌∷◌, map, length, slice_get, slice_index_or, Option, None, Some, refl, ap, sym, subst, ◌∙◌, eq-eqb, eqb-true}
use Rattle.std.specs.Prelude.{◌↔◌, IsTrue, option_map}
use Rattle.std.specs.List.{AllByRecursion}
use Rattle.call_components.specs.Partition.{Partition}
use Rattle.cti_terms.specs.Listing.{Listing}
use Rattle.cti_terms.specs.Tree.{Tree}
use Rattle.linear_rows.specs.Members.{In}
use Rattle.linear_rows.specs.Step.{columns}
use Rattle.linear_rows.proofs.Members.{in-map, of-map}
use Rattle.number_tests.specs.Levels.{natural_coefficients, natural_offset}
use Rattle.number_tests.specs.Shape.{IsLevelPart}
use Rattle.number_tests.specs.declared.level_part.LevelPart.{LevelPart}
use Rattle.number_tests.specs.declared.refutation.Refutation.{Refutation}
use Rattle.termination_model.specs.chains.Chain.{clauses_of}
use Rattle.termination_model.specs.mappings.ComponentViews.{HasSupportIn, component_view, members_in, positions_in, rank_in}
use Rattle.termination_model.specs.mappings.Excluding.{IsZeroOutside}
use Rattle.termination_model.specs.grounds.Minimal.{IsAbove, IsExcluded, IsMinimal, IsSet}
use Rattle.termination_model.specs.grounds.Modes.{chosen_up_to}
use Rattle.termination_model.specs.mappings.OwnCalls.{Position}
use Rattle.termination_model.specs.mappings.Ready.{arity_in}
use Rattle.termination_model.specs.mappings.Refutation.{Decreases}
use Rattle.termination_model.specs.mappings.Supports.{HasSupport, support_from}
use Rattle.termination_model.specs.mappings.View.{Rule}
use Rattle.termination_model.proofs.ChainSieves.{all_of, of_all}
use Rattle.termination_model.proofs.Lists.{indexed}
use Rattle.termination_model.proofs.Sets.{of_part, to_part}
use Rattle.level_systems.specs.Found.{IsBlownSet, IsFound, IsLarge, IsRefutationOf, IsSmall, supports, without_number}
use Rattle.level_systems.specs.Mappings.{IsFall, IsMappingOf, level_in, mapping_with, support_of}
use Rattle.level_systems.specs.Subsequences.{AreOnce, IsSubsequence}
use Rattle.level_systems.specs.declared.fall.Fall.{Fall}
use Rattle.level_systems.specs.declared.found.Found.{Found}
use Rattle.level_systems.specs.declared.mapping.Mapping.{Mapping}
use Rattle.level_systems.specs.declared.measure.Measure.{Measure}
use Rattle.level_dual.proofs.FoundCases.{full_is_set}
use Rattle.component_laws.specs.Mapped.{pulled}
use Rattle.component_laws.specs.Supported.{AreFrom}
use Rattle.component_laws.proofs.MappedLaws.{minimal_alike}
use Rattle.component_laws.proofs.SupportedLaws.{among, excluded_alike, within_alike}
use Rattle.solved_program.proofs.Clauses.{in_at}
use Rattle.carried_mappings.specs.Moved.{moved_fall, moved_refutation}
use Rattle.carried_mappings.specs.Reordered.{AreOldNumbers, ArePlaces, by_sets, no_measure, placed, renumbered, reordered_found, reordered_mapping, support_there}
use Rattle.carried_mappings.proofs.Alike.{AreAlike, Rowed}
use Rattle.carried_mappings.proofs.BySets.{by_sets_few, by_sets_order, in_by_sets, of_by_sets, once_map, once_part}
use Rattle.carried_mappings.proofs.MembersAlike.{AreMembersAlike}
use Rattle.carried_mappings.proofs.Numbers.{AreMoved, numbers_of}
use Rattle.carried_mappings.proofs.Parts.{at_there, blown_at, falling_there, falls_there, map_at, none_here, none_there, of_view, pairs_there, part_there, pulled_there, some_mapped}
use Rattle.carried_mappings.proofs.Renamed.{length_mapped, level_from, level_renamed, mapping_pulled, preds_of, renamed_measure}
use Rattle.carried_mappings.proofs.Renumbering.{HaveOlds, as_many, from_old, left_there, of_renumbered, olds_long, one_renumbered, part_back, picked_same, renumbered_full, renumbered_set, renumbered_without, support_is_set, support_renumbered}

-- ---- parts by predicate
level_some : (ys : List Measure) (r : ℕ) (part : LevelPart) → level_in ys r ≡ Some part → In (record { pred = record { 0 = r }; part = part }) ys
level_some [] r part e = cc
level_some (y ∷ ys) r part e = go (y.pred.0 == r) refl e (level_some ys r part)
  where
    go : (t : Bool) → (y.pred.0 == r) ≡ t → (if t then Some y.part else level_in ys r) ≡ Some part → (level_in ys r ≡ Some part → In (record { pred = record { 0 = r }; part = part }) ys)
        → In (record { pred = record { 0 = r }; part = part }) (y ∷ ys)
    go true is e more =
        let number : y.pred.0 ≡ r = eqb-true y.pred.0 r is in
        let same : y.part ≡ part = cc in
        inl (λ i. record { pred = record { 0 = number i }; part = same i })
    go false is e more = inr (more e)

level_absent : (ys : List Measure) (r : ℕ) → level_in ys r ≡ None → (y : Measure) → In y ys → y.pred.0 ≡ r → ⊥
level_absent [] r e y i n = i
level_absent (z ∷ ys) r e y i n = go (z.pred.0 == r) refl e i (level_absent ys r)
  where
    go : (t : Bool) → (z.pred.0 == r) ≡ t → (if t then Some z.part else level_in ys r) ≡ None → (z ≡ y) ⊎ In y ys → (level_in ys r ≡ None → (y : Measure) → In y ys → y.pred.0 ≡ r → ⊥) → ⊥
    go true is e j more = cc
    go false is e (inl same) more = let yes : (z.pred.0 == r) ≡ true = eq-eqb z.pred.0 r (ap (λ (x : Measure). x.pred.0) same ∙ n) in let no_one : false ≡ true = sym is ∙ yes in cc
    go false is e (inr j) more = more e y j n

level_only : (zs : List Measure) → AreOnce (preds_of zs) → (z : Measure) → In z zs → level_in zs z.pred.0 ≡ Some z.part
level_only [] once z i = absurd i
level_only (y ∷ zs) once z (inl e) = (λ i. if eq-eqb y.pred.0 z.pred.0 (ap (λ (x : Measure). x.pred.0) e) i then Some y.part else level_in zs z.pred.0) ∙ ap (λ (x : Measure). Some x.part) e
level_only (y ∷ zs) once z (inr i) = go (y.pred.0 == z.pred.0) refl (level_only zs once.1 z i)
  where
    go : (t : Bool) → (y.pred.0 == z.pred.0) ≡ t → level_in zs z.pred.0 ≡ Some z.part → (if t then Some y.part else level_in zs z.pred.0) ≡ Some z.part
    go true is more = absurd (once.0 (subst (λ (n : ℕ). In n (preds_of zs)) (sym (eqb-true y.pred.0 z.pred.0 is)) (in-map (λ (x : Measure). x.pred.0) zs z i)))
    go false is more = more

-- ---- parts in another order
module _ (p new : Listing) (comps new_comps : Partition) (b c : ℕ) (f back : ℕ → ℕ) (h : AreMembersAlike p new comps new_comps b c f back)
    (places : List ℕ) (are_places : ArePlaces p new (members_in comps b) (members_in new_comps c) places) where
  abbrev m : ℕ → Bool
  m q = rank_in comps q == b

  abbrev members : List ℕ
  members = members_in new_comps c

  pub preds_placed : (ms : List Measure) → preds_of (placed members places ms) ≡ members
  preds_placed ms = go members places are_places
    where
      go : (rs js : List ℕ) → ArePlaces p new (members_in comps b) rs js → preds_of (placed rs js ms) ≡ rs
      go [] [] a = refl
      go [] (j ∷ js) a = absurd a
      go (r ∷ rs) [] a = absurd a
      go (r ∷ rs) (j ∷ js) a = ap (λ zs. r ∷ zs) (go rs js a.1)

  module _ (ms : List Measure) (each : preds_of ms ≡ members_in comps b) where
    abbrev ys : List Measure
    ys = placed members places ms

    abbrev zs : List Measure
    zs = map (renamed_measure f) ms

    member_of : (x : Measure) → In x ms → m x.pred.0 ≡ true
    member_of x i = h.member x.pred.0 (subst (In x.pred.0) each (in-map (λ (y : Measure). y.pred.0) ms x i))

    -- each part there is one from here
    pub placed_from : (y : Measure) → In y ys → (x : Measure) × In x ms × (renamed_measure f x ≡ y)
    placed_from = go members places are_places
      where
        go : (rs js : List ℕ) → ArePlaces p new (members_in comps b) rs js → (y : Measure) → In y (placed rs js ms) → (x : Measure) × In x ms × (renamed_measure f x ≡ y)
        go [] js a y i = absurd i
        go (r ∷ rs) [] a y i = absurd i
        go (r ∷ rs) (j ∷ js) a y (inr i) = go rs js a.1 y i
        go (r ∷ rs) (j ∷ js) a y (inl e) =
            let from = map_at (λ (x : Measure). x.pred.0) ms j a.0.pred (ap (λ (qs : List ℕ). slice_get qs j) each ∙ a.0.at) in
            let x = from.0 in
            let own = in_at ms j x from.1 in
            let number : f x.pred.0 ≡ r = h.named x.pred.0 r (member_of x own) (ap (slice_get p.preds) from.2 ∙ a.0.named) in
            let part : x.part ≡ (slice_index_or ms j no_measure).part = ap (λ (z : Measure). z.part) (sym (indexed ms j x no_measure from.1)) in
            (x, own, (λ i. record { pred = record { 0 = number i }; part = part i }) ∙ e)

    -- so each predicate has the same part there as if members stood in order
    pub level_placed : (r : ℕ) → level_in ys r ≡ level_in zs r
    level_placed r = go (level_in ys r) (level_in zs r) refl refl
      where
        once : AreOnce (preds_of ms)
        once = subst AreOnce (sym each) h.once

        go : (o u : Option LevelPart) → level_in ys r ≡ o → level_in zs r ≡ u → o ≡ u
        go (Some part) u e g =
            let from = placed_from (record { pred = record { 0 = r }; part = part }) (level_some ys r part e) in
            let x = from.0 in
            let number : f x.pred.0 ≡ r = ap (λ (z : Measure). z.pred.0) from.2 in
            let same : x.part ≡ part = ap (λ (z : Measure). z.part) from.2 in
            ap Some (sym same) ∙ sym (level_only ms once x from.1) ∙ sym (level_renamed f m h.apart ms member_of x.pred.0 (member_of x from.1)) ∙ ap (level_in zs) number ∙ g
        go None None e g = refl
        go None (Some part) e g =
            let q = level_from f m h.apart ms member_of r part g in
            let listed : In r members = subst (λ (z : ℕ). In z members) q.2 (h.listed q.0 q.1) in
            let y = of-map (λ (z : Measure). z.pred.0) ys r (subst (In r) (sym (preds_placed ms)) listed) in
            absurd (level_absent ys r e y.0 y.1 y.2)

    pub mapping_placed : mapping_with ys ≡ mapping_with zs
    mapping_placed = λ i. record { coefficients = λ q. natural_coefficients (level_placed q i); offset = λ q. natural_offset (level_placed q i) }

    -- the part of a member, by its name and arity
    pub level_named : (q r : ℕ) → m q ≡ true → slice_get p.preds q ≡ slice_get new.preds r → level_in ys r ≡ level_in ms q
    level_named q r is e = level_placed r ∙ ap (level_in zs) (sym (h.named q r is e)) ∙ level_renamed f m h.apart ms member_of q is

  -- ---- supports in another order
  module _ (olds : List ℕ) (are_olds : AreOldNumbers p new (positions_in p comps b) (positions_in new new_comps c) olds) where
    abbrev ps : List Position
    ps = positions_in p comps b

    abbrev ns : List Position
    ns = positions_in new new_comps c

    have_olds : HaveOlds f ps ns olds
    have_olds = go ns olds are_olds
      where
        go : (xs : List Position) (os : List ℕ) → AreOldNumbers p new ps xs os → HaveOlds f ps xs os
        go [] [] a = tt
        go [] (n ∷ os) a = absurd a
        go (x ∷ xs) [] a = absurd a
        go (x ∷ xs) (n ∷ os) a =
            let o = a.0 in
            let number : f o.at.0 ≡ x.0 = h.named o.at.0 x.0 (h.own_positions o.at (among 1 ps n o.at o.number)) o.named in
            let argument = o.argument in
            ((o.at, o.number, (λ i. (number i, argument i))), go xs os a.1)

    pub long : length olds ≡ length ns
    long = olds_long f m h.apart ps ns h.positions h.distinct h.new_distinct olds have_olds

    pub support_is : (ms : List Measure) → preds_of ms ≡ members_in comps b → support_from 1 ns (mapping_with (placed members places ms)) ≡ renumbered olds (support_from 1 ps (mapping_with ms))
    support_is ms each =
        ap (support_from 1 ns) (mapping_placed ms each)
        ∙ support_renumbered f m h.apart ps ns h.positions h.distinct h.new_distinct olds have_olds (mapping_with (map (renamed_measure f) ms))
        ∙ ap (λ z. renumbered olds (support_from 1 ps z)) (mapping_pulled f m h.apart ms (member_of ms each))

module _ (p new : Listing) (comps new_comps : Partition) (b c : ℕ) (rows new_rows : Rowed) (f back : ℕ → ℕ) (h : AreAlike p new comps new_comps b c rows new_rows f back)
    (g : ℕ → ℕ) (moves : AreMoved g (numbers_of (clauses_of p comps b)) (numbers_of (clauses_of new new_comps c))) (expression : ℕ → Tree → List ℤ)
    (places : List ℕ) (are_places : ArePlaces p new (members_in comps b) (members_in new_comps c) places)
    (olds : List ℕ) (are_olds : AreOldNumbers p new (positions_in p comps b) (positions_in new new_comps c) olds) where
  abbrev am : ℕ → Bool
  am q = rank_in comps q == b

  abbrev us : List Position
  us = positions_in p comps b

  abbrev vs : List Position
  vs = positions_in new new_comps c

  abbrev rs : List ℕ
  rs = members_in new_comps c

  abbrev view : List Rule
  view = component_view expression p comps rows b

  abbrev new_view : List Rule
  new_view = component_view expression new new_comps new_rows c

  abbrev here_had : List ℕ → Type 0
  here_had = HasSupportIn expression p comps rows b

  abbrev there_had : List ℕ → Type 0
  there_had = HasSupportIn expression new new_comps new_rows c

  olds_are : HaveOlds f us vs olds
  olds_are = have_olds p new comps new_comps b c f back h.all places are_places olds are_olds

  levels : (ms : List Measure) → preds_of ms ≡ members_in comps b → (r : ℕ) → level_in (placed rs places ms) r ≡ level_in (map (renamed_measure f) ms) r
  levels ms each = level_placed p new comps new_comps b c f back h.all places are_places ms each

  mapping_is : (ms : List Measure) → preds_of ms ≡ members_in comps b → mapping_with (placed rs places ms) ≡ mapping_with (map (renamed_measure f) ms)
  mapping_is ms each = mapping_placed p new comps new_comps b c f back h.all places are_places ms each

  -- ---- mappings
  fall_alike : (ks ms : List Measure) → ((r : ℕ) → level_in ks r ≡ level_in ms r) → (x : Fall) → IsFall expression new new_rows ms x → IsFall expression new new_rows ks x
  fall_alike ks ms e x old k a head call at_k at_a at_head at_call = old k a head call at_k at_a (sym (e k.head.pred.0) ∙ at_head) (sym (e a.pred.0) ∙ at_call)

  mapping_there : (x : Mapping) → IsMappingOf expression p rows comps b x → IsMappingOf expression new new_rows new_comps c (reordered_mapping g rs places x)
  mapping_there x old =
      let ms = x.measures in
      let each = old.measures.each in
      record {
        measures = record {
          each = preds_placed p new comps new_comps b c f back h.all places are_places ms;
          parts = all_of (λ (y : Measure). IsLevelPart (arity_in new y.pred.0) y.part) (placed rs places ms) (λ y i.
              let from = placed_from p new comps new_comps b c f back h.all places are_places ms each y i in
              subst (λ (z : Measure). IsLevelPart (arity_in new z.pred.0) z.part) from.2
              (part_there p new comps new_comps b c rows new_rows f back h g moves expression ms old.measures from.0 from.1));
        };
        pairs = pairs_there p new comps new_comps b c rows new_rows f back h g moves expression x.falls old.pairs;
        falls = all_of (IsFall expression new new_rows (placed rs places ms)) (map (moved_fall g) x.falls) (λ y i.
            fall_alike (placed rs places ms) (map (renamed_measure f) ms) (levels ms each) y
            (of_all (IsFall expression new new_rows (map (renamed_measure f) ms)) (map (moved_fall g) x.falls) y
            (falls_there p new comps new_comps b c rows new_rows f back h g moves expression ms each x.falls old.pairs old.falls) i));
      }

  pulled_is : (ms : List Measure) → preds_of ms ≡ members_in comps b → pulled f am (mapping_with (placed rs places ms)) ≡ mapping_with ms
  pulled_is ms each = ap (pulled f am) (mapping_is ms each) ∙ pulled_there p new comps new_comps b c rows new_rows f back h g moves expression ms each

  at_placed : (ms : List Measure) → preds_of ms ≡ members_in comps b → IsZeroOutside us (mapping_with ms) → IsZeroOutside vs (mapping_with (placed rs places ms))
  at_placed ms each at = subst (IsZeroOutside vs) (sym (mapping_is ms each)) (at_there p new comps new_comps b c rows new_rows f back h g moves expression ms each at)

  falling_placed : (ms : List Measure) → preds_of ms ≡ members_in comps b → Decreases expression view (mapping_with ms) → Decreases expression new_view (mapping_with (placed rs places ms))
  falling_placed ms each falls = subst (Decreases expression new_view) (sym (mapping_is ms each)) (falling_there p new comps new_comps b c rows new_rows f back h g moves expression ms each falls)

  counts : length vs ≡ length us
  counts = as_many f am h.all.apart us vs h.all.positions h.all.distinct h.all.new_distinct olds olds_are

  longs : length olds ≡ length vs
  longs = olds_long f am h.all.apart us vs h.all.positions h.all.distinct h.all.new_distinct olds olds_are

  -- ---- what is found
  module _ (x : Found) (old : IsFound expression p comps rows b x) where
    abbrev there : Mapping → Mapping
    there = reordered_mapping g rs places

    abbrev set_of : Mapping → List ℕ
    set_of = support_there us olds

    abbrev chosen_mappings : List Mapping
    chosen_mappings = by_sets (length olds) set_of x.mappings

    abbrev new_x : Found
    new_x = reordered_found g rs places us olds x

    each_at : (y : Mapping) → In y x.mappings → preds_of y.measures ≡ members_in comps b
    each_at y i = (of_all (IsMappingOf expression p rows comps b) x.mappings y old.mappings i).measures.each

    -- a mapping there, from one here
    from_here : (y : Mapping) → In y (map there chosen_mappings) → (z : Mapping) × In z x.mappings × (there z ≡ y)
    from_here y i = let z = of-map there chosen_mappings y i in (z.0, of_by_sets (length olds) set_of x.mappings z.0 z.1, z.2)

    to_there : (z : Mapping) → In z x.mappings → In (there z) (map there chosen_mappings)
    to_there z i = in-map there chosen_mappings z (in_by_sets (length olds) set_of x.mappings (λ y j. renumbered_set olds (support_of us y)) z i)

    each_there : (P Q : Mapping → Type 0) → ((y : Mapping) → In y x.mappings → P y → Q (there y)) → AllByRecursion P x.mappings → AllByRecursion Q (map there chosen_mappings)
    each_there P Q to all = all_of Q (map there chosen_mappings) (λ y i.
        let z = from_here y i in
        subst Q z.2 (to z.0 z.1 (of_all P x.mappings z.0 all z.1)))

    abbrev found_supports : List (List ℕ)
    found_supports = supports expression p comps rows b x

    abbrev new_supports : List (List ℕ)
    new_supports = supports expression new new_comps new_rows c new_x

    support_of_there : (z : Mapping) → In z x.mappings → support_of vs (there z) ≡ renumbered olds (support_of us z)
    support_of_there z i = support_is p new comps new_comps b c f back h.all places are_places olds are_olds z.measures (each_at z i)

    -- supports there are those here under their new numbers
    record IsOfSupport (t : List ℕ) : Type 0 where
      pub mapping : Mapping
      pub own : In mapping x.mappings
      pub is : support_of vs (there mapping) ≡ t
      pub from : renumbered olds (support_of us mapping) ≡ t

    of_support : (t : List ℕ) → In t new_supports → IsOfSupport t
    of_support t i =
        let y = of-map (support_of vs) (map there chosen_mappings) t i in
        let z = from_here y.0 y.1 in
        let is : support_of vs (there z.0) ≡ t = ap (support_of vs) z.2 ∙ y.2 in
        record { mapping = z.0; own = z.1; is = is; from = sym (support_of_there z.0 z.1) ∙ is }

    to_support : (z : Mapping) → In z x.mappings → In (renumbered olds (support_of us z)) new_supports
    to_support z i = subst (λ (t : List ℕ). In t new_supports) (support_of_there z i) (in-map (support_of vs) (map there chosen_mappings) (there z) (to_there z i))

    had_placed : (z : Mapping) → In z x.mappings → there_had (support_of vs (there z))
    had_placed z i = record {
      mapping = mapping_with (placed rs places z.measures);
      at = at_placed z.measures (each_at z i) (of_all (λ (y : Mapping). IsZeroOutside us (mapping_with y.measures)) x.mappings z old.at i);
      decreases = falling_placed z.measures (each_at z i) (of_all (λ (y : Mapping). Decreases expression view (mapping_with y.measures)) x.mappings z old.falling i);
      is = refl;
    }

    had_there : (t : List ℕ) → In t new_supports → there_had t
    had_there t i = let z = of_support t i in subst there_had z.is (had_placed z.mapping z.own)

    supports_from : AreFrom f us vs found_supports new_supports
    supports_from s i =
        let z = of-map (support_of us) x.mappings s i in
        (renumbered olds s, subst (λ (t : List ℕ). In (renumbered olds t) new_supports) z.2 (to_support z.0 z.1), from_old f am h.all.apart us vs h.all.positions h.all.distinct h.all.new_distinct olds olds_are s)

    blown_from : AreFrom f us vs x.blown (map (renumbered olds) x.blown)
    blown_from s i = (renumbered olds s, in-map (renumbered olds) x.blown s i, from_old f am h.all.apart us vs h.all.positions h.all.distinct h.all.new_distinct olds olds_are s)

    -- ---- few positions
    minimal_there : ((s : List ℕ) → In s found_supports → IsMinimal here_had s) → (t : List ℕ) → In t new_supports → IsMinimal there_had t
    unfolding had_placed
    minimal_there min t i =
        let z = of_support t i in
        let y = z.mapping in
        let l = mapping_with (placed rs places y.measures) in
        let had = had_placed y z.own in
        let old_min : IsMinimal here_had (support_from 1 us (pulled f am l)) =
        subst (λ k. IsMinimal here_had (support_from 1 us k)) (sym (pulled_is y.measures (each_at y z.own))) (min (support_of us y) (in-map (support_of us) x.mappings y z.own)) in
        let there_min = minimal_alike expression f am view us vs h.all.apart (h.rules expression) h.all.positions l had.at (subst (λ (k : List Rule). Decreases expression k l) (h.view expression) had.decreases) old_min in
        subst (IsMinimal there_had) z.is (subst (λ (k : List Rule). IsMinimal (HasSupport expression k vs) (support_from 1 vs l)) (sym (h.view expression)) there_min)

    sets_there : (y : Mapping) → In y x.mappings → IsSet 1 (suc (length olds)) (set_of y)
    sets_there y i = renumbered_set olds (support_of us y)

    supports_once : IsSubsequence found_supports (chosen_up_to (length us) (length us)) → AreOnce (map set_of x.mappings)
    supports_once order = subst AreOnce (twice x.mappings) (once_map (renumbered olds) found_supports apart_sets (once_part (length us) found_supports order))
      where
        twice : (ys : List Mapping) → map (renumbered olds) (map (support_of us) ys) ≡ map set_of ys
        twice [] = refl
        twice (y ∷ ys) = ap (λ zs. set_of y ∷ zs) (twice ys)

        set_at : (s : List ℕ) → In s found_supports → IsSet 1 (suc (length us)) s
        set_at s i = let z = of-map (support_of us) x.mappings s i in subst (IsSet 1 (suc (length us))) z.2 (support_is_set f am h.all.apart us vs h.all.positions h.all.distinct h.all.new_distinct olds olds_are (mapping_with z.0.measures))

        apart_sets : (s t : List ℕ) → In s found_supports → In t found_supports → renumbered olds s ≡ renumbered olds t → s ≡ t
        apart_sets s t i j e = one_renumbered f am h.all.apart us vs h.all.positions h.all.distinct h.all.new_distinct olds olds_are s t (set_at s i) (set_at t j) e

    order_there : IsSubsequence found_supports (chosen_up_to (length us) (length us)) → IsSubsequence new_supports (chosen_up_to (length vs) (length vs))
    order_there order =
        subst (λ (n : ℕ). IsSubsequence new_supports (chosen_up_to n n)) longs
        (subst (λ (z : List (List ℕ)). IsSubsequence z (chosen_up_to (length olds) (length olds))) (sym (same chosen_mappings (λ y i. of_by_sets (length olds) set_of x.mappings y i)))
        (by_sets_order (length olds) set_of x.mappings sets_there (supports_once order)))
      where
        same : (ys : List Mapping) → ((y : Mapping) → In y ys → In y x.mappings) → map (support_of vs) (map there ys) ≡ map set_of ys
        same [] all = refl
        same (y ∷ ys) all = let first = support_of_there y (all y (inl refl)) in let more = same ys (λ z i. all z (inr i)) in λ i. first i ∷ more i

    small_there : IsSmall expression p comps rows b x → IsSmall expression new new_comps new_rows c new_x
    small_there s = record {
      minimal = minimal_there s.minimal;
      within = λ t has. within_alike expression f am view us vs h.all.apart (h.rules expression) h.all.positions found_supports x.blown new_supports (map (renumbered olds) x.blown) supports_from blown_from s.within t
          (of_view p new comps new_comps b c rows new_rows f back h g moves expression t has);
      order = order_there s.order;
    }

    -- ---- many positions
    full_same : renumbered olds (columns 1 (length us)) ≡ columns 1 (length vs)
    full_same = renumbered_full f am h.all.apart us vs h.all.positions h.all.distinct h.all.new_distinct olds olds_are

    full_there : In (columns 1 (length us)) x.blown → In (columns 1 (length vs)) (map (renumbered olds) x.blown)
    full_there i = subst (λ (t : List ℕ). In t (map (renumbered olds) x.blown)) full_same (in-map (renumbered olds) x.blown (columns 1 (length us)) i)

    full_here : In (columns 1 (length vs)) (map (renumbered olds) x.blown) → In (columns 1 (length us)) x.blown
    full_here i =
        let s = of-map (renumbered olds) x.blown (columns 1 (length vs)) i in
        let same : s.0 ≡ columns 1 (length us) = one_renumbered f am h.all.apart us vs h.all.positions h.all.distinct h.all.new_distinct olds olds_are s.0 (columns 1 (length us)) (old.sets s.0 s.1) (full_is_set (length us)) (s.2 ∙ sym full_same) in
        subst (λ (t : List ℕ). In t x.blown) same s.1

    excluded_there : (s : List ℕ) → IsExcluded here_had s → IsExcluded there_had (renumbered olds s)
    excluded_there s out u part has =
        excluded_alike expression f am view us vs h.all.apart (h.rules expression) h.all.positions h.all.distinct s (renumbered olds s)
        (from_old f am h.all.apart us vs h.all.positions h.all.distinct h.all.new_distinct olds olds_are s) out u part (of_view p new comps new_comps b c rows new_rows f back h g moves expression u has)

    needed_there : ((s : List ℕ) → In s found_supports → (n : ℕ) → In n s → In (without_number n s) x.blown ⊎ IsExcluded here_had (without_number n s))
        → (t : List ℕ) → In t new_supports → (k : ℕ) → In k t → In (without_number k t) (map (renumbered olds) x.blown) ⊎ IsExcluded there_had (without_number k t)
    needed_there needed t i k j =
        let z = of_support t i in
        let s = support_of us z.mapping in
        let n = of_renumbered 1 olds s k (subst (In k) (sym z.from) j) in
        let same : renumbered olds (without_number n.0 s) ≡ without_number k t =
        renumbered_without f am h.all.apart us vs h.all.positions h.all.distinct h.all.new_distinct olds olds_are s k n.0 n.1 ∙ ap (without_number k) z.from in
        elim (needed s (in-map (support_of us) x.mappings z.mapping z.own) n.0 n.2) [
          | inl given_up ↦ inl (subst (λ (u : List ℕ). In u (map (renumbered olds) x.blown)) same (in-map (renumbered olds) x.blown (without_number n.0 s) given_up))
          | inr out ↦ inr (subst (IsExcluded there_had) same (excluded_there (without_number n.0 s) out))
        ]

    -- a set that was given up leaves out the position there that it left out here, under its new number
    left_out_there : ((s : List ℕ) → In s found_supports → (u : List ℕ) → In u x.blown → (n : ℕ) × In n s × (u ≡ without_number n s))
        → (t : List ℕ) → In t new_supports → (u : List ℕ) → In u (map (renumbered olds) x.blown) → (k : ℕ) × In k t × (u ≡ without_number k t)
    left_out_there left t i u j =
        let z = of_support t i in
        let s = support_of us z.mapping in
        let v = of-map (renumbered olds) x.blown u j in
        let n = left s (in-map (support_of us) x.mappings z.mapping z.own) v.0 v.1 in
        let k = left_there f am h.all.apart us vs h.all.positions h.all.distinct h.all.new_distinct olds olds_are s
        (support_is_set f am h.all.apart us vs h.all.positions h.all.distinct h.all.new_distinct olds olds_are (mapping_with z.mapping.measures)) n.0 n.1 in
        (k.0, subst (In k.0) z.from k.1, sym v.2 ∙ ap (renumbered olds) n.2 ∙ k.2 ∙ ap (without_number k.0) z.from)

    large_there : IsLarge expression p comps rows b x → IsLarge expression new new_comps new_rows c new_x
    large_there s =
        let same : chosen_mappings ≡ x.mappings = by_sets_few (length olds) set_of x.mappings s.few in
        let long : length (map there chosen_mappings) ≡ length x.mappings = length_mapped there chosen_mappings ∙ ap length same in
        record {
          few = subst (λ (n : ℕ). n ≤ 1) (sym long) s.few;
          decreases = had_there;
          needed = needed_there s.needed;
          left_out = left_out_there s.left_out;
          decided = elim s.decided [
            | inl some ↦ inl (subst (λ (n : ℕ). 1 ≤ n) (sym long) some)
            | inr (inl refuted) ↦ inr (inl ((some_mapped (moved_refutation g) x.refutation).1 refuted))
            | inr (inr blown) ↦ inr (inr (full_there blown))
          ];
        }

    apart_there : (t : List ℕ) → In t (map (renumbered olds) x.blown) → IsAbove new_supports t → ⊥
    apart_there t i above =
        let s = of-map (renumbered olds) x.blown t i in
        let z = of_support above.0 above.1 in
        let u = support_of us z.mapping in
        let part = to_part above.0 t above.2 in
        let inside = part_back f am h.all.apart us vs h.all.positions h.all.distinct h.all.new_distinct olds olds_are u s.0
        (support_is_set f am h.all.apart us vs h.all.positions h.all.distinct h.all.new_distinct olds olds_are (mapping_with z.mapping.measures))
        (λ k j. subst (In k) (sym s.2) (part k (subst (In k) z.from j))) in
        old.apart s.0 s.1 (u, in-map (support_of us) x.mappings z.mapping z.own, of_part u s.0 inside)

    pub found_reordered : ((r : Refutation) → x.refutation ≡ Some r → IsRefutationOf expression new new_comps new_rows c (moved_refutation g r)) → IsFound expression new new_comps new_rows c new_x
    found_reordered shown = record {
      large = subst (λ (n : ℕ). IsTrue x.large ↔ (12 < n)) (sym counts) old.large;
      mappings = each_there (IsMappingOf expression p rows comps b) (IsMappingOf expression new new_rows new_comps c) (λ y i is. mapping_there y is) old.mappings;
      at = each_there (λ (z : Mapping). IsZeroOutside us (mapping_with z.measures)) (λ (z : Mapping). IsZeroOutside vs (mapping_with z.measures)) (λ y i at. at_placed y.measures (each_at y i) at) old.at;
      falling = each_there (λ (z : Mapping). Decreases expression view (mapping_with z.measures)) (λ (z : Mapping). Decreases expression new_view (mapping_with z.measures))
          (λ y i falls. falling_placed y.measures (each_at y i) falls) old.falling;
      small = λ e. small_there (old.small e);
      more = λ e. large_there (old.more e);
      refuted = (
        λ some.
            let no_had = old.refuted.0 ((some_mapped (moved_refutation g) x.refutation).0 some) in
            (none_there p new comps new_comps b c rows new_rows f back h g moves expression no_had.0, λ i. no_had.1 (full_here i)),
        λ none. (some_mapped (moved_refutation g) x.refutation).1 (old.refuted.1 (none_here p new comps new_comps b c rows new_rows f back h g moves expression none.0, λ i. none.1 (full_there i))),
      );
      shown = λ r e. from_some x.refutation shown r e;
      sets = λ t i. let s = of-map (renumbered olds) x.blown t i in subst (λ (n : ℕ). IsSet 1 (suc n) t) longs (subst (IsSet 1 (suc (length olds))) s.2 (renumbered_set olds s.0));
      given_up = λ t i.
          let s = of-map (renumbered olds) x.blown t i in
          subst (IsBlownSet expression new new_comps new_rows c) s.2
          (blown_at p new comps new_comps b c rows new_rows f back h g moves expression s.0 (renumbered olds s.0)
          (picked_same f am h.all.apart us vs h.all.positions h.all.distinct h.all.new_distinct olds olds_are s.0) (old.given_up s.0 s.1));
      once = once_map (renumbered olds) x.blown (λ s t i j e. one_renumbered f am h.all.apart us vs h.all.positions h.all.distinct h.all.new_distinct olds olds_are s t (old.sets s i) (old.sets t j) e) old.once;
      apart = apart_there;
    }
      where
        from_some : (o : Option Refutation) → ((r : Refutation) → o ≡ Some r → IsRefutationOf expression new new_comps new_rows c (moved_refutation g r)) → (r : Refutation) → option_map (moved_refutation g) o ≡ Some r → IsRefutationOf expression new new_comps new_rows c r
        from_some None all r e = cc
        from_some (Some z) all r e = let is : moved_refutation g z ≡ r = cc in subst (IsRefutationOf expression new new_comps new_rows c) is (all z refl)
