-- What is found of a component is exact.
use Rattle.std.proofs.Common.{◌≡◌, ◌≢◌, ℕ, zero, suc, ◌+◌, ◌<◌, ◌≤◌, ◌≤ℤ◌, ℤ, pos, negsuc, Bool, true, false, IsTrue, if◌then◌else◌, List, [], ◌∷◌, length, map, slice_get, unsigned_abs, Contains, Some, None, Option, inl, inr, refl, ap, sym, subst, ◌∙◌, arith, eq-eqb, eqb-true}
use Rattle.std.specs.Prelude.{All, option_map, unwrap_or}
use Rattle.std.proofs.lemmas.Int.{ints}
use Rattle.std.proofs.lemmas.List.Elements.{All-head, All-tail}
use Rattle.std.proofs.lemmas.List.{length-map}
use Rattle.call_components.specs.Partition.{AreComponents, IsIn, Partition}
use Rattle.cert_checker.specs.Claimed as claimed
use Rattle.cert_modes.specs.Modes.{coefficients_of, natural, naturals}
use Rattle.cert_structure.specs.Shape.{arity_in, first_of, is_recursive, items_of}
use Rattle.cert_structure.specs.declared.parts.Parts.{Parts}
use Rattle.cti_terms.specs.Listing.{IsProgram, Listing}
use Rattle.cti_terms.specs.Tree.{Tree}
use Rattle.level_systems.specs.Found.{IsFound}
use Rattle.level_systems.specs.Mappings as dual
use Rattle.level_systems.specs.Mappings.{IsMappingOf, level_in, mapping_with, support_of}
use Rattle.level_systems.specs.declared.found.Found.{Found}
use Rattle.level_systems.specs.declared.mapping.Mapping.{Mapping}
use Rattle.linear_rows.specs.Members.{In}
use Rattle.linear_rows.specs.Step.{columns}
use Rattle.number_tests.specs.Shape.{IsLevelPart}
use Rattle.number_tests.specs.declared.level_part.LevelPart.{LevelPart}
use Rattle.number_tests.specs.declared.refutation.Refutation.{Refutation}
use Rattle.termination_model.specs.chains.Chain.{is_number}
use Rattle.termination_model.proofs.Lists.{by_places, indexed, mapped_place, place_below}
use Rattle.termination_model.specs.mappings.ComponentViews.{members_in, positions_in}
use Rattle.termination_model.specs.mappings.Excluding.{IsZeroOutside}
use Rattle.termination_model.specs.grounds.Minimal.{IsAbove}
use Rattle.termination_model.specs.grounds.Modes.{chosen_up_to, is_part}
use Rattle.termination_model.specs.mappings.Refutation.{Decreases}
use Rattle.termination_model.specs.sizes.Sizes.{rows_of}
use Rattle.termination_model.specs.mappings.SupportLaws.{HasWidths}
use Rattle.report.proofs.Decreasing.{level_member, mapping_at, mapping_decreases}
use Rattle.termination_model.specs.mappings.Supports.{support_from}
use Rattle.level_systems.specs.Subsequences.{IsSubsequence}
use Rattle.cert_assembly.proofs.PartShapes.{list_is, measured, unmapped}
use Rattle.report.proofs.MappingParts.{answer_at, count_deep, found_at, level_there, levels_deep, levels_is, member_below, recursive_at}
use Rattle.cert_assembly.proofs.ModeLaws.{there}
use Rattle.cert_assembly.proofs.PartShapes.{led_parts, leads}
use Rattle.report.proofs.RefutedParts.{refuted_at}
use Rattle.cert_assembly.proofs.SetParts.{mapped_at}
use Rattle.report.specs.Exact.{ComponentIsExact, IsRefuted, LargeIsExact}
use Rattle.report.specs.ExactMappings.{MappingsAreExact, mapping_in, printed_support, view}
use Rattle.cert_assembly.specs.ExactModes.{is_member}
use Rattle.report.specs.Assembly.{AreFound}
use Rattle.report.specs.Levels.{given_up, level_list, refutation_list, refutation_of}
use Rattle.cert_assembly.specs.Parted.{part_or_zero}
use Rattle.cert_assembly.specs.Leading.{led_by}

-- ---- lists
in_mapped : {X Y : Type 0} (g : X → Y) (xs : List X) (i : ℕ) (x : X) → slice_get xs i ≡ Some x → In (g x) (map g xs)
in_mapped g [] i x e = cc
in_mapped g (y ∷ xs) zero x e = inl (let same : y ≡ x = cc in ap g same)
in_mapped g (y ∷ xs) (suc i) x e = inr (in_mapped g xs i x e)

of_mapped : {X Y : Type 0} (g : X → Y) (xs : List X) (y : Y) → In y (map g xs) → (i : ℕ) × (x : X) × (slice_get xs i ≡ Some x) × (g x ≡ y)
of_mapped g [] y h = absurd h
of_mapped g (x ∷ xs) y (inl e) = (0, x, refl, e)
of_mapped g (x ∷ xs) y (inr h) = let r = of_mapped g xs y h in (suc r.0, r.1, r.2, r.3)

listed_from : {X : Type 0} (f : ℕ → X) (k : ℕ) (xs : List X) → ((i : ℕ) (x : X) → slice_get xs i ≡ Some x → f (k + i) ≡ x) → map f (columns k (length xs)) ≡ xs
listed_from f k [] h = refl
listed_from f k (x ∷ xs) h =
    let here : k ≡ k + 0 = omega arith in
    let one = ap f here ∙ h 0 x refl in
    let rest = listed_from f (suc k) xs (λ i y e. let next : suc k + i ≡ k + suc i = omega arith in ap f next ∙ h (suc i) y e) in
    λ i. one i ∷ rest i

pub listed_all : {X : Type 0} (f : ℕ → X) (xs : List X) → ((i : ℕ) (x : X) → slice_get xs i ≡ Some x → f i ≡ x) → map f (columns 0 (length xs)) ≡ xs
listed_all f xs h = listed_from f 0 xs (λ i x e. let same : 0 + i ≡ i = omega arith in ap f same ∙ h i x e)

contains_in : (xs : List ℕ) (q : ℕ) → In q xs → Contains xs q
contains_in [] q h = absurd h
contains_in (x ∷ xs) q (inl e) = (0, omega arith, e)
contains_in (x ∷ xs) q (inr h) = let (k, less, e) = contains_in xs q h in (suc k, omega arith, e)

-- ---- numbers
natural_is : (z : ℤ) → pos 0 ≤ℤ z → natural z ≡ unsigned_abs z
natural_is (pos n) h = refl
natural_is (negsuc n) h = absurd (omega (arith, ints, h))

naturals_are : (zs : List ℤ) → All (λ z. pos 0 ≤ℤ z) zs → map natural zs ≡ map unsigned_abs zs
naturals_are [] h = refl
naturals_are (z ∷ zs) h =
    let one = natural_is z (All-head (λ z. pos 0 ≤ℤ z) z zs h) in
    let rest = naturals_are zs (All-tail (λ z. pos 0 ≤ℤ z) z zs h) in
    λ i. one i ∷ rest i

member_true : (comps : Partition) (c q : ℕ) → is_member comps c q ≡ true → IsIn comps c q
member_true comps c q h = go (slice_get comps.of q) refl h
  where
    go : (o : Option ℕ) → slice_get comps.of q ≡ o → is_number c o ≡ true → slice_get comps.of q ≡ Some c
    go None e k = cc
    go (Some d) e k = e ∙ ap Some (eqb-true d c k)

in_member : (comps : Partition) (c q : ℕ) → IsIn comps c q → is_member comps c q ≡ true
in_member comps c q h = ap (λ (o : Option ℕ). is_number c o) h ∙ eq-eqb c c refl

module _ (expression : ℕ → Tree → List ℤ) (p : Listing) (comps : Partition) (parts : Parts) (found : List Found)
    (program : IsProgram p) (components : AreComponents p comps) (founds : AreFound expression p comps parts.rows found) (widths : HasWidths expression)
    (levels_eq : parts.levels ≡ level_list p comps found) (refutations_eq : parts.refutations ≡ refutation_list p comps found)
    (c q : ℕ) (inside : IsIn comps c q) (recursive : is_recursive comps q ≡ true) (first : first_of comps q ≡ q)
    (f : Found) (at : slice_get found c ≡ Some f) where
  answer : slice_get comps.recursive c ≡ Some true
  answer = answer_at expression p comps parts.rows found program components founds c q true inside recursive

  is : IsFound expression p comps (rows_of parts.rows) c f
  is = founds.are c f at answer

  count : length (items_of parts.levels q) ≡ length f.mappings
  count = ap (λ (ls : List (List LevelPart)). length (items_of ls q)) levels_eq ∙ count_deep expression p comps parts.rows found program components founds c q f inside at recursive

  -- a member's part in a mapping
  part_at : (r m : ℕ) (mm : Mapping) → IsIn comps c r → slice_get f.mappings m ≡ Some mm → slice_get (items_of parts.levels r) m ≡ Some (part_or_zero (arity_in p r) (level_in mm.measures r))
  part_at r m mm ir em =
      let g = λ (m : Mapping). part_or_zero (arity_in p r) (level_in m.measures r) in
      let own = ap (λ (ls : List (List LevelPart)). items_of ls r) levels_eq ∙ levels_is expression p comps parts.rows found program components founds r (member_below expression p comps parts.rows found program components founds c r ir) ∙ levels_deep expression p comps parts.rows found program components founds c r f ir at (recursive_at expression p comps parts.rows found program components founds c r true ir answer) in
      ap (λ (ls : List LevelPart). slice_get ls m) own ∙ mapped_place g f.mappings m mm em

  none_outside : (r : ℕ) (mm : Mapping) → IsMappingOf expression p (rows_of parts.rows) comps c mm → is_member comps c r ≡ false → level_in mm.measures r ≡ None
  none_outside r mm im out = go (level_in mm.measures r) refl
    where
      go : (o : Option LevelPart) → level_in mm.measures r ≡ o → level_in mm.measures r ≡ None
      go None e = e
      go (Some l) e =
          let (ms, row) = there comps.members c (components.within c q inside) in
          let all : members_in comps c ≡ ms = indexed comps.members c ms [] row in
          let member = subst (In r) (im.measures.each ∙ all) (level_member mm.measures r l e) in
          let own = in_member comps c r ((components.members c ms row r).0 (contains_in ms r member)) in
          cc

  mapping_same : (m : ℕ) (mm : Mapping) → slice_get f.mappings m ≡ Some mm → mapping_in expression p comps parts c m ≡ mapping_with mm.measures
  mapping_same m mm em = λ i. record { coefficients = λ r. coefficients r i; offset = λ r. offsets r i }
    where
      im : IsMappingOf expression p (rows_of parts.rows) comps c mm
      im = by_places (IsMappingOf expression p (rows_of parts.rows) comps c) f.mappings is.mappings m mm em

      natural_parts : (r : ℕ) (l : LevelPart) → level_in mm.measures r ≡ Some l → map natural l.coeffs ≡ map unsigned_abs l.coeffs
      natural_parts r l e = naturals_are l.coeffs (measured (λ (x : ℕ) (l : LevelPart). IsLevelPart (arity_in p x) l) mm.measures r l im.measures.parts e).naturals

      coefficients : (r : ℕ) → (if is_member comps c r then coefficients_of parts.levels m r else []) ≡ dual.natural_coefficients (level_in mm.measures r)
      coefficients r = go (is_member comps c r) refl
        where
          go : (b : Bool) → is_member comps c r ≡ b → (if is_member comps c r then coefficients_of parts.levels m r else []) ≡ dual.natural_coefficients (level_in mm.measures r)
          go true e =
              let ir = member_true comps c r e in
              let (l, el) = level_there expression p comps parts.rows found program components founds c r mm ir im in
              (λ i. if e i then coefficients_of parts.levels m r else [])
              ∙ ap naturals (part_at r m mm ir em)
              ∙ ap (λ (o : Option LevelPart). naturals (Some (part_or_zero (arity_in p r) o))) el
              ∙ natural_parts r l el
              ∙ ap dual.natural_coefficients (sym el)
          go false e = (λ i. if e i then coefficients_of parts.levels m r else []) ∙ ap dual.natural_coefficients (sym (none_outside r mm im e))

      offsets : (r : ℕ) → (if is_member comps c r then (claimed.mapping_of parts m).offset r else 0) ≡ dual.natural_offset (level_in mm.measures r)
      offsets r = go (is_member comps c r) refl
        where
          go : (b : Bool) → is_member comps c r ≡ b → (if is_member comps c r then (claimed.mapping_of parts m).offset r else 0) ≡ dual.natural_offset (level_in mm.measures r)
          go true e =
              let ir = member_true comps c r e in
              let (l, el) = level_there expression p comps parts.rows found program components founds c r mm ir im in
              (λ i. if e i then (claimed.mapping_of parts m).offset r else 0)
              ∙ ap (λ (ls : List LevelPart). claimed.natural_offset (slice_get ls m)) (sym (list_is parts.levels r))
              ∙ ap claimed.natural_offset (part_at r m mm ir em)
              ∙ ap (λ (o : Option LevelPart). claimed.natural_offset (Some (part_or_zero (arity_in p r) o))) el
              ∙ ap dual.natural_offset (sym el)
          go false e = (λ i. if e i then (claimed.mapping_of parts m).offset r else 0) ∙ ap dual.natural_offset (sym (none_outside r mm im e))

  support_same : (m : ℕ) (mm : Mapping) → slice_get f.mappings m ≡ Some mm → printed_support expression p comps parts c m ≡ support_of (positions_in p comps c) mm
  support_same m mm em = ap (support_from 1 (positions_in p comps c)) (mapping_same m mm em)

  mapping_is : (m : ℕ) (mm : Mapping) → slice_get f.mappings m ≡ Some mm → IsMappingOf expression p (rows_of parts.rows) comps c mm
  mapping_is m mm em = by_places (IsMappingOf expression p (rows_of parts.rows) comps c) f.mappings is.mappings m mm em

  mapping_there : (m : ℕ) → m < length (items_of parts.levels q) → (mm : Mapping) × (slice_get f.mappings m ≡ Some mm)
  mapping_there m few = let same = count in there f.mappings m (omega arith)

  at_positions : (m : ℕ) → m < length (items_of parts.levels q) → IsZeroOutside (positions_in p comps c) (mapping_in expression p comps parts c m)
  at_positions m few = let (mm, em) = mapping_there m few in subst (IsZeroOutside (positions_in p comps c)) (sym (mapping_same m mm em)) (mapping_at expression p comps parts.rows found program components founds widths c mm (mapping_is m mm em))

  decreasing : (m : ℕ) → m < length (items_of parts.levels q) → Decreases expression (view expression p comps parts c) (mapping_in expression p comps parts c m)
  decreasing m few =
      let (mm, em) = mapping_there m few in
      subst (Decreases expression (view expression p comps parts c)) (sym (mapping_same m mm em))
      (mapping_decreases expression p comps parts.rows found program components founds widths c mm (components.within c q inside) (mapping_is m mm em))

  support_in : (m : ℕ) → m < length (items_of parts.levels q) → In (printed_support expression p comps parts c m) (map (support_of (positions_in p comps c)) f.mappings)
  support_in m few =
      let (mm, em) = mapping_there m few in
      subst (λ (s : List ℕ). In s (map (support_of (positions_in p comps c)) f.mappings)) (sym (support_same m mm em)) (in_mapped (support_of (positions_in p comps c)) f.mappings m mm em)

  supports_are : map (printed_support expression p comps parts c) (columns 0 (length (items_of parts.levels q))) ≡ map (support_of (positions_in p comps c)) f.mappings
  supports_are =
      ap (λ k. map (printed_support expression p comps parts c) (columns 0 k)) (count ∙ sym (length-map f.mappings (support_of (positions_in p comps c))))
      ∙ listed_all (printed_support expression p comps parts c) (map (support_of (positions_in p comps c)) f.mappings)
      (λ i s e. let (mm, em, same) = unmapped (support_of (positions_in p comps c)) f.mappings i s e in support_same i mm em ∙ same)

  is_small : length (positions_in p comps c) ≤ 12 → f.large ≡ false
  is_small few = go f.large refl
    where
      go : (b : Bool) → f.large ≡ b → f.large ≡ false
      go false e = e
      go true e = let more = is.large.0 e in absurd (omega arith)

  small_is : length (positions_in p comps c) ≤ 12 → MappingsAreExact expression p comps parts c q f.blown
  small_is few =
      let small = is.small (is_small few) in
      record {
        at = at_positions;
        decreases = decreasing;
        minimal = λ m less. small.minimal (printed_support expression p comps parts c m) (support_in m less);
        within = λ s has. elim (small.within s has) [
          | inl above ↦ inl (under s above)
          | inr above ↦ inr above
        ];
        order = subst (λ (ss : List (List ℕ)). IsSubsequence ss (chosen_up_to (length (positions_in p comps c)) (length (positions_in p comps c)))) (sym supports_are) small.order;
      }
    where
      under : (s : List ℕ) → IsAbove (map (support_of (positions_in p comps c)) f.mappings) s → (m : ℕ) × (m < length (items_of parts.levels q)) × (is_part (printed_support expression p comps parts c m) s ≡ true)
      under s (t, i, part) =
          let (m, mm, em, same) = of_mapped (support_of (positions_in p comps c)) f.mappings t i in
          let l = place_below f.mappings m mm em in
          let n = count in
          (m, omega arith, ap (λ (u : List ℕ). is_part u s) (support_same m mm em ∙ same) ∙ part)

  refuted_to : IsRefuted parts q → f.refutation ≢ None
  refuted_to (r, e) =
      let (less, d, g, lead, ag, er) = refuted_at expression p comps parts.rows found program components founds widths q r (ap (λ (rs : List (Option Refutation)). slice_get rs q) (sym refutations_eq) ∙ e) in
      let (deep, own, here) = led_parts comps q d lead in
      let same : d ≡ c = cc in
      let there_g : slice_get found c ≡ Some g = ap (slice_get found) (sym same) ∙ ag in
      let one : g ≡ f = cc in
      let er2 : f.refutation ≡ Some r = ap (λ (x : Found). x.refutation) (sym one) ∙ er in
      λ none. absurd (clash f.refutation r er2 none)
    where
      clash : (o : Option Refutation) (r : Refutation) → o ≡ Some r → o ≡ None → ⊥
      clash o r a b = cc

  refuted_from : f.refutation ≢ None → IsRefuted parts q
  refuted_from h = go f.refutation refl
    where
      go : (o : Option Refutation) → f.refutation ≡ o → IsRefuted parts q
      go None e = absurd (h e)
      go (Some r) e = (
        r,
        ap (λ (rs : List (Option Refutation)). slice_get rs q) refutations_eq
            ∙ mapped_at (λ q. refutation_of found (led_by comps q)) (length p.preds) q (member_below expression p comps parts.rows found program components founds c q inside)
            ∙ ap (λ (o : Option ℕ). Some (refutation_of found o)) (leads comps q c recursive first inside)
            ∙ ap (λ (o : Option Found). Some (unwrap_or (option_map (λ (x : Found). x.refutation) o) None)) at
            ∙ ap Some e,
      )

  large_is : 12 < length (positions_in p comps c) → LargeIsExact expression p comps parts c q f.blown
  large_is more =
      let large = is.more (is.large.1 more) in
      let n = count in
      record {
        few = let few = large.few in omega arith;
        at = at_positions;
        decreases = decreasing;
        decided = elim large.decided [
          | inl some ↦ inl (omega arith)
          | inr (inl r) ↦ inr (inl (refuted_from r))
          | inr (inr i) ↦ inr (inr i)
        ];
        needed = λ m i less h. large.needed (printed_support expression p comps parts c m) (support_in m less) i h;
        left_out = λ m less. large.left_out (printed_support expression p comps parts c m) (support_in m less);
      }

  component_is : ComponentIsExact expression p comps parts c q f.blown
  component_is = record {
    small = small_is;
    large = large_is;
    refuted = (λ r. is.refuted.0 (refuted_to r), λ h. refuted_from (is.refuted.1 h));
    sets = is.sets;
    once = is.once;
    apart = λ s i m few part. is.apart s i (printed_support expression p comps parts c m, support_in m few, part);
    given_up = is.given_up;
  }

-- each recursive component is exact
pub components_are_exact : (expression : ℕ → Tree → List ℤ) (p : Listing) (comps : Partition) (parts : Parts) (found : List Found)
    → IsProgram p → AreComponents p comps → AreFound expression p comps parts.rows found → HasWidths expression → parts.levels ≡ level_list p comps found → parts.refutations ≡ refutation_list p comps found
    → (c q : ℕ) → IsIn comps c q → IsTrue (is_recursive comps q) → first_of comps q ≡ q → ComponentIsExact expression p comps parts c q (given_up found c)
components_are_exact expression p comps parts found program components founds widths levels_eq refutations_eq c q inside recursive first =
    let (f, at) = found_at expression p comps parts.rows found program components founds c q inside in
    subst (ComponentIsExact expression p comps parts c q) (sym (ap (λ (o : Option Found). unwrap_or (option_map (λ (x : Found). x.blown) o) []) at))
    (component_is expression p comps parts found program components founds widths levels_eq refutations_eq c q inside recursive first f at)
