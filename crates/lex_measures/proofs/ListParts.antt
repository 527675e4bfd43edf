-- The printed lists have their shape: those of components are as they were found, and others are zeros.
use Rattle.std.proofs.Common.{◌≡◌, ℕ, zero, suc, ◌+◌, ◌-◌, ◌<◌, ◌≤◌, ℤ, Bool, true, false, if◌then◌else◌, List, [], ◌∷◌, length, map, slice_get, Some, Option, refl, ap, sym, subst, ◌∙◌, arith}
use Rattle.std.specs.Prelude.{unwrap_or}
use Rattle.std.specs.List.{AllByRecursion}
use Rattle.std.proofs.lemmas.List.{length-map}
use Rattle.call_components.specs.Partition.{AreComponents, IsIn, Partition}
use Rattle.cert_assembly.proofs.ModeLaws.{there}
use Rattle.cert_assembly.proofs.PartShapes.{all_mapped, all_weaker, in_contains, level_is, list_is, measure_there, measured, part_is, unmapped, zero_is, zeros_zero}
use Rattle.cert_assembly.proofs.SetParts.{listed_at, mapped_at, mapped_count}
use Rattle.cert_assembly.specs.Parted.{part_or_zero, zero_part}
use Rattle.cert_assembly.specs.Ranges.{IsPartBelow}
use Rattle.cert_checker.specs.Proved.{IsZero}
use Rattle.cert_structure.specs.Shape as shape
use Rattle.cert_structure.specs.Shape.{arity_in, first_of, is_recursive, items_of}
use Rattle.cti_terms.specs.Listing.{IsProgram, Listing}
use Rattle.cti_terms.specs.Tree.{Tree}
use Rattle.fact_reading.specs.Numbered.{AreEach, EachFrom}
use Rattle.level_systems.specs.Mappings.{HasMeasures, level_in}
use Rattle.level_systems.specs.declared.measure.Measure.{Measure}
use Rattle.lex_certificate.specs.Flat.{union_part, united, united_coefficients}
use Rattle.lex_certificate.specs.Shape.{AreLists, lengths_of}
use Rattle.lex_turns.specs.FoundLists.{AreFoundLists, IsDescendingList}
use Rattle.lex_turns.specs.declared.found_lists.FoundLists.{FoundLists}
use Rattle.lex_turns.specs.declared.measure_list.MeasureList.{MeasureList}
use Rattle.linear_rows.specs.Members.{In}
use Rattle.linear_rows.specs.declared.row.Rows.{Rows}
use Rattle.number_tests.specs.Shape.{IsLevelPart, list_at}
use Rattle.number_tests.specs.declared.level_part.LevelPart.{LevelPart}
use Rattle.precond_fixpoint.specs.Solving.{AreLevels}
use Rattle.termination_model.proofs.Lists.{by_places, indexed, place_below}
use Rattle.termination_model.specs.mappings.ComponentViews.{members_in}
use Rattle.termination_model.specs.sizes.Sizes.{rows_of}
use Rattle.lex_measures.proofs.ComponentLaws.{answer_at, arity_there, first_in, in_some, member_below, recursive_at}
use Rattle.lex_measures.specs.Assembly.{AreFound}
use Rattle.lex_measures.specs.Lists.{list_of, lists_at, lists_of_component, nothing, printed_at, printed_lists}

-- ---- items by their numbers
eachs_from : {X : Type 0} (P : ℕ → X → Type 0) (k : ℕ) (xs : List X) → ((i : ℕ) (x : X) → slice_get xs i ≡ Some x → P (k + i) x) → EachFrom k P xs
eachs_from P k [] h = tt
eachs_from P k (x ∷ xs) h =
    let here : k + 0 ≡ k = omega arith in
    (subst (λ (n : ℕ). P n x) here (h 0 x refl), eachs_from P (suc k) xs (λ i y e. subst (λ (n : ℕ). P n y) (next k i) (h (suc i) y e)))
  where
    next : (k i : ℕ) → k + suc i ≡ suc k + i
    next k i = omega arith

pub are_each : {X : Type 0} (n : ℕ) (P : ℕ → X → Type 0) (xs : List X) → length xs ≡ n → ((i : ℕ) (x : X) → slice_get xs i ≡ Some x → P i x) → AreEach n P xs
are_each n P xs count h = record {
  count = count;
  each = eachs_from P 0 xs (λ i x e. let same : i ≡ 0 + i = omega arith in subst (λ (k : ℕ). P k x) same (h i x e));
}

-- ---- unions
wide_united : (n : ℕ) (xs ys : List ℤ) → length xs ≡ n → length ys ≡ n → length (united xs ys) ≡ n
wide_united n [] ys h k = k
wide_united n (x ∷ xs) [] h k = h
wide_united n (x ∷ xs) (y ∷ ys) h k = ap suc (wide_united (n - 1) xs ys (omega (arith, h)) (omega (arith, k))) ∙ omega (arith, h)

wide_one : (xs : List ℤ) → length (united xs []) ≡ length xs
wide_one [] = refl
wide_one (x ∷ xs) = refl

-- a union of parts of this many coefficients has as many
wide_union : (n : ℕ) (ls : List LevelPart) → 1 ≤ length ls → AllByRecursion (IsLevelPart n) ls → length (united_coefficients ls) ≡ n
wide_union n [] some h = absurd (omega (arith, some))
wide_union n (l ∷ []) some h = wide_one l.coeffs ∙ h.0.each
wide_union n (l ∷ (k ∷ ls)) some h = wide_united n l.coeffs (united_coefficients (k ∷ ls)) h.0.each (wide_union n (k ∷ ls) (omega arith) h.1)

pub union_items : (lists : List (List (List LevelPart))) (q : ℕ) → items_of (map (map union_part) lists) q ≡ map union_part (items_of lists q)
union_items [] q = refl
union_items (own ∷ lists) zero = refl
union_items (own ∷ lists) (suc q) = union_items lists q

-- ---- lengths
lengths_mapped : (n q : ℕ) (ls : List MeasureList) → map length (map (list_of n q) ls) ≡ map (λ (l : MeasureList). length l.measures) ls
lengths_mapped n q [] = refl
lengths_mapped n q (l ∷ ls) = λ i. length-map l.measures (λ (ms : List Measure). part_or_zero n (level_in ms q)) i ∷ lengths_mapped n q ls i

module _ (expression : ℕ → Tree → List ℤ) (p : Listing) (comps : Partition) (rows : List Rows) (found : List FoundLists)
    (program : IsProgram p) (components : AreComponents p comps) (founds : AreFound expression p comps rows found) where
  abbrev n : ℕ
  n = length p.preds

  abbrev lists : List (List (List LevelPart))
  lists = printed_lists p comps found

  pub found_at : (c q : ℕ) → IsIn comps c q → (f : FoundLists) × (slice_get found c ≡ Some f)
  found_at c q inside = let below = components.within c q inside in let each = founds.each in there found c (omega arith)

  pub lists_are : (c q : ℕ) (f : FoundLists) → IsIn comps c q → slice_get found c ≡ Some f → lists_at comps found q ≡ f.lists
  lists_are c q f inside e = ap (lists_of_component found) inside ∙ ap (λ (o : Option FoundLists). (unwrap_or o nothing).lists) e

  pub printed_is : (q : ℕ) → q < n → items_of lists q ≡ printed_at p comps found q
  printed_is q less = listed_at (printed_at p comps found) n q less

  printed_flat : (q : ℕ) → is_recursive comps q ≡ false → printed_at p comps found q ≡ (zero_part (arity_in p q) ∷ []) ∷ []
  printed_flat q e = λ i. if e i then map (list_of (arity_in p q) q) (lists_at comps found q) else (zero_part (arity_in p q) ∷ []) ∷ []

  pub printed_deep : (c q : ℕ) (f : FoundLists) → IsIn comps c q → slice_get found c ≡ Some f → is_recursive comps q ≡ true → printed_at p comps found q ≡ map (list_of (arity_in p q) q) f.lists
  printed_deep c q f inside at e =
      let ls = lists_are c q f inside at in
      λ i. if e i then map (list_of (arity_in p q) q) (ls i) else (zero_part (arity_in p q) ∷ []) ∷ []

  pub found_is : (c q : ℕ) (f : FoundLists) → IsIn comps c q → slice_get found c ≡ Some f → is_recursive comps q ≡ true → AreFoundLists expression p comps (rows_of rows) c f
  found_is c q f inside at e = founds.are c f at (answer_at p comps program components c q true inside e)

  -- a member has a part in each measure of its component
  pub level_there : (c q : ℕ) (ms : List Measure) → IsIn comps c q → HasMeasures p (members_in comps c) ms → (l : LevelPart) × (level_in ms q ≡ Some l)
  level_there c q ms inside has =
      let (members, row) = there comps.members c (components.within c q inside) in
      let member = in_contains members q ((components.members c members row q).1 inside) in
      let all : members_in comps c ≡ members = indexed comps.members c members [] row in
      measure_there ms q (subst (In q) (sym (has.each ∙ all)) member)

  list_is_natural : (c q : ℕ) (l : MeasureList) → IsDescendingList expression p comps (rows_of rows) c l → AllByRecursion (IsLevelPart (arity_in p q)) (list_of (arity_in p q) q l)
  list_is_natural c q l il =
      all_mapped (IsLevelPart (arity_in p q)) (λ (ms : List Measure). part_or_zero (arity_in p q) (level_in ms q)) l.measures
      (all_weaker (HasMeasures p (members_in comps c)) (λ (ms : List Measure). IsLevelPart (arity_in p q) (part_or_zero (arity_in p q) (level_in ms q)))
      (λ ms im. part_is (arity_in p q) (level_in ms q) (λ l el. measured (λ (x : ℕ) (l : LevelPart). IsLevelPart (arity_in p x) l) ms q l im.parts el)) l.measures il.measures)

  -- what a list of a predicate has
  abbrev IsList : ℕ → List LevelPart → Type 0
  IsList q ls = (1 ≤ length ls) × AllByRecursion (IsLevelPart (arity_in p q)) ls

  lists_are_natural : (q : ℕ) → q < n → AllByRecursion (IsList q) (printed_at p comps found q)
  lists_are_natural q less = go (is_recursive comps q) refl
    where
      go : (b : Bool) → is_recursive comps q ≡ b → AllByRecursion (IsList q) (printed_at p comps found q)
      go false e = subst (AllByRecursion (IsList q)) (sym (printed_flat q e)) ((omega arith, (zero_is (arity_in p q), tt)), tt)
      go true e =
          let (c, inside) = in_some p comps program components q less in
          let (f, at) = found_at c q inside in
          let is = found_is c q f inside at e in
          subst (AllByRecursion (IsList q)) (sym (printed_deep c q f inside at e))
          (all_mapped (IsList q) (list_of (arity_in p q) q) f.lists
          (all_weaker (IsDescendingList expression p comps (rows_of rows) c) (λ (l : MeasureList). IsList q (list_of (arity_in p q) q l))
          (λ l il. (subst (λ (k : ℕ). 1 ≤ k) (sym (length-map l.measures (λ (ms : List Measure). part_or_zero (arity_in p q) (level_in ms q)))) il.some, list_is_natural c q l il)) f.lists is.lists))

  -- ---- the lengths of lists
  lengths_flat : (q : ℕ) → q < n → is_recursive comps q ≡ false → map length (items_of lists q) ≡ 1 ∷ []
  lengths_flat q less e = ap (map length) (printed_is q less ∙ printed_flat q e)

  lengths_deep : (c q : ℕ) (f : FoundLists) → IsIn comps c q → slice_get found c ≡ Some f → is_recursive comps q ≡ true → map length (items_of lists q) ≡ map (λ (l : MeasureList). length l.measures) f.lists
  lengths_deep c q f inside at e = ap (map length) (printed_is q (member_below p comps program components c q inside) ∙ printed_deep c q f inside at e) ∙ lengths_mapped (arity_in p q) q f.lists

  same_lengths : (c a b : ℕ) → IsIn comps c a → IsIn comps c b → map length (items_of lists a) ≡ map length (items_of lists b)
  same_lengths c a b ia ib = go (is_recursive comps a) refl
    where
      go : (t : Bool) → is_recursive comps a ≡ t → map length (items_of lists a) ≡ map length (items_of lists b)
      go false e =
          lengths_flat a (member_below p comps program components c a ia) e
          ∙ sym (lengths_flat b (member_below p comps program components c b ib) (recursive_at p comps program components c b false ib (answer_at p comps program components c a false ia e)))
      go true e =
          let (f, at) = found_at c a ia in
          lengths_deep c a f ia at e ∙ sym (lengths_deep c b f ib at (recursive_at p comps program components c b true ib (answer_at p comps program components c a true ia e)))

  same_count : (c a b : ℕ) → IsIn comps c a → IsIn comps c b → length (items_of lists a) ≡ length (items_of lists b)
  same_count c a b ia ib = sym (length-map (items_of lists a) length) ∙ ap length (same_lengths c a b ia ib) ∙ length-map (items_of lists b) length

  pub lengths_are : (q : ℕ) → q < n → map length (items_of lists q) ≡ lengths_of comps lists q
  lengths_are q less = go (is_recursive comps q) refl
    where
      inside : (c : ℕ) × IsIn comps c q
      inside = in_some p comps program components q less

      go : (b : Bool) → is_recursive comps q ≡ b → map length (items_of lists q) ≡ (if b then map length (items_of lists (first_of comps q)) else 1 ∷ [])
      go false e = lengths_flat q less e
      go true e = let (m, first, im) = first_in p comps program components inside.0 q inside.1 in same_lengths inside.0 q m inside.1 im ∙ ap (λ x. map length (items_of lists x)) (sym first)

  -- ---- as mappings
  pub levels_are : AreLevels p comps (map (map union_part) lists)
  levels_are = record {
    parts = record {
      each = length-map lists (map union_part) ∙ mapped_count (printed_at p comps found) n;
      wide = λ q m x part e at.
          let less = place_below p.preds q x e in
          let (ls, els, same) = unmapped union_part (items_of lists q) m part (ap (λ (xs : List LevelPart). slice_get xs m) (sym (union_items lists q)) ∙ at) in
          let own : slice_get (printed_at p comps found q) m ≡ Some ls = ap (λ (xs : List (List LevelPart)). slice_get xs m) (sym (printed_is q less)) ∙ els in
          let is = by_places (IsList q) (printed_at p comps found q) (lists_are_natural q less) m ls own in
          ap (λ (l : LevelPart). length l.coeffs) (sym same) ∙ wide_union (arity_in p q) ls is.0 is.1 ∙ arity_there p comps program components q x e;
    };
    together = λ c a b ia ib.
        ap length (union_items lists a) ∙ length-map (items_of lists a) union_part ∙ same_count c a b ia ib ∙ sym (length-map (items_of lists b) union_part) ∙ sym (ap length (union_items lists b));
  }

  -- ---- their shape
  module _ (below : AllByRecursion (AllByRecursion (AllByRecursion IsPartBelow)) lists) where
    lists_at_place : (q : ℕ) (own : List (List LevelPart)) → slice_get lists q ≡ Some own → (q < n) × (printed_at p comps found q ≡ own)
    lists_at_place q own e =
        let l = place_below lists q own e in
        let count = mapped_count (printed_at p comps found) n in
        let less : q < n = omega arith in
        let at = mapped_at (printed_at p comps found) n q less in
        (less, let same : printed_at p comps found q ≡ own = cc in same)

    both : (k : ℕ) (ls : List LevelPart) → AllByRecursion (IsLevelPart k) ls → AllByRecursion IsPartBelow ls → AllByRecursion (shape.IsLevel k) ls
    both k [] h b = tt
    both k (l ∷ ls) h b = (level_is k l h.0 b.0, both k ls h.1 b.1)

    all_both : (q : ℕ) (own : List (List LevelPart)) → AllByRecursion (IsList q) own → AllByRecursion (AllByRecursion IsPartBelow) own → AllByRecursion (AllByRecursion (shape.IsLevel (arity_in p q))) own
    all_both q [] h b = tt
    all_both q (ls ∷ own) h b = (both (arity_in p q) ls h.0.1 b.0, all_both q own h.1 b.1)

    list_shape : (q : ℕ) (own : List (List LevelPart)) → slice_get lists q ≡ Some own → AreLists (arity_in p q) (lengths_of comps lists q) own
    list_shape q own e =
        let (less, same) = lists_at_place q own e in
        let lengths : map length own ≡ lengths_of comps lists q = ap (map length) (sym same ∙ sym (printed_is q less)) ∙ lengths_are q less in
        let are = subst (AllByRecursion (IsList q)) same (lists_are_natural q less) in
        record {
          each = lengths;
          some = subst (AllByRecursion (λ (k : ℕ). 1 ≤ k)) lengths (all_mapped (λ (k : ℕ). 1 ≤ k) length own (all_weaker (IsList q) (λ (ls : List LevelPart). 1 ≤ length ls) (λ ls is. is.0) own are));
          levels = all_both q own are (by_places (AllByRecursion (AllByRecursion IsPartBelow)) lists below q own e);
        }

    pub lists_shape : AreEach (length p.preds) (λ a. AreLists (arity_in p a) (lengths_of comps lists a)) lists
    lists_shape = are_each n (λ a. AreLists (arity_in p a) (lengths_of comps lists a)) lists (mapped_count (printed_at p comps found) n) list_shape

  pub lists_zero : (c q : ℕ) → IsIn comps c q → slice_get comps.recursive c ≡ Some false → AllByRecursion (AllByRecursion IsZero) (list_at lists q)
  lists_zero c q inside e =
      let flat = recursive_at p comps program components c q false inside e in
      subst (AllByRecursion (AllByRecursion IsZero)) (sym (printed_flat q flat) ∙ sym (printed_is q (member_below p comps program components c q inside)) ∙ list_is lists q) (((refl, zeros_zero (arity_in p q)), tt), tt)
