-- A component of which no note says that the search for lists was given up has its best modes.
use Rattle.std.proofs.Common.{◌≡◌, ℕ, zero, suc, ◌+◌, ◌<◌, ◌≤◌, ◌||◌, ℤ, pos, Bool, true, false, IsTrue, if◌then◌else◌, List, [], ◌∷◌, ◌⊎◌, inl, inr, length, map, nat_lt, slice_get, Some, Option, refl, ap, sym, subst, ◌∙◌, arith}
use Rattle.std.specs.List.{AllByRecursion, flat_map}
use Rattle.std.proofs.lemmas.Bool.Decides.{nat_tests}
use Rattle.std.proofs.lemmas.Bool.{or_cases, or_left, or_right}
use Rattle.std.proofs.lemmas.List.{length-map}
use Rattle.call_components.specs.Partition.{AreComponents, IsIn, Partition}
use Rattle.cert_assembly.proofs.BestModes.{Covers, IsCovered, Keeps, best_modes, some_weaker}
use Rattle.cert_assembly.proofs.ModeLaws.{item_is, of_member, there}
use Rattle.cert_assembly.proofs.PartShapes.{all_weaker, leads, list_is, measured, unmapped}
use Rattle.cert_assembly.proofs.SetParts.{below_or, listed_past}
use Rattle.cert_assembly.proofs.SetSteps.{first_there, in_if, in_rest, not_first}
use Rattle.cert_assembly.specs.ExactModes.{AreCounted, admitted_by, is_member}
use Rattle.cert_assembly.specs.Leading.{led_by}
use Rattle.cert_checker.proofs.Bounded.{naturals_are}
use Rattle.cert_structure.specs.Order.{pred_text}
use Rattle.cert_structure.specs.Shape.{arity_in, first_of, is_recursive, items_of}
use Rattle.cti_terms.specs.Listing.{IsProgram, Listing}
use Rattle.cti_terms.specs.Tree.{truth}
use Rattle.cti_terms.specs.declared.predicates.Pred.{Pred}
use Rattle.level_systems.specs.Mappings.{HasMeasures, level_in, mapping_with}
use Rattle.level_systems.specs.declared.measure.Measure.{Measure}
use Rattle.lex_certificate.specs.Flat.{flat, union_part, united, united_coefficients}
use Rattle.lex_certificate.specs.Order.{drop_facts, ground_facts, level_facts, listed, mode_facts, pre_facts, proof_facts, size_facts, stuck_facts}
use Rattle.lex_certificate.specs.Shape.{HaveShape}
use Rattle.lex_certificate.specs.declared.fact.LexFact.{LexFact}
use Rattle.lex_certificate.specs.declared.fact.LexFact.TheVariants as lex
use Rattle.lex_certificate.specs.declared.parts.LexParts.{LexParts}
use Rattle.lex_checker.proofs.Shapes.{has, have_lists}
use Rattle.lex_turns.proofs.ListSupports.{list_set}
use Rattle.lex_turns.specs.FoundLists.{AreSmallLists, IsDescendingList, is_used, list_support_from, support_of_list}
use Rattle.lex_turns.specs.declared.found_lists.FoundLists.{FoundLists}
use Rattle.lex_turns.specs.declared.measure_list.MeasureList.{MeasureList}
use Rattle.linear_rows.proofs.Members.{in-flat_map, in-map, in-right}
use Rattle.linear_rows.specs.Members.{In}
use Rattle.linear_rows.specs.Step.{columns}
use Rattle.number_tests.specs.Levels.{coefficients_of, is_positive, natural, natural_coefficients, naturals}
use Rattle.number_tests.specs.Shape.{IsLevelPart, list_at}
use Rattle.number_tests.specs.declared.level_part.LevelPart.{LevelPart}
use Rattle.precond_fixpoint.specs.Greatest.{Solved, SomeSolved}
use Rattle.term_size.specs.Occurrences.{size_row}
use Rattle.termination_model.proofs.Lists.{by_places, mapped_place, place_below}
use Rattle.termination_model.proofs.Points.{in_columns}
use Rattle.termination_model.proofs.Sets.{Part, set_lower, to_part, within}
use Rattle.termination_model.specs.mappings.Coefficients.{IsSupported, coefficient}
use Rattle.termination_model.specs.claims.Claims.{Mapping}
use Rattle.termination_model.specs.mappings.ComponentViews.{members_in, positions_in}
use Rattle.termination_model.specs.mappings.Excluding.{IsZeroOutside}
use Rattle.termination_model.specs.grounds.Minimal.{IsSet}
use Rattle.termination_model.specs.grounds.Modes.{modes}
use Rattle.termination_model.specs.mappings.OwnCalls.{Position}
use Rattle.termination_model.specs.sizes.Sizes.{rows_of}
use Rattle.lex_measures.proofs.ComponentLaws.{answer_at, member_below}
use Rattle.lex_measures.proofs.ListParts.{union_items}
use Rattle.lex_measures.specs.Exact.{ComponentIsExact, IsExact, component_notes, note_at, note_if, noted, parts_in}
use Rattle.lex_measures.specs.Unnoted.{HaveEachSupport, IsSolvedList, UnnotedListsAreBest}

is_less : (n : ℕ) → 0 < n → nat_lt 0 n ≡ true
is_less n h = grind (arith, nat_tests)

less_is : (n : ℕ) → nat_lt 0 n ≡ true → 0 < n
less_is n h = grind (arith, nat_tests)

-- ---- positions that a list uses
supported_used : (ls : List Mapping) (r : Position) → IsSupported ls r.0 r.1 → is_used r ls ≡ true
supported_used [] r h = absurd h
supported_used (l ∷ ls) r (inl one) = or_left (nat_lt 0 (coefficient (l.coefficients r.0) r.1)) (is_used r ls) (is_less _ one)
supported_used (l ∷ ls) r (inr more) = or_right (nat_lt 0 (coefficient (l.coefficients r.0) r.1)) (is_used r ls) (supported_used ls r more)

used_supported : (ls : List Mapping) (r : Position) → is_used r ls ≡ true → IsSupported ls r.0 r.1
used_supported [] r h = cc
used_supported (l ∷ ls) r h = elim (or_cases (nat_lt 0 (coefficient (l.coefficients r.0) r.1)) (is_used r ls) h) [
  | inl one ↦ inl (less_is _ one)
  | inr more ↦ inr (used_supported ls r more)
]

supported_at : (positions : List Position) (ls : List Mapping) → AllByRecursion (IsZeroOutside positions) ls → (r i : ℕ) → IsSupported ls r i → In {X = Position} (r, i) positions
supported_at positions [] h r i s = absurd s
supported_at positions (l ∷ ls) h r i (inl one) = h.0 r i one
supported_at positions (l ∷ ls) h r i (inr more) = supported_at positions ls h.1 r i more

-- ---- supports
-- a list whose support is part of another's uses what that one uses
used_too : (ps : List Position) (i : ℕ) (ls ks : List Mapping) → Part (list_support_from i ps ls) (list_support_from i ps ks) → (r : Position) → In r ps → is_used r ls ≡ true → is_used r ks ≡ true
used_too [] i ls ks part r h u = absurd h
used_too (z ∷ ps) i ls ks part r (inl e) u =
    let one = ap (λ (y : Position). is_used y ls) e ∙ u in
    let there = part i (in_if (is_used z ls) i (list_support_from (suc i) ps ls) one) in
    let set = list_set ps ks (suc i) (suc i + length ps) refl in
    sym (ap (λ (y : Position). is_used y ks) e) ∙ first_there (is_used z ks) i (suc i + length ps) (list_support_from (suc i) ps ks) set there
used_too (z ∷ ps) i ls ks part r (inr h) u = used_too ps (suc i) ls ks tail r h u
  where
    tail : Part (list_support_from (suc i) ps ls) (list_support_from (suc i) ps ks)
    tail x j =
        let set = list_set ps ls (suc i) (suc i + length ps) refl in
        not_first (is_used z ks) i x (list_support_from (suc i) ps ks) (within (suc i) (suc i + length ps) (list_support_from (suc i) ps ls) set x j).0 (part x (in_rest (is_used z ls) i x (list_support_from (suc i) ps ls) j))

-- ---- unions
one_positive : (x y : ℤ) → 0 < natural (if is_positive x || is_positive y then pos 1 else pos 0) → (0 < natural x) ⊎ (0 < natural y)
one_positive x y h = go (is_positive x) refl (is_positive y) refl h
  where
    go : (a : Bool) → is_positive x ≡ a → (b : Bool) → is_positive y ≡ b → 0 < natural (if a || b then pos 1 else pos 0) → (0 < natural x) ⊎ (0 < natural y)
    go true ea b eb k = inl (less_is (natural x) ea)
    go false ea true eb k = inr (less_is (natural y) eb)
    go false ea false eb k = absurd (omega (arith, k))

left_positive : (x y : ℤ) → 0 < natural x → 0 < natural (if is_positive x || is_positive y then pos 1 else pos 0)
left_positive x y h = go (is_positive x) (is_positive y) (is_less (natural x) h)
  where
    go : (a b : Bool) → a ≡ true → 0 < natural (if a || b then pos 1 else pos 0)
    go true b e = omega arith
    go false b e = cc

right_positive : (x y : ℤ) → 0 < natural y → 0 < natural (if is_positive x || is_positive y then pos 1 else pos 0)
right_positive x y h = go (is_positive x) (is_positive y) (is_less (natural y) h)
  where
    go : (a b : Bool) → b ≡ true → 0 < natural (if a || b then pos 1 else pos 0)
    go true b e = omega arith
    go false true e = omega arith
    go false false e = cc

united_one : (xs ys : List ℤ) (i : ℕ) → 0 < coefficient (map natural (united xs ys)) i → (0 < coefficient (map natural xs) i) ⊎ (0 < coefficient (map natural ys) i)
united_one [] ys i h = inr h
united_one (x ∷ xs) [] i h = inl h
united_one (x ∷ xs) (y ∷ ys) zero h = one_positive x y h
united_one (x ∷ xs) (y ∷ ys) (suc i) h = united_one xs ys i h

united_left : (xs ys : List ℤ) (i : ℕ) → 0 < coefficient (map natural xs) i → 0 < coefficient (map natural (united xs ys)) i
united_left [] ys i h = absurd (omega (arith, h))
united_left (x ∷ xs) [] i h = h
united_left (x ∷ xs) (y ∷ ys) zero h = left_positive x y h
united_left (x ∷ xs) (y ∷ ys) (suc i) h = united_left xs ys i h

united_right : (xs ys : List ℤ) (i : ℕ) → 0 < coefficient (map natural ys) i → 0 < coefficient (map natural (united xs ys)) i
united_right [] ys i h = h
united_right (x ∷ xs) [] i h = absurd (omega (arith, h))
united_right (x ∷ xs) (y ∷ ys) zero h = right_positive x y h
united_right (x ∷ xs) (y ∷ ys) (suc i) h = united_right xs ys i h

-- ---- printed parts of a predicate, and the mappings that they are of
module _ (p : Listing) (members : List ℕ) (r : ℕ) where
  -- a printed part has the coefficients of its mapping
  same_coefficients : (ms : List Measure) (x : LevelPart) → HasMeasures p members ms → Some x ≡ level_in ms r → map natural x.coeffs ≡ (mapping_with ms).coefficients r
  same_coefficients ms x has e =
      let is = measured (λ (y : ℕ) (l : LevelPart). IsLevelPart (arity_in p y) l) ms r x has.parts (sym e) in
      sym (naturals_are x.coeffs is.naturals) ∙ ap natural_coefficients e

  union_supported : (own : List LevelPart) (mss : List (List Measure)) → map Some own ≡ map (λ (ms : List Measure). level_in ms r) mss → AllByRecursion (HasMeasures p members) mss
      → (i : ℕ) → 0 < coefficient (map natural (united_coefficients own)) i → IsSupported (map mapping_with mss) r i
  union_supported [] mss e has i h = absurd (omega (arith, h))
  union_supported (x ∷ own) [] e has i h = cc
  union_supported (x ∷ own) (ms ∷ mss) e has i h =
      let first : Some x ≡ level_in ms r = cc in
      let rest : map Some own ≡ map (λ (ms : List Measure). level_in ms r) mss = cc in
      elim (united_one x.coeffs (united_coefficients own) i h) [
        | inl one ↦ inl (subst (λ (cs : List ℕ). 0 < coefficient cs i) (same_coefficients ms x has.0 first) one)
        | inr more ↦ inr (union_supported own mss rest has.1 i more)
      ]

  supported_union : (own : List LevelPart) (mss : List (List Measure)) → map Some own ≡ map (λ (ms : List Measure). level_in ms r) mss → AllByRecursion (HasMeasures p members) mss
      → (i : ℕ) → IsSupported (map mapping_with mss) r i → 0 < coefficient (map natural (united_coefficients own)) i
  supported_union own [] e has i s = absurd s
  supported_union [] (ms ∷ mss) e has i s = cc
  supported_union (x ∷ own) (ms ∷ mss) e has i s =
      let first : Some x ≡ level_in ms r = cc in
      let rest : map Some own ≡ map (λ (ms : List Measure). level_in ms r) mss = cc in
      elim s [
        | inl one ↦ united_left x.coeffs (united_coefficients own) i (subst (λ (cs : List ℕ). 0 < coefficient cs i) (sym (same_coefficients ms x has.0 first)) one)
        | inr more ↦ united_right x.coeffs (united_coefficients own) i (supported_union own mss rest has.1 i more)
      ]

-- ---- how many lists parts have
module _ (p : Listing) (comps : Partition) (parts : LexParts) (components : AreComponents p comps) (have : HaveShape p comps parts) where
  -- there is one mapping for each list
  pub union_count : (q : ℕ) → length (items_of (map (map union_part) parts.lists) q) ≡ length (items_of parts.lists q)
  union_count q = ap length (union_items parts.lists q) ∙ length-map (items_of parts.lists q) union_part

  lists_together : (c a b : ℕ) → IsIn comps c a → IsIn comps c b → length (items_of parts.lists a) ≡ length (items_of parts.lists b)
  lists_together c a b ia ib =
      let lengths = (have_lists p comps parts have components).members a b (ia ∙ sym ib) in
      ap length (list_is parts.lists a) ∙ sym (length-map (list_at parts.lists a) length) ∙ ap length lengths ∙ length-map (list_at parts.lists b) length ∙ sym (ap length (list_is parts.lists b))

  list_counts : (q : ℕ) → length (items_of parts.preconditions q) ≡ length (items_of parts.lists q)
  list_counts q = elim (below_or q (length p.preds)) [
    | inl less ↦
        let count = have.preconditions.count in
        let own = there parts.preconditions q (omega arith) in
        ap length (item_is parts.preconditions q own.0 own.1) ∙ (has parts.preconditions have.preconditions q own.0 own.1).count
    | inr le ↦
        let sets = have.preconditions.count in
        let lists = have.lists.count in
        ap length (listed_past parts.preconditions q (omega arith)) ∙ sym (ap length (listed_past parts.lists q (omega arith)))
  ]

  pub shape_counted : AreCounted p comps (flat parts)
  shape_counted = record {
    modes = have.modes.count;
    grounds = have.grounds.count;
    preconditions = have.preconditions.count;
    together = λ c a b ia ib. list_counts a ∙ lists_together c a b ia ib ∙ sym (list_counts b);
    mappings = λ q. list_counts q ∙ sym (union_count q);
  }

-- ---- notes among facts
in_listed : (p : Listing) (names : List (List ℕ)) (parts : LexParts) (notes : List LexFact) (f : LexFact) → In f notes → In f (listed p names parts notes)
in_listed p names parts notes f i =
    inr
    (in-right (mode_facts p names parts.modes) _ f
    (in-right (size_facts p names parts.rows) _ f
    (in-right (proof_facts parts.row_proofs) _ f
    (in-right (ground_facts p names parts.grounds) _ f
    (in-right (level_facts p names parts.lists) _ f
    (in-right (drop_facts parts.drops) _ f
    (in-right (pre_facts p names parts.preconditions) _ f
    (in-right (stuck_facts p names parts.stuck) notes f i))))))))

note_there : (p : Listing) (names : List (List ℕ)) (comps : Partition) (found : ℕ → FoundLists) (c q : ℕ) → q < length p.preds → led_by comps q ≡ Some c
    → (s : List ℕ) (ss : List (List ℕ)) → (found c).blown ≡ s ∷ ss → In (lex.Blown (pred_text p names q)) (component_notes p names comps found)
note_there p names comps found c q less lead s ss e =
    let note = lex.Blown (pred_text p names q) in
    in-flat_map (λ k. note_at p names found k (led_by comps k)) (columns 0 (length p.preds)) q note (in_columns (length p.preds) 0 q (omega arith) (omega arith))
    (subst (λ (o : Option ℕ). In note (note_at p names found q o)) (sym lead) (subst (λ (b : List (List ℕ)). In note (note_if p names q b)) (sym e) (inl refl)))

-- ---- items by their places
in_mapped : {X Y : Type 0} (g : X → Y) (xs : List X) (y : Y) → In y (map g xs) → (i : ℕ) × (x : X) × (slice_get xs i ≡ Some x) × (g x ≡ y)
in_mapped g [] y h = absurd h
in_mapped g (x ∷ xs) y (inl e) = (0, x, refl, e)
in_mapped g (x ∷ xs) y (inr h) = let r = in_mapped g xs y h in (suc r.0, r.1, r.2, r.3)

place_in_list : {X : Type 0} (xs : List X) (i : ℕ) (x : X) → slice_get xs i ≡ Some x → In x xs
place_in_list [] i x e = cc
place_in_list (y ∷ xs) zero x e = inl (let same : y ≡ x = cc in same)
place_in_list (y ∷ xs) (suc i) x e = inr (place_in_list xs i x e)

-- ---- all together
module _ (p : Listing) (names : List (List ℕ)) (facts : List LexFact) (program : IsProgram p) (exact : IsExact p names facts) (c q : ℕ) (inside : IsIn exact.comps c q) (recursive : IsTrue (is_recursive exact.comps q))
    (first : first_of exact.comps q ≡ q) (few : length (positions_in p exact.comps c) ≤ 12) (unnoted : In (lex.Blown (pred_text p names q)) facts → ⊥) where
  abbrev comps : Partition
  comps = exact.comps

  abbrev parts : LexParts
  parts = exact.parts

  abbrev found : FoundLists
  found = exact.exact.found c

  abbrev places : List Position
  places = positions_in p exact.comps c

  is : ComponentIsExact p exact.comps exact.parts c (exact.exact.found c)
  is = exact.exact.components c (answer_at p exact.comps program exact.components c q true inside recursive)

  none_blown : (ss : List (List ℕ)) → found.blown ≡ ss → ss ≡ []
  none_blown [] e = refl
  none_blown (s ∷ ss) e =
      let less = member_below p comps program exact.components c q inside in
      let note = note_there p names comps exact.exact.found c q less (leads comps q c recursive first inside) s ss e in
      absurd (unnoted (subst (In (lex.Blown (pred_text p names q))) (sym exact.structured.is)
      (in_listed p names parts exact.structured.notes (lex.Blown (pred_text p names q))
      (subst (In (lex.Blown (pred_text p names q))) (sym exact.exact.are) (in-right (flat_map noted exact.exact.steps) (component_notes p names comps exact.exact.found) (lex.Blown (pred_text p names q)) note)))))

  not_large : found.large ≡ false
  not_large = go found.large refl
    where
      go : (b : Bool) → found.large ≡ b → b ≡ false
      go false e = refl
      go true e = let more = is.are_found.large.0 e in absurd (omega (arith, few, more))

  small : AreSmallLists size_row p comps (rows_of parts.rows) c found
  small = is.are_found.small not_large

  descends : (m : ℕ) (l : MeasureList) → slice_get found.lists m ≡ Some l → IsDescendingList size_row p comps (rows_of parts.rows) c l
  descends = by_places (IsDescendingList size_row p comps (rows_of parts.rows) c) found.lists is.are_found.lists

  -- the printed parts of a member are those of the list
  own_list : (r m : ℕ) (l : MeasureList) → IsIn comps c r → slice_get found.lists m ≡ Some l → (own : List LevelPart) × (slice_get (items_of parts.lists r) m ≡ Some own) × (map Some own ≡ parts_in r l)
  own_list r m l ir e =
      unmapped (map Some) (items_of parts.lists r) m (parts_in r l) (ap (λ (z : List (List (Option LevelPart))). slice_get z m) (is.lists r ir) ∙ mapped_place (parts_in r) found.lists m l e)

  coefficients_are : (r m : ℕ) (own : List LevelPart) → slice_get (items_of parts.lists r) m ≡ Some own → coefficients_of (map (map union_part) parts.lists) m r ≡ map natural (united_coefficients own)
  coefficients_are r m own e = ap naturals (ap (λ (z : List LevelPart). slice_get z m) (union_items parts.lists r) ∙ mapped_place union_part (items_of parts.lists r) m own e)

  printed_supported : (r i m : ℕ) (l : MeasureList) → IsIn comps c r → slice_get found.lists m ≡ Some l → 0 < coefficient (coefficients_of (map (map union_part) parts.lists) m r) i → IsSupported (map mapping_with l.measures) r i
  printed_supported r i m l ir e h =
      let (own, eo, same) = own_list r m l ir e in
      union_supported p (members_in comps c) r own l.measures same (descends m l e).measures i (subst (λ (cs : List ℕ). 0 < coefficient cs i) (coefficients_are r m own eo) h)

  supported_printed : (r i m : ℕ) (l : MeasureList) → IsIn comps c r → slice_get found.lists m ≡ Some l → IsSupported (map mapping_with l.measures) r i → 0 < coefficient (coefficients_of (map (map union_part) parts.lists) m r) i
  supported_printed r i m l ir e s =
      let (own, eo, same) = own_list r m l ir e in
      subst (λ (cs : List ℕ). 0 < coefficient cs i) (sym (coefficients_are r m own eo)) (supported_union p (members_in comps c) r own l.measures same (descends m l e).measures i s)

  -- how many lists a member has
  count_is : (r : ℕ) → IsIn comps c r → length (items_of (map (map union_part) parts.lists) r) ≡ length found.lists
  count_is r ir =
      union_count p comps parts exact.components exact.structured.shape r ∙ sym (length-map (items_of parts.lists r) (map Some)) ∙ ap length (is.lists r ir) ∙ length-map found.lists (parts_in r)

  counted : AreCounted p comps (flat parts)
  counted = shape_counted p comps parts exact.components exact.structured.shape

  member : (r : ℕ) → is_member comps c r ≡ true → IsIn comps c r
  member r h = of_member truth p program comps exact.components (flat parts) counted exact.exact.modes c r h

  -- some printed list lies within a list that descends
  covered : (r : ℕ) → IsIn comps c r → (n : Solved) → IsSolvedList p comps parts c n → IsCovered truth p comps (flat parts) program exact.components counted exact.exact.modes c r n
  covered r ir n solved = elim (small.within solved.support solved.has) [
    | inr (t, gone, part) ↦ absurd (subst (In t) (none_blown found.blown refl) gone)
    | inl (t, there_t, part) ↦
        let (m, l, e, same) = in_mapped (support_of_list places) found.lists t there_t in
        let count = count_is r ir in
        let below = place_below found.lists m l e in (
          m,
          omega (arith, count, below),
          λ r2 i in_c h.
              let sup = printed_supported r2 i m l (member r2 in_c) e h in
              let at = supported_at places (map mapping_with l.measures) (descends m l e).at r2 i sup in
              let whole : Part (list_support_from 1 places (map mapping_with l.measures)) (list_support_from 1 places solved.has.list) =
              subst (Part (list_support_from 1 places (map mapping_with l.measures))) (sym solved.has.is) (subst (λ (z : List ℕ). Part z solved.support) (sym same) (to_part t solved.support part)) in
              (solved.same r2 i in_c).1 (used_supported solved.has.list (r2, i) (used_too places 1 (map mapping_with l.measures) solved.has.list whole (r2, i) at (supported_used (map mapping_with l.measures) (r2, i) sup))),
        )
  ]

  -- a printed list has some of these lists within it
  covers : (r : ℕ) → IsIn comps c r → (ns : List Solved) → HaveEachSupport p comps parts c ns → (m : ℕ) → m < length (items_of (map (map union_part) parts.lists) r)
      → SomeSolved (Covers truth p comps (flat parts) program exact.components counted exact.exact.modes c m) ns
  covers r ir ns each m less =
      let count = count_is r ir in
      let (l, e) = there found.lists m (omega (arith, count, less)) in
      let s = support_of_list places l in
      let had = (small.minimal s (in-map (support_of_list places) found.lists l (place_in_list found.lists m l e))).had in
      some_weaker (λ (n : Solved). (solved : IsSolvedList p comps parts c n) × (solved.support ≡ s)) (Covers truth p comps (flat parts) program exact.components counted exact.exact.modes c m)
      (λ n h.
      let solved = h.0 in (
        solved.greatest,
        λ r2 i in_c positive.
            let sup = (solved.same r2 i in_c).0 positive in
            let at = supported_at places solved.has.list solved.has.at r2 i sup in
            let whole : Part (list_support_from 1 places solved.has.list) (list_support_from 1 places (map mapping_with l.measures)) =
            subst (λ (z : List ℕ). Part z s) (sym (solved.has.is ∙ h.1)) (λ x j. j) in
            supported_printed r2 i m l (member r2 in_c) e (used_supported (map mapping_with l.measures) (r2, i) (used_too places 1 solved.has.list (map mapping_with l.measures) whole (r2, i) at (supported_used solved.has.list (r2, i) sup))),
      )) ns (each s had)

  pub best : (r : ℕ) (d : Pred) → IsIn comps c r → slice_get p.preds r ≡ Some d
      → (ns : List Solved) → AllByRecursion (IsSolvedList p comps parts c) ns → HaveEachSupport p comps parts c ns
      → items_of parts.modes r ≡ modes d.arity (admitted_by ns r)
  best r d ir at ns all each =
      best_modes truth p comps (flat parts) program exact.components counted exact.exact.modes c r d ir at ns
      (all_weaker (IsSolvedList p comps parts c) (λ (n : Solved).
      Keeps truth p comps (flat parts) program exact.components counted exact.exact.modes c n × IsCovered truth p comps (flat parts) program exact.components counted exact.exact.modes c r n)
      (λ n solved. (solved.greatest.keeps, covered r ir n solved)) ns all)
      (covers r ir ns each)

pub unnoted_lists_are_best : UnnotedListsAreBest
unnoted_lists_are_best p names facts program exact c q inside recursive first few unnoted = best p names facts program exact c q inside recursive first few unnoted
