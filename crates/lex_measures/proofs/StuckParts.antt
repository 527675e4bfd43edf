-- The printed stuck sets have their shape, and refute.
use Rattle.std.proofs.Common.{◌≡◌, ℕ, ◌-◌, ◌<◌, ◌≤◌, ℤ, ◌&&◌, true, List, [], ◌∷◌, length, map, slice_get, Some, None, Option, refl, ap, sym, subst, ◌∙◌, arith}
use Rattle.std.specs.Prelude.{IfSome, unwrap_or}
use Rattle.std.specs.List.{AllByRecursion}
use Rattle.std.proofs.lemmas.List.{length-map}
use Rattle.call_components.specs.Partition.{AreComponents, IsIn, Partition}
use Rattle.cert_assembly.proofs.ModeLaws.{there}
use Rattle.cert_assembly.proofs.PartShapes.{is_some, led_parts, numbered_at, point_is, together_is}
use Rattle.cert_assembly.proofs.SetParts.{mapped_at, mapped_count}
use Rattle.cert_assembly.specs.Leading.{led_by}
use Rattle.cert_assembly.specs.Ranges.{IsPairBelow, IsRefutationBelow}
use Rattle.cert_structure.specs.Shape as shape
use Rattle.cert_structure.specs.Shape.{items_of}
use Rattle.cti_terms.specs.Listing.{IsProgram, Listing, numbered}
use Rattle.cti_terms.specs.Tree.{Tree}
use Rattle.cti_terms.specs.declared.atom_list.Atom.{Atom}
use Rattle.cti_terms.specs.declared.clauses.Clause.{Clause}
use Rattle.fact_reading.specs.Numbered.{AreEach}
use Rattle.level_systems.specs.Found.{HasSecondPoint, IsOwnPair}
use Rattle.level_systems.specs.Mappings.{mapping_with}
use Rattle.lex_certificate.specs.Shape.{IsStuckPoint, IsStuckSet}
use Rattle.lex_turns.specs.FoundLists.{AreFoundLists, HasList, IsDescendingList, support_of_list}
use Rattle.lex_turns.specs.declared.found_lists.FoundLists.{FoundLists}
use Rattle.lex_turns.specs.declared.measure_list.MeasureList.{MeasureList}
use Rattle.linear_rows.specs.declared.row.Rows.{Rows}
use Rattle.number_tests.specs.Refuting.{PointHolds, SumsRefute, atom_or_none, call_of, clause_of, clause_or_none}
use Rattle.number_tests.specs.Shape.{IsPairOf}
use Rattle.number_tests.specs.declared.level_part.LevelPart.{LevelPart}
use Rattle.number_tests.specs.declared.pair_point.PairPoint.{PairPoint}
use Rattle.number_tests.specs.declared.refutation.Refutation.{Refutation}
use Rattle.termination_model.proofs.Lists.{by_places, indexed, place_below}
use Rattle.termination_model.specs.mappings.ComponentViews.{members_in, positions_in}
use Rattle.termination_model.specs.sizes.Sizes.{rows_of}
use Rattle.lex_measures.proofs.ComponentLaws.{answer_at, member_below}
use Rattle.lex_measures.proofs.ListParts.{are_each, printed_deep, printed_is}
use Rattle.lex_measures.specs.Assembly.{AreFound}
use Rattle.lex_measures.specs.Lists.{list_of, nothing, printed_lists, printed_stuck, stuck_of}

-- what a stuck set is of
pub stuck_there : (found : List FoundLists) (o : Option ℕ) (r : Refutation) → stuck_of found o ≡ Some r → (c : ℕ) × (f : FoundLists) × (o ≡ Some c) × (slice_get found c ≡ Some f) × (f.refutation ≡ Some r)
stuck_there found None r e = cc
stuck_there found (Some c) r e = go (slice_get found c) refl e
  where
    go : (o : Option FoundLists) → slice_get found c ≡ o → (unwrap_or o nothing).refutation ≡ Some r → (d : ℕ) × (f : FoundLists) × (Some c ≡ Some d) × (slice_get found d ≡ Some f) × (f.refutation ≡ Some r)
    go None h k = cc
    go (Some f) h k = (c, f, refl, h, k)

module _ (expression : ℕ → Tree → List ℤ) (rows : ℕ → List (List ℤ)) (p : Listing) (comps : Partition) (c q : ℕ) (inside : IsIn comps c q) where
  pair_is : (x : PairPoint) → IsPairOf p x → IsOwnPair expression p comps rows c x → x.at ≡ None → IsPairBelow x → IsStuckPoint p comps q x
  pair_is x is own single below =
      let clause = numbered_at p.clauses x.clause is.clause is.first is.there in
      let (b, eb) = there is.clause.body (x.call - 1) (omega (arith, is.call, is.last)) in
      let call = numbered_at is.clause.body x.call b is.call eb in
      let same_clause : clause_of p x ≡ is.clause = ap clause_or_none is.there in
      let same_call : call_of p x ≡ b = ap (λ (d : Clause). atom_or_none (slice_get d.body (x.call - 1))) same_clause ∙ ap atom_or_none eb in
      let ih = subst (λ (d : Clause). IsIn comps c d.head.pred.0) same_clause own.head in
      let ib = subst (λ (d : Atom). IsIn comps c d.pred.0) same_call own.call in
      let vars = ap shape.vars_of clause in
      record {
        pair = ap (λ (o : Option Clause). shape.is_own_clause comps q x.call o) clause
            ∙ (λ i. together_is comps c q is.clause.head.pred.0 inside ih i && shape.is_own_call comps q (numbered is.clause.body x.call))
            ∙ ap (shape.is_own_call comps q) call
            ∙ together_is comps c q b.pred.0 inside ib;
        point = point_is (shape.vars_of (numbered p.clauses x.clause)) x.point (is.point ∙ sym vars) own.natural below.0;
        positive = subst (HasSecondPoint x.point.t) single own.second;
        single = single;
      }

  pairs_are : (xs : List PairPoint) → AllByRecursion (IsPairOf p) xs → AllByRecursion (IsOwnPair expression p comps rows c) xs → AllByRecursion (λ (x : PairPoint). x.at ≡ None) xs → AllByRecursion IsPairBelow xs
      → AllByRecursion (IsStuckPoint p comps q) xs
  pairs_are [] a b s d = tt
  pairs_are (x ∷ xs) a b s d = (pair_is x a.0 b.0 s.0 d.0, pairs_are xs a.1 b.1 s.1 d.1)

module _ (expression : ℕ → Tree → List ℤ) (p : Listing) (comps : Partition) (rows : List Rows) (found : List FoundLists)
    (program : IsProgram p) (components : AreComponents p comps) (founds : AreFound expression p comps rows found) where
  abbrev lists : List (List (List LevelPart))
  lists = printed_lists p comps found

  -- a list that is found is had
  has_of : (c : ℕ) (l : MeasureList) → IsDescendingList expression p comps (rows_of rows) c l → HasList expression p comps (rows_of rows) c (support_of_list (positions_in p comps c) l)
  has_of c l il = record {
    list = map mapping_with l.measures;
    some = subst (λ (k : ℕ). 1 ≤ k) (sym (length-map l.measures mapping_with)) il.some;
    at = il.at;
    descends = il.descends;
    is = refl;
  }

  none_found : (c : ℕ) (f : FoundLists) (r : Refutation) → AreFoundLists expression p comps (rows_of rows) c f → f.refutation ≡ Some r → f.lists ≡ []
  none_found c f r is e = go f.lists refl
    where
      go : (ls : List MeasureList) → f.lists ≡ ls → ls ≡ []
      go [] h = refl
      go (l ∷ ls) h =
          let il = by_places (IsDescendingList expression p comps (rows_of rows) c) f.lists is.lists 0 l (ap (λ (xs : List MeasureList). slice_get xs 0) h) in
          absurd ((is.stuck.0 (is_some f.refutation r e)).0 (support_of_list (positions_in p comps c) l) (has_of c l il))

  -- a listed stuck set, with the component that it is of
  stuck_at : (q : ℕ) (r : Refutation) → slice_get (printed_stuck p comps found) q ≡ Some (Some r)
      → (q < length p.preds) × (c : ℕ) × (f : FoundLists) × (led_by comps q ≡ Some c) × (slice_get found c ≡ Some f) × (f.refutation ≡ Some r)
  stuck_at q r e =
      let g = λ (q : ℕ). stuck_of found (led_by comps q) in
      let l = place_below (printed_stuck p comps found) q (Some r) e in
      let count = mapped_count g (length p.preds) in
      let less : q < length p.preds = omega arith in
      let at = mapped_at g (length p.preds) q less in
      let same : stuck_of found (led_by comps q) ≡ Some r = cc in
      let t = stuck_there found (led_by comps q) r same in
      (less, t.0, t.1, t.2, t.3, t.4)

  shown_at : (c q : ℕ) (f : FoundLists) → led_by comps q ≡ Some c → slice_get found c ≡ Some f → AreFoundLists expression p comps (rows_of rows) c f
  shown_at c q f lead at = let (recursive, first, inside) = led_parts comps q c lead in founds.are c f at (answer_at p comps program components c q true inside recursive)

  module _ (below : AllByRecursion (λ (o : Option Refutation). IfSome o IsRefutationBelow) (printed_stuck p comps found)) where
    stuck_is : (q : ℕ) (o : Option Refutation) → slice_get (printed_stuck p comps found) q ≡ Some o → IsStuckSet p comps lists q o
    stuck_is q None e = tt
    stuck_is q (Some r) e =
        let (less, c, f, lead, at, er) = stuck_at q r e in
        let (recursive, first, inside) = led_parts comps q c lead in
        let is = shown_at c q f lead at in
        let shown = is.shown r er in
        let none = none_found c f r is er in
        let own : items_of lists q ≡ [] =
        printed_is expression p comps rows found program components founds q (member_below p comps program components c q inside)
        ∙ printed_deep expression p comps rows found program components founds c q f inside at recursive ∙ ap (map (list_of (shape.arity_in p q) q)) none in
        let bel = by_places (λ (o : Option Refutation). IfSome o IsRefutationBelow) (printed_stuck p comps found) below q (Some r) e in (
          record { recursive = recursive; first = first; none = ap length own },
          shown.some,
          shown.refutes.ascend,
          pairs_are expression (rows_of rows) p comps c q inside r.points shown.refutes.pairs shown.refutes.own shown.single bel,
        )

    pub stuck_shape : AreEach (length p.preds) (IsStuckSet p comps lists) (printed_stuck p comps found)
    stuck_shape = are_each (length p.preds) (IsStuckSet p comps lists) (printed_stuck p comps found) (mapped_count (λ q. stuck_of found (led_by comps q)) (length p.preds)) stuck_is

  pub stuck_refutes : (q c : ℕ) (r : Refutation) (members : List ℕ) → slice_get (printed_stuck p comps found) q ≡ Some (Some r) → IsIn comps c q → slice_get comps.members c ≡ Some members
      → SumsRefute expression p members r.points × AllByRecursion (PointHolds expression p (rows_of rows)) r.points
  stuck_refutes q c r members e inside row =
      let (less, d, f, lead, at, er) = stuck_at q r e in
      let (recursive, first, here) = led_parts comps q d lead in
      let same : d ≡ c = cc in
      let shown = (shown_at d q f lead at).shown r er in
      let all : members_in comps d ≡ members = ap (members_in comps) same ∙ indexed comps.members c members [] row in
      (subst (λ (ms : List ℕ). SumsRefute expression p ms r.points) all shown.refutes.sums, shown.refutes.points)
