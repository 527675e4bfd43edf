-- The refutations that are found are those of a certificate.
use Rattle.std.proofs.Common.{◌≡◌, ℕ, ◌-◌, ◌<◌, ◌≤ℤ◌, ◌&&◌, ℤ, pos, true, List, [], ◌∷◌, length, slice_get, Some, None, Option, refl, ap, sym, subst, ◌∙◌, arith}
use Rattle.std.specs.Prelude.{IfSome, option_map, unwrap_or}
use Rattle.std.specs.List.{AllByRecursion}
use Rattle.call_components.specs.Partition.{AreComponents, IsIn, Partition}
use Rattle.cert_structure.specs.Numbered.{AreEach}
use Rattle.cert_structure.specs.Shape as shape
use Rattle.cti_terms.specs.Listing.{IsProgram, Listing, numbered}
use Rattle.cti_terms.specs.Tree.{Tree}
use Rattle.cti_terms.specs.declared.atom_list.Atom.{Atom}
use Rattle.cti_terms.specs.declared.clauses.Clause.{Clause}
use Rattle.level_systems.specs.Found.{HasSecondPoint, IsFound, IsOwnPair}
use Rattle.level_systems.specs.Mappings.{IsMappingOf, mapping_with, support_of}
use Rattle.level_systems.specs.declared.found.Found.{Found}
use Rattle.level_systems.specs.declared.mapping.Mapping.{Mapping}
use Rattle.linear_rows.specs.declared.point.Point.{Point}
use Rattle.linear_rows.specs.declared.row.Rows.{Rows}
use Rattle.number_tests.specs.Refuting.{PointHolds, SumsRefute, atom_or_none, call_of, clause_of, clause_or_none}
use Rattle.number_tests.specs.Shape.{IsPairOf}
use Rattle.number_tests.specs.declared.level_part.LevelPart.{LevelPart}
use Rattle.number_tests.specs.declared.pair_point.PairPoint.{PairPoint}
use Rattle.number_tests.specs.declared.refutation.Refutation.{Refutation}
use Rattle.termination_model.proofs.Lists.{by_places, indexed, place_below}
use Rattle.termination_model.specs.mappings.ComponentViews.{HasSupportIn, members_in, positions_in}
use Rattle.termination_model.specs.sizes.Sizes.{rows_of}
use Rattle.termination_model.specs.mappings.SupportLaws.{HasWidths}
use Rattle.report.proofs.Decreasing.{mapping_at, mapping_decreases}
use Rattle.cert_assembly.proofs.ChainParts.{are_each}
use Rattle.report.proofs.MappingParts.{count_deep, answer_at}
use Rattle.cert_assembly.proofs.ModeLaws.{there}
use Rattle.cert_assembly.proofs.PartShapes.{led_parts, is_some, some_there, numbered_at, point_is, together_is}
use Rattle.cert_assembly.proofs.SetParts.{mapped_at, mapped_count}
use Rattle.report.specs.Assembly.{AreFound}
use Rattle.report.specs.Levels.{level_list, refutation_list, refutation_of}
use Rattle.cert_assembly.specs.Ranges.{IsPairBelow, IsPointBelow, IsRefutationBelow}
use Rattle.cert_assembly.specs.Leading.{led_by}

-- what a refutation is of
pub refutation_there : (found : List Found) (o : Option ℕ) (r : Refutation) → refutation_of found o ≡ Some r → (c : ℕ) × (f : Found) × (o ≡ Some c) × (slice_get found c ≡ Some f) × (f.refutation ≡ Some r)
refutation_there found None r e = cc
refutation_there found (Some c) r e = go (slice_get found c) refl e
  where
    go : (o : Option Found) → slice_get found c ≡ o → unwrap_or (option_map (λ (f : Found). f.refutation) o) None ≡ Some r → (d : ℕ) × (f : Found) × (Some c ≡ Some d) × (slice_get found d ≡ Some f) × (f.refutation ≡ Some r)
    go None h k = cc
    go (Some f) h k = (c, f, refl, h, k)

second_is : (n : ℕ) (t : ℤ) (o : Option Point) → IfSome o (λ (y : Point). length y.w ≡ n) → HasSecondPoint t o → IfSome o IsPointBelow → shape.HasSecond n t o
second_is n t None long h below = h
second_is n t (Some y) long h below = (h.0, point_is n y long h.1 below, h.2)

module _ (expression : ℕ → Tree → List ℤ) (rows : ℕ → List (List ℤ)) (p : Listing) (comps : Partition) (c q : ℕ) (inside : IsIn comps c q) where
  pair_is : (x : PairPoint) → IsPairOf p x → IsOwnPair expression p comps rows c x → IsPairBelow x → shape.IsPairPoint p comps q x
  pair_is x is own below =
      let clause = numbered_at p.clauses x.clause is.clause is.first is.there in
      let (b, eb) = there is.clause.body (x.call - 1) (omega (arith, is.call, is.last)) in
      let call = numbered_at is.clause.body x.call b is.call eb in
      let same_clause : clause_of p x ≡ is.clause = ap clause_or_none is.there in
      let same_call : call_of p x ≡ b = ap (λ (d : Clause). atom_or_none (slice_get d.body (x.call - 1))) same_clause ∙ ap atom_or_none eb in
      let ih = subst (λ (d : Clause). IsIn comps c d.head.pred.0) same_clause own.head in
      let ib = subst (λ (d : Atom). IsIn comps c d.pred.0) same_call own.call in
      let vars = ap shape.vars_of clause in
      record {
        pair = ap (λ (o : Option Clause). shape.is_own_clause comps q x.call o) clause
            ∙ (λ i. together_is comps c q is.clause.head.pred.0 inside ih i && shape.is_own_call comps q (numbered is.clause.body x.call))
            ∙ ap (shape.is_own_call comps q) call
            ∙ together_is comps c q b.pred.0 inside ib;
        point = point_is (shape.vars_of (numbered p.clauses x.clause)) x.point (is.point ∙ sym vars) own.natural below.0;
        second = second_is (shape.vars_of (numbered p.clauses x.clause)) x.point.t x.at (subst (λ (n : ℕ). IfSome x.at (λ (y : Point). length y.w ≡ n)) (sym vars) is.at) own.second below.1;
      }

  pairs_are : (xs : List PairPoint) → AllByRecursion (IsPairOf p) xs → AllByRecursion (IsOwnPair expression p comps rows c) xs → AllByRecursion IsPairBelow xs → AllByRecursion (shape.IsPairPoint p comps q) xs
  pairs_are [] a b d = tt
  pairs_are (x ∷ xs) a b d = (pair_is x a.0 b.0 d.0, pairs_are xs a.1 b.1 d.1)

module _ (expression : ℕ → Tree → List ℤ) (p : Listing) (comps : Partition) (rows : List Rows) (found : List Found)
    (program : IsProgram p) (components : AreComponents p comps) (founds : AreFound expression p comps rows found) (widths : HasWidths expression) where
  abbrev levels : List (List LevelPart)
  levels = level_list p comps found

  -- a mapping that is found is had
  pub had_of : (c : ℕ) (f : Found) → c < length comps.members → IsFound expression p comps (rows_of rows) c f → (m : Mapping) (i : ℕ) → slice_get f.mappings i ≡ Some m → HasSupportIn expression p comps (rows_of rows) c (support_of (positions_in p comps c) m)
  had_of c f inner is m i e =
      let im = by_places (IsMappingOf expression p (rows_of rows) comps c) f.mappings is.mappings i m e in
      record {
        mapping = mapping_with m.measures;
        at = mapping_at expression p comps rows found program components founds widths c m im;
        decreases = mapping_decreases expression p comps rows found program components founds widths c m inner im;
        is = refl;
      }

  none_found : (c : ℕ) (f : Found) (r : Refutation) → c < length comps.members → IsFound expression p comps (rows_of rows) c f → f.refutation ≡ Some r → length f.mappings ≡ 0
  none_found c f r inner is e = go f.mappings refl
    where
      go : (ms : List Mapping) → f.mappings ≡ ms → length ms ≡ 0
      go [] h = refl
      go (m ∷ ms) h = absurd ((is.refuted.0 (is_some f.refutation r e)).0 (support_of (positions_in p comps c) m) (had_of c f inner is m 0 (ap (λ (xs : List Mapping). slice_get xs 0) h)))

  -- a listed refutation, with the component that it is of
  pub refuted_at : (q : ℕ) (r : Refutation) → slice_get (refutation_list p comps found) q ≡ Some (Some r)
      → (q < length p.preds) × (c : ℕ) × (f : Found) × (led_by comps q ≡ Some c) × (slice_get found c ≡ Some f) × (f.refutation ≡ Some r)
  refuted_at q r e =
      let g = λ (q : ℕ). refutation_of found (led_by comps q) in
      let l = place_below (refutation_list p comps found) q (Some r) e in
      let count = mapped_count g (length p.preds) in
      let less : q < length p.preds = omega arith in
      let at = mapped_at g (length p.preds) q less in
      let same : refutation_of found (led_by comps q) ≡ Some r = cc in
      let t = refutation_there found (led_by comps q) r same in
      (less, t.0, t.1, t.2, t.3, t.4)

  shown_at : (c q : ℕ) (f : Found) (r : Refutation) → led_by comps q ≡ Some c → slice_get found c ≡ Some f → f.refutation ≡ Some r → IsFound expression p comps (rows_of rows) c f
  shown_at c q f r lead at e = let (recursive, first, inside) = led_parts comps q c lead in founds.are c f at (answer_at expression p comps rows found program components founds c q true inside recursive)

  module _ (below : AllByRecursion (λ (o : Option Refutation). IfSome o IsRefutationBelow) (refutation_list p comps found)) where
    refutation_is : (q : ℕ) (o : Option Refutation) → slice_get (refutation_list p comps found) q ≡ Some o → shape.IsRefutation p comps levels q o
    refutation_is q None e = tt
    refutation_is q (Some r) e =
        let (less, c, f, lead, at, er) = refuted_at q r e in
        let (recursive, first, inside) = led_parts comps q c lead in
        let is = shown_at c q f r lead at er in
        let shown = is.shown r er in
        let bel = by_places (λ (o : Option Refutation). IfSome o IsRefutationBelow) (refutation_list p comps found) below q (Some r) e in (
          record { recursive = recursive; first = first; none = count_deep expression p comps rows found program components founds c q f inside at recursive ∙ none_found c f r (components.within c q inside) is er },
          some_there (λ (x : PairPoint). pos 1 ≤ℤ x.point.t) r.points shown.sums.positive,
          shown.ascend,
          pairs_are expression (rows_of rows) p comps c q inside r.points shown.pairs shown.own bel,
        )

    pub refutations_shape : AreEach (length p.preds) (shape.IsRefutation p comps levels) (refutation_list p comps found)
    refutations_shape = are_each (length p.preds) (shape.IsRefutation p comps levels) (refutation_list p comps found) (mapped_count (λ q. refutation_of found (led_by comps q)) (length p.preds)) refutation_is

  pub refutations_are_shown : (q c : ℕ) (r : Refutation) (members : List ℕ) → slice_get (refutation_list p comps found) q ≡ Some (Some r) → IsIn comps c q → slice_get comps.members c ≡ Some members
      → SumsRefute expression p members r.points × AllByRecursion (PointHolds expression p (rows_of rows)) r.points
  refutations_are_shown q c r members e inside row =
      let (less, d, f, lead, at, er) = refuted_at q r e in
      let (recursive, first, here) = led_parts comps q d lead in
      let same : d ≡ c = cc in
      let shown = (shown_at d q f r lead at er).shown r er in
      let all : members_in comps d ≡ members = ap (members_in comps) same ∙ indexed comps.members c members [] row in
      (subst (λ (ms : List ℕ). SumsRefute expression p ms r.points) all shown.sums, shown.points)
