-- No fact of parts fails where what they claim holds.
use Rattle.std.proofs.Common.{◌≡◌, ◌≢◌, ℕ, suc, ◌-◌, ◌<◌, ℤ, Bool, List, [], length, take, slice_get, Option, None, Some, refl, sym, ap, subst, arith}
use Rattle.std.proofs.lemmas.Option.{slice_get_within}
use Rattle.std.specs.List.{AllByRecursion, AllPairs}
use Rattle.call_components.specs.Partition.{AreComponents, Partition}
use Rattle.certificate.specs.declared.fact.Fact.{Fact}
use Rattle.certificate.specs.declared.norm.CertNorm.{CertNorm}
use Rattle.cert_structure.specs.Numbered.{facts_from, lines_from}
use Rattle.cert_structure.specs.Order.{by_line, fall_facts, falls_line, ground_facts, head_facts, level_facts, listed, measure_line, mode_facts, pre_facts, pred_text, proof_facts, refutation_facts, refuted_facts, size_facts, size_line}
use Rattle.cert_structure.specs.Shape.{HaveShape}
use Rattle.cert_structure.specs.Structure.{AreNamed, AreNotes}
use Rattle.cert_structure.specs.declared.parts.Parts.{Parts}
use Rattle.cti_terms.specs.Listing.{IsProgram, Listing}
use Rattle.cti_terms.specs.Tree.{Tree}
use Rattle.linear_rows.specs.Members.{In}
use Rattle.linear_rows.specs.Plain.{plain_row, plain_rows}
use Rattle.linear_rows.specs.declared.multipliers.Multipliers.{Multipliers}
use Rattle.linear_rows.specs.declared.row.Row.{Row}
use Rattle.linear_rows.specs.declared.row.Rows.{Rows}
use Rattle.number_tests.proofs.ColumnLengths.{an_element}
use Rattle.number_tests.specs.Failing.{MultipliersFail}
use Rattle.number_tests.specs.Proved.{fall_of}
use Rattle.number_tests.specs.Shape.{list_at}
use Rattle.number_tests.specs.declared.level_part.LevelPart.{LevelPart}
use Rattle.number_tests.specs.declared.refutation.Refutation.{Refutation}
use Rattle.termination_model.proofs.Lists.{by_places, indexed, mapped_place}
use Rattle.termination_model.specs.sizes.Sizes.{plain_or_none, rows_of}
use Rattle.termination_model.specs.sizes.Stated.{AreStated, stated_rows}
use Rattle.termination_model.specs.sizes.Systems.{row_over}
use Rattle.termination_model.specs.sizes.ShortSystems.{short_system}
use Rattle.cert_checker.specs.Fault.{FactFails, FallFails, MeasureFails, RowFails, RowIsForeign}
use Rattle.cert_checker.specs.Finding.{NoneFails, RefutationsFail}
use Rattle.cert_checker.specs.Proved.{ByHold, FallsHold, IsZero, MeasuresAreZero}
use Rattle.cert_checker.specs.Refuting.{RefutationsHold}
use Rattle.cert_checker.specs.Valid.{PartsHold}
use Rattle.cert_checker.specs.declared.reason.Reason.{Reason}
use Rattle.cert_checker.proofs.FactLaws.{of_items, of_lines}
use Rattle.cert_checker.proofs.FindLaws.{finds_same, none_append}
use Rattle.cert_checker.proofs.FlawLaws.{shown_holds}
use Rattle.cert_checker.proofs.RefutationLaws.{group_holds, group_of}
use Rattle.cert_checker.proofs.SectionLaws.{grounds_hold, pre_hold, refuted_same}
use Rattle.cert_checker.proofs.ShapeLaws.{have_refutations}
use Rattle.cert_checker.proofs.TextLaws.{same_text}
use Rattle.cert_checker.proofs.ValueLaws.{modes_hold, notes_hold}

module _ (truth : (ℕ → Bool) → Tree → Bool) (expression : ℕ → Tree → List ℤ) (p : Listing) (names : List (List ℕ)) (comps : Partition) (parts : Parts)
    (prog : IsProgram p) (named : AreNamed names p.preds) (distinct : AllPairs (λ a b. a ≢ b) names) (are : AreComponents p comps) (shape : HaveShape p comps parts) where
  abbrev Whole : Fact → Reason → Type 0
  Whole = FactFails p names truth expression comps parts

  abbrev Unfailing : Fact → Type 0
  Unfailing f = (why : Reason) → ¬ Whole f why

  -- size rows of built-in predicates
  size_holds : AreStated p.arithmetic (rows_of parts.rows) → (q i : ℕ) (r : Rows) (row : Row) → slice_get parts.rows q ≡ Some r → slice_get r.list i ≡ Some row
      → (why : Reason) → ¬ RowIsForeign p names (pred_text p names q) (plain_row row) why
  size_holds stated q i r row eq ei why fault =
      let count = shape.rows.count in
      let lt : q < length p.preds = omega (arith, count, slice_get_within parts.rows q r eq) in
      let same : fault.q ≡ q = same_text p names prog named distinct q fault.q lt fault.named.0 fault.named.1 in
      let rows : rows_of parts.rows fault.q ≡ plain_rows r.list = subst (λ (k : ℕ). rows_of parts.rows k ≡ plain_rows r.list) (sym same) (ap plain_or_none eq) in
      fault.foreign (by_places (λ xs. In xs (stated_rows fault.kind)) (plain_rows r.list) (subst (AllByRecursion (λ xs. In xs (stated_rows fault.kind))) rows (stated fault.q fault.kind fault.builtin)) i (plain_row row) (mapped_place plain_row r.list i row ei))

  sizes_hold : AreStated p.arithmetic (rows_of parts.rows) → NoneFails Whole (size_facts p names parts.rows)
  sizes_hold stated =
      of_items Unfailing (λ q r. lines_from 0 (size_line (pred_text p names q)) r.list) parts.rows
      (λ q r eq. of_lines Unfailing (size_line (pred_text p names q)) r.list (λ i row ei. size_holds stated q i r row eq ei))

  -- multipliers of size rows
  proof_holds : ByHold expression p parts → (k i : ℕ) (ms : List Multipliers) (m : Multipliers) → slice_get parts.row_proofs k ≡ Some ms → slice_get ms i ≡ Some m
      → (why : Reason) → ¬ RowFails expression p parts.rows (suc k) (suc i) m.list m.scale why
  proof_holds hold k i ms m ek ei why fault =
      let c = fault.clause in
      let here : slice_get (list_at parts.row_proofs k) i ≡ Some m = subst (λ (xs : List Multipliers). slice_get xs i ≡ Some m) (sym (indexed parts.row_proofs k ms [] ek)) ei in
      shown_holds (short_system expression (rows_of parts.rows) c.vars c.body) m.list (row_over expression c.vars c.head.args fault.row) m.scale m refl refl
      (hold k c fault.there i fault.row m fault.row_there here) fault.flaw fault.fails

  proofs_hold : ByHold expression p parts → NoneFails Whole (proof_facts parts.row_proofs)
  proofs_hold hold =
      of_items Unfailing (λ k ms. lines_from 0 (by_line k) ms) parts.row_proofs (λ k ms ek. of_lines Unfailing (by_line k) ms (λ i m ei. proof_holds hold k i ms m ek ei))

  -- mappings of components that are not recursive
  measure_holds : MeasuresAreZero comps parts → (q m : ℕ) (ls : List LevelPart) (l : LevelPart) → slice_get parts.levels q ≡ Some ls → slice_get ls m ≡ Some l
      → (why : Reason) → ¬ MeasureFails p names comps (pred_text p names q) l why
  measure_holds zero q m ls l eq em why fault =
      let count = shape.levels.count in
      let lt : q < length p.preds = omega (arith, count, slice_get_within parts.levels q ls eq) in
      let same : fault.q ≡ q = same_text p names prog named distinct q fault.q lt fault.named.0 fault.named.1 in
      let own : AllByRecursion IsZero (list_at parts.levels q) = subst (λ (r : ℕ). AllByRecursion IsZero (list_at parts.levels r)) same (zero fault.c fault.q fault.is_in fault.none) in
      fault.not_zero (by_places IsZero ls (subst (AllByRecursion IsZero) (indexed parts.levels q ls [] eq) own) m l em)

  measures_hold : MeasuresAreZero comps parts → NoneFails Whole (level_facts p names parts.levels)
  measures_hold zero =
      of_items Unfailing (λ q ls. lines_from 0 (measure_line (pred_text p names q)) ls) parts.levels
      (λ q ls eq. of_lines Unfailing (measure_line (pred_text p names q)) ls (λ m l em. measure_holds zero q m ls l eq em))

  -- falls
  fall_holds : FallsHold expression p comps parts → (k j m : ℕ) (mss : List (List Multipliers)) (ms : List Multipliers) (x : Multipliers)
      → slice_get parts.falls k ≡ Some mss → slice_get mss j ≡ Some ms → slice_get ms m ≡ Some x
      → (why : Reason) → ¬ FallFails expression p comps parts.rows parts.levels (suc k) (suc j) (suc m) x.list x.scale why
  fall_holds hold k j m mss ms x ek ej em why fault =
      let c = fault.clause in
      let b = fault.call in
      let lists : list_at (list_at parts.falls k) j ≡ ms = subst (λ (xs : List (List Multipliers)). list_at xs j ≡ ms) (sym (indexed parts.falls k mss [] ek)) (indexed mss j ms [] ej) in
      let here : slice_get (list_at (list_at parts.falls k) j) m ≡ Some x = subst (λ (xs : List Multipliers). slice_get xs m ≡ Some x) (sym lists) em in
      let back : suc j - 1 ≡ j = omega arith in
      let target = fall_of expression c b fault.head_part fault.call_part in
      let fails : MultipliersFail (short_system expression (rows_of parts.rows) c.vars (take j c.body)) x.list target x.scale fault.flaw =
      subst (λ (i : ℕ). MultipliersFail (short_system expression (rows_of parts.rows) c.vars (take i c.body)) x.list target x.scale fault.flaw) back fault.fails in
      shown_holds (short_system expression (rows_of parts.rows) c.vars (take j c.body)) x.list target x.scale x refl refl
      (hold k c fault.there j b fault.call_there fault.own m fault.head_part fault.call_part x fault.head_there fault.part_there here) fault.flaw fails

  falls_hold : FallsHold expression p comps parts → NoneFails Whole (fall_facts parts.falls)
  falls_hold hold =
      of_items Unfailing (λ k mss. facts_from 0 (λ j ms. lines_from 0 (falls_line k j) ms) mss) parts.falls
      (λ k mss ek. of_items Unfailing (λ j ms. lines_from 0 (falls_line k j) ms) mss (λ j ms ej. of_lines Unfailing (falls_line k j) ms (λ m x em. fall_holds hold k j m mss ms x ek ej em)))

  -- refutations
  refutation_holds : RefutationsHold expression p comps parts → (q : ℕ) (o : Option Refutation) → slice_get parts.refutations q ≡ Some o
      → NoneFails (RefutationsFail expression p names comps parts) (refutation_facts (pred_text p names q) o)
  refutation_holds hold q None e = tt
  refutation_holds hold q (Some r) e =
      let count = shape.refutations.count in
      let each = are.each in
      let lt : q < length p.preds = omega (arith, count, slice_get_within parts.refutations q (Some r) e) in
      let (c, is_in) = an_element comps.of q (omega (arith, each, lt)) in
      let (members, em) = an_element comps.members c (are.within c q is_in) in
      let (sums, points) = hold q c r members e is_in em in
      let pairs = (have_refutations p comps parts shape).pairs q r e in
      group_of expression p names comps parts prog named distinct q lt r e c is_in members em 0 None (group_holds expression p parts.rows members r.points (pred_text p names q) pairs sums points)

  refutations_hold : RefutationsHold expression p comps parts → NoneFails Whole (refuted_facts p names parts.refutations)
  refutations_hold hold =
      finds_same (RefutationsFail expression p names comps parts) Whole (refuted_facts p names parts.refutations) (refuted_same truth expression p names comps parts) 0 None
      (of_items (λ f. (why : Reason) → ¬ RefutationsFail expression p names comps parts f why) (λ q o. refutation_facts (pred_text p names q) o) parts.refutations (refutation_holds hold))

  -- the facts of the version and of the norm
  head_holds : (o : Option CertNorm) → NoneFails Whole (head_facts o)
  head_holds None = (λ why fails. fails, tt)
  head_holds (Some n) = (λ why fails. fails, (λ why fails. fails, tt))

  -- all facts
  pub holding_unfailing : (notes : List Fact) → AreNotes notes → PartsHold truth expression p comps parts → NoneFails Whole (listed p names parts notes)
  holding_unfailing notes are_notes hold =
      none_append Whole (head_facts parts.norm) _ (head_holds parts.norm)
      (none_append Whole (mode_facts p names parts.modes) _ (modes_hold truth expression p names comps parts prog named distinct shape hold.modes)
      (none_append Whole (size_facts p names parts.rows) _ (sizes_hold hold.stated)
      (none_append Whole (proof_facts parts.row_proofs) _ (proofs_hold hold.rows)
      (none_append Whole (ground_facts p names parts.grounds) _ (grounds_hold truth expression p names comps parts)
      (none_append Whole (level_facts p names parts.levels) _ (measures_hold hold.measures)
      (none_append Whole (fall_facts parts.falls) _ (falls_hold hold.falls)
      (none_append Whole (pre_facts p names parts.preconditions) _ (pre_hold truth expression p names comps parts)
      (none_append Whole (refuted_facts p names parts.refutations) notes (refutations_hold hold.refutations) (notes_hold truth expression p names comps parts prog named distinct shape notes are_notes)))))))))
