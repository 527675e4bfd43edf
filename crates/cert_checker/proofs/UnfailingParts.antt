-- What parts claim holds where no fact of them fails.
use Rattle.std.proofs.Common.{◌≡◌, inl, inr, ℕ, suc, ◌-◌, ◌<◌, ◌&&◌, Bool, IsTrue, ℤ, pos, List, [], ◌++◌, length, take, slice_get, unwrap_or, Option, None, Some, IfSome, refl, sym, ap, subst, arith}
use Rattle.std.proofs.lemmas.Bool.{cases_lt}
use Rattle.std.proofs.lemmas.Option.{slice_get_past, slice_get_within}
use Rattle.std.specs.List.{AllByRecursion}
use Rattle.bool_diagrams.specs.Cubes.{covered}
use Rattle.call_components.specs.Partition.{AreComponents, Partition}
use Rattle.certificate.specs.declared.fact.Fact.{Fact}
use Rattle.certificate.specs.declared.fact.Fact.TheVariants as fact
use Rattle.cert_modes.specs.Failing.{KeepsRule, PredHolds}
use Rattle.cert_modes.specs.Modes.{ModesHold, allowed, coefficients_of, grounds_of, is_row, precondition}
use Rattle.cert_structure.specs.Numbered.{facts_from, lines_from}
use Rattle.cert_structure.specs.Order.{at_facts, by_line, fall_facts, falls_line, ground_facts, head_facts, level_facts, listed, measure_line, mode_facts, point_facts, pre_facts, pred_text, proof_facts, refutation_facts, refuted_facts, size_facts, size_line}
use Rattle.cert_structure.specs.Shape.{HaveShape, arity_in, items_of}
use Rattle.cert_structure.specs.declared.parts.Parts.{Parts}
use Rattle.cti_terms.specs.Arithmetic.{kind_of}
use Rattle.cti_terms.specs.Listing.{IsClause, IsProgram, Listing}
use Rattle.cti_terms.specs.Tree.{Tree}
use Rattle.cti_terms.specs.declared.builtins.Builtin.{Builtin}
use Rattle.cti_terms.specs.declared.clauses.Clause.{Clause}
use Rattle.cti_terms.specs.declared.predicates.Pred.{Pred}
use Rattle.linear_rows.specs.Members.{In}
use Rattle.linear_rows.specs.Plain.{plain_row}
use Rattle.linear_rows.specs.declared.point.Point.{Point}
use Rattle.linear_rows.specs.declared.row.Row.{Row}
use Rattle.number_tests.proofs.ColumnLengths.{an_element}
use Rattle.number_tests.proofs.Sized.{some_below}
use Rattle.number_tests.specs.Failing.{MultipliersFail}
use Rattle.number_tests.specs.Proved.{fall_of}
use Rattle.number_tests.specs.Refuting.{PointHolds, RowsHold, clause_of}
use Rattle.number_tests.specs.Shape.{IsPairOf, list_at}
use Rattle.number_tests.specs.declared.level_part.LevelPart.{LevelPart}
use Rattle.number_tests.specs.declared.pair_point.PairPoint.{PairPoint}
use Rattle.termination_model.proofs.Lists.{by_places, from_places, there}
use Rattle.termination_model.specs.claims.Descent.{mode_row}
use Rattle.termination_model.specs.grounds.Grounds.{IsClosedUnder}
use Rattle.termination_model.specs.sizes.Rows.{Covers}
use Rattle.termination_model.specs.sizes.Sizes.{plain_or_none, rows_of}
use Rattle.termination_model.specs.sizes.Stated.{AreStated, stated_rows}
use Rattle.termination_model.specs.sizes.Systems.{row_over}
use Rattle.termination_model.specs.sizes.ShortSystems.{short_system}
use Rattle.cert_checker.specs.Fault.{FactFails, reason_of}
use Rattle.cert_checker.specs.Finding.{NoneFails}
use Rattle.cert_checker.specs.ModeFaults.{mode_reason}
use Rattle.cert_checker.specs.Proved.{ByHold, FallsHold, IsZero, MeasuresAreZero}
use Rattle.cert_checker.specs.Refuting.{RefutationsHold}
use Rattle.cert_checker.specs.Valid.{PartsHold}
use Rattle.cert_checker.specs.declared.reason.Reason.{Reason}
use Rattle.cert_checker.specs.declared.reason.Reason.TheVariants as reason
use Rattle.cert_checker.proofs.Excludes.{all_mapped}
use Rattle.cert_checker.proofs.FactLaws.{left_of, of_item, of_line, right_of}
use Rattle.cert_checker.proofs.RefutationLaws.{fails_at}
use Rattle.cert_checker.proofs.ShapeLaws.{have_falls, have_refutations}
use Rattle.cert_checker.proofs.Stable.{IsStable, stable_all, stable_both, stable_same, stable_stated}
use Rattle.cert_checker.proofs.TestLaws.{modes_unfailing, rows_unfailing, shown, sums_unfailing}

-- a list of lists has the list at a place
list_within : {X : Type 0} → (xss : List (List X)) (n k : ℕ) → length xss ≡ n → k < n → slice_get xss k ≡ Some (list_at xss k)
list_within xss n k same lt = there xss k [] (omega (arith, same, lt))

stable_zero : (l : LevelPart) → IsStable (IsZero l)
stable_zero l = stable_both (l.offset ≡ pos 0) (AllByRecursion (λ a. a ≡ pos 0) l.coeffs) (stable_same l.offset (pos 0)) (stable_all (λ a. a ≡ pos 0) (λ a. stable_same a (pos 0)) l.coeffs)

module _ (truth : (ℕ → Bool) → Tree → Bool) (expression : ℕ → Tree → List ℤ) (p : Listing) (names : List (List ℕ)) (comps : Partition) (parts : Parts)
    (prog : IsProgram p) (are : AreComponents p comps) (shape : HaveShape p comps parts) where
  abbrev Unfailing : Fact → Type 0
  Unfailing f = (why : Reason) → ¬ FactFails p names truth expression comps parts f why

  abbrev AreUnfailing : List Fact → Type 0
  AreUnfailing facts = AllByRecursion Unfailing facts

  -- modes
  module _ (none : AreUnfailing (mode_facts p names parts.modes)) where
    pred_holds : (q : ℕ) → q < length p.preds → PredHolds truth p comps parts q
    pred_holds q lt =
        let count = shape.modes.count in
        let (ms, e) = an_element parts.modes q (omega (arith, count, lt)) in
        modes_unfailing truth p comps parts q
        (λ m fails. of_line Unfailing (λ a xs. fact.Terminates (pred_text p names a) xs) parts.modes none q ms e (mode_reason m) (record { q = q; named = (lt, refl); mode = m; fails = fails; why_is = refl }))

    head_below : (k : ℕ) (c : Clause) → slice_get p.clauses k ≡ Some c → c.head.pred.0 < length p.preds
    head_below k c e = some_below (λ (d : Pred). d.arity ≡ length c.head.args) p.preds c.head.pred.0 (by_places (IsClause p.preds) p.clauses prog.clauses k c e).head.arity

    builtin_below : (q : ℕ) (b : Builtin) → kind_of p.arithmetic q ≡ Some b → q < length p.preds
    builtin_below q b is = some_below (λ (d : Pred). d.arity ≡ 2) p.preds q (prog.binary q b is)

    rows_covered : (m q : ℕ) (row : List Bool) → IsTrue (precondition p parts m q row) → Covers (coefficients_of parts.levels m q) row
    rows_covered m q row has = elim (cases_lt q (length p.preds)) [
      | inl lt ↦ (pred_holds q lt).keeps.covered m row has
      | inr le ↦ (let past = subst (λ (o : Option Pred). IsTrue (is_row o row && covered (items_of (items_of parts.preconditions q) m) row)) (slice_get_past p.preds q le) has in cc)
    ]

    abbrev AreAllowed : ℕ → List (List ℕ) → Type 0
    AreAllowed q ms = AllByRecursion (λ mode. IsTrue (allowed p parts q (mode_row mode 1 (arity_in p q)))) ms

    rows_allowed : (q : ℕ) → AreAllowed q (items_of parts.modes q)
    rows_allowed q = elim (cases_lt q (length p.preds)) [
      | inl lt ↦ (pred_holds q lt).modes
      | inr le ↦ (let count = shape.modes.count in subst (λ (o : Option (List (List ℕ))). AreAllowed q (unwrap_or o [])) (sym (slice_get_past parts.modes q (omega (arith, count, le)))) tt)
    ]

    modes_hold : ModesHold truth p comps parts
    modes_hold = record {
      closed = record {
        clauses = from_places (IsClosedUnder truth (grounds_of p parts)) p.clauses (λ k c e. (pred_holds c.head.pred.0 (head_below k c e)).closed.clauses k c e refl);
        builtins = λ q b is. (pred_holds q (builtin_below q b is)).closed.builtin b is;
      };
      covered = rows_covered;
      rule = λ m. from_places (KeepsRule truth p comps parts m) p.clauses (λ k c e. (pred_holds c.head.pred.0 (head_below k c e)).keeps.rule m k c e refl);
      modes = rows_allowed;
    }

  -- size rows of built-in predicates
  stated_hold : AreUnfailing (size_facts p names parts.rows) → AreStated p.arithmetic (rows_of parts.rows)
  stated_hold none q b is =
      let each = shape.rows.count in
      let lt = some_below (λ (d : Pred). d.arity ≡ 2) p.preds q (prog.binary q b is) in
      let (r, e) = an_element parts.rows q (omega (arith, each, lt)) in
      let lines = of_item Unfailing (λ q rs. lines_from 0 (size_line (pred_text p names q)) rs.list) parts.rows none q r e in
      subst (AllByRecursion (λ row. In row (stated_rows b))) (sym (ap plain_or_none e))
      (all_mapped plain_row (λ (row : Row). In (plain_row row) (stated_rows b)) (λ row. In row (stated_rows b)) (λ row h. h) r.list
      (from_places (λ (row : Row). In (plain_row row) (stated_rows b)) r.list (λ i row ei. stable_stated b (plain_row row)
      (λ no. of_line Unfailing (size_line (pred_text p names q)) r.list lines i row ei reason.SizeRow (record { q = q; named = (lt, refl); kind = b; builtin = is; foreign = no; why_is = refl })))))

  -- multipliers of size rows
  rows_hold : AreUnfailing (proof_facts parts.row_proofs) → ByHold expression p parts
  rows_hold none k c e i row by er eb =
      let ms = list_at parts.row_proofs k in
      let at = list_within parts.row_proofs (length p.clauses) k shape.row_proofs.count (slice_get_within p.clauses k c e) in
      let line = of_line Unfailing (by_line k) ms (of_item Unfailing (λ k xs. lines_from 0 (by_line k) xs) parts.row_proofs none k ms at) i by eb in
      shown (short_system expression (rows_of parts.rows) c.vars c.body) by (row_over expression c.vars c.head.args row)
      (λ f failing. line (reason_of f reason.SizeRow) (record { clause = c; there = e; row = row; row_there = er; flaw = f; fails = failing; why_is = refl }))

  -- mappings of components that are not recursive
  measures_hold : AreUnfailing (level_facts p names parts.levels) → MeasuresAreZero comps parts
  measures_hold none c q is_in flat =
      let each = are.each in
      let ls = list_at parts.levels q in
      let lt : q < length p.preds = omega (arith, each, slice_get_within comps.of q c is_in) in
      let at = list_within parts.levels (length p.preds) q shape.levels.count lt in
      let lines = of_item Unfailing (λ q xs. lines_from 0 (measure_line (pred_text p names q)) xs) parts.levels none q ls at in
      from_places IsZero ls
      (λ m l e. stable_zero l
      (λ no. of_line Unfailing (measure_line (pred_text p names q)) ls lines m l e reason.Measure (record { q = q; named = (lt, refl); c = c; is_in = is_in; none = flat; not_zero = no; why_is = refl })))

  -- falls
  falls_hold : AreUnfailing (fall_facts parts.falls) → FallsHold expression p comps parts
  falls_hold none k c e j b ej own m head call by eh ec em =
      let falls = have_falls p comps parts shape are prog in
      let mss = list_at parts.falls k in
      let ms = list_at mss j in
      let at = list_within parts.falls (length p.clauses) k falls.each (slice_get_within p.clauses k c e) in
      let place = list_within mss (length c.body) j (falls.calls k c e) (slice_get_within c.body j b ej) in
      let lists = of_item Unfailing (λ k xss. facts_from 0 (λ j xs. lines_from 0 (falls_line k j) xs) xss) parts.falls none k mss at in
      let line = of_line Unfailing (falls_line k j) ms (of_item Unfailing (λ j xs. lines_from 0 (falls_line k j) xs) mss lists j ms place) m by em in
      let target = fall_of expression c b head call in
      let back : j ≡ suc j - 1 = omega arith in
      shown (short_system expression (rows_of parts.rows) c.vars (take j c.body)) by target
      (λ f failing. line (reason_of f reason.Measure) (record {
        clause = c;
        there = e;
        call = b;
        call_there = ej;
        own = own;
        head_part = head;
        head_there = eh;
        call_part = call;
        part_there = ec;
        flaw = f;
        fails = subst (λ (i : ℕ). MultipliersFail (short_system expression (rows_of parts.rows) c.vars (take i c.body)) by.list target by.scale f) back failing;
        why_is = refl;
      }))

  -- refutations
  module _ (x : PairPoint) (pair : IsPairOf p x) where
    abbrev Holds : Point → Type 0
    Holds = RowsHold expression (rows_of parts.rows) (clause_of p x) (x.call - 1)

    second_holds : (o : Option Point) → AreUnfailing (at_facts x.clause x.call o) → IfSome o Holds
    second_holds None none = tt
    second_holds (Some y) none = rows_unfailing expression (rows_of parts.rows) (clause_of p x) (x.call - 1) y (λ f failing. none.0 (reason_of f reason.Refutation) (fails_at expression p parts.rows [] [] x pair y f failing (reason_of f reason.Refutation) refl))

    point_holds : AreUnfailing (point_facts x) → PointHolds expression p (rows_of parts.rows) x
    point_holds none = (
      rows_unfailing expression (rows_of parts.rows) (clause_of p x) (x.call - 1) x.point (λ f failing. none.0 (reason_of f reason.Refutation) (fails_at expression p parts.rows [] [] x pair x.point f failing (reason_of f reason.Refutation) refl)),
      second_holds x.at none.1,
    )

  refutations_hold : AreUnfailing (refuted_facts p names parts.refutations) → RefutationsHold expression p comps parts
  refutations_hold none q c r members e is_in em =
      let each = are.each in
      let lt : q < length p.preds = omega (arith, each, slice_get_within comps.of q c is_in) in
      let own = of_item Unfailing (λ q o. refutation_facts (pred_text p names q) o) parts.refutations none q (Some r) e in
      let pairs = (have_refutations p comps parts shape).pairs q r e in (
        sums_unfailing expression p members r.points
            (λ f failing. own.0 (reason_of f reason.Refutation) (record { q = q; named = (lt, refl); r = r; there = e; c = c; is_in = is_in; members = members; are_members = em; flaw = f; fails = failing; why_is = refl })),
        from_places (PointHolds expression p (rows_of parts.rows)) r.points
            (λ i x ex. point_holds x (by_places (IsPairOf p) r.points pairs i x ex) (of_item Unfailing (λ _ y. point_facts y) r.points own.1 i x ex)),
      )

  -- all that the parts claim
  pub unfailing_holding : (notes : List Fact) → NoneFails (FactFails p names truth expression comps parts) (listed p names parts notes) → PartsHold truth expression p comps parts
  unfailing_holding notes none =
      let modes = mode_facts p names parts.modes in
      let sizes = size_facts p names parts.rows in
      let proofs = proof_facts parts.row_proofs in
      let grounds = ground_facts p names parts.grounds in
      let levels = level_facts p names parts.levels in
      let falls = fall_facts parts.falls in
      let pre = pre_facts p names parts.preconditions in
      let refuted = refuted_facts p names parts.refutations in
      let on7 = refuted ++ notes in
      let on6 = pre ++ on7 in
      let on5 = falls ++ on6 in
      let on4 = levels ++ on5 in
      let on3 = grounds ++ on4 in
      let on2 = proofs ++ on3 in
      let on1 = sizes ++ on2 in
      let none0 = right_of Unfailing (head_facts parts.norm) (modes ++ on1) none in
      let none1 = right_of Unfailing modes on1 none0 in
      let none2 = right_of Unfailing sizes on2 none1 in
      let none3 = right_of Unfailing proofs on3 none2 in
      let none4 = right_of Unfailing grounds on4 none3 in
      let none5 = right_of Unfailing levels on5 none4 in
      let none6 = right_of Unfailing falls on6 none5 in
      let none7 = right_of Unfailing pre on7 none6 in
      record {
        modes = modes_hold (left_of Unfailing modes on1 none0);
        stated = stated_hold (left_of Unfailing sizes on2 none1);
        rows = rows_hold (left_of Unfailing proofs on3 none2);
        measures = measures_hold (left_of Unfailing levels on5 none4);
        falls = falls_hold (left_of Unfailing falls on6 none5);
        refutations = refutations_hold (left_of Unfailing refuted notes none7);
      }
