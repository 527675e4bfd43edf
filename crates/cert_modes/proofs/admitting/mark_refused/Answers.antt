use Rattle.termination_model.proofs.Lists.{at_place, one_element, place_below, there}
use Rattle.std.proofs.Common.{◌≡◌, ◌∙◌, ◌<◌, ℕ, IsTrue, IsSomeAnd, List, length, slice_get, slice_index_or, Option, Some, refl, sym, subst, arith}
use Rattle.std.specs.List.{list_all}
use Rattle.truth_rows.proofs.SetLaws.{none}
use Rattle.bool_diagrams.specs.Cubes.{truth_rows}
use Rattle.bool_diagrams.specs.declared.diagram.Diagram.{Diagram}
use Rattle.cert_structure.specs.Shape.{arity_in, items_of}
use Rattle.cti_terms.specs.declared.predicates.Pred.{Pred}
use Rattle.cert_modes.specs.declared.fault.ModeReason.TheVariants as reason
use Rattle.cert_modes.proofs.MarkLaws.{marked_same, note_more}
use Rattle.cert_modes.proofs.PlaceLaws.{items_at}
use Rattle.cert_modes.proofs.SpellLaws.{arity_at, arity_few}
use Rattle.termination_model.specs.claims.Descent.{mode_row}
use Rattle.cert_modes.proofs.admitting.mark_refused.Goals as goal

pub are_admitted-admitted-requires-clause-reads :
    goal.are_admitted-admitted-requires-clause-reads
are_admitted-admitted-requires-clause-reads c =
    let q = c.loop-q.q in
    let lt : q < length c.args.p.now.preds = omega (arith, c.loop-q-test.true, c.preds-q-end.ensures.count, c.loop-q.auto.q-end) in
    let f = there c.args.sets.now q none (omega (arith, lt, c.requires.sets.each)) in
    c.requires.sets.reads q c.pred.result.now.arity (slice_index_or c.args.sets.now q none) f
    (subst (λ (o : Option Pred). IsSomeAnd o (λ (x : Pred). x.arity ≡ c.pred.result.now.arity)) (sym c.pred.ensures) refl)

pub are_admitted-admitted-requires-clause-narrow :
    goal.are_admitted-admitted-requires-clause-narrow
are_admitted-admitted-requires-clause-narrow c = arity_few c.args.p.now c.preds-q-end.ensures.sound c.loop-q.q c.pred.result.now c.pred.ensures

pub loop-q-preserved : goal.loop-q-preserved
loop-q-preserved c =
    let i = c.loop-q.invariant in
    let q = c.loop-q.q in
    let p = c.args.p.now in
    let lt : q < length c.args.p.now.preds = omega (arith, c.loop-q-test.true, c.preds-q-end.ensures.count, c.loop-q.auto.q-end) in
    let d = slice_index_or c.args.sets.now q none in
    let f : slice_get c.args.sets.now q ≡ Some d = there c.args.sets.now q none (omega (arith, lt, c.requires.sets.each)) in
    let wide = sym (arity_at p q c.pred.result.now c.pred.ensures) in
    let own = c.as_slice.ensures ∙ sym (items_at c.args.modes.now q c.index-modes-q.result (at_place c.args.modes.now q c.index-modes-q.result (omega (arith, c.requires.modes, lt)) c.index-modes-q.is)) in
    let value = c.are_admitted-admitted.ensures ∙ (λ k. list_all (λ (mode : List ℕ). truth_rows c.args.table.now d (mode_row mode 1 (wide k))) (own k)) in
    record {
      each = c.note.ensures.each ∙ i.each;
      admitted = note_more (λ j r. r ≡ j → (x : Diagram) → slice_get c.args.sets.now j ≡ Some x → IsTrue (list_all (λ (mode : List ℕ). truth_rows c.args.table.now x (mode_row mode 1 (arity_in p j))) (items_of c.args.modes.now j))) q q reason.Mode
          c.args.marks.now c.loop-q.marks c.note.new.self c.are_admitted-admitted.result i.admitted (
            λ t eq x e.
                let same : d ≡ x = one_element c.args.sets.now q d x f e in
                subst (λ (y : Diagram). IsTrue (list_all (λ (mode : List ℕ). truth_rows c.args.table.now y (mode_row mode 1 (arity_in p q))) (items_of c.args.modes.now q))) same (sym value ∙ t),
            λ all. value ∙ all refl d f,
          ) (λ r other same. absurd (other same)) c.note.ensures.at c.note.ensures.others;
    }

pub returns-clause-admitted : goal.returns-clause-admitted
returns-clause-admitted c = λ q.
    let p = c.args.p.now in
    marked_same (c.loop-q.invariant.admitted q) (
      λ h d e. h q (omega (arith, place_below c.args.sets.now q d e, c.requires.sets.each, c.loop-q-test.false, c.preds-q-end.ensures.count, c.loop-q.auto.q-end)) refl d e,
      λ h j lt same. subst (λ (r : ℕ). (d : Diagram) → slice_get c.args.sets.now r ≡ Some d → IsTrue (list_all (λ (mode : List ℕ). truth_rows c.args.table.now d (mode_row mode 1 (arity_in p r))) (items_of c.args.modes.now r))) same h,
    )
