use Rattle.std.proofs.Common.{◌≡◌, ◌∙◌, ◌<◌, ℕ, true, IsTrue, [], ◌∷◌, length, slice_get, slice_index_or, Some, refl, sym, subst, arith}
use Rattle.call_components.proofs.Lists.{some_within}
use Rattle.bool_diagrams.specs.Cubes.{truth_rows}
use Rattle.bool_diagrams.specs.declared.diagram.Diagram.{Diagram}
use Rattle.cti_terms.specs.Arithmetic.{kind_of}
use Rattle.cti_terms.specs.declared.builtins.Builtin.{Builtin}
use Rattle.cti_terms.specs.declared.predicates.Pred.{Pred}
use Rattle.termination_model.proofs.Lists.{one_element, there}
use Rattle.truth_rows.proofs.SetLaws.{family_in, family_put, none, some_is}
use Rattle.truth_rows.specs.Sets.{family_of}
use Rattle.cert_modes.specs.declared.fault.ModeReason.TheVariants as reason
use Rattle.cert_modes.proofs.MarkLaws.{marked_same, note_more}
use Rattle.cert_modes.proofs.closing.mark_unstated.Goals as goal

pub has_stated_row-stated-requires-clause-known : goal.has_stated_row-stated-requires-clause-known
has_stated_row-stated-requires-clause-known c =
    let q = c.loop-q.q in
    let lt : q < length c.args.p.now.preds = omega (arith, c.loop-q-test.true, c.preds-q-end.ensures.count, c.loop-q.auto.q-end) in
    c.requires.sets.known q (slice_index_or c.args.sets.now q none) (there c.args.sets.now q none (omega (arith, lt, c.requires.sets.each)))

pub has_stated_row-stated-requires-clause-reads : goal.has_stated_row-stated-requires-clause-reads
has_stated_row-stated-requires-clause-reads c = λ n arity.
    let q = c.loop-q.q in
    let lt : q < length c.args.p.now.preds = omega (arith, c.loop-q-test.true, c.preds-q-end.ensures.count, c.loop-q.auto.q-end) in
    c.requires.sets.reads q n (slice_index_or c.args.sets.now q none) (there c.args.sets.now q none (omega (arith, lt, c.requires.sets.each))) arity

pub loop-q-preserved : goal.loop-q-preserved
loop-q-preserved c =
    let i = c.loop-q.invariant in
    let q = c.loop-q.q in
    let p = c.args.p.now in
    let T = c.args.table.now in
    let sets = c.args.sets.now in
    let lt : q < length p.preds = omega (arith, c.loop-q-test.true, c.preds-q-end.ensures.count, c.loop-q.auto.q-end) in
    let d = slice_index_or sets q none in
    let f : slice_get sets q ≡ Some d = there sets q none (omega (arith, lt, c.requires.sets.each)) in
    let test = c.has_stated_row-stated.ensures in
    record {
      each = c.note.ensures.each ∙ i.each;
      stated = note_more (λ j r. r ≡ j → (b : Builtin) → kind_of p.arithmetic j ≡ Some b → IsTrue (family_of p.preds T sets j (true ∷ (true ∷ [])))) q q reason.Ground
          c.args.marks.now c.loop-q.marks c.note.new.self c.has_stated_row-stated.result i.stated (
            λ t eq b is.
                let one = some_is (λ (x : Pred). x.arity ≡ 2) (slice_get p.preds q) (c.preds-q-end.ensures.sound.binary q b is) in
                family_put p.preds T sets q (true ∷ (true ∷ [])) one.0 d one.1 f one.2 (test.0 t b is),
            λ all. test.1 (λ b is.
                let w = family_in p.preds T sets q (true ∷ (true ∷ [])) (all refl b is) in
                subst (λ (y : Diagram). IsTrue (truth_rows T y (true ∷ (true ∷ [])))) (one_element sets q w.1 d w.3 f) w.5),
          ) (λ r other same. absurd (other same)) c.note.ensures.at c.note.ensures.others;
    }

pub returns-clause-stated : goal.returns-clause-stated
returns-clause-stated c = λ q.
    let p = c.args.p.now in
    marked_same (c.loop-q.invariant.stated q) (
      λ h b is. h q (omega (arith, some_within (λ (x : Pred). x.arity ≡ 2) p.preds q (c.preds-q-end.ensures.sound.binary q b is), c.loop-q-test.false, c.preds-q-end.ensures.count, c.loop-q.auto.q-end)) refl b is,
      λ h j lt same. subst (λ (r : ℕ). (b : Builtin) → kind_of p.arithmetic r ≡ Some b → IsTrue (family_of p.preds c.args.table.now c.args.sets.now r (true ∷ (true ∷ [])))) same h,
    )
