use Rattle.std.proofs.Common.{◌∙◌, Bool, List, ap, arith, length, slice_get, subst, sym}
use Rattle.std.proofs.lemmas.List.{length_push}
use Rattle.termination_model.specs.sizes.Sizes.{rows_of}
use Rattle.solved_program.specs.Marks.{IsMarkOf}
use Rattle.solved_program.proofs.PredMarks.{marks_all}
use Rattle.solved_program.proofs.Resolved.{each_more}
use Rattle.solved_program.proofs.marking.stayed_rows.Goals as goal

pub loop-q-preserved : goal.loop-q-preserved
loop-q-preserved c =
    let e = c.args.edit.now in
    let old = rows_of c.args.before.now in
    let now = rows_of c.args.rows.now in
    let i = c.loop-q.invariant in
    let items = c.in_ok-push.ensures.items in
    let one : IsMarkOf e old now (length c.loop-q.marks.items) c.has_stayed.result = subst (λ n. IsMarkOf e old now n c.has_stayed.result) (sym i.each) c.has_stayed.ensures in
    record {
      each = omega (arith, c.in_ok-push.ensures.len, i.each, ap length items, length_push c.loop-q.marks.items c.has_stayed.result);
      at = λ r x at. each_more (IsMarkOf e old now) c.loop-q.marks.items c.has_stayed.result i.at one r x (sym (ap (λ (xs : List Bool). slice_get xs r) items) ∙ at);
    }

pub returns : goal.returns
returns c =
    let e = c.args.edit.now in
    let i = c.loop-q.invariant in
    marks_all e (rows_of c.args.before.now) (rows_of c.args.rows.now) (length e.components.now.members) c.loop-q.marks.items (omega (arith, i.each, c.preds-q-end.ensures.count, c.loop-q-test.false, c.loop-q.auto.q-end)) i.at
