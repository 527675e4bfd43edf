use Rattle.std.proofs.Common.{◌∙◌, List, ap, arith, length, slice_get, subst, sym}
use Rattle.std.proofs.lemmas.List.{length_push}
use Rattle.bool_diagrams.specs.declared.diagram.Diagram.{Diagram}
use Rattle.solved_program.specs.Carried.{IsCarriedValue}
use Rattle.solved_program.proofs.Resolved.{each_more}
use Rattle.solved_program.proofs.grounds.carried_sets.Goals as goal

pub loop-q-preserved : goal.loop-q-preserved
loop-q-preserved c =
    let e = c.args.edit.now in
    let i = c.loop-q.invariant in
    let items = c.in_ok-push.ensures.items in
    let one : IsCarriedValue e c.args.old.now c.args.none (length c.loop-q.sets.items) c.carried_set.result = subst (λ n. IsCarriedValue e c.args.old.now c.args.none n c.carried_set.result) (sym i.each) c.carried_set.ensures in
    record {
      each = omega (arith, c.in_ok-push.ensures.len, i.each, ap length items, length_push c.loop-q.sets.items c.carried_set.result);
      carried = λ r d at. each_more (IsCarriedValue e c.args.old.now c.args.none) c.loop-q.sets.items c.carried_set.result i.carried one r d (sym (ap (λ (xs : List Diagram). slice_get xs r) items) ∙ at);
    }
