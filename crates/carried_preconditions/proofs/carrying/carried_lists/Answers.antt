use Rattle.std.proofs.Common.{◌∙◌, List, [], ap, arith, length, slice_get, subst, sym}
use Rattle.std.proofs.lemmas.List.{length_push}
use Rattle.bool_diagrams.specs.declared.diagram.Diagram.{Diagram}
use Rattle.solved_program.specs.Carried.{IsCarriedValue}
use Rattle.solved_program.proofs.Resolved.{each_more}
use Rattle.carried_preconditions.proofs.carrying.carried_lists.Goals as goal

pub loop-q-preserved : goal.loop-q-preserved
loop-q-preserved c =
    let e = c.args.edit.now in
    let i = c.loop-q.invariant in
    let items = c.in_ok-push.ensures.items in
    let own = c.in_ok-own.own in
    let one : IsCarriedValue e c.args.old.now [] (length c.loop-q.lists.items) own = subst (λ n. IsCarriedValue e c.args.old.now [] n own) (sym i.each) c.in_ok-own.ensures in
    record {
      each = omega (arith, c.in_ok-push.ensures.len, i.each, ap length items, length_push c.loop-q.lists.items own);
      carried = λ r d at. each_more (IsCarriedValue e c.args.old.now []) c.loop-q.lists.items own i.carried one r d (sym (ap (λ (xs : List (List Diagram)). slice_get xs r) items) ∙ at);
    }
