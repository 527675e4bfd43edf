use Rattle.std.proofs.Common.{◌≡◌, ◌<◌, ◌+◌, pos, ◌∙◌, ◌∷◌, drop, length, arith, sym}
use Rattle.std.proofs.lemmas.Option.{get_or_from_slice_get}
use Rattle.std.specs.Prelude.{All, ◌≤ℤ◌}
use Rattle.linear_rows.specs.Plain.{plain_row, plain_rows}
use Rattle.linear_rows.specs.Systems.{difference, opposite, equalities}
use Rattle.redundant_rows.proofs.Appends.{row_moved, equalities_left, natural_negatable}
use Rattle.redundant_rows.proofs.RowLists.{still_wide, plain_has}
use Rattle.polyhedra.proofs.image_system.push_equalities.Goals as goal

pub at_least-requires-clause-numbers : goal.at_least-requires-clause-numbers
at_least-requires-clause-numbers c =
    let lt : c.loop-i.i < length c.args.head.now.list = omega (arith, c.len-i-end.ensures) in
    natural_negatable (plain_row c.get-expression.result.now) (plain_has (λ r. All (λ x. pos 0 ≤ℤ x) r) c.args.head.now.list c.loop-i.i c.get-expression.result.now lt (sym (get_or_from_slice_get c.args.head.now.list c.loop-i.i c.get-expression.result.now c.get-expression.result.now c.get-expression.ensures)) c.requires.natural)

pub loop-i-preserved : goal.loop-i-preserved
loop-i-preserved c =
    let i = c.loop-i.invariant in
    let n = c.args.rows.now.width in
    let a = c.args.arity in
    let k = c.loop-i.i in
    let head = c.args.head.now.list in
    let e = c.get-expression.result.now in
    let d = difference a k (plain_row e) in
    let rest = equalities a (k + 1) (plain_rows (drop (k + 1) head)) in
    let lt : k < length head = omega (arith, c.len-i-end.ensures) in
    let middle = c.push.new.self in
    let last = c.push-in-loop-i.new.self in
    let width : middle.width ≡ n = c.push.ensures.width ∙ i.width in
    record {
      width = c.push-in-loop-i.ensures.width ∙ width;
      widths = still_wide middle last n width c.push-in-loop-i.ensures.width c.push-in-loop-i.ensures.rows (still_wide c.loop-i.rows middle n i.width c.push.ensures.width c.push.ensures.rows i.widths);
      rows = row_moved middle.list last.list c.in_ok-at_most.field-0 (opposite d) (opposite d ∷ rest) rest _ c.in_ok-push-2.ensures.ok c.in_ok-at_most.ensures.row (λ _. opposite d ∷ rest)
          (row_moved c.loop-i.rows.list middle.list c.in_ok-at_least.field-0 d (equalities a k (plain_rows (drop k head))) (opposite d ∷ rest) _ c.in_ok-push.ensures.ok c.in_ok-at_least.ensures.row (equalities_left a k head e lt (sym (get_or_from_slice_get c.args.head.now.list c.loop-i.i c.get-expression.result.now c.get-expression.result.now c.get-expression.ensures))) i.rows);
    }
