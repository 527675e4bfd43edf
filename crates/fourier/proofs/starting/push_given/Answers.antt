use Rattle.std.proofs.Common.{◌≡◌, ◌<◌, ◌+◌, arith, ap, ◌∙◌, ◌++◌, ◌∷◌, pos, take, length, sym}
use Rattle.std.proofs.lemmas.Option.{get_or_from_slice_get}
use Rattle.linear_rows.specs.Plain.{plain_rows}
use Rattle.linear_rows.specs.Solving.{units, carried}
use Rattle.fourier.proofs.StartRows.{one_more, given_on}
use Rattle.fourier.proofs.starting.push_given.Goals as goal

pub loop-i-preserved : goal.loop-i-preserved
loop-i-preserved c =
    let many = length c.args.rows.now.list in
    let given = plain_rows c.args.rows.now.list in
    let lt : c.loop-i.i < many = omega (arith, c.len-many.ensures) in
    let line : c.in_ok-given_line.field-0 ≡ pos 0 ∷ (c.get.result.now.coeffs ++ c.get.result.now.constant ∷ units many c.loop-i.i) =
    c.in_ok-given_line.ensures ∙ ap (λ k. pos 0 ∷ (c.get.result.now.coeffs ++ c.get.result.now.constant ∷ units k c.loop-i.i)) c.len-many.ensures in
    one_more c.args.lines.now (carried many 0 (take c.loop-i.i given)) (carried many 0 (take (c.loop-i.i + 1) given)) c.loop-i.lines c.push.new.self c.in_ok-given_line.field-0
    c.loop-i.invariant c.in_ok-push.ensures (given_on many c.loop-i.i c.args.rows.now.list c.get.result.now c.in_ok-given_line.field-0 lt (sym (get_or_from_slice_get c.args.rows.now.list c.loop-i.i c.get.result.now c.get.result.now c.get.ensures)) line)
