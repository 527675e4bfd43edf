use Rattle.std.proofs.Common.{◌+◌, ap, ◌∙◌, ◌++◌, ◌∷◌, [], sym}
use Rattle.linear_rows.specs.Solving.{floors}
use Rattle.fourier.proofs.StartRows.{one_more, floors_on}
use Rattle.fourier.proofs.starting.push_floors.Goals as goal

pub loop-i-preserved : goal.loop-i-preserved
loop-i-preserved c =
    let long = c.args.count + 1 + c.args.many in
    one_more c.args.lines.now (floors c.loop-i.i 0 long) (floors (c.loop-i.i + 1) 0 long) c.loop-i.lines c.push.new.self c.in_ok-unit_line.field-0
    c.loop-i.invariant c.in_ok-push.ensures (floors_on c.loop-i.i long ∙ ap (λ x. floors c.loop-i.i 0 long ++ x ∷ []) (sym c.in_ok-unit_line.ensures))
