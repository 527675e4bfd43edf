use Rattle.std.proofs.Common.{◌≡◌, Some, arith, get_or, slice_get, sym, ap, ◌∙◌, ◌<◌, length}
use Rattle.bool_diagrams.specs.declared.diagram.Diagram.{Diagram}
use Rattle.termination_model.proofs.Lists.{there}
use Rattle.cert_assembly.proofs.PlaceLaws.{arity_has}
use Rattle.cert_assembly.specs.Spelled.{spelled}
use Rattle.cert_assembly.proofs.sets.spelled.Goals as goal

pub paths-requires-clause-reads : goal.paths-requires-clause-reads
paths-requires-clause-reads c =
    let sets = c.args.sets.now in
    let q = c.args.q in
    let each = c.requires.sets.each in
    let less : q < length sets = omega (arith, each, c.requires.there) in
    let d : Diagram = get_or sets q (record { 0 = 0 }) in
    c.requires.sets.reads q c.pred.result.now.arity d (there sets q (record { 0 = 0 }) less) (arity_has c.args.p.now.preds q c.pred.result.now c.pred.ensures)

pub returns : goal.returns
returns c =
    let sets = c.args.sets.now in
    let q = c.args.q in
    let t = c.args.table.now in
    let each = c.requires.sets.each in
    let less : q < length sets = omega (arith, each, c.requires.there) in
    let d : Diagram = get_or sets q (record { 0 = 0 }) in
    let at : slice_get sets q ≡ Some d = there sets q (record { 0 = 0 }) less in
    c.from_vec.ensures ∙ c.in_ok-cubes.ensures.cubes ∙ sym (ap (λ o. spelled o t (slice_get sets q)) c.pred.ensures ∙ ap (λ o. spelled (Some c.pred.result.now) t o) at)
