use Rattle.std.proofs.Common.{◌+◌, ◌-◌, ◌++◌, ◌∷◌, [], arith, ap, ◌∙◌, length, map}
use Rattle.linear_rows.specs.Step.{columns}
use Rattle.lex_measures.specs.Lists.{printed_at}
use Rattle.cert_assembly.proofs.NoteLaws.{added}
use Rattle.cert_assembly.proofs.PartLaws.{mapped_step}
use Rattle.lex_measures.proofs.printed.Printed.lists.Goals as goal

pub loop-q-preserved : goal.loop-q-preserved
loop-q-preserved c =
    let f = printed_at c.args.self.now.p.now c.args.self.now.comps.now c.args.self.now.found.now in
    let n = length c.args.self.now.p.now.preds in
    let q = c.loop-q.q in
    added _ _ (f q ∷ []) (map f (columns (q + 1) (n - (q + 1)))) (map f (columns q (n - q))) _ (c.in_ok-push.ensures.ok ∙ ap (λ x. c.loop-q.lists ++ x ∷ []) c.in_ok-printed_at.ensures) (mapped_step f q n (omega arith)) c.loop-q.invariant
