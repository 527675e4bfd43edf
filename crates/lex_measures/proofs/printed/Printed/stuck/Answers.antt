use Rattle.std.proofs.Common.{◌+◌, ◌-◌, ◌++◌, ◌∷◌, [], ℕ, arith, ap, ◌∙◌, length, map}
use Rattle.linear_rows.specs.Step.{columns}
use Rattle.lex_measures.specs.Lists.{stuck_of}
use Rattle.cert_assembly.specs.Leading.{led_by}
use Rattle.cert_assembly.proofs.NoteLaws.{added}
use Rattle.cert_assembly.proofs.PartLaws.{mapped_step}
use Rattle.lex_measures.proofs.printed.Printed.stuck.Goals as goal

pub loop-q-preserved : goal.loop-q-preserved
loop-q-preserved c =
    let f = λ (q : ℕ). stuck_of c.args.self.now.found.now (led_by c.args.self.now.comps.now q) in
    let n = length c.args.self.now.p.now.preds in
    let q = c.loop-q.q in
    added _ _ (f q ∷ []) (map f (columns (q + 1) (n - (q + 1)))) (map f (columns q (n - q))) _ (c.in_ok-push.ensures.ok ∙ ap (λ x. c.loop-q.stuck ++ x ∷ []) c.in_ok-stuck_at.ensures) (mapped_step f q n (omega arith)) c.loop-q.invariant
