use Rattle.std.proofs.Common.{◌+◌, ◌-◌, ◌++◌, ◌∷◌, [], ℕ, arith, ap, ◌∙◌, length, map, slice_get}
use Rattle.linear_rows.specs.Step.{columns}
use Rattle.number_tests.specs.Levels.{items_of}
use Rattle.cert_assembly.specs.Spelled.{spelled_each}
use Rattle.cert_assembly.proofs.NoteLaws.{added}
use Rattle.cert_assembly.proofs.PartLaws.{mapped_step}
use Rattle.cert_assembly.proofs.sets.spelled_lists.Goals as goal

pub loop-q-preserved : goal.loop-q-preserved
loop-q-preserved c =
    let f = λ (q : ℕ). spelled_each c.args.p.now.preds c.args.table.now (slice_get c.args.p.now.preds q) (items_of c.args.sets.now q) in
    let n = length c.args.p.now.preds in
    let q = c.loop-q.q in
    added _ _ (f q ∷ []) (map f (columns (q + 1) (n - (q + 1)))) (map f (columns q (n - q))) _ (c.in_ok-push.ensures.ok ∙ ap (λ x. c.loop-q.lists ++ x ∷ []) c.in_ok-spelled_at.ensures) (mapped_step f q n (omega arith)) c.loop-q.invariant
