use Rattle.std.proofs.Common.{◌∙◌, sym, arith, ◌+◌, ◌-◌}
use Rattle.fact_reading.proofs.LoopLemmas.{part_err}
use Rattle.prove_structure.proofs.LoopLemmas.{groups_end, groups_err, groups_more}
use Rattle.prove_structure.proofs.groups.Groups.read_groups.Goals as goal

pub returns-in_err-group : goal.returns-in_err-group
returns-in_err-group c =
    part_err c.from_residual.result _ _ _ c.from_residual.ensures c.in_err-group.ensures λ w bad.
    sym c.loop.invariant ∙ groups_err _ _ _ _ c.loop.groups _ _ _ (c.args.count - (c.loop.counter + 1)) w (omega (arith, c.loop-test.true)) bad

pub loop-preserved : goal.loop-preserved
loop-preserved c =
    let more = groups_more _ _ _ _ c.loop.groups _ (c.args.count - c.loop.counter) _ (c.args.count - (c.loop.counter + 1)) _ _ (omega (arith, c.loop-test.true)) c.in_ok-group.ensures in
    rw c.in_ok-push.ensures.ok (more ∙ c.loop.invariant)

pub returns : goal.returns
returns c = sym c.loop.invariant ∙ groups_end _ _ _ _ c.loop.groups _ _ _ (omega (arith, c.loop-test.false))
