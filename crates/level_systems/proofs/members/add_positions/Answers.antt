use Rattle.std.proofs.Common.{◌+◌, ◌-◌, ◌++◌, map, ap, ◌∙◌}
use Rattle.termination_model.proofs.Lists.{map_push}
use Rattle.level_systems.specs.Held.{spelled}
use Rattle.level_systems.specs.Ordered.{arguments_from}
use Rattle.level_systems.proofs.MemberLists.{arguments_step}
use Rattle.level_systems.specs.declared.position.Position.{Position}
use Rattle.level_systems.proofs.members.add_positions.Goals as goal

pub loop-argument-preserved : goal.loop-argument-preserved
loop-argument-preserved c =
    let a = c.loop-argument.argument in
    let n = c.pred.result.now.arity in
    let x : Position = record { pred = c.args.pred; argument = a } in
    ap (λ ps. map spelled ps ++ arguments_from c.args.pred.0 (a + 1) (n - (a + 1))) c.in_ok-push.ensures.items
    ∙ ap (λ s. s ++ arguments_from c.args.pred.0 (a + 1) (n - (a + 1))) (map_push spelled c.loop-argument.positions.items x)
    ∙ arguments_step (map spelled c.loop-argument.positions.items) c.args.pred.0 a n c.loop-argument-test.true
    ∙ c.loop-argument.invariant
