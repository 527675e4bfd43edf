use Rattle.std.proofs.Common.{◌-◌, drop, length, take, ap, sym, ◌∙◌}
use Rattle.level_systems.proofs.ValueLaws.{rest_whole}
use Rattle.level_systems.specs.Falling.{values_after}
use Rattle.level_dual.proofs.falling.values_after.Goals as goal

pub returns-in-None : goal.returns-in-None
returns-in-None c =
    let n = c.args.own.now.rows.list in
    (λ i. take (length c.args.values.now - c.len.ensures i) (drop (c.len.ensures i) c.args.values.now)) ∙ rest_whole c.args.values.now (length n)
    ∙ sym (ap (λ m. values_after m (length n) c.args.values.now) c.in-None.is)
