use Rattle.std.proofs.Common.{◌-◌, drop, length, take, ◌∙◌}
use Rattle.level_systems.proofs.ValueLaws.{rest_whole}
use Rattle.lex_turns.proofs.dropping.later_values.Goals as goal

pub returns : goal.returns
returns c =
    let n = c.args.own.now.rows.list in
    (λ i. take (length c.args.values.now - c.len.ensures i) (drop (c.len.ensures i) c.args.values.now)) ∙ rest_whole c.args.values.now (length n)
