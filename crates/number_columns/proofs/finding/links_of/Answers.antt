use Rattle.std.proofs.Common.{◌≡◌, ◌∙◌, ◌<◌, ℕ, length, arith}
use Rattle.number_columns.specs.Links.{parent}
use Rattle.number_columns.proofs.KindLaws.{linked_up}
use Rattle.number_columns.proofs.finding.links_of.Goals as goal

pub returns : goal.returns
returns c =
    let p = c.args.p.now in
    let begin = c.in_ok-links.links.parents.items in
    let made = c.in_ok-links.ensures in
    let done = c.in_ok-link_clauses.ensures in
    linked_up p c.preds.ensures.sound begin c.link_builtins.new.links.parents.items c.link_clauses.new.links.parents.items (λ i lt. made.own i (omega (arith, lt, made.count))) c.link_builtins.ensures.links done.links c.link_builtins.ensures.closed done.closed
    (omega (arith, made.count, c.preds.ensures.count))
