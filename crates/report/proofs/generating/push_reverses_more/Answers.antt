use Rattle.report.proofs.GeneratedLaws.{reverses_after}
use Rattle.report.proofs.generating.push_reverses_more.Goals as goal

pub returns : goal.returns
returns c = reverses_after c.push_named-3.result c.args.k c.args.text.now.items _ _ c.push_named-3.new.text.items c.in_ok-push_named.ensures c.in_ok-push_named-2.ensures c.push_named-3.ensures
