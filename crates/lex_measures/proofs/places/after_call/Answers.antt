use Rattle.std.proofs.Common.{◌+◌, inr, refl, arith}
use Rattle.lex_measures.proofs.DropLaws.{passed_before, passed_more, passed_on}
use Rattle.lex_measures.proofs.places.after_call.Goals as goal

pub returns-then-are_at : goal.returns-then-are_at
returns-then-are_at c =
    passed_before c.args.lists.now (c.args.at + 1) c.saturating_add.result c.args.clause (c.args.call + 1) (omega arith) (passed_more c.args.lists.now c.args.at c.args.clause c.args.call (c.are_at.ensures c.if-are_at.true) c.requires)

pub returns-else-are_at : goal.returns-else-are_at
returns-else-are_at c = passed_on c.args.lists.now c.args.at c.args.clause c.args.call c.args.clause (c.args.call + 1) (inr (refl, omega arith)) c.requires
