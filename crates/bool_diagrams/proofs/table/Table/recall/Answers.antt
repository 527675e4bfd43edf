use Rattle.bool_diagrams.proofs.Memos.{right_found, table_within}
use Rattle.bool_diagrams.proofs.table.Table.recall.Goals as goal

pub invariant_of-self : goal.invariant_of-self
invariant_of-self c = table_within _ c.self.inside.unique c.self.inside.memo.answers.entries c.answer.new.self.answers.entries c.args.key c.self.invariant c.answer.ensures.within

pub returns-clause-right : goal.returns-clause-right
returns-clause-right c =
    rw (← c.self.view_is) (right_found _ c.self.inside.unique c.self.inside.memo.answers.entries c.answer.new.self.answers.entries c.args.key c.answer.result c.self.invariant c.answer.ensures.kept)
