use Rattle.bool_diagrams.proofs.Memos.{table_put}
use Rattle.bool_diagrams.proofs.table.Table.remember.Goals as goal

pub invariant_of-self : goal.invariant_of-self
invariant_of-self c =
    table_put _ c.self.inside.unique c.self.inside.memo.answers.entries c.keep.new.self.answers.entries c.args.key c.args.number c.self.invariant (rw c.self.view_is c.requires) c.keep.ensures
