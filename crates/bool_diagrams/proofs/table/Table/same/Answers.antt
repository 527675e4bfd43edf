use Rattle.bool_diagrams.proofs.Tables.{same_exactly}
use Rattle.bool_diagrams.proofs.Numbers.{numbers_exactly}
use Rattle.bool_diagrams.proofs.table.Table.same.Goals as goal

pub returns-clause-rows : goal.returns-clause-rows
returns-clause-rows c = rw (← c.self.view_is) (same_exactly _ c.args.a.0 c.args.b.0 c.self.invariant.sound (rw c.self.view_is c.requires.left) (rw c.self.view_is c.requires.right))

pub returns-clause-numbers : goal.returns-clause-numbers
returns-clause-numbers c = rw (← c.self.view_is) (numbers_exactly _ c.args.a.0 c.args.b.0 c.self.invariant.sound (rw c.self.view_is c.requires.left) (rw c.self.view_is c.requires.right))
