use Rattle.std.proofs.Common.{◌≡◌, ℕ, Bool, true, false, List, arith, if◌then◌else◌, refl, ◌∙◌}
use Rattle.bool_diagrams.specs.Tree.{Tree, value}
use Rattle.bool_diagrams.specs.Rows.{tree}
use Rattle.bool_diagrams.proofs.Nodes.{tree_constant}
use Rattle.bool_diagrams.proofs.table.Table.var.Goals as goal

pub node-requires-clause-low_from : goal.node-requires-clause-low_from
node-requires-clause-low_from c = rw (tree_constant c.args.self.now 0 (omega arith)) tt

pub node-requires-clause-high_from : goal.node-requires-clause-high_from
node-requires-clause-high_from c = rw (tree_constant c.args.self.now 1 (omega arith)) tt

chosen : (ts : List Tree) (x : Bool) (row : ℕ → Bool) → (if x then value (tree ts 1) row else value (tree ts 0) row) ≡ x
chosen ts true row = rw (tree_constant ts 1 (omega arith)) refl
chosen ts false row = rw (tree_constant ts 0 (omega arith)) refl

pub returns-clause-rows : goal.returns-clause-rows
returns-clause-rows c = λ row. c.in_ok-node.ensures.made.rows row ∙ chosen c.args.self.now (row c.args.v) row
