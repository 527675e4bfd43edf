use Rattle.std.proofs.Common.{arith}
use Rattle.bool_diagrams.proofs.Nodes.{tree_constant}
use Rattle.bool_diagrams.proofs.Renamed.{chosen_rows}
use Rattle.bool_diagrams.proofs.table.Table.choose.Goals as goal

pub node-requires-2-clause-low_from : goal.node-requires-2-clause-low_from
node-requires-2-clause-low_from c = rw (tree_constant c.args.self.now 0 (omega arith)) tt

pub node-requires-2-clause-high_from : goal.node-requires-2-clause-high_from
node-requires-2-clause-high_from c = rw (tree_constant c.args.self.now 1 (omega arith)) tt

pub node-requires-3-clause-low_from : goal.node-requires-3-clause-low_from
node-requires-3-clause-low_from c = rw (tree_constant c.node-2.new.self 1 (omega arith)) tt

pub node-requires-3-clause-high_from : goal.node-requires-3-clause-high_from
node-requires-3-clause-high_from c = rw (tree_constant c.node-2.new.self 0 (omega arith)) tt

pub returns-clause-rows : goal.returns-clause-rows
returns-clause-rows c =
    chosen_rows _ _ _ _ _ _ _ _ _ _ _ _ _ _ c.requires.low_of c.requires.high_of c.in_ok-is_true.ensures.keeps c.in_ok-is_true.ensures.made c.in_ok-is_false.ensures.keeps c.in_ok-is_false.ensures.made
    c.in_ok-from_high.ensures.keeps c.in_ok-from_high.ensures.joins c.in_ok-from_low.ensures.keeps c.in_ok-from_low.ensures.joins c.in_ok-number.ensures.keeps c.in_ok-number.ensures.joins
