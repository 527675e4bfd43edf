use Rattle.bool_diagrams.proofs.Nodes.{keeps_same, keeps_twice}
use Rattle.bool_diagrams.proofs.Halves.{half_from}
use Rattle.bool_diagrams.proofs.table.Table.+join_down.Goals as goal

pub node-requires-clause-low_from : goal.node-requires-clause-low_from
node-requires-clause-low_from t c =
    half_from c.args.connective _ _ _ _ _ _ _ c.in_ok-low.ensures.keeps c.in_ok-high.ensures.keeps c.split-a_low.ensures.low_of c.split-b_low.ensures.low_of
    c.split-a_low.ensures.low_from c.split-b_low.ensures.low_from c.in_ok-low.ensures.joins

pub node-requires-clause-high_from : goal.node-requires-clause-high_from
node-requires-clause-high_from t c =
    half_from c.args.connective _ _ _ _ _ _ _ (keeps_twice _ _ _ c.in_ok-low.ensures.keeps c.in_ok-high.ensures.keeps) (keeps_same _) c.split-a_low.ensures.high_of c.split-b_low.ensures.high_of
    c.split-a_low.ensures.high_from c.split-b_low.ensures.high_from c.in_ok-high.ensures.joins
