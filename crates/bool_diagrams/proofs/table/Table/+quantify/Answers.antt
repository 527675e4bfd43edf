use Rattle.std.proofs.Common.{ℕ, ◌+◌, arith}
use Rattle.bool_diagrams.specs.Joins.{Quantifies}
use Rattle.bool_diagrams.proofs.Canonical.{from_later}
use Rattle.bool_diagrams.proofs.Halves.{unasked, asked, quantified_from, low_known, high_known}
use Rattle.bool_diagrams.proofs.Nodes.{keeps_same, keeps_twice}
use Rattle.bool_diagrams.proofs.table.Table.+quantify.Goals as goal

pub returns-then-variable-first_of-clause-quantifies : goal.returns-then-variable-first_of-clause-quantifies
returns-then-variable-first_of-clause-quantifies t c =
    rw c.with_itself.ensures (unasked c.args.connective c.args.self.now c.args.a c.args.variable c.requires.known c.first_of.ensures.reduced
    (from_later _ (c.args.variable + 1) c.first_of.result (omega arith) c.first_of.ensures.from))

asked_here : (t : ℕ) (c : goal.After-remember-arg-1 t) → Quantifies c.join.new.self c.args.connective c.args.a c.args.variable c.in_ok-number.number
asked_here t c =
    let reduced = rw c.recall.ensures.same at c.node_of-node.ensures.reduced in
    let stands = rw c.recall.ensures.same at c.node_of-node.ensures.stands in
    let keeps = rw c.recall.ensures.same at c.in_ok-number.ensures.keeps in
    rw (← c.if-node-variable.true)
    (asked c.args.connective c.args.self.now c.join.new.self c.args.a c.in_ok-number.number c.node_of-node.result c.requires.known reduced stands keeps (low_known _ _ _ stands) (high_known _ _ _ stands)
    c.in_ok-number.ensures.joins)

pub remember-requires : goal.remember-requires
remember-requires t c = (let m = c.in_ok-number.ensures.keeps.more in let same = c.recall.ensures.same in let k = c.requires.known in omega arith, asked_here t c)

pub returns-then-node-variable-clause-quantifies : goal.returns-then-node-variable-clause-quantifies
returns-then-node-variable-clause-quantifies t c = rw c.remember.ensures (asked_here t c.before)

pub node-requires-clause-low_from : goal.node-requires-clause-low_from
node-requires-clause-low_from t c =
    quantified_from c.args.connective _ _ _ _ _ _ _ c.in_ok-low.ensures.keeps c.in_ok-high.ensures.keeps (low_known _ _ _ c.node_of-node.ensures.stands) c.node_of-node.ensures.stands.low_from c.in_ok-low.ensures.quantifies

pub node-requires-clause-high_from : goal.node-requires-clause-high_from
node-requires-clause-high_from t c =
    quantified_from c.args.connective _ _ _ _ _ _ _ (keeps_twice _ _ _ c.in_ok-low.ensures.keeps c.in_ok-high.ensures.keeps) (keeps_same _) (high_known _ _ _ c.node_of-node.ensures.stands) c.node_of-node.ensures.stands.high_from c.in_ok-high.ensures.quantifies
