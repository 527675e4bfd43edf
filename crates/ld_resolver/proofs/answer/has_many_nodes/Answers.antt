use Rattle.std.proofs.Common.{◌+◌, ◌++◌, length, ap, sym, ◌∙◌, arith}
use Rattle.cti_terms.specs.Tree.{all_nodes}
use Rattle.cti_terms.specs.declared.limits.TheConstants.{MOST_ANSWER_NODES}
use Rattle.unifier.specs.Raised.{raised_tree}
use Rattle.unifier.specs.Store.{full}
use Rattle.unifier.specs.Pending.{raw, weight}
use Rattle.ld_resolver.specs.Measured.{answered_terms, all_arguments}
use Rattle.ld_resolver.proofs.AnswerLaws.{nodes_of_query, lt_true}
use Rattle.cti_terms.proofs.UnifyLaws.{nodes_positive}
use Rattle.unifier.proofs.PendingLaws.{weight_last}
use Rattle.ld_resolver.proofs.answer.has_many_nodes.Goals as goal

pub returns-then-nodes : goal.returns-then-nodes
returns-then-nodes c =
    let s = c.args.bindings.now in
    let q = c.args.query.now in
    sym (lt_true MOST_ANSWER_NODES (all_nodes (answered_terms s q)) (omega (arith, nodes_of_query s q, c.if-nodes.true)))

pub loop-next-init : goal.loop-next-init
loop-next-init c =
    let s = c.args.bindings.now in
    let q = c.args.query.now in
    let stack = c.in_ok-push_query.ensures ∙ ap (λ l. raw l ++ all_arguments q) c.clear.ensures.items in
    record { counted = ap (λ l. length q + weight s l) stack ∙ sym (nodes_of_query s q); few = c.if-nodes.false }

pub returns-then-nodes-2 : goal.returns-then-nodes-2
returns-then-nodes-2 c =
    let s = c.args.bindings.now in
    let q = c.args.query.now in
    let first = weight_last s c.loop-next.stack.items c.pop.new.self.items c.in-Some.next (full s (raised_tree c.in-Some.next)) c.in-Some.ensures.items (λ i. full s (raised_tree c.in-Some.next)) in
    let positive = nodes_positive (full s (raised_tree c.in-Some.next)) in
    sym (lt_true MOST_ANSWER_NODES (all_nodes (answered_terms s q)) (omega (arith, first, positive, c.loop-next.invariant.counted, c.if-nodes-2.true)))

pub loop-next-smaller : goal.loop-next-smaller
loop-next-smaller c =
    let s = c.args.bindings.now in
    let first = weight_last s c.loop-next.stack.items c.pop.new.self.items c.in-Some.next (full s (raised_tree c.met.result.term)) c.in-Some.ensures.items (sym c.met.ensures.same) in
    omega (arith, first, c.in_ok-push_parts.ensures)

pub loop-next-preserved : goal.loop-next-preserved
loop-next-preserved c =
    let s = c.args.bindings.now in
    let first = weight_last s c.loop-next.stack.items c.pop.new.self.items c.in-Some.next (full s (raised_tree c.met.result.term)) c.in-Some.ensures.items (sym c.met.ensures.same) in
    record { counted = omega (arith, first, c.in_ok-push_parts.ensures, c.loop-next.invariant.counted); few = c.if-nodes-2.false }
