use Rattle.std.proofs.Common.{List, [], ◌∷◌, ◌++◌, map, option_map, ap, sym, ◌∙◌, arith}
use Rattle.cti_terms.specs.Tree.{Tree, instance}
use Rattle.cti_terms.specs.Spell.{tree_of}
use Rattle.unifier.specs.Raised.{raise}
use Rattle.unifier.specs.Shapes.{shape_full}
use Rattle.unifier.specs.Pending.{raw, weight}
use Rattle.ld_resolver.specs.Values.{all_judged, stack_by, operands}
use Rattle.unifier.proofs.PendingLaws.{weight-append, weight_last}
use Rattle.ld_resolver.proofs.ValueLaws.{waiting_terms, waiting_last, waiting_operands, mapped_twice}
use Rattle.ld_resolver.proofs.values.list_operators.Goals as goal

pub loop-next-smaller : goal.loop-next-smaller
loop-next-smaller c =
    let s = c.args.bindings.now in
    let rest = c.pop.new.self.items in
    let n = c.met-met.result.term.base in
    let tree = shape_full s n c.met-met.result.shape in
    let args = c.in-Some-split.operands.now in
    let last = weight_last s c.loop-next.stack.items rest c.in-Some.next tree c.in-Some.ensures.items (sym c.met-met.ensures.same ∙ c.met-met.ensures.met.tree) in
    let pushed = ap (weight s) c.in_ok-push_arguments-in-Some-split.ensures ∙ weight-append s (raw rest) (map (instance (raise n)) (map tree_of args)) in
    let fewer = (c.in-Some-split.ensures s n).1 in
    omega (arith, last, pushed, fewer)

pub loop-next-preserved : goal.loop-next-preserved
loop-next-preserved c =
    let s = c.args.bindings.now in
    let o = c.args.names in
    let rest = c.pop.new.self.items in
    let new = c.push_arguments.new.stack.items in
    let n = c.met-met.result.term.base in
    let tree = shape_full s n c.met-met.result.shape in
    let args = c.in-Some-split.operands.now in
    let x = c.in-Some-split.operator in
    let xs = c.loop-next.operators.items in
    let last = waiting_last s c.loop-next.stack.items rest c.in-Some.next tree c.in-Some.ensures.items (sym c.met-met.ensures.same ∙ c.met-met.ensures.met.tree) in
    ap (λ ys. option_map (stack_by ys) (all_judged o (waiting_terms s new))) c.in_ok-push-in-Some-split.ensures.items
    ∙ ap (λ (l : List Tree). option_map (stack_by (xs ++ x ∷ [])) (all_judged o l)) (waiting_operands s n args new rest c.in_ok-push_arguments-in-Some-split.ensures)
    ∙ mapped_twice xs x (all_judged o (operands s n args ++ waiting_terms s rest))
    ∙ ap (option_map (stack_by xs)) (sym ((c.in-Some-split.ensures s n).0 (waiting_terms s rest)))
    ∙ ap (λ (l : List Tree). option_map (stack_by xs) (all_judged o l)) (sym last)
    ∙ c.loop-next.invariant
