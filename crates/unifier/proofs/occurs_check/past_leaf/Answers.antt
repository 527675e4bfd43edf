use Rattle.std.proofs.Common.{ap, sym, ◌∙◌}
use Rattle.unifier.specs.Raised.{raised_tree}
use Rattle.unifier.specs.Store.{full}
use Rattle.unifier.proofs.StoreLaws.{full_free}
use Rattle.unifier.proofs.FlatLaws.{flat_variable}
use Rattle.unifier.proofs.occurs_check.past_leaf.Goals as goal

pub returns-else-variable-other-clause-flat : goal.returns-else-variable-other-clause-flat
returns-else-variable-other-clause-flat c =
    let s = c.args.bindings.now in
    let y = c.in-Variable.other in
    let same = ap (full s) c.in-Variable.ensures.tree ∙ full_free s y (sym c.in-None.ensures.stored) in
    flat_variable s c.args.variable y c.past.result (raised_tree c.args.term) same c.if-variable-other.false c.past.ensures.newer
