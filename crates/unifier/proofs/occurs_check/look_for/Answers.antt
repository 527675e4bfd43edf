use Rattle.unifier.specs.Raised.{raised_tree}
use Rattle.unifier.proofs.FlatLaws.{flat_named}
use Rattle.unifier.proofs.occurs_check.look_for.Goals as goal

pub returns-in-Some : goal.returns-in-Some
returns-in-Some c =
    flat_named c.args.bindings.now c.args.variable c.in-Some.above c.args.term.base c.in-Compound.field-0.0 (raised_tree c.args.term) c.in-Compound.args.now c.in-Compound.ensures.tree c.in-Some.ensures
