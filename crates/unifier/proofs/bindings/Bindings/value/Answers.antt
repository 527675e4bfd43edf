use Rattle.unifier.proofs.StoreLaws.{value_same, value_falls}
use Rattle.unifier.proofs.bindings.Bindings.value.Goals as goal

pub returns-clause-same : goal.returns-clause-same
returns-clause-same c = value_same c.args.self.now c.args.variable c.slot.result c.slot.ensures.made c.slot.ensures.stored

pub returns-clause-falls : goal.returns-clause-falls
returns-clause-falls c = value_falls c.args.self.now c.args.variable c.slot.result c.slot.ensures.made c.slot.ensures.stored
