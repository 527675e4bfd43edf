use Rattle.unifier.proofs.unification.step.Goals as goal

pub returns-in-Integer-Integer-clause-fit : goal.returns-in-Integer-Integer-clause-fit
returns-in-Integer-Integer-clause-fit c = c.nothing_or_clash.ensures.fit c.args.bindings.now

pub returns-in-Compound-Compound-clause-fit : goal.returns-in-Compound-Compound-clause-fit
returns-in-Compound-Compound-clause-fit c = c.arguments_or_clash.ensures.fit c.args.bindings.now
