use Rattle.std.proofs.Common.{IsTrue, subst}
use Rattle.unifier.proofs.ConstantLaws.{integer_absent, name_absent}
use Rattle.unifier.specs.Raised.{raised_tree}
use Rattle.unifier.proofs.raised_term.RaisedTerm.is_constant.Goals as goal

pub returns-in-Integer : goal.returns-in-Integer
returns-in-Integer c _ s x = integer_absent s x c.in-Integer.field-0.now (raised_tree c.args.self) c.in-Integer.ensures.tree

pub returns-in-Compound : goal.returns-in-Compound
returns-in-Compound c h s x = name_absent s x c.args.self.base c.in-Compound.field-0.0 c.in-Compound.args.now (raised_tree c.args.self) c.in-Compound.ensures.tree (subst IsTrue c.is_empty.ensures h)
