use Rattle.std.proofs.Common.{refl, sym, subst}
use Rattle.unifier.specs.Store.{IsOpen}
use Rattle.unifier.proofs.PendingLaws.{is_met}
use Rattle.unifier.proofs.raised_term.RaisedTerm.met_compound.Goals as goal

pub returns-in-Compound : goal.returns-in-Compound
returns-in-Compound c = (
  λ s. is_met s c.args.self c.shape-shape.result c.shape-shape.ensures.tree c.shape-shape.ensures.small (subst (IsOpen s) (sym c.in-Compound.ensures.tree) tt),
  refl,
)
