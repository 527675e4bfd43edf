use Rattle.std.proofs.Common.{refl, sym, subst}
use Rattle.unifier.specs.Store.{IsOpen}
use Rattle.unifier.proofs.PendingLaws.{is_met}
use Rattle.unifier.proofs.bindings.Bindings.met_free.Goals as goal

pub returns-in-None : goal.returns-in-None
returns-in-None c =
    let s = c.args.self.now in
    let shape = c.shape-shape.result in
    let is_open = subst (IsOpen s) (sym c.in-Variable.ensures.tree) (sym c.in-None.ensures.stored) in
    (is_met s c.args.term shape c.shape-shape.ensures.tree c.shape-shape.ensures.small is_open, refl)
