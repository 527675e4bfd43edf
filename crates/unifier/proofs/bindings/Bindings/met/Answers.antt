use Rattle.std.proofs.Common.{sym, subst}
use Rattle.unifier.specs.Raised.{raised_tree}
use Rattle.unifier.specs.Store.{IsOpen}
use Rattle.unifier.proofs.PendingLaws.{shape_is, shape_free, shape_open}
use Rattle.unifier.proofs.bindings.Bindings.met.Goals as goal

pub returns-in-None-clause-met : goal.returns-in-None-clause-met
returns-in-None-clause-met c =
    let s = c.args.self.now in
    let r = c.loop-x.now in
    let h = c.shape-shape.result in
    let tree = c.shape-shape.ensures.tree in
    let is_open = subst (IsOpen s) (sym c.in-Variable.ensures.tree) (sym c.in-None.ensures.stored) in
    record {
      tree = shape_is s r.base (raised_tree r) h tree is_open;
      followed = is_open;
      small = c.shape-shape.ensures.small;
      free = shape_free s r.base (raised_tree r) h tree is_open;
    }

pub returns-in_default : goal.returns-in_default
returns-in_default c =
    let s = c.args.self.now in
    let r = c.loop-x.now in
    let h = c.shape-shape.result in
    let tree = c.shape-shape.ensures.tree in
    let is_open = shape_open s r.base (raised_tree r) h tree c.in_default.not-Variable in
    record {
      met = record {
        tree = shape_is s r.base (raised_tree r) h tree is_open;
        followed = is_open;
        small = c.shape-shape.ensures.small;
        free = shape_free s r.base (raised_tree r) h tree is_open;
      };
      same = c.loop-x.invariant;
    }
