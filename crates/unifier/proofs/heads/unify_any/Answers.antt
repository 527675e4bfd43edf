use Rattle.std.proofs.Common.{sym, subst}
use Rattle.cti_terms.specs.Below.{TermBelow}
use Rattle.unifier.proofs.HeadSteps.{pair_same}
use Rattle.unifier.proofs.heads.unify_any.Goals as goal

pub unify_met-requires-clause-below : goal.unify_met-requires-clause-below
unify_met-requires-clause-below c = subst (TermBelow c.args.limit.now) (sym c.met-l.ensures.same) c.requires

pub returns-clause-unified : goal.returns-clause-unified
returns-clause-unified c =
    pair_same c.args.bindings.now c.unify_met.new.bindings c.met-l.result.term c.met-r.result.term c.args.left c.args.right c.in_ok-unified.unified c.met-l.ensures.same c.met-r.ensures.same c.in_ok-unified.ensures.unified
