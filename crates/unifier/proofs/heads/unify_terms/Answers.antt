use Rattle.std.proofs.Common.{ap, sym, subst}
use Rattle.unifier.specs.declared.raised_term.RaisedTerm.{RaisedTerm}
use Rattle.unifier.specs.Raised.{raised_tree}
use Rattle.unifier.specs.Store.{full}
use Rattle.cti_terms.specs.Below.{TermBelow}
use Rattle.unifier.proofs.HeadSteps.{pair_same}
use Rattle.unifier.proofs.heads.unify_terms.Goals as goal

pub unify_compounds-requires-clause-below : goal.unify_compounds-requires-clause-below
unify_compounds-requires-clause-below c = subst (TermBelow c.args.limit.now) (sym c.met-l.ensures.same) c.requires

pub unify_compounds-requires-clause-right : goal.unify_compounds-requires-clause-right
unify_compounds-requires-clause-right c = c.in-Some.ensures.0 c.args.bindings.now

pub returns-in-Some-clause-unified : goal.returns-in-Some-clause-unified
returns-in-Some-clause-unified c =
    let s = c.args.bindings.now in
    let r = c.in-Some.r in
    pair_same s c.unify_compounds.new.bindings c.met-l.result.term r.term c.args.left c.args.right c.in_ok-compound.compound c.met-l.ensures.same (ap (λ (x : RaisedTerm). full s (raised_tree x)) c.in-Some.ensures.1) c.in_ok-compound.ensures.unified
