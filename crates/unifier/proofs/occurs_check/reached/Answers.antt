use Rattle.std.proofs.Common.{[], ◌∷◌, ◌++◌, refl, ap, sym, ◌∙◌, subst, arith}
use Rattle.cti_terms.specs.Unify.{occurs}
use Rattle.unifier.specs.Raised.{raised_tree}
use Rattle.unifier.specs.Store.{full, chain_of, IsOpen}
use Rattle.unifier.specs.Visits.{IsVisit}
use Rattle.unifier.proofs.PendingLaws.{shape_open}
use Rattle.unifier.proofs.LeadLaws.{lead_on, leads_absent, leads_again, leads_bound}
use Rattle.unifier.proofs.occurs_check.reached.Goals as goal

pub loop-other-init : goal.loop-other-init
loop-other-init c = record { same = refl; leads = λ ts x h. (refl, h) }

pub returns-then-is_constant : goal.returns-then-is_constant
returns-then-is_constant c ts x =
    let s = c.args.bindings.now in
    let t = raised_tree c.args.term in
    let u = raised_tree c.loop-other.now in
    let gone = ap (λ v. occurs x (full s v)) c.in-Variable.ensures.tree ∙ ap (occurs x) (sym c.in-Some.ensures.same) ∙ c.is_constant.ensures c.if-is_constant.true s x in
    lead_on s x (ts ++ t ∷ []) (ts ++ u ∷ []) ts c.args.visited.now c.loop-other.visited c.loop-other.visited (c.loop-other.invariant.leads ts x) (leads_absent s x ts c.loop-other.visited u gone)

pub returns-then-not-branch : goal.returns-then-not-branch
returns-then-not-branch c ts x =
    let s = c.args.bindings.now in
    let t = raised_tree c.args.term in
    let u = raised_tree c.loop-other.now in
    let y = c.in-Variable.other in
    let v = subst (IsVisit c.loop-other.visited y c.visit.new.self) c.if-not-branch.true c.in_ok-visit-in-Some.ensures in
    lead_on s x (ts ++ t ∷ []) (ts ++ u ∷ []) ts c.args.visited.now c.loop-other.visited c.visit.new.self (c.loop-other.invariant.leads ts x) (leads_again s x ts c.loop-other.visited c.visit.new.self y u c.in-Variable.ensures.tree v)

pub loop-other-smaller : goal.loop-other-smaller
loop-other-smaller c = omega (arith, c.in-Some.ensures.falls, ap (chain_of c.args.bindings.now) c.in-Variable.ensures.tree)

pub loop-other-preserved : goal.loop-other-preserved
loop-other-preserved c =
    let s = c.args.bindings.now in
    let t = raised_tree c.args.term in
    let u = raised_tree c.loop-other.now in
    let r = raised_tree c.in-Some.bound in
    let y = c.in-Variable.other in
    let v = subst (IsVisit c.loop-other.visited y c.visit.new.self) c.if-not-branch.false c.in_ok-visit-in-Some.ensures in
    record {
      same = c.in-Some.ensures.same ∙ sym (ap (full s) c.in-Variable.ensures.tree) ∙ c.loop-other.invariant.same;
      leads = λ ts x. lead_on s x (ts ++ t ∷ []) (ts ++ u ∷ []) (ts ++ r ∷ []) c.args.visited.now c.loop-other.visited c.visit.new.self (c.loop-other.invariant.leads ts x)
          (leads_bound s x ts c.loop-other.visited c.visit.new.self y u r c.in-Variable.ensures.tree v c.in-Some.ensures.same c.in-Some.ensures.falls);
    }

pub returns-in-None : goal.returns-in-None
returns-in-None c = (subst (IsOpen c.args.bindings.now) (sym c.in-Variable.ensures.tree) (sym c.in-None.ensures.stored), c.loop-other.invariant.same, c.loop-other.invariant.leads)

pub returns-in_default : goal.returns-in_default
returns-in_default c =
    let s = c.args.bindings.now in
    let r = c.loop-other.now in
    (shape_open s r.base (raised_tree r) c.shape.result c.shape.ensures.tree c.in_default.not-Variable, c.loop-other.invariant.same, c.loop-other.invariant.leads)
