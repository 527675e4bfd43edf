use Rattle.std.proofs.Common.{◌≡◌, ◌+◌, ◌-◌, ◌<◌, length, slice_get, Some, subst, ap, sym, ◌∙◌, arith}
use Rattle.component_clauses.proofs.OwnClauses.{AreOwnUpTo, none_own, own_pushed, own_whole}
use Rattle.component_clauses.proofs.clause_lists.own_clauses.Goals as goal

pub loop-i-init : goal.loop-i-init
loop-i-init c = none_own c.args.p.now c.args.comps.now c.count.result c.in_ok-lists.lists.items c.count.ensures c.in_ok-lists.ensures

pub loop-i-preserved : goal.loop-i-preserved
loop-i-preserved c =
    let p = c.args.p.now in
    let n = c.loop-i.i in
    let clause = c.clause.result.now in
    let place : n + 1 - 1 ≡ n = omega arith in
    let there : slice_get p.clauses n ≡ Some clause = ap (slice_get p.clauses) (sym place) ∙ c.clause.ensures.there in
    let below : c.of-c.result < length c.loop-i.lists.items = omega (arith, c.requires.within c.of-c.result clause.head.pred.0 c.of-c.ensures, c.loop-i.invariant.each) in
    subst (AreOwnUpTo p c.args.comps.now (n + 1)) (sym c.in_ok-push_own.ensures)
    (own_pushed p c.args.comps.now n c.loop-i.lists.items c.loop-i.invariant clause there c.of-c.result c.of-c.ensures below)

pub returns : goal.returns
returns c =
    let all : c.loop-i.i ≡ length c.args.p.now.clauses = omega (arith, c.loop-i-test.false, c.clauses-i-end.ensures.count) in
    own_whole c.args.p.now c.args.comps.now c.loop-i.lists.items (subst (λ n. AreOwnUpTo c.args.p.now c.args.comps.now n c.loop-i.lists.items) all c.loop-i.invariant)
