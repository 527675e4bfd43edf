use Rattle.std.proofs.Common.{◌≡◌, ◌-◌, ℕ, slice_get, Some, sym, subst, arith}
use Rattle.number_tests.proofs.Sized.{sized_clause}
use Rattle.number_tests.proofs.reaching.reach.Goals as goal

pub extend-requires-clause-sized : goal.extend-requires-clause-sized
extend-requires-clause-sized g c = sized_clause c.args.p.now.preds c.args.sizes.now c.clause-clause.result.now c.requires.sizes c.clause-clause.ensures.sound

pub extend-requires-clause-before : goal.extend-requires-clause-before
extend-requires-clause-before g c =
    let same : c.in_ok-reached.reached.clause ≡ c.args.k = c.in_ok-reached.ensures.clause in
    c.in_ok-reached.ensures.reached c.clause-clause.result.now (omega (arith, same, c.requires.first))
    (subst (λ (n : ℕ). slice_get c.args.p.now.clauses (n - 1) ≡ Some c.clause-clause.result.now) (sym same) c.clause-clause.ensures.there)
