use Rattle.std.proofs.Common.{◌≡◌, ℕ, suc, ◌+◌, List, length, replicate, sym, subst, arith}
use Rattle.ld_resolver.specs.declared.first_kind.FirstKind.TheVariants.{Any}
use Rattle.ld_resolver.specs.Chain.{AreChained, AreKinds}
use Rattle.ld_resolver.proofs.ChainLaws.{chain_begun, chain_earlier}
use Rattle.ld_resolver.proofs.FirstKindLaws.{kinds_begun, kinds_more}
use Rattle.ld_resolver.proofs.clause_chain.ClauseChain.new.Goals as goal

pub loop-number-init : goal.loop-number-init
loop-number-init c =
    let p = c.args.program.now in
    let none : ℕ = c.clauses-none.result + 1 in
    let last : none ≡ suc (length p.clauses) = (let count = c.clauses-none.ensures.count in omega (arith, count)) in
    let firsts : c.in_ok-first.first.items ≡ replicate c.preds.result none = c.in_ok-first.ensures.items_if_clones_equal (λ y same. same) in
    let nexts : c.in_ok-next.next.items ≡ replicate c.clauses.result none = c.in_ok-next.ensures.items_if_clones_equal (λ y same. same) in
    let kinds : c.in_ok-kinds.kinds.items ≡ replicate c.clauses-2.result Any = c.in_ok-kinds.ensures.items_if_clones_equal (λ y same. same) in
    record {
      chained = subst (λ (w : ℕ × List ℕ × List ℕ). AreChained p w.0 w.1 w.2) (λ i. (sym c.clauses-number.ensures.count i, sym firsts i, sym nexts i)) (chain_begun p c.preds.result c.clauses.result none c.preds.ensures.count c.clauses.ensures.count last);
      kinds = subst (AreKinds p) (sym kinds) (kinds_begun p c.clauses-2.result c.clauses-2.ensures.count);
    }

pub loop-number-preserved : goal.loop-number-preserved
loop-number-preserved c =
    let l = c.loop-number in
    let p = c.args.program.now in
    record {
      chained = chain_earlier p l.number c.index.result.now l.first.items l.next.items c.clause.result.now (omega (arith, c.loop-number-test.true)) l.invariant.chained c.clause.ensures.there c.clause.ensures.sound c.index.ensures;
      kinds = kinds_more p l.kinds.items l.number c.clause.result.now c.first_kind.result c.clause.ensures.there c.first_kind.ensures l.invariant.kinds;
    }
