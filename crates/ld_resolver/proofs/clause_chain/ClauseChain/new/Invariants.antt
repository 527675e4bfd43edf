use Rattle.ld_resolver.specs.Chain.{AreChained, AreKinds}
use Rattle.ld_resolver.proofs.clause_chain.ClauseChain.new.Given as goal

abbrev pub invariant-loop-number : goal.invariant-loop-number
invariant-loop-number l = record {
  chained : AreChained l.program l.number l.first.items l.next.items;
  kinds : AreKinds l.program l.kinds.items;
}

abbrev pub decreases-loop-number : goal.decreases-loop-number
decreases-loop-number l = l.number
