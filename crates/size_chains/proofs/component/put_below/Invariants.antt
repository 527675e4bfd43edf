use Rattle.size_chains.proofs.Below.{PutTo}
use Rattle.size_chains.proofs.component.put_below.Given as goal
use Rattle.size_chains.specs.Systems.{AreSizes}

abbrev pub invariant-loop-q : goal.invariant-loop-q
invariant-loop-q g l = record {
  sizes : AreSizes (g.S.ClauseSystems.systems l.systems) (g.S.ClauseSystems.listing l.systems).preds l.rows;
  put : PutTo l.comps l.c l.q l.below l.fn.rows l.rows;
}
