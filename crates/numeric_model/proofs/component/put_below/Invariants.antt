use Rattle.termination_model.specs.sizes.Sizes.{AreSizes}
use Rattle.numeric_model.proofs.Below.{PutTo}
use Rattle.numeric_model.proofs.component.put_below.Given as goal

abbrev pub invariant-loop-q : goal.invariant-loop-q
invariant-loop-q l = record {
  sizes : AreSizes l.p.preds l.rows;
  put : PutTo l.comps l.c l.q l.below l.fn.rows l.rows;
}
