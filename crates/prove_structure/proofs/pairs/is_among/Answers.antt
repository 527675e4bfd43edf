use Rattle.std.proofs.Common.{◌∙◌, sym}
use Rattle.cert_structure.specs.Walk.{pair_end}
use Rattle.prove_structure.proofs.PairLemmas.{halves, after_it, before_it, ascend_after, ascend_before}
use Rattle.prove_structure.proofs.pairs.is_among.Goals as goal

pub loop-rest-preserved-then-is_before : goal.loop-rest-preserved-then-is_before
loop-rest-preserved-then-is_before c =
    let whole = halves _ c.loop-rest.rest.now _ _ _ _ c.split_at.ensures.front c.split_at.ensures.back c.in-Some.ensures.cases.0 in
    record {
      same = after_it (0, 0) _ _ _ _ (pair_end c.args.pair) whole c.loop-rest.invariant.ascend (sym c.is_same.ensures ∙ c.if-is_same.false) (sym c.is_before.ensures ∙ c.if-is_before.true)
          ∙ c.loop-rest.invariant.same;
      ascend = ascend_after (0, 0) _ _ _ _ (pair_end c.args.pair) whole c.loop-rest.invariant.ascend;
    }

pub loop-rest-preserved : goal.loop-rest-preserved
loop-rest-preserved c =
    let whole = halves _ c.loop-rest.rest.now _ _ _ _ c.split_at.ensures.front c.split_at.ensures.back c.in-Some.ensures.cases.0 in
    record {
      same = before_it (0, 0) _ _ _ _ (pair_end c.args.pair) whole c.loop-rest.invariant.ascend (sym c.is_same.ensures ∙ c.if-is_same.false) (sym c.is_before.ensures ∙ c.if-is_before.false)
          ∙ c.loop-rest.invariant.same;
      ascend = ascend_before (0, 0) _ _ _ _ (pair_end c.args.pair) whole c.loop-rest.invariant.ascend;
    }
