use Rattle.std.proofs.Common.{◌∙◌, [], ◌∷◌, sym, ap, refl, arith, option_map}
use Rattle.cert_structure.specs.Walk.{pair_end}
use Rattle.fact_reading.proofs.LoopLemmas.{length_more}
use Rattle.prove_structure.proofs.PairLemmas.{ascend_more, last_more, mapped_both, scan_end, scan_full, scan_late, scan_more, scan_other, scan_skip}
use Rattle.prove_structure.proofs.pairs.group_pairs.Goals as goal

pub returns-in_default-clause-value : goal.returns-in_default-clause-value
returns-in_default-clause-value c =
    scan_other _ _ _ _ _ c.loop-fact-test.true c.fact-item.is _ _ c.loop-fact.invariant.value
    (sym c.group_of.ensures ∙ ap (option_map (option_map pair_end)) c.in_default.is)

pub loop-fact-preserved-in_default-group : goal.loop-fact-preserved-in_default-group
loop-fact-preserved-in_default-group c = record {
  value = scan_skip _ _ _ _ _ c.loop-fact-test.true c.fact-item.is _ _ c.loop-fact.invariant.value _ (omega arith)
      (sym c.group_of.ensures ∙ rw (c.in-Some.is, c.in_default-group.is) refl);
  few = c.loop-fact.invariant.few;
  ascend = c.loop-fact.invariant.ascend;
  last = c.loop-fact.invariant.last;
}

pub returns-then-len-count-clause-value : goal.returns-then-len-count-clause-value
returns-then-len-count-clause-value c =
    scan_full _ _ _ _ _ c.loop-fact-test.true c.fact-item.is _ _ c.loop-fact.invariant.value (pair_end c.in-Some-group.pair)
    (sym c.group_of.ensures ∙ rw (c.in-Some.is, c.in-Some-group.is) refl) (omega (arith, c.if-len-count.true, c.len.ensures))

pub returns-then-not-is_before-clause-value : goal.returns-then-not-is_before-clause-value
returns-then-not-is_before-clause-value c =
    scan_late _ _ _ _ _ c.loop-fact-test.true c.fact-item.is _ _ c.loop-fact.invariant.value (pair_end c.in-Some-group.pair)
    (sym c.group_of.ensures ∙ rw (c.in-Some.is, c.in-Some-group.is) refl) (sym c.is_before.ensures ∙ c.if-not-is_before.true)

pub loop-fact-preserved : goal.loop-fact-preserved
loop-fact-preserved c =
    let more = c.in_ok-push.ensures.items in
    let longer = length_more c.loop-fact.pairs.items c.in-Some-group.pair in
    rw more record {
      value = rw (mapped_both pair_end c.loop-fact.pairs.items (c.in-Some-group.pair ∷ []))
          (scan_more _ _ _ _ _ c.loop-fact-test.true c.fact-item.is _ _ c.loop-fact.invariant.value _ _ (pair_end c.in-Some-group.pair) (omega arith)
          (omega (arith, c.if-len-count.false, c.len.ensures, longer))
          (sym c.group_of.ensures ∙ rw (c.in-Some.is, c.in-Some-group.is) refl) (sym c.is_before.ensures ∙ c.if-not-is_before.false));
      few = omega (arith, c.if-len-count.false, c.len.ensures, longer);
      ascend = ascend_more (0, 0) _ c.loop-fact.pairs.items c.in-Some-group.pair c.loop-fact.invariant.last (sym c.is_before.ensures ∙ c.if-not-is_before.false) c.loop-fact.invariant.ascend;
      last = last_more (0, 0) c.loop-fact.pairs.items c.in-Some-group.pair;
    }

pub returns-clause-value : goal.returns-clause-value
returns-clause-value c = scan_end _ _ _ _ _ _ c.loop-fact-test.false c.loop-fact.invariant.value
