use Rattle.std.proofs.Common.{◌∙◌, sym, arith, length, ◌+◌, ◌-◌}
use Rattle.std.proofs.lemmas.Bool.{false≢true}
use Rattle.fact_reading.proofs.LoopLemmas.{part_err}
use Rattle.prove_structure.proofs.LoopLemmas.{lists_end, lists_err, lists_stop, lists_more}
use Rattle.prove_structure.proofs.lists.open_lists.Goals as goal

pub returns-in_err-levels : goal.returns-in_err-levels
returns-in_err-levels c =
    part_err c.from_residual.result _ _ _ c.from_residual.ensures c.in_err-levels.ensures λ w bad.
    sym c.loop-list.invariant ∙ lists_err _ _ c.loop-list.lists _ _ _ (length c.args.facts.now - (c.loop-list.list + 1)) (omega arith) w bad

pub returns-then-is_empty : goal.returns-then-is_empty
returns-then-is_empty c =
    sym c.loop-list.invariant ∙ lists_stop _ _ c.loop-list.lists _ _ _ (length c.args.facts.now - (c.loop-list.list + 1)) (omega arith) _ _ c.in_ok-levels.ensures (c.is_empty.ensures.0 c.if-is_empty.true)

pub loop-list-preserved : goal.loop-list-preserved
loop-list-preserved c =
    rw c.in_ok-push.ensures.ok
    (lists_more _ _ c.loop-list.lists _ _ _ (length c.args.facts.now - (c.loop-list.list + 1)) (omega arith) (c.loop-list.list + 1) _ _ (omega arith) c.in_ok-levels.ensures (λ none. false≢true (sym c.if-is_empty.false ∙ c.is_empty.ensures.1 none))
    ∙ c.loop-list.invariant)

pub returns : goal.returns
returns c = sym c.loop-list.invariant ∙ lists_end _ _ c.loop-list.lists _ _ _ (omega arith)
