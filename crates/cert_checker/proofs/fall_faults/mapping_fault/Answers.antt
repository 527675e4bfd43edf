use Rattle.std.proofs.Common.{◌≡◌, [], ◌∷◌, length, slice_get, Some, refl, arith, below_more}
use Rattle.cert_structure.specs.Order.{falls_line}
use Rattle.linear_rows.specs.Plain.{plain_rows}
use Rattle.linear_rows.specs.Showing.{AreMultipliers}
use Rattle.termination_model.proofs.Lists.{at_place, by_places, one_element, place_below}
use Rattle.cert_checker.proofs.FallLaws.{failing_mapping, shown_before}
use Rattle.cert_checker.proofs.FindLaws.{before_ones, finds_item, finds_none}
use Rattle.cert_checker.specs.Finding.{MappingsFail}
use Rattle.cert_checker.specs.declared.fault.Fault.{Fault}
use Rattle.cert_checker.proofs.fall_faults.mapping_fault.Goals.{After-index-proofs-m}
use Rattle.cert_checker.proofs.fall_faults.mapping_fault.Goals as goal

-- the parts of a mapping, and its multipliers
module _ (c : After-index-proofs-m) where
  head_at : slice_get c.args.heads.now c.loop-m.m ≡ Some c.index-heads-m.result
  head_at = at_place c.args.heads.now c.loop-m.m c.index-heads-m.result (omega (arith, c.requires.heads)) c.index-heads-m.is

  call_at : slice_get c.args.calls.now c.loop-m.m ≡ Some c.index-calls-m.result
  call_at = at_place c.args.calls.now c.loop-m.m c.index-calls-m.result (omega (arith, c.requires.calls)) c.index-calls-m.is

  by_at : slice_get c.args.proofs.now c.loop-m.m ≡ Some c.index-proofs-m.result
  by_at = at_place c.args.proofs.now c.loop-m.m c.index-proofs-m.result (omega arith) c.index-proofs-m.is

pub mapping_flaw-requires-clause-multipliers : goal.mapping_flaw-requires-clause-multipliers
mapping_flaw-requires-clause-multipliers c = by_places (AreMultipliers (length c.args.rows.now.list)) c.args.proofs.now c.requires.multipliers c.loop-m.m c.index-proofs-m.result (by_at c)

pub mapping_flaw-requires-clause-weighed : goal.mapping_flaw-requires-clause-weighed
mapping_flaw-requires-clause-weighed c = c.requires.parts c.loop-m.m c.index-heads-m.result c.index-calls-m.result (head_at c) (call_at c)

pub returns-in-Some-clause-hold : goal.returns-in-Some-clause-hold
returns-in-Some-clause-hold c =
    let at = (goal.at.returns-in-Some-clause-hold c).After-index-proofs-m in
    (λ h. cc, λ all. let none = c.in_ok-flaw.ensures.shown.1 (all c.loop-m.m c.index-heads-m.result c.index-calls-m.result c.index-proofs-m.result (head_at at) (call_at at) (by_at at)) in let some = c.in-Some.is in cc)

pub returns-in-Some-clause-first : goal.returns-in-Some-clause-first
returns-in-Some-clause-first c = λ k j.
    let at = (goal.at.returns-in-Some-clause-first c).After-index-proofs-m in
    let rows = plain_rows c.args.rows.now.list in
    let columns = c.args.columns.now in
    let heads = c.args.heads.now in
    let calls = c.args.calls.now in
    let by = c.index-proofs-m.result in
    let failing = rw c.in-Some.is at c.in_ok-flaw.ensures.fails in
    let fault : Fault = record { line = c.saturating_add.result; reason = c.of.result } in
    finds_item (MappingsFail rows columns heads calls) (λ m x. falls_line k j m x ∷ []) (λ x. 1) (λ m x. refl) c.args.line c.saturating_add.result c.args.proofs.now c.loop-m.m by fault (by_at at)
    (λ m. omega (arith, c.saturating_add.ensures, before_ones c.args.proofs.now c.loop-m.m by (by_at at)))
    (shown_before rows columns heads calls c.args.proofs.now c.loop-m.m c.requires.heads c.requires.calls c.loop-m.invariant k j)
    (failing_mapping rows columns heads calls k j c.loop-m.m c.index-heads-m.result c.index-calls-m.result (head_at at) (call_at at) by c.in-Some.flaw failing fault c.of.ensures (omega (arith, c.saturating_add.ensures)))

pub loop-m-preserved : goal.loop-m-preserved
loop-m-preserved c =
    let at = (goal.at.loop-m-preserved c).After-index-proofs-m in
    let n = c.loop-m.m in
    let shown = c.in_ok-flaw.ensures.shown.0 c.in_default.is in
    below_more _ n c.loop-m.invariant
    (λ head call by eh ec eb.
    rw (one_element c.args.heads.now n head c.index-heads-m.result eh (head_at at), one_element c.args.calls.now n call c.index-calls-m.result ec (call_at at), one_element c.args.proofs.now n by c.index-proofs-m.result eb (by_at at)) shown)

pub returns-clause-hold : goal.returns-clause-hold
returns-clause-hold c = (λ none m head call by eh ec eb. c.loop-m.invariant m (omega (arith, place_below c.args.proofs.now m by eb)) head call by eh ec eb, λ all. refl)

pub returns-clause-first : goal.returns-clause-first
returns-clause-first c = λ k j.
    let rows = plain_rows c.args.rows.now.list in
    finds_none (MappingsFail rows c.args.columns.now c.args.heads.now c.args.calls.now) (λ m x. falls_line k j m x ∷ []) (λ x. 1) (λ m x. refl) c.args.proofs.now
    (λ m by e. shown_before rows c.args.columns.now c.args.heads.now c.args.calls.now c.args.proofs.now c.loop-m.m c.requires.heads c.requires.calls c.loop-m.invariant k j m (omega (arith, place_below c.args.proofs.now m by e)) by e)
