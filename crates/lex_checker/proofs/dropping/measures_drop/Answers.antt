use Rattle.std.proofs.Common.{◌≡◌, ◌↔◌, ◌+◌, suc, length, slice_get, None, Some, refl, arith, below_more}
use Rattle.number_tests.specs.Drops.{drop_weights}
use Rattle.linear_rows.specs.Plain.{plain_rows}
use Rattle.linear_rows.specs.Showing.{IsShown}
use Rattle.termination_model.proofs.Lists.{at_place, one_element, place_below}
use Rattle.termination_model.specs.sizes.Replacing.{over_columns}
use Rattle.lex_checker.specs.Proved.{drop_at}
use Rattle.lex_checker.proofs.Flags.{no_fault, none_of}
use Rattle.lex_checker.proofs.dropping.measures_drop.Goals.{After-index-calls-i, After-multipliers_flaw}
use Rattle.lex_checker.proofs.dropping.measures_drop.Goals as goal

-- a measure's parts at the head and at the call
module _ (c : After-index-calls-i) where
  head_at : slice_get c.args.heads.now c.loop-i.i ≡ Some c.index-heads-i.result
  head_at = at_place c.args.heads.now c.loop-i.i c.index-heads-i.result (omega (arith, c.requires.parts.few_heads)) c.index-heads-i.is

  call_at : slice_get c.args.calls.now c.loop-i.i ≡ Some c.index-calls-i.result
  call_at = at_place c.args.calls.now c.loop-i.i c.index-calls-i.result (omega (arith, c.requires.parts.few_calls)) c.index-calls-i.is

-- its multipliers, and what their test decides
module _ (c : After-multipliers_flaw) where
  by_at : slice_get c.args.proofs.now c.loop-i.i ≡ Some c.index-proofs-i.result
  by_at = at_place c.args.proofs.now c.loop-i.i c.index-proofs-i.result (omega arith) c.index-proofs-i.is

  decided : (c.multipliers_flaw.result ≡ None)
      ↔ IsShown (plain_rows c.args.rows.now.list) (over_columns c.args.columns.now (drop_weights (drop_at c.loop-i.i (length c.args.proofs.now)) c.index-heads-i.result c.index-calls-i.result)) c.index-proofs-i.result
  decided =
      let next : c.loop-i.i + 1 ≡ suc c.loop-i.i = omega arith in
      c.multipliers_flaw.ensures.shows _ (rw next at c.in_ok-target.ensures)

pub drop_row-requires-clause-weighed : goal.drop_row-requires-clause-weighed
drop_row-requires-clause-weighed c =
    let parts = (goal.at.drop_row-requires-clause-weighed c).After-index-calls-i in
    c.requires.parts.weighed c.loop-i.i c.index-heads-i.result c.index-calls-i.result (head_at parts) (call_at parts)

pub returns-then-is_some : goal.returns-then-is_some
returns-then-is_some c =
    let here = goal.at.returns-then-is_some c in
    let parts = here.After-index-calls-i in
    let test = here.After-multipliers_flaw in (
      λ no. cc,
      λ all. no_fault c.multipliers_flaw.result c.is_some.result c.is_some.ensures c.if-is_some.true
          ((decided test).1 (all c.loop-i.i c.index-heads-i.result c.index-calls-i.result c.index-proofs-i.result (head_at parts) (call_at parts) (by_at test))),
    )

pub loop-i-preserved : goal.loop-i-preserved
loop-i-preserved c =
    let here = goal.at.loop-i-preserved c in
    let parts = here.After-index-calls-i in
    let test = here.After-multipliers_flaw in
    let n = c.loop-i.i in
    let shown = (decided test).0 (none_of c.multipliers_flaw.result c.is_some.result c.is_some.ensures c.if-is_some.false) in
    below_more _ n c.loop-i.invariant (λ head call by eh ec eb.
    rw (one_element c.args.heads.now n head c.index-heads-i.result eh (head_at parts), one_element c.args.calls.now n call c.index-calls-i.result ec (call_at parts), one_element c.args.proofs.now n by c.index-proofs-i.result eb (by_at test)) shown)

pub returns : goal.returns
returns c = (λ yes i head call by eh ec eb. c.loop-i.invariant i (omega (arith, place_below c.args.proofs.now i by eb)) head call by eh ec eb, λ all. refl)
