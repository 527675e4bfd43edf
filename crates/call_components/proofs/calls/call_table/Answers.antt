use Rattle.std.proofs.Common.{◌≡◌, ◌+◌, ◌-◌, ◌<◌, length, slice_get, ap, ◌∙◌, arith, length-set, take_all}
use Rattle.call_components.specs.Table.{callees}
use Rattle.call_components.proofs.Lists.{some_within}
use Rattle.call_components.proofs.Tables.{rows_more, table_within, table_calls}
use Rattle.call_components.proofs.calls.call_table.Goals as goal

pub loop-k-preserved : goal.loop-k-preserved
loop-k-preserved c =
    let p = c.args.p.now in
    let clause = c.clause-clause.result.now in
    let known : clause.head.pred.0 < length p.preds = some_within _ p.preds clause.head.pred.0 c.clause-clause.ensures.sound.head.arity in
    let place : c.loop-k.k ≡ c.loop-k.k + 1 - 1 = omega arith in
    record {
      each = ap length c.in_ok-extend.ensures.ok ∙ length-set c.loop-k.table clause.head.pred.0 _ ∙ c.loop-k.invariant.each;
      row = rows_more c.loop-k.table c.extend.new.self p.clauses c.loop-k.k clause (ap (slice_get p.clauses) place ∙ c.clause-clause.ensures.there) (omega arith) c.in_ok-extend.ensures.ok c.loop-k.invariant.row;
    }

pub returns-clause-table : goal.returns-clause-table
returns-clause-table c =
    let p = c.args.p.now in
    record {
      each = c.loop-k.invariant.each;
      calls = table_calls p c.loop-k.table c.preds.ensures.sound c.loop-k.invariant.each (λ a l. c.loop-k.invariant.row a l ∙ ap (callees a) (take_all c.loop-k.k p.clauses (omega arith)));
    }

pub returns-clause-within : goal.returns-clause-within
returns-clause-within c =
    let p = c.args.p.now in
    table_within p c.loop-k.table c.preds.ensures.sound c.loop-k.invariant.each (λ a l. c.loop-k.invariant.row a l ∙ ap (callees a) (take_all c.loop-k.k p.clauses (omega arith)))
