use Rattle.std.proofs.Common.{◌≡◌, ℕ, ◌<◌, [], length, take, get_or}
use Rattle.call_components.specs.Table.{callees}
use Rattle.call_components.proofs.calls.call_table.Given as goal

abbrev pub invariant-loop-k : goal.invariant-loop-k
invariant-loop-k l = record {
  each : length l.table ≡ length l.p.preds;
  row : (a : ℕ) → a < length l.table → get_or l.table a [] ≡ callees a (take l.k l.p.clauses);
}
