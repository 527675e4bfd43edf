use Rattle.std.proofs.Common.{◌≡◌, ◌-◌, ◌++◌, length, map, slice_get}
use Rattle.linear_rows.specs.Step.{columns}
use Rattle.cert_assembly.specs.Spelled.{spelled, spelled_list}
use Rattle.cert_assembly.proofs.sets.spelled_list.Given as goal

abbrev pub invariant-loop-q : goal.invariant-loop-q
invariant-loop-q l =
    l.lists ++ map (λ q. spelled (slice_get l.p.preds q) l.table (slice_get l.sets q)) (columns l.q (length l.p.preds - l.q)) ≡ spelled_list l.p.preds l.table l.sets
