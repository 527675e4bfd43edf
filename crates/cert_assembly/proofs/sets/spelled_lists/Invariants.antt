use Rattle.std.proofs.Common.{◌≡◌, ◌-◌, ◌++◌, length, map, slice_get}
use Rattle.linear_rows.specs.Step.{columns}
use Rattle.number_tests.specs.Levels.{items_of}
use Rattle.cert_assembly.specs.Spelled.{spelled_each, spelled_lists}
use Rattle.cert_assembly.proofs.sets.spelled_lists.Given as goal

abbrev pub invariant-loop-q : goal.invariant-loop-q
invariant-loop-q l =
    l.lists ++ map (λ q. spelled_each l.p.preds l.table (slice_get l.p.preds q) (items_of l.sets q)) (columns l.q (length l.p.preds - l.q)) ≡ spelled_lists l.p.preds l.table l.sets
