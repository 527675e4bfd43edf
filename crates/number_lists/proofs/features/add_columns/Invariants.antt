use Rattle.std.proofs.Common.{◌≡◌, ◌++◌, suc, map}
use Rattle.linear_rows.specs.Step.{columns}
use Rattle.number_turns.specs.Recalled.{spelled}
use Rattle.number_lists.proofs.features.add_columns.Given as goal

abbrev pub invariant-loop-i : goal.invariant-loop-i
invariant-loop-i l = map spelled l.features.items ≡ map spelled l.fn.features.items ++ map (λ n. (l.position.member, suc n)) (columns l.position.first l.i)
