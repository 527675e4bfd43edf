use Rattle.std.proofs.Common.{◌≡◌}
use Rattle.kept_clauses.specs.KeptLists.{kept_from}
use Rattle.kept_clauses.proofs.kept_lists.all_kept.Given as goal

abbrev pub invariant-loop-i : goal.invariant-loop-i
invariant-loop-i l = l.kept.items ≡ kept_from 1 l.i
