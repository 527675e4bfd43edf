use Rattle.std.proofs.Common.{◌≡◌}
use Rattle.term_size.specs.ListSize.{ends_from}
use Rattle.term_size.proofs.list_size.end_coefficients.Given as goal

abbrev pub invariant-loop-x : goal.invariant-loop-x
invariant-loop-x l = l.items.items ≡ ends_from 0 l.x l.end
