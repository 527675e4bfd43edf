use Rattle.std.proofs.Common.{◌≡◌}
use Rattle.report.specs.Generated.{generated}
use Rattle.report.proofs.generating.gen_source.Given as goal

-- the predicates so far are there
abbrev pub invariant-loop-k : goal.invariant-loop-k
invariant-loop-k l = l.text.items ≡ generated l.k
