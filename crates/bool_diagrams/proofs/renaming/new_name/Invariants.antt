use Rattle.std.proofs.Common.{◌≡◌}
use Rattle.bool_diagrams.specs.Renaming.{renamed}
use Rattle.bool_diagrams.proofs.renaming.new_name.Given as goal

abbrev pub invariant-loop-old : goal.invariant-loop-old
invariant-loop-old l = renamed l.old-iterator.a.rest.now l.old-iterator.b.rest.now l.variable ≡ renamed l.from l.to l.variable
