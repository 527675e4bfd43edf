use Rattle.std.proofs.Common.{◌≡◌}
use Rattle.cti_terms.specs.Arithmetic.{no_arithmetic}
use Rattle.program_examples.proofs.cycles.propositions.Given as goal

abbrev pub invariant-loop-name : goal.invariant-loop-name
invariant-loop-name l = l.program.arithmetic ≡ no_arithmetic
