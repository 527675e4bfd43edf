use Rattle.std.proofs.Common.{◌≡◌}
use Rattle.cti_terms.specs.Arithmetic.{no_arithmetic}
use Rattle.program_examples.proofs.cycles.program_of.Given as goal

abbrev pub invariant-rules : goal.invariant-rules
invariant-rules l = l.program.arithmetic ≡ no_arithmetic
