use Rattle.std.proofs.Common.{◌≡◌}
use Rattle.prolog_reader.proofs.symbols.codes.Given as goal

abbrev pub invariant-loop-code : goal.invariant-loop-code
invariant-loop-code l = l.codes.items ≡ l.yielded
