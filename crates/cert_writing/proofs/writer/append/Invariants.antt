use Rattle.std.proofs.Common.{◌≡◌, ◌++◌}
use Rattle.cert_writing.proofs.writer.append.Given as goal

-- what is yielded stands after the facts that were there
abbrev pub invariant-loop-fact : goal.invariant-loop-fact
invariant-loop-fact g l = l.out ≡ l.fn.out ++ l.yielded
