use Rattle.std.proofs.Common.{◌≤◌, vec_len}
use Rattle.outside.proofs.real_files.read_limited.Given as goal

abbrev pub invariant-loop : goal.invariant-loop
invariant-loop g l = vec_len l.bytes ≤ l.most
