use Rattle.std.proofs.Common.{◌≡◌, drop}
use Rattle.term_size.specs.AnyNorm.{dot_among, dot_from}
use Rattle.term_size.proofs.list_size.ListSize.among.Given as goal

abbrev pub invariant-loop-i : goal.invariant-loop-i
invariant-loop-i l = dot_among l.names ≡ dot_from l.i (drop l.i l.names)
