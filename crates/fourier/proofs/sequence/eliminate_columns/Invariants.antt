use Rattle.std.proofs.Common.{ℕ}
use Rattle.fourier.proofs.Chains.{Going}
use Rattle.fourier.proofs.sequence.eliminate_columns.Given as goal

abbrev pub invariant-loop-i : goal.invariant-loop-i
invariant-loop-i l = (many : ℕ) × Going many l.last l.count l.i l.fn.rows l.current l.before
