use Rattle.std.proofs.Common.{◌≡◌, ◌<◌, ℕ, ℤ, List, slice_get, Some}
use Rattle.linear_rows.specs.declared.multipliers.Multipliers.{Multipliers}
use Rattle.termination_model.specs.sizes.Sizes.{rows_of}
use Rattle.number_tests.specs.Proved.{RowIsKept}
use Rattle.cert_checker.proofs.size_faults.clause_size_fault.Given as goal

abbrev pub invariant-loop-i : goal.invariant-loop-i
invariant-loop-i g l =
    (i : ℕ) → i < l.i → (row : List ℤ) (by : Multipliers) → slice_get (rows_of l.sizes l.clause.head.pred.0) i ≡ Some row → slice_get l.proofs i ≡ Some by
    → RowIsKept (g.N.Norm.expression l.norm) l.sizes l.clause row by
