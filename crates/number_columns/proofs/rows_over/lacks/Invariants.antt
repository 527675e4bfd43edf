use Rattle.std.proofs.Common.{◌≡◌, ◌<◌, ◌∷◌, [], ℕ, ℤ, List, Option, slice_get, Some, false}
use Rattle.termination_model.specs.columns.ColumnRows.{lacks}
use Rattle.number_columns.specs.ColumnLists.{plain_columns}
use Rattle.number_columns.proofs.rows_over.lacks.Given as goal

abbrev pub invariant-loop-i : goal.invariant-loop-i
invariant-loop-i l =
    (k : ℕ) → k < l.i → (z : ℤ) (e : Option (List ℤ)) → slice_get l.row k ≡ Some z → slice_get (plain_columns l.list) k ≡ Some e → lacks (z ∷ []) (e ∷ []) ≡ false
