-- To believe, for the modes.
-- The size rows of each predicate as the code keeps them.
--
-- To believe: `rows_of`, `AreSizes`, `wide_system`.
use Rattle.std.specs.Prelude.{◌≡◌, ℕ, ℤ, Bool, not, List, [], length, slice_get, Option, None, Some}
use Rattle.std.specs.List.{list_any}
use Rattle.cti_terms.specs.Tree.{Tree}
use Rattle.cti_terms.specs.declared.atom_list.Atom.{Atom}
use Rattle.cti_terms.specs.declared.predicates.Pred.{Pred}
use Rattle.linear_rows.specs.Plain.{plain_rows, HaveWidth}
use Rattle.linear_rows.specs.declared.row.Rows.{Rows}
use Rattle.termination_model.specs.grounds.Grounds.{HasArity}
use Rattle.termination_model.specs.sizes.Systems.{system, row_fits}

-- the plain rows, if there are rows
abbrev pub plain_or_none : Option Rows → List (List ℤ)
plain_or_none None = []
plain_or_none (Some r) = plain_rows r.list

-- the size rows of a predicate, by its number
abbrev pub rows_of : List Rows → ℕ → List (List ℤ)
rows_of rows q = plain_or_none (slice_get rows q)

-- rows for each predicate, over its arguments
pub record AreSizes (preds : List Pred) (rows : List Rows) : Type 0 where
  pub each : length rows ≡ length preds
  pub width : (q : ℕ) (r : Rows) → slice_get rows q ≡ Some r → HasArity preds q r.width × HaveWidth r.width r.list

-- whether a row of a system has a number that does not fit
abbrev pub wide_rows : List (List ℤ) → Bool
wide_rows rows = list_any (λ r. not (row_fits r)) rows

abbrev pub wide_system : (ℕ → Tree → List ℤ) → (ℕ → List (List ℤ)) → ℕ → List Atom → Bool
wide_system expression rows n bs = wide_rows (system expression rows n bs)
