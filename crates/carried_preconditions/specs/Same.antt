-- Private.
-- What a predicate's preconditions depend on, before an edit and after it.
use Rattle.std.specs.Prelude.{◌≡◌, ℕ, ℤ, Bool, List, length, map, slice_get, Some}
use Rattle.bool_diagrams.specs.Tree.{Tree as Rows}
use Rattle.cti_terms.specs.declared.predicates.Pred.{Pred}
use Rattle.number_tests.specs.Levels.{items_of}
use Rattle.number_tests.specs.declared.level_part.LevelPart.{LevelPart}
use Rattle.termination_model.specs.grounds.Grounds.{Family}
use Rattle.truth_rows.specs.Sets.{AreSets, family_of}
use Rattle.solved_program.specs.declared.edit.Edit.{Edit}
use Rattle.carried_preconditions.specs.declared.preconditions.Inputs.{Inputs}

-- a predicate's rows in each of two families
abbrev pub paired : Family → Family → ℕ → (List Bool → Bool) × (List Bool → Bool)
paired f g q = (f q, g q)

abbrev pub coefficients_in : LevelPart → List ℤ
coefficients_in part = part.coeffs

-- the coefficients of a predicate in each mapping
abbrev pub coefficient_lists : List (List LevelPart) → ℕ → List (List ℤ)
coefficient_lists levels q = map coefficients_in (items_of levels q)

-- the ground rows of a predicate, and its coefficients in each mapping
abbrev pub input_values : List Pred → List Rows → Inputs → ℕ → (List Bool → Bool) × List (List ℤ)
input_values preds trees inputs q = (family_of preds trees inputs.grounds.now q, coefficient_lists inputs.levels.now q)

-- there are such for each predicate
pub record HaveInputs (preds : List Pred) (inputs : Inputs) (trees : List Rows) : Type 0 where
  pub grounds_are : AreSets preds trees inputs.grounds.now
  pub each : length inputs.levels.now ≡ length preds

-- a new predicate was there before the edit, and has the value that the old one of its name and arity had
pub record IsSameAs {X : Type 0} (e : Edit) (old now : ℕ → X) (r : ℕ) : Type 0 where
  pub number : ℕ
  pub pred : Pred
  pub here : slice_get e.before.now.preds number ≡ Some pred
  pub there : slice_get e.after.now.preds r ≡ Some pred
  pub same : now r ≡ old number
