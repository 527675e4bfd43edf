-- Private.
-- An edit with the clauses of each component.
use Rattle.std.specs.Prelude.{◌≡◌, ℕ, ◌-◌, List, slice_get, Some}
use Rattle.call_components.specs.Partition.{IsIn}
use Rattle.cti_terms.specs.declared.clauses.Clause.{Clause}
use Rattle.component_clauses.specs.Numbered.{AreOwnClauses}
use Rattle.solved_program.specs.Kept.{IsEdit}
use Rattle.solved_program.specs.declared.edit_clauses.EditClauses.{EditClauses}

-- an edit, and the clauses of all components before it and after it
pub record AreEditClauses (s : EditClauses) : Type 0 where
  pub edit : IsEdit s.edit.now
  pub own_before : AreOwnClauses s.edit.now.before.now s.edit.now.components_before.now s.own_before.now
  pub own : AreOwnClauses s.edit.now.after.now s.edit.now.components.now s.own.now

-- the first of these clauses was kept, and was one of the component b
pub record IsFirstKeptOf (s : EditClauses) (own : List ℕ) (b : ℕ) : Type 0 where
  pub number : ℕ
  pub number_before : ℕ
  pub clause : Clause
  pub first : slice_get own 0 ≡ Some number
  pub kept_as : slice_get s.edit.now.kept.now (number - 1) ≡ Some (Some number_before)
  pub at : slice_get s.edit.now.before.now.clauses (number_before - 1) ≡ Some clause
  pub among : IsIn s.edit.now.components_before.now b clause.head.pred.0
