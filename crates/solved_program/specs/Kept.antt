-- Private.
-- Which clauses of a program after an edit are those of the program before it.
--
-- A clause is the same where its terms are, and where its predicates have the same names and arities. Clauses count
-- from 1.
--
-- To believe: `IsEdit`.
use Rattle.std.specs.Prelude.{◌≡◌, ℕ, ◌-◌, ◌≤◌, List, length, slice_get, Option, Some}
use Rattle.call_components.specs.Partition.{AreComponents}
use Rattle.cti_terms.specs.Listing.{Listing}
use Rattle.cti_terms.specs.declared.clauses.Clause.{Clause}
use Rattle.component_laws.specs.Untouched.{named}
use Rattle.solved_program.specs.declared.edit.Edit.{Edit}

-- the old clause of this number is the same as a new one
pub record IsKeptAs (p new : Listing) (j : ℕ) (y : Clause) : Type 0 where
  pub clause : Clause
  pub first : 1 ≤ j
  pub at : slice_get p.clauses (j - 1) ≡ Some clause
  pub same : named p clause ≡ named new y

-- for each new clause the number of the old clause that is the same, if one was kept
pub record AreKept (p new : Listing) (kept : List (Option ℕ)) : Type 0 where
  pub each : length kept ≡ length new.clauses
  pub same : (i j : ℕ) (y : Clause) → slice_get kept i ≡ Some (Some j) → slice_get new.clauses i ≡ Some y → IsKeptAs p new j y

-- two programs with their components, and the clauses that were kept
pub record IsEdit (e : Edit) : Type 0 where
  pub components_before : AreComponents e.before.now e.components_before.now
  pub components : AreComponents e.after.now e.components.now
  pub kept : AreKept e.before.now e.after.now e.kept.now
