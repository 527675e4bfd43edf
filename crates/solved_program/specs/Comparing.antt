-- Private.
-- What is compared of two components.
use Rattle.std.specs.Prelude.{◌≡◌, ℕ, ◌-◌, ◌≤◌, List, length, slice_get, Some}
use Rattle.std.specs.List.{AllByRecursion}
use Rattle.cti_terms.specs.Listing.{Listing}
use Rattle.cti_terms.specs.declared.atom_list.Atom.{Atom}
use Rattle.cti_terms.specs.declared.clauses.Clause.{Clause}
use Rattle.component_clauses.specs.Numbered.{with_clauses}
use Rattle.solved_program.specs.Kept.{IsEdit}
use Rattle.solved_program.specs.Marks.{is_marked, itself}
use Rattle.solved_program.specs.Standing.{AreSameCalls, AreSameClauses, IsSameCall, IsSameClause}
use Rattle.solved_program.specs.declared.standing.Compared.{Compared}

-- numbers of clauses
abbrev pub AreNumbersIn : Listing → List ℕ → Type 0
AreNumbersIn p own = AllByRecursion (λ k. (1 ≤ k) × (k ≤ length p.clauses)) own

-- an edit, with a mark or none for each new predicate
pub record IsCompared (s : Compared) : Type 0 where
  pub edit : IsEdit s.edit.now
  pub each : length s.stayed.now ≡ length s.edit.now.after.now.preds

abbrev pub IsTheSameCall : Compared → ℕ → ℕ → Type 0
IsTheSameCall s = IsSameCall s.edit.now.components_before.now s.edit.now.components.now s.before s.after itself (is_marked s.stayed.now)

abbrev pub AreTheSameCalls : Compared → List Atom → List Atom → Type 0
AreTheSameCalls s = AreSameCalls s.edit.now.components_before.now s.edit.now.components.now s.before s.after itself (is_marked s.stayed.now)

abbrev pub IsTheSameClause : Compared → ℕ × Clause → ℕ × Clause → Type 0
IsTheSameClause s = IsSameClause s.edit.now.components_before.now s.edit.now.components.now s.before s.after itself (is_marked s.stayed.now) s.edit.now.kept.now

abbrev pub AreTheSameClauses : Compared → List (ℕ × Clause) → List (ℕ × Clause) → Type 0
AreTheSameClauses s = AreSameClauses s.edit.now.components_before.now s.edit.now.components.now s.before s.after itself (is_marked s.stayed.now) s.edit.now.kept.now

-- the clauses of two numbers are the same
abbrev pub HaveSameClause : Compared → ℕ → ℕ → Type 0
HaveSameClause s j k = (x y : Clause) → slice_get s.edit.now.before.now.clauses (j - 1) ≡ Some x → slice_get s.edit.now.after.now.clauses (k - 1) ≡ Some y → IsTheSameClause s (j, x) (k, y)

-- the same for the clauses of these numbers, in order
abbrev pub HaveSameClauses : Compared → List ℕ → List ℕ → Type 0
HaveSameClauses s js ks = AreTheSameClauses s (with_clauses s.edit.now.before.now.clauses js) (with_clauses s.edit.now.after.now.clauses ks)
