-- Private.
-- Marks of clauses that may still give a row, and who uses a predicate. Nothing here has to be believed.
use Rattle.std.specs.Prelude.{ℕ, suc, ◌≡◌, ◌+◌, ◌*◌, ◌<◌, Bool, true, false, List, [], ◌∷◌, length, Contains, slice_get, slice_index_or, Some}
use Rattle.bool_diagrams.specs.declared.diagram.Diagram.{Diagram}
use Rattle.bool_diagrams.specs.Tree.{Tree as Rows}
use Rattle.cti_terms.specs.declared.atom_list.Atom.{Atom}
use Rattle.cti_terms.specs.declared.clauses.Clause.{Clause}
use Rattle.cti_terms.specs.declared.predicates.Pred.{Pred}
use Rattle.cti_terms.specs.Listing.{Listing}
use Rattle.cti_terms.specs.Tree.{Tree}
use Rattle.groundness.specs.Missing.{all_missing}
use Rattle.termination_model.specs.grounds.Grounds.{Family, IsClosedUnder}

-- the clause of this place has a mark
abbrev pub IsMarked : List Bool → ℕ → Type 0
IsMarked marks j = slice_get marks j ≡ Some true

-- each clause with a mark waits, and only clauses wait
pub record AreWaiting (marks : List Bool) (waiting : List ℕ) : Type 0 where
  pub within : (i j : ℕ) → slice_get waiting i ≡ Some j → j < length marks
  pub all : (j : ℕ) → IsMarked marks j → (i : ℕ) × (slice_get waiting i ≡ Some j)

-- how many marks are left
unfoldable pub marks_left : List Bool → ℕ
marks_left [] = 0
marks_left (true ∷ marks) = suc (marks_left marks)
marks_left (false ∷ marks) = marks_left marks

-- what is left to do: each missing row counts for more than all marks
abbrev pub work : List Pred → List Rows → List Diagram → List Bool → ℕ
work preds trees sets marks = all_missing preds trees sets * suc (length marks) + marks_left marks

-- the family is closed under each clause without a mark
abbrev pub UnmarkedAreClosed : ((ℕ → Bool) → Tree → Bool) → Listing → List Bool → Family → Type 0
UnmarkedAreClosed truth p marks family = (j : ℕ) (c : Clause) → slice_get p.clauses j ≡ Some c → (IsMarked marks j → ⊥) → IsClosedUnder truth family c

-- the clause is one of the predicate's users
abbrev pub HasUser : List (List ℕ) → ℕ → ℕ → Type 0
HasUser users q j = Contains (slice_index_or users q []) j

-- the users of each predicate: the clauses that have it in their bodies
pub record AreUsers (p : Listing) (users : List (List ℕ)) : Type 0 where
  pub each : length users ≡ length p.preds
  pub within : (q j : ℕ) → HasUser users q j → j < length p.clauses
  pub all : (j : ℕ) (c : Clause) (i : ℕ) (b : Atom) → slice_get p.clauses j ≡ Some c → slice_get c.body i ≡ Some b → HasUser users b.pred.0 j

-- the clauses of each predicate: those that have it in their heads
pub record AreHeads (p : Listing) (heads : List (List ℕ)) : Type 0 where
  pub within : (q j : ℕ) → HasUser heads q j → j < length p.clauses
  pub all : (j : ℕ) (c : Clause) → slice_get p.clauses j ≡ Some c → HasUser heads c.head.pred.0 j

-- no atom of the clause's body has the predicate
abbrev pub IsApart : Clause → ℕ → Type 0
IsApart c q = (i : ℕ) (b : Atom) → slice_get c.body i ≡ Some b → (b.pred.0 ≡ q) → ⊥
