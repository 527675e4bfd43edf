-- Private.
-- What is added to families while the least one is sought. Nothing here has to be believed.
use Rattle.std.specs.Prelude.{◌≡◌, ◌&&◌, ℕ, Bool, true, false, List, length, slice_get, Option, None, Some}
use Rattle.bool_diagrams.specs.declared.diagram.Diagram.{Diagram}
use Rattle.bool_diagrams.specs.Rows.{IsDiagram, holds}
use Rattle.bool_diagrams.specs.Tree.{Tree as Rows}
use Rattle.cti_terms.specs.Arithmetic.{Arithmetic, kind_of}
use Rattle.cti_terms.specs.declared.builtins.Builtin.{Builtin}
use Rattle.cti_terms.specs.declared.clauses.Clause.{Clause}
use Rattle.cti_terms.specs.Tree.{Tree}
use Rattle.truth_rows.specs.Ready.{HasAtoms, HasTruths}
use Rattle.termination_model.specs.grounds.Grounds.{Family, IsClosedUnder, IsInside}

-- whatever family is closed under the clause and has the rows of the first has those of the second
abbrev pub AddsOnlyNeeded : ((ℕ → Bool) → Tree → Bool) → Clause → Family → Family → Type 0
AddsOnlyNeeded truth k old new = (other : Family) → IsClosedUnder truth other k → IsInside old other → IsInside new other

-- the clause gives its head this row
abbrev pub Gives : ((ℕ → Bool) → Tree → Bool) → List Rows → List Diagram → Clause → (ℕ → Bool) → Type 0
Gives truth trees sets k row = (v : ℕ → Bool) × HasAtoms truth trees sets v k.body (length k.body) × HasTruths truth v row k.head.args (length k.head.args)

-- the set that a predicate of this kind, if it is built in, starts with
abbrev pub set_as : Diagram → Diagram → Option Builtin → Diagram
set_as none both None = none
set_as none both (Some b) = both

-- the two diagrams that a search starts with: one without rows, and one with the row of two rigid arguments
pub record AreFirst (trees : List Rows) (none both : Diagram) : Type 0 where
  pub none_known : IsDiagram trees none
  pub both_known : IsDiagram trees both
  pub off : (row : ℕ → Bool) → holds trees none row ≡ false
  pub on : (row : ℕ → Bool) → holds trees both row ≡ (row 0 && row 1)

-- other predicates than members keep their diagrams
abbrev pub KeepsOtherSets : (ℕ → Bool) → List Diagram → List Diagram → Type 0
KeepsOtherSets is_member old new = (q : ℕ) → is_member q ≡ false → slice_get new q ≡ slice_get old q

-- each member has the first one of its kind, and all others have what they had
pub record AreBegun (ar : Arithmetic) (is_member : ℕ → Bool) (none both : Diagram) (old new : List Diagram) : Type 0 where
  pub each : length new ≡ length old
  pub members : (q : ℕ) (d : Diagram) → is_member q ≡ true → slice_get new q ≡ Some d → d ≡ set_as none both (kind_of ar q)
  pub others : KeepsOtherSets is_member old new
