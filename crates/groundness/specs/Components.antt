-- Private.
-- How the least family of a component is found: what is kept between two steps.
use Rattle.std.specs.Prelude.{◌≡◌, ℕ, Bool, true, false, IsTrue, List, slice_get, Some}
use Rattle.cti_terms.specs.Arithmetic.{Arithmetic}
use Rattle.cti_terms.specs.Tree.{Tree}
use Rattle.cti_terms.specs.Listing.{Listing}
use Rattle.cti_terms.specs.declared.clauses.Clause.{Clause}
use Rattle.groundness.specs.Marks.{IsMarked}
use Rattle.termination_model.specs.grounds.Grounds.{Family, IsClosedUnder, IsInside}
use Rattle.termination_model.specs.grounds.LeastOver.{HasMembersBuiltins, IsClosedIn}

module _ (truth : (ℕ → Bool) → Tree → Bool) (p : Listing) (is_member : ℕ → Bool) where
  -- closed under the members' clauses, but for those with marks
  abbrev pub UnmarkedAreClosedIn : List Bool → Family → Type 0
  UnmarkedAreClosedIn marks family = (j : ℕ) (k : Clause) → slice_get p.clauses j ≡ Some k → is_member k.head.pred.0 ≡ true → (IsMarked marks j → ⊥) → IsClosedUnder truth family k

  -- whatever family is closed for the members and has the rows of the first has those of the second
  abbrev pub AddsOnlyNeededIn : Family → Family → Type 0
  AddsOnlyNeededIn old new = (other : Family) → IsClosedIn truth p is_member other → IsInside old other → IsInside new other

-- no predicate has rows
abbrev pub HasNoRows : Family → Type 0
HasNoRows family = (q : ℕ) (row : List Bool) → IsTrue (family q row) → ⊥

-- predicates that are no members keep their rows
abbrev pub KeepsOthers : (ℕ → Bool) → Family → Family → Type 0
KeepsOthers is_member old new = (r : ℕ) → is_member r ≡ false → new r ≡ old r

-- members have the rows of what is built in, and no others
pub record HaveStartRows (ar : Arithmetic) (is_member : ℕ → Bool) (family : Family) : Type 0 where
  pub builtins : HasMembersBuiltins ar is_member family
  pub alone : (other : Family) → HasMembersBuiltins ar is_member other → (q : ℕ) (row : List Bool) → is_member q ≡ true → IsTrue (family q row) → IsTrue (other q row)
