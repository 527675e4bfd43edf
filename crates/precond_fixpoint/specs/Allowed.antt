-- Private.
-- The greatest rows of a component depend only on what is allowed of the lower predicates that its clauses call.
use Rattle.std.specs.Prelude.{◌≡◌, ℕ, Bool, true, false, List, slice_get, Some}
use Rattle.cti_terms.specs.Tree.{Tree}
use Rattle.cti_terms.specs.Listing.{Listing}
use Rattle.cti_terms.specs.declared.atom_list.Atom.{Atom}
use Rattle.cti_terms.specs.declared.clauses.Clause.{Clause}
use Rattle.termination_model.specs.grounds.Grounds.{Family}
use Rattle.precond_fixpoint.specs.Greatest.{IsGreatestIn}

-- two families have the same rows of the lower predicates that the members' clauses call
abbrev pub AgreeBelow : Listing → (ℕ → Bool) → Family → Family → Type 0
AgreeBelow p is_member f g =
    (i : ℕ) (k : Clause) → slice_get p.clauses i ≡ Some k → is_member k.head.pred.0 ≡ true → (j : ℕ) (b : Atom) → slice_get k.body j ≡ Some b → is_member b.pred.0 ≡ false
    → f b.pred.0 ≡ g b.pred.0

abbrev pub GreatestDependsBelow : Type 0
GreatestDependsBelow = (truth : (ℕ → Bool) → Tree → Bool) (p : Listing) (is_member : ℕ → Bool) (f g grounds : Family) (coefficients : ℕ → List ℕ) (pre : Family)
    → AgreeBelow p is_member f g → IsGreatestIn truth p is_member f grounds coefficients pre → IsGreatestIn truth p is_member g grounds coefficients pre

-- two families have the same rows of the members
abbrev pub AgreeOnMembers : (ℕ → Bool) → Family → Family → Type 0
AgreeOnMembers is_member f g = (q : ℕ) → is_member q ≡ true → f q ≡ g q

abbrev pub GreatestDependsOnMembers : Type 0
GreatestDependsOnMembers = (truth : (ℕ → Bool) → Tree → Bool) (p : Listing) (is_member : ℕ → Bool) (allowed grounds : Family) (coefficients : ℕ → List ℕ) (f g : Family)
    → AgreeOnMembers is_member f g → IsGreatestIn truth p is_member allowed grounds coefficients f → IsGreatestIn truth p is_member allowed grounds coefficients g
