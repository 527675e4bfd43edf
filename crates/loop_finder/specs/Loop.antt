-- To believe, for a loop.
-- Loops: derivations that come back to an atom that is more general than one that they passed.
--
-- An atom is more general than another where some substitution applied to it gives the other. A loop is a derivation in
-- two parts, the steps before it and its cycle. The cycle never goes below the goal that it starts from: of what stood
-- after the first atom there, no atom is resolved. After the cycle the first atom is more general than before it. So
-- the cycle's clauses can be gone through again, and over again.
--
-- To believe: all of this file.
use Rattle.std.specs.Prelude.{◌≡◌, ◌≢◌, ℕ, zero, suc, ◌≤◌, List, [], ◌∷◌, ◌++◌, length, Some, IsSomeAnd}
use Rattle.std.specs.List.{AllByRecursion}
use Rattle.cti_terms.specs.declared.atom_list.Atom.{Atom}
use Rattle.cti_terms.specs.declared.derivation.Goal.{Goal}
use Rattle.cti_terms.specs.Listing.{Listing}
use Rattle.cti_terms.specs.Derive.{IsDerivation}
use Rattle.cti_terms.specs.Lifts.{IsMoreGeneral, left_after}

-- there is a first atom, and it has a property
abbrev pub FirstIs : (Atom → Type 0) → List Atom → Type 0
FirstIs P [] = ⊥
FirstIs P (a ∷ rest) = P a

-- each beginning of the numbers but the empty one leaves at least n atoms of the goal
abbrev pub KeepsAtoms : Listing → ℕ → Goal → List ℕ → Type 0
KeepsAtoms p n g v = (ks ls : List ℕ) → v ≡ ks ++ ls → ks ≢ [] → IsSomeAnd (left_after p g ks) (λ (h : Goal). n ≤ length h.atoms)

-- the numbers lead from the goal to one whose first atom is more general than its own
abbrev pub ComesBack : Listing → Goal → List ℕ → Type 0
ComesBack p g v = FirstIs (λ a. IsSomeAnd (left_after p g v) (λ (h : Goal). FirstIs (λ b. IsMoreGeneral b a) h.atoms)) g.atoms

-- u and then v are a loop from the goal
pub record IsLoop (p : Listing) (g : Goal) (u v : List ℕ) : Type 0 where
  pub clauses : AllByRecursion (λ (k : ℕ). 1 ≤ k) (u ++ v)
  pub cycle : v ≢ []
  pub before : Goal
  pub leads : left_after p g u ≡ Some before
  pub keeps : KeepsAtoms p (length before.atoms) before v
  pub back : ComesBack p before v

-- a list this many times
abbrev pub times : ℕ → List ℕ → List ℕ
times zero v = []
times (suc n) v = v ++ times n v

-- u, and then v so many times, is a derivation, however often: so there are derivations of every length
abbrev pub GoesOn : Listing → Goal → List ℕ → List ℕ → Type 0
GoesOn p g u v = (n : ℕ) → IsDerivation p g (u ++ times n v)
