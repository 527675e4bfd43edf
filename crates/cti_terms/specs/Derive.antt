-- To believe, for a Yes.
-- Derivations, and goals whose derivations are bounded.
--
-- A derivation is given by the numbers of its clauses, with 0 for a built-in atom, since each of them leaves one goal
-- at most.
--
-- To believe: `IsDerivation`, `Bounded`. All that is promised of a query is that it is `Bounded`.
-- Source: LD-derivations, which select the leftmost atom.
use Rattle.std.specs.Prelude.{◌≡◌, ℕ, ◌<◌, List, [], ◌∷◌, Some, length}
use Rattle.cti_terms.specs.declared.atom_list.Atom.{Atom}
use Rattle.cti_terms.specs.declared.derivation.Goal.{Goal}
use Rattle.cti_terms.specs.Listing.{Listing}
use Rattle.cti_terms.specs.Unify.{Binding}
use Rattle.cti_terms.specs.Resolve.{resolve}

-- a query: the goal of one atom, with a counter
abbrev pub query : Atom → ℕ → Goal
query a n = record { atoms = a ∷ []; fresh = n }

-- each number of the list resolves the goal that the ones before it have left
abbrev pub IsDerivation : Listing → Goal → List ℕ → Type 0
IsDerivation p g [] = Unit {0}
IsDerivation p g (k ∷ ks) = (bs : List Binding) × (h : Goal) × (resolve p g k ≡ Some (bs, h)) × IsDerivation p h ks

-- some number is greater than the length of every derivation from the goal
abbrev pub Bounded : Listing → Goal → Type 0
Bounded p g = (n : ℕ) × ((ks : List ℕ) → IsDerivation p g ks → length ks < n)
