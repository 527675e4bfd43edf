-- To believe, for a loop.
-- More general atoms, and the goals that derivations leave.
use Rattle.std.specs.Prelude.{◌≡◌, ℕ, List, [], ◌∷◌, Option, Some, option_and_then}
use Rattle.std.specs.List.{AllByRecursion}
use Rattle.cti_terms.specs.Tree.{Tree, instance}
use Rattle.cti_terms.specs.declared.atom_list.Atom.{Atom}
use Rattle.cti_terms.specs.declared.derivation.Goal.{Goal}
use Rattle.cti_terms.specs.Listing.{Listing, IsAtom}
use Rattle.cti_terms.specs.Resolve.{over, resolve}

-- some substitution applied to the first atom gives the second
abbrev pub IsMoreGeneral : Atom → Atom → Type 0
IsMoreGeneral b a = (s : ℕ → Tree) × (over (instance s) b ≡ a)

-- a goal of the program: each of its atoms is one of the program's predicates, and each variable is below the counter
abbrev pub IsGoalOf : Listing → Goal → Type 0
IsGoalOf p g = AllByRecursion (IsAtom p.preds g.fresh) g.atoms

-- the goal that a derivation leaves, where the numbers are one
abbrev pub left_after : Listing → Goal → List ℕ → Option Goal
left_after p g [] = Some g
left_after p g (k ∷ ks) = option_and_then (λ r. left_after p r.1 ks) (resolve p g k)
