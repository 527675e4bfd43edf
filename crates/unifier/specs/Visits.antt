-- Private.
-- Variables that a check has visited, and what is still to come of their terms. Nothing here has to be believed.
use Rattle.std.specs.Prelude.{◌≡◌, ℕ, suc, ◌+◌, ◌*◌, ◌<◌, ◌≤◌, Bool, true, false, ◌||◌, ◌==◌, ◌⊎◌, List, [], ◌∷◌, ◌++◌, map, length, get_or, Option, Some, None}
use Rattle.std.specs.List.{AllByRecursion}
use Rattle.cti_terms.specs.Tree.{Tree, Variable, Compound, all_instances, nodes_of}
use Rattle.cti_terms.specs.Spell.{trees_of}
use Rattle.cti_terms.specs.Unify.{Binding, occurs}
use Rattle.cti_terms.specs.Below.{TermBelow}
use Rattle.unifier.specs.declared.raised_term.RaisedTerm.{RaisedTerm}
use Rattle.unifier.specs.declared.occurs_check.Arguments.{Arguments}
use Rattle.unifier.specs.Raised.{raise, raised_tree}
use Rattle.unifier.specs.Store.{full, chain_of, IsOpen}
use Rattle.unifier.specs.Pending.{occurs_left}
use Rattle.unifier.specs.declared.occurs_check.Occurrence.{Occurrence}
use Rattle.unifier.specs.declared.occurs_check.Occurrence.TheVariants.{Found, Below}

-- whether a variable is one of these
abbrev pub is_among : List ℕ → ℕ → Bool
is_among [] x = false
is_among (y ∷ ys) x = (y == x) || is_among ys x

-- the flag of a variable
abbrev pub flag : List Bool → ℕ → Bool
flag flags x = get_or flags x false

-- the flags of these variables are up, and no others
abbrev pub AreFlags : List Bool → List ℕ → Type 0
AreFlags flags ys = (x : ℕ) → flag flags x ≡ is_among ys x

-- a visit is the first one of its variable, or changes nothing
abbrev pub IsVisit : List ℕ → ℕ → List ℕ → Bool → Type 0
IsVisit old x new true = (is_among old x ≡ false) × (new ≡ old ++ x ∷ [])
IsVisit old x new false = (is_among old x ≡ true) × (new ≡ old)

-- a number that falls from a bound variable to its term, and from a compound term to its arguments
abbrev pub rank : List Binding → Tree → ℕ
rank s t = nodes_of (full s t) * suc (length s) + chain_of s t

-- x occurs under the bindings in a term whose number is below n
abbrev pub OccursBelow : List Binding → ℕ → ℕ → List Tree → Type 0
OccursBelow s x n [] = ⊥
OccursBelow s x n (t ∷ ts) = ((rank s t < n) × (occurs x (full s t) ≡ true)) ⊎ OccursBelow s x n ts

-- where x occurs in a variable under the bindings, it will be found in a smaller term of these
abbrev pub IsCovered : List Binding → ℕ → List Tree → ℕ → Type 0
IsCovered s x ts y = occurs x (full s (Variable y)) ≡ true → OccursBelow s x (rank s (Variable y)) ts

-- arguments as one term
abbrev pub arguments_tree : Arguments → Tree
arguments_tree a = Compound 0 (all_instances (raise a.base) (trees_of a.args.now))

-- arguments on a stack
abbrev pub raw_arguments : List Arguments → List Tree
raw_arguments = map arguments_tree

-- where the visited variables are covered by terms, they still are by other terms, in which x occurs as before
abbrev pub Leads : List Binding → ℕ → List Tree → List ℕ → List Tree → List ℕ → Type 0
Leads s x ts ys us zs = AllByRecursion (IsCovered s x ts) ys → (occurs_left s x us ≡ occurs_left s x ts) × AllByRecursion (IsCovered s x us) zs

-- a term comes in the place of another one, and is not a bound variable, or none need come
abbrev pub IsReached : List Binding → List ℕ → Tree → Option RaisedTerm → List ℕ → Type 0
IsReached s ys t None zs = (ts : List Tree) (x : ℕ) → Leads s x (ts ++ t ∷ []) ys ts zs
IsReached s ys t (Some r) zs = IsOpen s (raised_tree r) × (full s (raised_tree r) ≡ full s t) × ((ts : List Tree) (x : ℕ) → Leads s x (ts ++ t ∷ []) ys (ts ++ raised_tree r ∷ []) zs)

-- this variable, and those from a number on
abbrev pub IsWanted : ℕ → ℕ → ℕ → Type 0
IsWanted variable above x = (x ≡ variable) ⊎ (above ≤ x)

-- whether a variable occurs in a term, or else a number above all that occur
abbrev pub IsOccurrence : ℕ → Tree → Occurrence → Type 0
IsOccurrence x t Found = occurs x t ≡ true
IsOccurrence x t (Below m) = (occurs x t ≡ false) × TermBelow m t

-- a variable does not occur in a term under the bindings, and a number is above those that do
abbrev pub IsFlat : List Binding → ℕ → Tree → ℕ → Type 0
IsFlat s x t m = IsOccurrence x (full s t) (Below m)

-- a variable occurs in a term, or else what is put on a stack comes in the term's place, for the variables that are
-- wanted
abbrev pub IsLookedAt : List Binding → ℕ → Tree → List ℕ → List Tree → Bool → ℕ → List ℕ → List Tree → Type 0
IsLookedAt s v t ys ts true above zs us = occurs v (full s t) ≡ true
IsLookedAt s v t ys ts false above zs us = (more : List Tree) (x : ℕ) → IsWanted v above x → Leads s x ((more ++ ts) ++ t ∷ []) ys (more ++ us) zs
