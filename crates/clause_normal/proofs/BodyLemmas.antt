-- Lemmas on goals and branches in rows, and on terms on a stack.
use Rattle.std.proofs.Common.{◌≡◌, ℕ, ◌+◌, ◌<◌, ◌≤◌, List, [], ◌∷◌, ◌++◌, refl, ap, arith, Bor}
use Rattle.prolog_terms.specs.declared.term.ReadTerm.{ReadTerm}
use Rattle.prolog_grammar.specs.Placed.{Tree, tree, Var, Int, Fun}
use Rattle.prolog_terms.specs.Clauses.{nodes}
use Rattle.prolog_terms.specs.Terms.{tree_of}
use Rattle.clause_normal.specs.Bodies.{Goals, Branches, no_goals, more_goals, no_branches, more_branches, joined, joined_branches}
use Rattle.clause_normal.specs.declared.part.Part.{Part}
use Rattle.clause_normal.specs.declared.part.Part.TheVariants as part
use Rattle.clause_normal.specs.Stacks.{stack_nodes}
use Rattle.clause_normal.specs.Views.{IsPart, IsBranch}

pub joined_none : (gs : Goals) → joined gs no_goals ≡ gs
joined_none no_goals = refl
joined_none (more_goals g gs) = ap (more_goals g) (joined_none gs)

pub joined_assoc : (fs gs hs : Goals) → joined (joined fs gs) hs ≡ joined fs (joined gs hs)
joined_assoc no_goals gs hs = refl
joined_assoc (more_goals f fs) gs hs = ap (more_goals f) (joined_assoc fs gs hs)

pub branches_assoc : (bs' bs cs : Branches) → joined_branches (joined_branches bs' bs) cs ≡ joined_branches bs' (joined_branches bs cs)
branches_assoc no_branches bs cs = refl
branches_assoc (more_branches a bs') bs cs = ap (more_branches a) (branches_assoc bs' bs cs)

abbrev pub Bodies : Type 0
Bodies = List (Bor ReadTerm)

pub stack_nodes_push : (s : Bodies) (t : Bor ReadTerm) → stack_nodes (s ++ t ∷ []) ≡ stack_nodes s + nodes (tree_of t.now)
stack_nodes_push [] t = refl
stack_nodes_push (u ∷ s) t = omega (arith, stack_nodes_push s t)

-- fewer nodes where one is taken off, and where its sides come in its place
pub off_smaller : (stack below : Bodies) (t : Bor ReadTerm) → stack ≡ below ++ t ∷ [] → 1 ≤ nodes (tree_of t.now) → stack_nodes below < stack_nodes stack
off_smaller stack below t e some = omega (arith, ap stack_nodes e, stack_nodes_push below t)

pub sides_on : (stack below after : Bodies) (t l r : Bor ReadTerm) → stack ≡ below ++ t ∷ [] → after ≡ (below ++ r ∷ []) ++ l ∷ []
    → nodes (tree_of l.now) + nodes (tree_of r.now) < nodes (tree_of t.now) → stack_nodes after < stack_nodes stack
sides_on stack below after t l r e f smaller =
    omega (arith, ap stack_nodes e, ap stack_nodes f, stack_nodes_push below t, stack_nodes_push below r, stack_nodes_push (below ++ r ∷ []) l)

-- a term has a node
pub some_node : (t : Tree) → 1 ≤ nodes t
some_node (tree at (Var x)) = omega arith
some_node (tree at (Int n)) = omega arith
some_node (tree at (Fun f ts)) = omega arith

-- what is not a disjunction is one branch
pub not_either : (names : List (List ℕ)) (t : ReadTerm) (r : Part) → ((x y : Bor ReadTerm) → r ≡ part.Either x y → ⊥) → IsPart names t r → IsBranch names t
not_either names t (part.Both x y) h p = p.1
not_either names t (part.Either x y) h p = absurd (h x y refl)
not_either names t part.Nothing h p = p.1
not_either names t (part.Goal i) h p = p.1
