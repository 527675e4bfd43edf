-- To believe, for the command.
-- The nodes of a goal: its derivations but the empty one, in the order in which a search meets them.
--
-- A derivation is given by the numbers of its clauses, with 0 for a built-in atom. Lists of numbers stand in
-- lexicographic order, a beginning before what it begins. A goal may have nodes without end, so they are listed to a
-- depth. Each node stands after all of its beginnings, so the first n nodes have at most n clauses each, and one more
-- has at most n + 1.
--
-- To believe: `nodes`, `first_nodes`, `HasMoreNodes`, `longest`.
-- Source: the search tree of LD-resolution, depth first, with clauses in the order of the program.
use Rattle.std.specs.Prelude.{ℕ, zero, suc, max, ◌<◌, List, [], ◌∷◌, map, flat_map, take, length, Option, None, Some}
use Rattle.std.specs.List.{range_with_len}
use Rattle.cti_terms.specs.declared.derivation.Goal.{Goal}
use Rattle.cti_terms.specs.Listing.{Listing}
use Rattle.cti_terms.specs.Unify.{Binding}
use Rattle.cti_terms.specs.Resolve.{resolve}

-- the nodes that begin with number k: it alone, and it before each node of the goal that it leaves
abbrev pub under : ℕ → (Goal → List (List ℕ)) → Option (List Binding × Goal) → List (List ℕ)
under k nodes_of_goal None = []
under k nodes_of_goal (Some r) = (k ∷ []) ∷ map (λ ks. k ∷ ks) (nodes_of_goal r.1)

-- the derivations of at most d steps, but the empty one, in lexicographic order
abbrev pub nodes : Listing → ℕ → Goal → List (List ℕ)
nodes p zero g = []
nodes p (suc d) g = flat_map (λ k. under k (nodes p d) (resolve p g k)) (range_with_len 0 (suc (length p.clauses)))

-- the first n nodes, or all where there are fewer
abbrev pub first_nodes : Listing → Goal → ℕ → List (List ℕ)
first_nodes p g n = take n (nodes p (suc n) g)

-- there are more than n nodes
abbrev pub HasMoreNodes : Listing → Goal → ℕ → Type 0
HasMoreNodes p g n = n < length (nodes p (suc n) g)

-- the greatest length of some derivations, 0 of none
abbrev pub longest : List (List ℕ) → ℕ
longest [] = 0
longest (ks ∷ rest) = max (length ks) (longest rest)
