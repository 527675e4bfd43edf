-- To believe, for the command.
-- The answers of a goal: what its atoms have become at the end of each derivation that leaves nothing to resolve.
--
-- An answer is printed with its variables numbered by first occurrence, and not at all where it is too large.
--
-- A search ends at a goal whose first atom is built in and has a value that does not fit, since the code's numbers do
-- not reach it.
--
-- To believe: `reached`, `answer_of`, `visited`, `answers`; `numbered_atoms`, `is_large`.
use Rattle.std.specs.Prelude.{ℕ, max, ◌+◌, Bool, false, ◌||◌, nat_lt, nat_eq, if◌then◌else◌, IsTrue, List, [], ◌∷◌, ◌++◌, map, drop, filter_map, Option, None, Some, option_map, option_and_then}
use Rattle.std.specs.List.{list_any, position_or_len}
use Rattle.cti_terms.specs.Tree.{Tree, Trees, Variable, Integer, Compound, End, More, trees, instance, all_nodes}
use Rattle.cti_terms.specs.declared.atom_list.Atom.{Atom}
use Rattle.cti_terms.specs.declared.derivation.Goal.{Goal}
use Rattle.cti_terms.specs.declared.limits.TheConstants.{MOST_ANSWER_NODES, MOST_ANSWER_DEPTH}
use Rattle.cti_terms.specs.Arithmetic.{Arithmetic, begins_wide}
use Rattle.cti_terms.specs.Listing.{Listing}
use Rattle.cti_terms.specs.Unify.{Binding, applied}
use Rattle.cti_terms.specs.Resolve.{over, resolve}
use Rattle.cti_terms.specs.Nodes.{first_nodes}

-- the bindings of a derivation, in order, and the goal that it leaves
abbrev pub reached : Listing → Goal → List ℕ → Option (List Binding × Goal)
reached p g [] = Some ([], g)
reached p g (k ∷ ks) = option_and_then (λ r. option_map (λ s. (r.0 ++ s.0, s.1)) (reached p r.1 ks)) (resolve p g k)

-- the atoms under the bindings, where no atoms are left
abbrev pub answer_by : List Atom → List Binding → List Atom → Option (List Atom)
answer_by atoms bs [] = Some (map (over (applied bs)) atoms)
answer_by atoms bs (a ∷ rest) = None

-- the answer of a derivation, if it has one
abbrev pub answer_of : Listing → Goal → List ℕ → Option (List Atom)
answer_of p g ks = option_and_then (λ r. answer_by g.atoms r.0 r.1.atoms) (reached p g ks)

-- whether a goal that is reached begins with a wide atom
abbrev pub is_wide_left : Arithmetic → Option (List Binding × Goal) → Bool
is_wide_left ar None = false
is_wide_left ar (Some r) = begins_wide ar r.1.atoms

-- whether a derivation leaves a wide goal
abbrev pub leaves_wide : Listing → Goal → List ℕ → Bool
leaves_wide p g ks = is_wide_left p.arithmetic (reached p g ks)

-- derivations up to the first one that leaves a wide goal, with it
abbrev pub up_to_wide : Listing → Goal → List (List ℕ) → List (List ℕ)
up_to_wide p g [] = []
up_to_wide p g (ks ∷ rest) = ks ∷ (if leaves_wide p g ks then [] else up_to_wide p g rest)

-- what a search visits of the empty derivation and the first n nodes, in order: it ends at a wide goal
abbrev pub visited : Listing → Goal → ℕ → List (List ℕ)
visited p g n = up_to_wide p g ([] ∷ first_nodes p g n)

-- the nodes among these
abbrev pub visited_nodes : Listing → Goal → ℕ → List (List ℕ)
visited_nodes p g n = drop 1 (visited p g n)

-- the empty derivation or one of the first n nodes leaves a wide goal
abbrev pub HasWide : Listing → Goal → ℕ → Type 0
HasWide p g n = IsTrue (list_any (leaves_wide p g) ([] ∷ first_nodes p g n))

-- the answers of the derivations that are visited, in order
abbrev pub answers : Listing → Goal → ℕ → List (List Atom)
answers p g n = filter_map (answer_of p g) (visited p g n)

-- ---- how an answer is reported

-- an atom as the term that it is written as
abbrev pub written : Atom → Tree
written a = Compound a.pred.0 (trees a.args)

-- atoms as the terms that they are written as
abbrev pub all_written : List Atom → Trees
all_written atoms = trees (map written atoms)

abbrev mutual
  -- how many levels a term has
  pub depth_of : Tree → ℕ
  depth_of (Variable x) = 1
  depth_of (Integer n) = 1
  depth_of (Compound f ts) = 1 + greatest_depth ts

  -- the greatest depth of some terms, 0 of none
  pub greatest_depth : Trees → ℕ
  greatest_depth End = 0
  greatest_depth (More t ts) = max (depth_of t) (greatest_depth ts)

-- whether an answer's atoms have too many nodes together, or too great a depth
abbrev pub is_large : List Atom → Bool
is_large atoms = nat_lt MOST_ANSWER_NODES (all_nodes (all_written atoms)) || nat_lt MOST_ANSWER_DEPTH (greatest_depth (all_written atoms))

-- variables with one more, which is added at the end where it is new
abbrev pub with_variable : List ℕ → ℕ → List ℕ
with_variable xs x = if list_any (nat_eq x) xs then xs else xs ++ x ∷ []

abbrev mutual
  -- variables with those of a term, by first occurrence
  pub met : List ℕ → Tree → List ℕ
  met xs (Variable x) = with_variable xs x
  met xs (Integer n) = xs
  met xs (Compound f ts) = all_met xs ts

  -- variables with those of some terms, by first occurrence
  pub all_met : List ℕ → Trees → List ℕ
  all_met xs End = xs
  all_met xs (More t ts) = all_met (met xs t) ts

-- a term with the place of each variable among these in its stead
abbrev pub numbered_by : List ℕ → Tree → Tree
numbered_by xs = instance (λ x. Variable (position_or_len (nat_eq x) xs))

-- atoms with their variables numbered from 0 by first occurrence
abbrev pub numbered_atoms : List Atom → List Atom
numbered_atoms atoms = map (over (numbered_by (all_met [] (all_written atoms)))) atoms
