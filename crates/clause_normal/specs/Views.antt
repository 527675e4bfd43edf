-- Private.
-- What the parts of the code stand for. Nothing here has to be believed.
use Rattle.std.specs.Prelude.{◌≡◌, ◌<◌, ◌≤◌, ◌+◌, ℕ, IsTrue, List, [], ◌∷◌, ◌++◌, map, length}
use Rattle.prolog_terms.specs.declared.term.ReadTerm.{ReadTerm}
use Rattle.prolog_terms.specs.Clauses.{is_known, is_below, nodes}
use Rattle.prolog_terms.specs.Terms.{tree_of}
use Rattle.clause_normal.specs.declared.part.Item.{Item}
use Rattle.clause_normal.specs.declared.part.Item.TheVariants as item
use Rattle.clause_normal.specs.declared.part.Part.{Part}
use Rattle.clause_normal.specs.declared.part.Part.TheVariants as part
use Rattle.clause_variables.specs.Terms.{occurrences}
use Rattle.clause_variables.specs.TermViews.{plain_of}
use Rattle.clause_normal.specs.Bodies.{Goal, Goals, Branches, call, bad, no_goals, one_goal, one_branch, joined, joined_branches, arguments, choice_goal, atom_goal, body_of}
use Rattle.clause_normal.specs.Query.{query_goals}

-- the goals of a term of the code, and the branches
abbrev pub goals_of : List (List ℕ) → ReadTerm → List ℕ → Goals
goals_of names t = (body_of names (tree_of t)).goals

abbrev pub branches_of : List (List ℕ) → ReadTerm → List ℕ → Branches
branches_of names t = (body_of names (tree_of t)).branches

-- the goal of an item
abbrev pub item_goal : Item → Goal
item_goal (item.Call f ts) = call f.0 (map plain_of ts.now)
item_goal (item.Bad kind at) = bad kind at

-- a term that is one branch
abbrev pub IsBranch : List (List ℕ) → ReadTerm → Type 0
IsBranch names t = (args : List ℕ) → branches_of names t args ≡ one_branch (goals_of names t (args ++ occurrences (tree_of t)))

-- the term is that part
abbrev pub IsPart : List (List ℕ) → ReadTerm → Part → Type 0
IsPart names t (part.Both b c) = ((all : List ℕ) → goals_of names t all ≡ joined (goals_of names b.now all) (goals_of names c.now all)) × IsBranch names t
IsPart names t (part.Either b c) =
    ((all : List ℕ) → goals_of names t all ≡ one_goal (choice_goal t.at (arguments all (occurrences (tree_of t))) (λ args. joined_branches (branches_of names b.now args) (branches_of names c.now args))))
    × ((args : List ℕ) → branches_of names t args ≡ joined_branches (branches_of names b.now args) (branches_of names c.now args))
IsPart names t part.Nothing = ((all : List ℕ) → goals_of names t all ≡ no_goals) × IsBranch names t
IsPart names t (part.Goal i) = ((all : List ℕ) → goals_of names t all ≡ one_goal (item_goal i)) × IsBranch names t

-- the term is that part in a query, where a disjunction is a goal like others
abbrev pub IsQueryPart : List (List ℕ) → ReadTerm → Part → Type 0
IsQueryPart names t (part.Both b c) = query_goals names (tree_of t) ≡ query_goals names (tree_of b.now) ++ query_goals names (tree_of c.now)
IsQueryPart names t (part.Either b c) = query_goals names (tree_of t) ≡ atom_goal names (tree_of t) ∷ []
IsQueryPart names t part.Nothing = query_goals names (tree_of t) ≡ []
IsQueryPart names t (part.Goal i) = query_goals names (tree_of t) ≡ item_goal i ∷ []

-- a term whose names and variables have numbers below these
pub record IsTermFit (names vars : ℕ) (t : ReadTerm) : Type 0 where
  pub known : IsTrue (is_known names (tree_of t))
  pub below : IsTrue (is_below vars (tree_of t))

-- an item with no more arguments than a predicate has, whose name has a number below this
abbrev pub ItemIsFit : ℕ → Item → Type 0
ItemIsFit names (item.Call f ts) = (f.0 < names) × (length ts.now ≤ 12)
ItemIsFit names (item.Bad kind at) = Unit {0}

-- the same for the goal that a part may be, and names below this in its sides
abbrev pub PartIsFit : ℕ → Part → Type 0
PartIsFit names (part.Both b c) = IsTrue (is_known names (tree_of b.now)) × IsTrue (is_known names (tree_of c.now))
PartIsFit names (part.Either b c) = IsTrue (is_known names (tree_of b.now)) × IsTrue (is_known names (tree_of c.now))
PartIsFit names part.Nothing = Unit {0}
PartIsFit names (part.Goal i) = ItemIsFit names i

-- its sides have the variables of the term
abbrev pub PartHasOwn : ReadTerm → Part → Type 0
PartHasOwn t (part.Both b c) = occurrences (tree_of t) ≡ occurrences (tree_of b.now) ++ occurrences (tree_of c.now)
PartHasOwn t (part.Either b c) = occurrences (tree_of t) ≡ occurrences (tree_of b.now) ++ occurrences (tree_of c.now)
PartHasOwn t part.Nothing = occurrences (tree_of t) ≡ []
PartHasOwn t (part.Goal i) = Unit {0}

-- its sides have fewer nodes together than the term
abbrev pub PartIsSmaller : ReadTerm → Part → Type 0
PartIsSmaller t (part.Both b c) = nodes (tree_of b.now) + nodes (tree_of c.now) < nodes (tree_of t)
PartIsSmaller t (part.Either b c) = nodes (tree_of b.now) + nodes (tree_of c.now) < nodes (tree_of t)
PartIsSmaller t part.Nothing = Unit {0}
PartIsSmaller t (part.Goal i) = Unit {0}
