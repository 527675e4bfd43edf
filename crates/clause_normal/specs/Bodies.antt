-- To believe, for reading.
-- The goals of a clause's body.
--
-- A body is a conjunction: its goals are a list, and `true` is not a goal. A disjunction is a goal with its list of
-- branches, each of them a body again. It becomes the call of a predicate of its own, and that predicate's arguments
-- are those of its variables that occur elsewhere in the clause that is made. The clause of a branch has that predicate
-- as its head.
--
-- To believe: all of this file.
use Rattle.std.specs.Prelude.{ℕ, ◌||◌, nat_lt, List, [], ◌∷◌, ◌++◌, filter, length, if◌then◌else◌}
use Rattle.cti_terms.specs.Tree.{Tree as Term}
use Rattle.prolog_grammar.specs.Placed.{Tree, tree, Shape, Var, Int, Fun, Trees, no_trees, more_trees}
use Rattle.prolog_reader.specs.Names.{name_text}
use Rattle.prolog_terms.specs.Clauses.{arity}
use Rattle.cti_terms.specs.declared.limits.TheConstants.{MOST_ARGUMENTS}
use Rattle.clause_normal.specs.declared.fault.NormKind.{NormKind}
use Rattle.clause_normal.specs.declared.fault.NormKind.TheVariants as kind
use Rattle.clause_variables.specs.Terms.{plain_list, occurrences, count, firsts}
use Rattle.clause_normal.specs.Words.{is_impure, is_choice_name, connective_of}
use Rattle.clause_normal.specs.declared.words.Connective.{Connective}
use Rattle.clause_normal.specs.declared.words.Connective.TheVariants as connective

mutual
  -- a call of a name with arguments; a disjunction with the arguments of its predicate; or what may not stand in a
  -- body, with its place
  pub data Goal : Type 0 where
    call : ℕ → List Term → Goal
    choice : List ℕ → Branches → Goal
    bad : NormKind → ℕ → Goal

  -- a list of goals
  pub data Goals : Type 0 where
    no_goals : Goals
    more_goals : Goal → Goals → Goals

  -- a list of branches
  pub data Branches : Type 0 where
    no_branches : Branches
    more_branches : Goals → Branches → Branches

-- one goal
abbrev pub one_goal : Goal → Goals
one_goal g = more_goals g no_goals

-- one branch
abbrev pub one_branch : Goals → Branches
one_branch gs = more_branches gs no_branches

-- goals of a list, in order
abbrev pub goals_row : List Goal → Goals
goals_row [] = no_goals
goals_row (g ∷ gs) = more_goals g (goals_row gs)

-- goals, and others after them
abbrev pub joined : Goals → Goals → Goals
joined no_goals hs = hs
joined (more_goals g gs) hs = more_goals g (joined gs hs)

-- branches, and others after them
abbrev pub joined_branches : Branches → Branches → Branches
joined_branches no_branches cs = cs
joined_branches (more_branches b bs) cs = more_branches b (joined_branches bs cs)

-- The arguments of a disjunction's predicate, where the clause has the variables `all` and the disjunction `own`, as
-- often as they occur: those of its own that occur more often in the clause, each once, in order of first occurrence.
abbrev pub arguments : List ℕ → List ℕ → List ℕ
arguments all own = firsts (filter (λ x. nat_lt (count own x) (count all x)) own)

-- A body's goals, where the clause that is made has the variables `all`; and the branches that it gives to a
-- disjunction, where the disjunction's predicate has these arguments.
pub record Body : Type 0 where
  pub goals : List ℕ → Goals
  pub branches : List ℕ → Branches

-- the body of one goal or none; as a branch it is the body of a clause of its own
abbrev pub of_goals : Tree → (List ℕ → Goals) → Body
of_goals t goals = record { goals = goals; branches = λ args. one_branch (goals (args ++ occurrences t)) }

-- the call of a name with this text and these arguments as a goal
abbrev pub named_goal : List ℕ → ℕ → List Term → ℕ → Goal
named_goal text f args at =
    if is_impure text (length args) || is_choice_name text then bad kind.NotPure at
    else if nat_lt MOST_ARGUMENTS (length args) then bad kind.Arity at
    else call f args

-- an atom as a goal
abbrev pub atom_goal : List (List ℕ) → Tree → Goal
atom_goal names (tree at (Var x)) = bad kind.NotPure at
atom_goal names (tree at (Int n)) = bad kind.NotPure at
atom_goal names (tree at (Fun f ts)) = named_goal (name_text names f) f (plain_list ts) at

-- a disjunction as a goal, with these arguments and branches
abbrev pub choice_goal : ℕ → List ℕ → (List ℕ → Branches) → Goal
choice_goal at args branches = if nat_lt MOST_ARGUMENTS (length args) then bad kind.Arity at else choice args (branches args)

-- a disjunction of two bodies
abbrev pub disjunction : Tree → ℕ → Body → Body → Body
disjunction t at b c =
    let branches : List ℕ → Branches = λ args. joined_branches (b.branches args) (c.branches args) in
    record { goals = λ all. one_goal (choice_goal at (arguments all (occurrences t)) branches); branches = branches }

-- the body of a term whose name means that, with these bodies as arguments
abbrev pub named_body : List (List ℕ) → Tree → ℕ → Connective → List Body → Body
named_body names t at connective.And (b ∷ c ∷ []) = of_goals t (λ all. joined (b.goals all) (c.goals all))
named_body names t at connective.Or (b ∷ c ∷ []) = disjunction t at b c
named_body names t at connective.Truth bs = of_goals t (λ all. no_goals)
named_body names t at c bs = of_goals t (λ all. one_goal (atom_goal names t))

abbrev mutual
  -- the body that a term is
  pub body_of : List (List ℕ) → Tree → Body
  body_of names (tree at s) = shape_body names at s

  pub shape_body : List (List ℕ) → ℕ → Shape → Body
  shape_body names at (Var x) = of_goals (tree at (Var x)) (λ all. one_goal (atom_goal names (tree at (Var x))))
  shape_body names at (Int n) = of_goals (tree at (Int n)) (λ all. one_goal (atom_goal names (tree at (Int n))))
  shape_body names at (Fun f ts) = named_body names (tree at (Fun f ts)) at (connective_of (name_text names f) (arity ts)) (argument_bodies names ts)

  -- the bodies that its arguments are
  pub argument_bodies : List (List ℕ) → Trees → List Body
  argument_bodies names no_trees = []
  argument_bodies names (more_trees t ts) = body_of names t ∷ argument_bodies names ts
