-- To believe, for reading.
-- The clauses that a clause with disjunctions becomes, before predicates and variables are numbered.
--
-- The predicates of disjunctions are numbered over the program: those of one clause from left to right before those
-- inside their branches. A clause is followed by the clauses of its disjunctions' branches, in order, each followed in
-- the same way by those of its own.
--
-- To believe: all of this file.
use Rattle.std.specs.Prelude.{ℕ, ◌+◌, List, [], ◌∷◌, ◌++◌, map}
use Rattle.cti_terms.specs.Tree.{Tree as Term, Variable}
use Rattle.clause_normal.specs.Bodies.{Goal, Goals, Branches, call, choice, bad, no_goals, more_goals, no_branches, more_branches}

-- what is called: a name by its number, or the predicate of a disjunction by its number
pub data Functor : Type 0 where
  named : ℕ → Functor
  chosen : ℕ → Functor

-- an atom before its predicate is numbered
pub record Call : Type 0 where
  pub functor : Functor
  pub args : List Term

-- a clause before its predicates and variables are numbered
pub record Rule : Type 0 where
  pub head : Call
  pub body : List Call

-- the call of a disjunction's predicate
abbrev pub choice_call : ℕ → List ℕ → Call
choice_call m args = record { functor = chosen m; args = map Variable args }

-- how many disjunctions stand among these goals, those inside them aside
abbrev pub choices_at : Goal → ℕ
choices_at (call f ts) = 0
choices_at (choice args bs) = 1
choices_at (bad kind at) = 0

abbrev pub choices : Goals → ℕ
choices no_goals = 0
choices (more_goals g gs) = choices_at g + choices gs

abbrev mutual
  -- how many disjunctions stand inside the disjunctions of these goals
  pub inner : Goals → ℕ
  inner no_goals = 0
  inner (more_goals g gs) = inner_at g + inner gs

  pub inner_at : Goal → ℕ
  inner_at (call f ts) = 0
  inner_at (choice args bs) = within bs
  inner_at (bad kind at) = 0

  -- how many stand in these branches
  pub within : Branches → ℕ
  within no_branches = 0
  within (more_branches b bs) = choices b + inner b + within bs

-- the body's atoms, where its disjunctions are numbered from m on
abbrev pub call_at : ℕ → Goal → List Call
call_at m (call f ts) = record { functor = named f; args = ts } ∷ []
call_at m (choice args bs) = choice_call m args ∷ []
call_at m (bad kind at) = []

abbrev pub calls : ℕ → Goals → List Call
calls m no_goals = []
calls m (more_goals g gs) = call_at m g ++ calls (m + choices_at g) gs

abbrev mutual
  -- the clauses of the disjunctions of these goals, which are numbered from m on, and those inside them from n on
  pub below : ℕ → ℕ → Goals → List Rule
  below m n no_goals = []
  below m n (more_goals g gs) = below_at m n g ++ below (m + choices_at g) (n + inner_at g) gs

  pub below_at : ℕ → ℕ → Goal → List Rule
  below_at m n (call f ts) = []
  below_at m n (choice args bs) = branch_rules (choice_call m args) n bs
  below_at m n (bad kind at) = []

  -- the clauses of these branches with that head, where disjunctions are numbered from n on
  pub branch_rules : Call → ℕ → Branches → List Rule
  branch_rules head n no_branches = []
  branch_rules head n (more_branches b bs) =
      (record { head = head; body = calls n b } ∷ below n (n + choices b) b) ++ branch_rules head (n + (choices b + inner b)) bs

-- the clauses of a clause with this head and these goals, whose disjunctions are numbered from n on
abbrev pub rules : ℕ → Call → Goals → List Rule
rules n head b = record { head = head; body = calls n b } ∷ below n (n + choices b) b

-- the number after the last disjunction of these goals
abbrev pub after : ℕ → Goals → ℕ
after n b = n + (choices b + inner b)
