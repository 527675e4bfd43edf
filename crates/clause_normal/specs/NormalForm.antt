-- To believe, for reading.
-- The program of a text's clauses, or the first fault.
--
-- Clauses are taken in order. For each of them a fault of its kind comes first, then the head's, then those of the
-- body's goals from left to right, each disjunction before its branches, then too many variables, then too many
-- clauses.
--
-- To believe: all of this file.
use Rattle.std.specs.Prelude.{ℕ, Bool, nat_lt, List, [], ◌∷◌, ◌++◌, Option, Some, None, Result, Ok, Err, length, false, if◌then◌else◌}
use Rattle.cti_terms.specs.Listing.{Listing}
use Rattle.cti_terms.specs.declared.limits.TheConstants.{MOST_ARGUMENTS, MOST_VARIABLES}
use Rattle.prolog_grammar.specs.Placed.{Tree, tree, Var, Int, Fun}
use Rattle.prolog_reader.specs.Names.{name_text}
use Rattle.prolog_terms.specs.Clauses.{Clause, arity, place, list_of}
use Rattle.clause_normal.specs.declared.limits.TheConstants.{MOST_TEXT_CLAUSES}
use Rattle.clause_normal.specs.declared.fault.NormKind.{NormKind}
use Rattle.clause_normal.specs.declared.fault.NormKind.TheVariants as kind
use Rattle.clause_variables.specs.Terms.{plain_list, occurrences, firsts}
use Rattle.clause_normal.specs.Words.{is_reserved, is_silent, neck_of}
use Rattle.clause_normal.specs.declared.words.Neck.{Neck}
use Rattle.clause_normal.specs.declared.words.Neck.TheVariants as neck
use Rattle.clause_normal.specs.Bodies.{Goal, Goals, Branches, call, choice, bad, no_goals, more_goals, no_branches, more_branches, body_of}
use Rattle.clause_normal.specs.Rules.{named, Call, Rule, rules, after}
use Rattle.clause_normal.specs.Numbering.{empty_program, with_rules, with_equality}

-- a kind of fault and its place
abbrev pub Fault : Type 0
Fault = NormKind × ℕ

-- the first of two faults, if any
abbrev pub first_of : Option Fault → Option Fault → Option Fault
first_of None g = g
first_of (Some f) g = Some f

abbrev mutual
  -- the first fault of these goals
  pub goals_fault : Goals → Option Fault
  goals_fault no_goals = None
  goals_fault (more_goals g gs) = first_of (goal_fault g) (goals_fault gs)

  pub goal_fault : Goal → Option Fault
  goal_fault (call f ts) = None
  goal_fault (choice args bs) = branches_fault bs
  goal_fault (bad kind at) = Some (kind, at)

  pub branches_fault : Branches → Option Fault
  branches_fault no_branches = None
  branches_fault (more_branches b bs) = first_of (goals_fault b) (branches_fault bs)

-- the fault of a head whose name has this text and the given number of arguments
abbrev pub named_head_fault : List ℕ → ℕ → ℕ → Option Fault
named_head_fault text arity at =
    if is_reserved text arity then Some (kind.BadHead, at)
    else if nat_lt MOST_ARGUMENTS arity then Some (kind.Arity, at)
    else None

-- the fault of a head
abbrev pub head_fault : List (List ℕ) → Tree → Option Fault
head_fault names (tree at (Var x)) = Some (kind.BadHead, at)
head_fault names (tree at (Int n)) = Some (kind.BadHead, at)
head_fault names (tree at (Fun f ts)) = named_head_fault (name_text names f) (arity ts) at

-- the head as a call
abbrev pub head_call : Tree → Call
head_call (tree at (Var x)) = record { functor = named 0; args = [] }
head_call (tree at (Int n)) = record { functor = named 0; args = [] }
head_call (tree at (Fun f ts)) = record { functor = named f; args = plain_list ts }

-- the fault of a term with too many variables
abbrev pub variables_fault : ℕ → List ℕ → Option Fault
variables_fault at xs = if nat_lt MOST_VARIABLES (length (firsts xs)) then Some (kind.ManyVariables, at) else None

-- what a clause's term is: a directive that asks for nothing, a fault, or a head with goals
pub data Form : Type 0 where
  skipped : Form
  refused : NormKind → Form
  clause : Tree → Goals → Form

-- whether a directive asks for nothing here
abbrev pub is_silent_goal : List (List ℕ) → Tree → Bool
is_silent_goal names (tree at (Var x)) = false
is_silent_goal names (tree at (Int n)) = false
is_silent_goal names (tree at (Fun f ts)) = is_silent (name_text names f) (arity ts)

-- what a term of these arguments is whose name makes that of it
abbrev pub named_form : List (List ℕ) → Tree → Neck → List Tree → Form
named_form names t neck.Directive (d ∷ []) = if is_silent_goal names d then skipped else refused kind.Directive
named_form names t neck.Query ts = refused kind.Directive
named_form names t neck.Implies (h ∷ b ∷ []) = clause h ((body_of names b).goals (occurrences h ++ occurrences b))
named_form names t neck.Grammar ts = refused kind.NotPure
named_form names t k ts = clause t no_goals

-- what a clause's term is
abbrev pub form_of : List (List ℕ) → Tree → Form
form_of names (tree at (Var x)) = clause (tree at (Var x)) no_goals
form_of names (tree at (Int n)) = clause (tree at (Int n)) no_goals
form_of names (tree at (Fun f ts)) = named_form names (tree at (Fun f ts)) (neck_of (name_text names f) (arity ts)) (list_of ts)

-- the first fault of a clause, but for the number of clauses
abbrev pub clause_fault : List (List ℕ) → Clause → Tree → Goals → Option Fault
clause_fault names c head goals = first_of (head_fault names head) (first_of (goals_fault goals) (variables_fault (place c.term) (occurrences c.term)))

-- the clauses that are made and the number of the next disjunction, or a fault
abbrev pub Made : Type 0
Made = Result (List Rule × ℕ) Fault

-- what a clause leads to that has this fault, if any, and with which these are the clauses and the next number
abbrev pub made_or_fault : Option Fault → ℕ → List Rule → ℕ → Made
made_or_fault (Some f) at made n = Err f
made_or_fault None at made n = if nat_lt MOST_TEXT_CLAUSES (length made) then Err (kind.ManyClauses, at) else Ok (made, n)

-- what a term of this form leads to, after the clauses that are made already, with disjunctions numbered from n on
abbrev pub with_form : List (List ℕ) → List Rule → ℕ → Clause → Form → Made
with_form names made n c skipped = Ok (made, n)
with_form names made n c (refused kind) = Err (kind, place c.term)
with_form names made n c (clause head goals) =
    made_or_fault (clause_fault names c head goals) (place c.term) (made ++ rules n (head_call head) goals) (after n goals)

-- the same for a clause
abbrev pub with_clause : List (List ℕ) → List Rule → ℕ → Clause → Made
with_clause names made n c = with_form names made n c (form_of names c.term)

-- what stands after these, if they are made
abbrev pub and_next : Made → (List Rule → ℕ → Result (List Rule) Fault) → Result (List Rule) Fault
and_next (Ok p) next = next p.0 p.1
and_next (Err f) next = Err f

-- the clauses of a text after those that are made already
abbrev pub normal_rules : List (List ℕ) → List Rule → ℕ → List Clause → Result (List Rule) Fault
normal_rules names made n [] = Ok made
normal_rules names made n (c ∷ cs) = and_next (with_clause names made n c) (λ made' n'. normal_rules names made' n' cs)

-- the program of clauses
abbrev pub program_of : List (List ℕ) → Result (List Rule) Fault → Result Listing Fault
program_of names (Ok rs) = Ok (with_equality names (with_rules names (empty_program names) rs))
program_of names (Err f) = Err f

-- the program of a text's clauses, or the first fault; names are numbers among these
abbrev pub normal_form : List (List ℕ) → List Clause → Result Listing Fault
normal_form names clauses = program_of names (normal_rules names [] 1 clauses)
