-- To believe, for reading.
-- The goal of a query, and the program with what it needs; or the first fault.
--
-- A query is a conjunction of atoms. A disjunction in it is impure. Variables are numbered by first occurrence, and the
-- goal's counter is how many different ones there are. Its predicates that are new go after those of the program, and
-- =/2 gets its clause where it is new.
--
-- To believe: all of this file.
use Rattle.std.specs.Prelude.{◌≡◌, ℕ, List, [], ◌∷◌, ◌++◌, Option, Some, None, Result, Ok, Err, length, position, is_some, if◌then◌else◌}
use Rattle.cti_terms.specs.Listing.{Listing}
use Rattle.cti_terms.specs.declared.derivation.Goal.{Goal as Query}
use Rattle.cti_terms.specs.declared.predicates.Pred.{Pred}
use Rattle.clause_normal.specs.declared.fault.NormFault.{NormFault}
use Rattle.clause_normal.specs.declared.fault.NormFault.TheVariants as norm
use Rattle.prolog_grammar.specs.Placed.{Tree, tree, Shape, Var, Int, Fun, Trees, no_trees, more_trees}
use Rattle.prolog_terms.specs.Clauses.{Clause, place, arity}
use Rattle.prolog_reader.specs.Names.{name_text}
use Rattle.clause_normal.specs.declared.words.Connective.{Connective}
use Rattle.clause_normal.specs.declared.words.Connective.TheVariants as connective
use Rattle.clause_normal.specs.Words.{connective_of}
use Rattle.clause_variables.specs.Terms.{occurrences, firsts}
use Rattle.clause_normal.specs.Rules.{named, Call}
use Rattle.clause_normal.specs.Bodies.{Goal, call, choice, bad, atom_goal}
use Rattle.clause_normal.specs.NormalForm.{Fault, first_of, variables_fault}
use Rattle.clause_normal.specs.Numbering.{arithmetic_of, is_equality, with_equality_clause, with_calls, atoms_after, call_variables}

-- the goals of a conjunction of a name that means that, with these goals of its arguments
abbrev pub named_goals : List (List ℕ) → Tree → Connective → List (List Goal) → List Goal
named_goals names t connective.And (gs ∷ hs ∷ []) = gs ++ hs
named_goals names t connective.Truth gss = []
named_goals names t c gss = atom_goal names t ∷ []

abbrev mutual
  -- the goals of a query, as a list
  pub query_goals : List (List ℕ) → Tree → List Goal
  query_goals names (tree at s) = shape_goals names at s

  pub shape_goals : List (List ℕ) → ℕ → Shape → List Goal
  shape_goals names at (Var x) = atom_goal names (tree at (Var x)) ∷ []
  shape_goals names at (Int n) = atom_goal names (tree at (Int n)) ∷ []
  shape_goals names at (Fun f ts) = named_goals names (tree at (Fun f ts)) (connective_of (name_text names f) (arity ts)) (argument_goals names ts)

  pub argument_goals : List (List ℕ) → Trees → List (List Goal)
  argument_goals names no_trees = []
  argument_goals names (more_trees t ts) = query_goals names t ∷ argument_goals names ts

-- the first fault of these goals
abbrev pub bad_goal : Goal → Option Fault
bad_goal (bad kind at) = Some (kind, at)
bad_goal (call f args) = None
bad_goal (choice args bs) = None

abbrev pub query_fault : List Goal → Option Fault
query_fault [] = None
query_fault (g ∷ gs) = first_of (bad_goal g) (query_fault gs)

-- the goals that are calls
abbrev pub query_call : Goal → List Call
query_call (call f args) = record { functor = named f; args = args } ∷ []
query_call (choice args bs) = []
query_call (bad kind at) = []

abbrev pub query_calls : List Goal → List Call
query_calls [] = []
query_calls (g ∷ gs) = query_call g ++ query_calls gs

-- the number of =/2 among these predicates, where it is none of the earlier ones
abbrev pub new_equality : List (List ℕ) → List Pred → List Pred → Option ℕ
new_equality names earlier preds = if is_some (position (is_equality names) earlier) then None else position (is_equality names) preds

-- the program with the predicates of these calls, and with the clause of =/2 where =/2 is one of them and new
abbrev pub with_query : List (List ℕ) → Listing → List Call → Listing
with_query names p cs =
    let preds = with_calls names p.preds cs in
    record { preds = preds; clauses = with_equality_clause (new_equality names p.preds preds) p.clauses; arithmetic = arithmetic_of names preds }

-- the goal of these calls, with variables numbered by first occurrence
abbrev pub query_goal : List (List ℕ) → Listing → List Call → Query
query_goal names p cs = let order = firsts (call_variables cs) in record { atoms = atoms_after names order p.preds cs; fresh = length order }

-- the same with the goal, where there is no fault
abbrev pub query_of : List (List ℕ) → Listing → List Call → Option Fault → Result (Listing × Query) Fault
query_of names p cs None = Ok (with_query names p cs, query_goal names p cs)
query_of names p cs (Some f) = Err f

-- the program with what the query needs and its goal, or the first fault
abbrev pub query_form : List (List ℕ) → Listing → Clause → Result (Listing × Query) Fault
query_form names p c =
    let gs = query_goals names c.term in
    query_of names p (query_calls gs) (first_of (query_fault gs) (variables_fault (place c.term) (occurrences c.term)))

-- the goal with this program, or the fault, but out of memory
abbrev pub AnswersQuery : Result (Listing × Query) Fault → Listing → Result Query NormFault → Type 0
AnswersQuery form p (Ok g) = form ≡ Ok (p, g)
AnswersQuery form p (Err (norm.Fault kind at)) = form ≡ Err (kind, at)
AnswersQuery form p (Err norm.Memory) = Unit {0}
