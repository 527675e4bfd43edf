-- To believe, for sessions.
-- The program of definite clauses, whose bodies are conjunctions.
--
-- A disjunction is impure here, at its own place, and no directive is a clause. So each clause is one of the program,
-- in order, and only the clause of =/2 is more. What is wrong with a clause does not depend on those before it, but for
-- how many there are: so clauses may come and go.
--
-- To believe: all of this file.
use Rattle.std.specs.Prelude.{◌≡◌, ◌≤◌, ℕ, nat_le, List, [], ◌∷◌, ◌++◌, Option, Some, None, length, if◌then◌else◌}
use Rattle.std.specs.List.{AllByRecursion}
use Rattle.cti_terms.specs.Listing.{Listing}
use Rattle.prolog_grammar.specs.Placed.{Tree, tree, Var, Int, Fun}
use Rattle.prolog_reader.specs.Names.{name_text}
use Rattle.prolog_terms.specs.Clauses.{Clause, arity, place, list_of}
use Rattle.clause_normal.specs.declared.limits.TheConstants.{MOST_TEXT_CLAUSES}
use Rattle.clause_normal.specs.declared.fault.NormKind.{NormKind}
use Rattle.clause_normal.specs.declared.fault.NormKind.TheVariants as kind
use Rattle.clause_normal.specs.declared.words.Neck.{Neck}
use Rattle.clause_normal.specs.declared.words.Neck.TheVariants as neck
use Rattle.clause_normal.specs.Words.{neck_of}
use Rattle.clause_variables.specs.Terms.{occurrences}
use Rattle.clause_normal.specs.Rules.{Rule}
use Rattle.clause_normal.specs.NormalForm.{Fault, first_of, head_fault, head_call, variables_fault}
use Rattle.clause_normal.specs.Numbering.{empty_program, with_rules, with_equality}
use Rattle.clause_normal.specs.Query.{query_goals, query_fault, query_calls}

-- the parts of a clause's term: a head and a body, or a head alone; or what is wrong with a term that is no clause
pub data Parted : Type 0 where
  no_clause : NormKind → Parted
  fact : Tree → Parted
  rule : Tree → Tree → Parted

-- the parts of a term of these arguments whose name makes that of it
abbrev pub named_parts : Tree → Neck → List Tree → Parted
named_parts t neck.Directive (d ∷ []) = no_clause kind.Directive
named_parts t neck.Query ts = no_clause kind.Directive
named_parts t neck.Implies (h ∷ b ∷ []) = rule h b
named_parts t neck.Grammar ts = no_clause kind.NotPure
named_parts t k ts = fact t

-- the parts of a term
abbrev pub parted : List (List ℕ) → Tree → Parted
parted names (tree at (Var x)) = fact (tree at (Var x))
parted names (tree at (Int n)) = fact (tree at (Int n))
parted names (tree at (Fun f ts)) = named_parts (tree at (Fun f ts)) (neck_of (name_text names f) (arity ts)) (list_of ts)

-- the first fault of a term of these parts: the head's, those of the body's goals from left to right, then too many
-- variables
abbrev pub parts_fault : List (List ℕ) → Tree → Parted → Option Fault
parts_fault names t (no_clause k) = Some (k, place t)
parts_fault names t (fact h) = first_of (head_fault names h) (variables_fault (place t) (occurrences t))
parts_fault names t (rule h b) = first_of (head_fault names h) (first_of (query_fault (query_goals names b)) (variables_fault (place t) (occurrences t)))

-- the first fault of a clause, but for the number of clauses
abbrev pub parted_fault : List (List ℕ) → Clause → Option Fault
parted_fault names c = parts_fault names c.term (parted names c.term)

-- the first fault of a clause that is added to n clauses
abbrev pub added_fault : List (List ℕ) → ℕ → Clause → Option Fault
added_fault names n c = first_of (parted_fault names c) (if nat_le MOST_TEXT_CLAUSES n then Some (kind.ManyClauses, place c.term) else None)

-- clauses without a fault, no more than a text may have
pub record AreDefinite (names : List (List ℕ)) (cs : List Clause) : Type 0 where
  pub each : AllByRecursion (λ (c : Clause). parted_fault names c ≡ None) cs
  pub few : length cs ≤ MOST_TEXT_CLAUSES

-- the clause of these parts
abbrev pub parts_rule : List (List ℕ) → Parted → List Rule
parts_rule names (no_clause k) = []
parts_rule names (fact h) = record { head = head_call h; body = [] } ∷ []
parts_rule names (rule h b) = record { head = head_call h; body = query_calls (query_goals names b) } ∷ []

-- the clauses before predicates and variables are numbered
abbrev pub rules_of : List (List ℕ) → List Clause → List Rule
rules_of names [] = []
rules_of names (c ∷ cs) = parts_rule names (parted names c.term) ++ rules_of names cs

-- their program
abbrev pub program_of : List (List ℕ) → List Clause → Listing
program_of names cs = with_equality names (with_rules names (empty_program names) (rules_of names cs))
