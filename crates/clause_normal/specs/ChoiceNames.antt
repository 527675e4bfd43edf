-- To believe, for reading.
-- The names that the normal form adds: those of arithmetic operations, and after them those of the disjunctions'
-- predicates, in the order in which they are called.
--
-- To believe: all of this file, and in prolog_reader `with_names`.
use Rattle.std.specs.Prelude.{ℕ, nat_eq, IsTrue, List, [], ◌∷◌, ◌++◌, Result, Ok, Err}
use Rattle.std.specs.List.{AllByRecursion, list_any}
use Rattle.std.specs.Cmp.Lexicographic.{pointwise}
use Rattle.prolog_terms.specs.Clauses.{Clause}
use Rattle.prolog_reader.specs.Naming.{with_names}
use Rattle.clause_normal.specs.NormalForm.{Fault, normal_rules}
use Rattle.clause_normal.specs.Numbering.{choice_text, operation_texts}
use Rattle.clause_normal.specs.Rules.{Functor, named, chosen, Call, Rule}

-- what is called has a name, or gets this one
abbrev pub functor_texts : Functor → List (List ℕ)
functor_texts (named f) = []
functor_texts (chosen m) = choice_text m ∷ []

abbrev pub call_texts : List Call → List (List ℕ)
call_texts [] = []
call_texts (c ∷ cs) = functor_texts c.functor ++ call_texts cs

abbrev pub rule_texts : List Rule → List (List ℕ)
rule_texts [] = []
rule_texts (r ∷ rs) = call_texts (r.head ∷ r.body) ++ rule_texts rs

abbrev pub made_texts : Result (List Rule) Fault → List (List ℕ)
made_texts (Ok rs) = operation_texts ++ rule_texts rs
made_texts (Err f) = []

-- the names of the program of a text's clauses, after those by which the text was read
abbrev pub program_names : List (List ℕ) → List Clause → List (List ℕ)
program_names names clauses = with_names names (made_texts (normal_rules names [] 1 clauses))

-- the names of arithmetic operations are among these, so that only those of disjunctions are added
abbrev pub HasOperations : List (List ℕ) → Type 0
HasOperations names = AllByRecursion (λ (text : List ℕ). IsTrue (list_any (pointwise nat_eq text) names)) operation_texts
