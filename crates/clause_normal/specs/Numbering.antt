-- To believe, for reading.
-- Clauses as a program: predicates and variables are numbered by first occurrence.
--
-- To believe: all of this file, and in cti_terms `Listing`, `with_pred`, `number_of` and `Arithmetic`.
use Rattle.std.specs.Prelude.{◌≡◌, ℕ, suc, Bool, ◌&&◌, ◌==◌, List, [], ◌∷◌, ◌++◌, Option, Some, None, codes, decimal, length, map, position, slice_get, IsSomeAnd}
use Rattle.std.specs.List.{position_or_len}
use Rattle.cti_terms.specs.Tree.{Variable}
use Rattle.cti_terms.specs.Arithmetic.{Arithmetic}
use Rattle.cti_terms.specs.Numbers.{number_of}
use Rattle.cti_terms.specs.Listing.{Listing, is_pred, with_pred}
use Rattle.cti_terms.specs.declared.atom_list.Atom.{Atom}
use Rattle.cti_terms.specs.declared.builtins.Arith.{Arith}
use Rattle.cti_terms.specs.declared.builtins.Builtin.{Builtin}
use Rattle.cti_terms.specs.declared.clauses.Clause.{Clause}
use Rattle.cti_terms.specs.declared.predicates.Pred.{Pred}
use Rattle.cti_terms.specs.declared.predicates.PredId.{PredId}
use Rattle.prolog_reader.specs.Names.{name_text}
use Rattle.clause_variables.specs.Terms.{list_variables, firsts, renumbered}
use Rattle.clause_normal.specs.Words.{is_name, builtin_of}
use Rattle.clause_normal.specs.Rules.{Functor, named, chosen, Call, Rule}

-- the name of a disjunction's predicate
abbrev pub choice_text : ℕ → List ℕ
choice_text m = codes "$or" ++ decimal m

-- the number of what is called among the names
abbrev pub name_number : List (List ℕ) → Functor → ℕ
name_number names (named f) = f
name_number names (chosen m) = number_of names (choice_text m)

-- the predicate that is called
abbrev pub pred_of : List (List ℕ) → Call → Pred
pred_of names c = record { name = record { 0 = name_number names c.functor }; arity = length c.args }

-- the atom of a call after these predicates, where variables have these places: a predicate that is there has its
-- number, another one the next
abbrev pub atom_after : List (List ℕ) → List ℕ → List Pred → Call → Atom
atom_after names order preds c =
    let p = pred_of names c in
    record { pred = record { 0 = position_or_len (is_pred p.name.0 p.arity) preds }; args = map (renumbered order) c.args }

-- the predicates with those of these calls, in order of first occurrence
abbrev pub with_calls : List (List ℕ) → List Pred → List Call → List Pred
with_calls names preds [] = preds
with_calls names preds (c ∷ cs) = with_calls names (with_pred preds (pred_of names c)) cs

-- the atoms of calls after these predicates
abbrev pub atoms_after : List (List ℕ) → List ℕ → List Pred → List Call → List Atom
atoms_after names order preds [] = []
atoms_after names order preds (c ∷ cs) = atom_after names order preds c ∷ atoms_after names order (with_pred preds (pred_of names c)) cs

-- the variables of some calls, from left to right
abbrev pub call_variables : List Call → List ℕ
call_variables [] = []
call_variables (c ∷ cs) = list_variables c.args ++ call_variables cs

-- the different variables of a clause, the head's first
abbrev pub order_of : Rule → List ℕ
order_of r = firsts (call_variables (r.head ∷ r.body))

-- what a predicate does, if it is built in
abbrev pub kind_of_pred : List (List ℕ) → Pred → Option Builtin
kind_of_pred names p = builtin_of (name_text names p.name.0) p.arity

-- the predicate of this number with its kind, if it has one
abbrev pub builtin_at : ℕ → Option Builtin → List (PredId × Builtin)
builtin_at i None = []
builtin_at i (Some b) = (record { 0 = i }, b) ∷ []

-- the built-in ones of predicates that are numbered from i on
abbrev pub builtins_from : List (List ℕ) → ℕ → List Pred → List (PredId × Builtin)
builtins_from names i [] = []
builtins_from names i (p ∷ ps) = builtin_at i (kind_of_pred names p) ++ builtins_from names (suc i) ps

-- the texts of the names of arithmetic operations
abbrev pub operation_texts : List (List ℕ)
operation_texts = codes "+" ∷ codes "-" ∷ codes "*" ∷ []

-- the names of arithmetic operations
abbrev pub operations : List (List ℕ) → Arith
operations names = record {
  plus = record { 0 = number_of names (codes "+") };
  minus = record { 0 = number_of names (codes "-") };
  times = record { 0 = number_of names (codes "*") };
}

-- what is built in where these are the predicates
abbrev pub arithmetic_of : List (List ℕ) → List Pred → Arithmetic
arithmetic_of names preds = record { names = Some (operations names); builtins = builtins_from names 0 preds }

-- the program without clauses
abbrev pub empty_program : List (List ℕ) → Listing
empty_program names = record { preds = []; clauses = []; arithmetic = arithmetic_of names [] }

-- the program with one clause more
abbrev pub with_rule : List (List ℕ) → Listing → Rule → Listing
with_rule names p r = record {
  preds = with_calls names p.preds (r.head ∷ r.body);
  clauses = p.clauses ++ record {
    head = atom_after names (order_of r) p.preds r.head;
    body = atoms_after names (order_of r) (with_pred p.preds (pred_of names r.head)) r.body;
    vars = length (order_of r);
  } ∷ [];
  arithmetic = arithmetic_of names (with_calls names p.preds (r.head ∷ r.body));
}

-- the program with these clauses more
abbrev pub with_rules : List (List ℕ) → Listing → List Rule → Listing
with_rules names p [] = p
with_rules names p (r ∷ rs) = with_rules names (with_rule names p r) rs

-- whether a predicate is =/2
abbrev pub is_equality : List (List ℕ) → Pred → Bool
is_equality names p = is_name names p.name.0 (codes "=") && (p.arity == 2)

-- the clause X = X of the predicate of this number
abbrev pub equality_clause : ℕ → Clause
equality_clause q = record { head = record { pred = record { 0 = q }; args = Variable 0 ∷ Variable 0 ∷ [] }; body = []; vars = 1 }

-- the clause of =/2 after these clauses, where =/2 has this number, if any
abbrev pub with_equality_clause : Option ℕ → List Clause → List Clause
with_equality_clause None clauses = clauses
with_equality_clause (Some q) clauses = clauses ++ equality_clause q ∷ []

-- the program with the clause of =/2 last, where =/2 is one of its predicates
abbrev pub with_equality : List (List ℕ) → Listing → Listing
with_equality names p = record { preds = p.preds; clauses = with_equality_clause (position (is_equality names) p.preds) p.clauses; arithmetic = p.arithmetic }

-- an atom has as many arguments as its predicate
abbrev pub HasArity : List Pred → Atom → Type 0
HasArity preds a = IsSomeAnd (slice_get preds a.pred.0) (λ p. p.arity ≡ length a.args)
