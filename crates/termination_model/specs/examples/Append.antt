-- Private.
-- An example: append's queries with a rigid first list end.
--
-- The premises of the descent are met by the clauses of append, with no size rows, all truth rows, and the size of the
-- first argument as the one mapping.
use Rattle.std.specs.Prelude.{◌≡◌, ℕ, Bool, true, false, List, [], ◌∷◌, length}
use Rattle.cti_terms.specs.Tree.{Tree, Variable, Compound, End, More, size, truth}
use Rattle.cti_terms.specs.declared.atom_list.Atom.{Atom}
use Rattle.cti_terms.specs.declared.clauses.Clause.{Clause}
use Rattle.cti_terms.specs.Arithmetic.{no_arithmetic}
use Rattle.cti_terms.specs.Listing.{Listing}
use Rattle.cti_terms.specs.Derive.{Bounded}
use Rattle.term_size.specs.Occurrences.{size_row}
use Rattle.termination_model.specs.claims.Claims.{Measure, Claims}
use Rattle.termination_model.specs.claims.Descent.{Meets}

abbrev pub append_of : Tree → Tree → Tree → Atom
append_of x y z = record { pred = record { 0 = 0 }; args = x ∷ y ∷ z ∷ [] }

abbrev pub nil : Tree
nil = Compound 1 End

abbrev pub cons : Tree → Tree → Tree
cons x xs = Compound 2 (More x (More xs End))

-- append([], Y, Y).
abbrev pub append_nil : Clause
append_nil = record { head = append_of nil (Variable 0) (Variable 0); body = []; vars = 1 }

-- append([X|Xs], Y, [X|Zs]) :- append(Xs, Y, Zs).
abbrev pub append_cons : Clause
append_cons = record {
  head = append_of (cons (Variable 0) (Variable 1)) (Variable 2) (cons (Variable 0) (Variable 3));
  body = append_of (Variable 1) (Variable 2) (Variable 3) ∷ [];
  vars = 4;
}

abbrev pub append : Listing
append = record { preds = record { name = record { 0 = 0 }; arity = 3 } ∷ []; clauses = append_nil ∷ append_cons ∷ []; arithmetic = no_arithmetic }

abbrev pub first : List Bool → Bool
first [] = false
first (b ∷ bs) = b

abbrev pub first_argument : Measure
first_argument = record { mappings = record { coefficients = λ _. 1 ∷ []; offset = λ _. 0 } ∷ []; pre = λ _ bs. first bs }

abbrev pub append_claims : Claims
append_claims = record {
  size = size;
  truth = truth;
  expression = size_row;
  rank = λ _. 0;
  rows = λ _. [];
  grounds = λ _ _. true;
  measures = λ _. first_argument ∷ [];
}

abbrev pub AppendEnds : Type 0
AppendEnds = (a : Atom) (n : ℕ) → a.pred.0 ≡ 0 → length a.args ≡ 3 → Meets append_claims (1 ∷ []) a → Bounded append (record { atoms = a ∷ []; fresh = n })
