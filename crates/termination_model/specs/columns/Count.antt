-- Private.
-- An example: a count down to 0 ends where its argument is rigid.
--
-- count(0).
-- count(N) :- N > 0, M is N-1, count(M).
--
-- The premises over columns are met by these clauses: the stated rows of `>` and `is`, and the value of the argument as
-- the one mapping. Predicate 0 is count/1, 1 is >/2, 2 is is/2.
use Rattle.std.specs.Prelude.{ℕ, zero, suc, pos, negsuc, Bool, true, false, ◌&&◌, List, [], ◌∷◌, length, Some, ◌≡◌}
use Rattle.cti_terms.specs.Tree.{Tree, Variable, Integer, Compound, End, More, truth}
use Rattle.cti_terms.specs.declared.atom_list.Atom.{Atom}
use Rattle.cti_terms.specs.declared.builtins.Arith.{Arith}
use Rattle.cti_terms.specs.declared.builtins.Builtin.TheVariants.{Is, Greater}
use Rattle.cti_terms.specs.declared.clauses.Clause.{Clause}
use Rattle.cti_terms.specs.Arithmetic.{Arithmetic}
use Rattle.cti_terms.specs.Listing.{Listing}
use Rattle.cti_terms.specs.Derive.{Bounded}
use Rattle.termination_model.specs.columns.Measures.{stated_rows}
use Rattle.termination_model.specs.columns.Expressions.{three_columns}
use Rattle.termination_model.specs.columns.ColumnClaims.{Measure, Claims}
use Rattle.termination_model.specs.columns.ColumnDescent.{Meets}

abbrev pub names : Arith
names = record { plus = record { 0 = 1 }; minus = record { 0 = 2 }; times = record { 0 = 3 } }

abbrev pub count_of : Tree → Atom
count_of x = record { pred = record { 0 = 0 }; args = x ∷ [] }

abbrev pub greater : Tree → Tree → Atom
greater x y = record { pred = record { 0 = 1 }; args = x ∷ (y ∷ []) }

abbrev pub is_of : Tree → Tree → Atom
is_of x y = record { pred = record { 0 = 2 }; args = x ∷ (y ∷ []) }

abbrev pub less_one : Tree → Tree
less_one x = Compound 2 (More x (More (Integer (pos 1)) End))

abbrev pub count_zero : Clause
count_zero = record { head = count_of (Integer (pos 0)); body = []; vars = 0 }

abbrev pub count_down : Clause
count_down = record {
  head = count_of (Variable 0);
  body = greater (Variable 0) (Integer (pos 0)) ∷ (is_of (Variable 1) (less_one (Variable 0)) ∷ (count_of (Variable 1) ∷ []));
  vars = 2;
}

abbrev pub arithmetic : Arithmetic
arithmetic = record { names = Some names; builtins = (record { 0 = 1 }, Greater) ∷ ((record { 0 = 2 }, Is) ∷ []) }

abbrev pub count : Listing
count = record {
  preds = record { name = record { 0 = 10 }; arity = 1 } ∷ (record { name = record { 0 = 11 }; arity = 2 } ∷ (record { name = record { 0 = 12 }; arity = 2 } ∷ []));
  clauses = count_zero ∷ (count_down ∷ []);
  arithmetic = arithmetic;
}

-- what a predicate of each number has: count, the two built-in ones, and numbers that name nothing
abbrev pub of_number : {X : Type 0} → X → X → X → X → ℕ → X
of_number a b c d zero = a
of_number a b c d (suc zero) = b
of_number a b c d (suc (suc zero)) = c
of_number a b c d (suc (suc (suc q))) = d

abbrev pub all_rows : List Bool → Bool
all_rows bs = true

abbrev pub both_true : List Bool → Bool
both_true [] = false
both_true (b ∷ []) = false
both_true (b ∷ (d ∷ [])) = b && d
both_true (b ∷ (d ∷ (e ∷ bs))) = false

abbrev pub first_true : List Bool → Bool
first_true [] = false
first_true (b ∷ bs) = b

-- the value of count's argument: what it has above 0, less what it has below
abbrev pub value_of_argument : Measure
value_of_argument = record {
  mappings = record { coefficients = λ _. pos 0 ∷ (pos 1 ∷ (negsuc 0 ∷ [])); offset = λ _. pos 0 } ∷ [];
  pre = λ q. of_number first_true all_rows all_rows all_rows q;
}

abbrev pub nothing : Measure
nothing = record { mappings = []; pre = λ _ _. true }

abbrev pub count_claims : Claims
count_claims = record {
  columns = three_columns (Some names);
  kinds = of_number (3 ∷ []) (3 ∷ (3 ∷ [])) (3 ∷ (3 ∷ [])) [];
  truth = truth;
  rank = of_number 1 0 0 0;
  rows = of_number [] (stated_rows Greater) (stated_rows Is) [];
  grounds = of_number all_rows all_rows both_true all_rows;
  measures = of_number (nothing ∷ []) (value_of_argument ∷ []) [] [];
}

abbrev pub CountEnds : Type 0
CountEnds = (a : Atom) (n : ℕ) → a.pred.0 ≡ 0 → length a.args ≡ 1 → Meets count_claims (1 ∷ []) a → Bounded count (record { atoms = a ∷ []; fresh = n })
