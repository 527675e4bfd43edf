-- Private.
-- An example: `p(X) :- gen(Y), q(Y).` and `q(s(X)) :- q(X).`, where gen/1 is open, and each of its answers is rigid.
--
-- In each world that agrees with this, queries of p/1 are bounded; but no number bounds them in all worlds, since each
-- world may answer another numeral.
use Rattle.std.specs.Prelude.{ℕ, zero, suc, ◌≤◌, Bool, true, false, List, [], ◌∷◌, length}
use Rattle.cti_terms.specs.Tree.{Tree, Variable, Integer, Compound, End, More, size, truth}
use Rattle.cti_terms.specs.declared.atom_list.Atom.{Atom}
use Rattle.cti_terms.specs.declared.clauses.Clause.{Clause}
use Rattle.cti_terms.specs.Arithmetic.{no_arithmetic}
use Rattle.cti_terms.specs.Derive.{query}
use Rattle.cti_terms.specs.Listing.{Listing}
use Rattle.cti_terms.specs.Worlds.{Answer, World, IsDerivationAfter, BoundedIn}
use Rattle.term_size.specs.Occurrences.{size_row}
use Rattle.termination_model.specs.grounds.Grounds.{Family}
use Rattle.termination_model.specs.claims.Claims.{Measure, Claims}
use Rattle.termination_model.specs.claims.StatedFacts.{Stated, Agrees, AllowsCalls}

-- gen/1 is number 0, q/1 number 1, p/1 number 2
abbrev pub atom_of : ℕ → Tree → Atom
atom_of i t = record { pred = record { 0 = i }; args = t ∷ [] }

abbrev pub next : Tree → Tree
next t = Compound 3 (More t End)

abbrev pub numeral : ℕ → Tree
numeral zero = Compound 4 End
numeral (suc n) = next (numeral n)

abbrev pub p_clause : Clause
p_clause = record { head = atom_of 2 (Variable 0); body = atom_of 0 (Variable 1) ∷ atom_of 1 (Variable 1) ∷ []; vars = 2 }

abbrev pub q_clause : Clause
q_clause = record { head = atom_of 1 (next (Variable 0)); body = atom_of 1 (Variable 0) ∷ []; vars = 1 }

abbrev pub gen_program : Listing
gen_program = record {
  preds = record { name = record { 0 = 0 }; arity = 1 } ∷ record { name = record { 0 = 1 }; arity = 1 } ∷ record { name = record { 0 = 2 }; arity = 1 } ∷ [];
  clauses = p_clause ∷ q_clause ∷ [];
  arithmetic = no_arithmetic;
}

abbrev pub first_of : List Bool → Bool
first_of [] = false
first_of (b ∷ bs) = b

-- the argument of an answer is rigid
abbrev pub gen_rows : Family
gen_rows zero bs = first_of bs
gen_rows (suc i) bs = true

abbrev pub is_gen : ℕ → Bool
is_gen zero = true
is_gen (suc i) = false

abbrev pub gen_facts : Stated
gen_facts = record { is_open = is_gen; rows = λ _. []; grounds = gen_rows; modes = λ _. [] ∷ [] }

-- the size of the argument of q/1
abbrev pub q_size : ℕ → List ℕ
q_size zero = []
q_size (suc zero) = 1 ∷ []
q_size (suc (suc i)) = []

-- which q/1 wants rigid
abbrev pub q_rigid : Family
q_rigid zero bs = true
q_rigid (suc zero) bs = first_of bs
q_rigid (suc (suc i)) bs = true

abbrev pub gen_measure : Measure
gen_measure = record { mappings = record { coefficients = q_size; offset = λ _. 0 } ∷ []; pre = q_rigid }

abbrev pub gen_claims : Claims
gen_claims = record { size = size; truth = truth; expression = size_row; rank = λ i. i; rows = λ _. []; grounds = gen_rows; measures = λ _. gen_measure ∷ [] }

abbrev pub GenEnds : Type 0
GenEnds = (w : World) → Agrees size truth gen_facts gen_program.preds w → (t : Tree) (n : ℕ)
    → BoundedIn gen_program is_gen w (query (atom_of 2 t) n) × AllowsCalls size truth gen_facts gen_program w (query (atom_of 2 t) n)

-- the numeral for a variable
abbrev pub numeral_for : ℕ → ℕ → List Tree → List Answer
numeral_for k n [] = []
numeral_for k n (Variable x ∷ ts) = ((x, numeral k) ∷ [], n) ∷ []
numeral_for k n (Integer i ∷ ts) = []
numeral_for k n (Compound f us ∷ ts) = []

-- a world that answers this numeral
abbrev pub gives : ℕ → World
gives k past n a = numeral_for k n a.args

abbrev pub GenHasNoNumber : Type 0
GenHasNoNumber = (k : ℕ) → Agrees size truth gen_facts gen_program.preds (gives k)
    × ((ks : List ℕ) × IsDerivationAfter gen_program is_gen (gives k) [] (query (atom_of 2 (Variable 0)) 1) ks × (k ≤ length ks))
