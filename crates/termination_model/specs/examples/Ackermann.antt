-- Private.
-- An example: Ackermann's function has a list of two mappings that descends, its first argument and then its second
-- one.
--
--     ack(0, N, s(N)).
--     ack(s(M), 0, R) :- ack(M, s(0), R).
--     ack(s(M), s(N), R) :- ack(s(M), N, P), ack(M, P, R).
use Rattle.std.specs.Prelude.{◌≡◌, ℕ, true, List, [], ◌∷◌, map}
use Rattle.cti_terms.specs.Arithmetic.{no_arithmetic}
use Rattle.cti_terms.specs.Listing.{Listing}
use Rattle.cti_terms.specs.Tree.{Tree, Variable, Compound, End, More, size, truth}
use Rattle.cti_terms.specs.declared.atom_list.Atom.{Atom}
use Rattle.cti_terms.specs.declared.clauses.Clause.{Clause}
use Rattle.term_size.specs.Occurrences.{size_row}
use Rattle.termination_model.specs.claims.Claims.{Claims, Mapping}
use Rattle.termination_model.specs.mappings.OwnCalls.{members_of, own_calls, positions_of}
use Rattle.termination_model.specs.mappings.Ready.{itself}
use Rattle.termination_model.specs.lists.Stuck.{ListDescends}
use Rattle.termination_model.specs.lists.Turns.{AreTurns, Turn, mapping_by, remaining}
use Rattle.termination_model.specs.mappings.View.{Rule, view_of}

abbrev pub ack_of : Tree → Tree → Tree → Atom
ack_of x y z = record { pred = record { 0 = 0 }; args = x ∷ y ∷ z ∷ [] }

abbrev pub zero_term : Tree
zero_term = Compound 1 End

abbrev pub next : Tree → Tree
next x = Compound 2 (More x End)

abbrev pub ack_zero : Clause
ack_zero = record { head = ack_of zero_term (Variable 0) (next (Variable 0)); body = []; vars = 1 }

abbrev pub ack_one : Clause
ack_one = record { head = ack_of (next (Variable 0)) zero_term (Variable 1); body = ack_of (Variable 0) (next zero_term) (Variable 1) ∷ []; vars = 2 }

abbrev pub ack_more : Clause
ack_more = record {
  head = ack_of (next (Variable 0)) (next (Variable 1)) (Variable 2);
  body = ack_of (next (Variable 0)) (Variable 1) (Variable 3) ∷ ack_of (Variable 0) (Variable 3) (Variable 2) ∷ [];
  vars = 4;
}

abbrev pub ack : Listing
ack = record { preds = record { name = record { 0 = 0 }; arity = 3 } ∷ []; clauses = ack_zero ∷ ack_one ∷ ack_more ∷ []; arithmetic = no_arithmetic }

-- no size rows are needed
abbrev pub ack_claims : Claims
ack_claims = record {
  size = size;
  truth = truth;
  expression = size_row;
  rank = λ _. 0;
  rows = λ _. [];
  grounds = λ _ _. true;
  measures = λ _. [];
}

abbrev pub ack_view : List Rule
ack_view = view_of ack ack_claims 0 itself

abbrev pub arity : ℕ → ℕ
arity q = 3

-- what the turns of the search may find: first the call of the second clause and the second one of the third, then the
-- first one of the third
abbrev pub ack_turns : List Turn
ack_turns =
    record { t = 1; coefficients = 1 ∷ 0 ∷ 0 ∷ []; offsets = 0 ∷ []; drops = 1 ∷ 0 ∷ 1 ∷ []; multipliers = [] }
    ∷ record { t = 1; coefficients = 0 ∷ 1 ∷ 0 ∷ []; offsets = 0 ∷ []; drops = 1 ∷ []; multipliers = [] }
    ∷ []

pub record AckDescends : Type 0 where
  -- these are turns that leave no call
  pub turns : AreTurns size_row (positions_of ack_view) (members_of ack_view) (own_calls ack_view) ack_turns
  pub all : remaining (own_calls ack_view) ack_turns ≡ []
  -- so their list descends
  pub descends : ListDescends size_row ack_view (map (mapping_by arity (positions_of ack_view) (members_of ack_view)) ack_turns)
  -- the first mapping is that of the first argument, the second one that of the second argument
  pub coefficients : map (λ (l : Mapping). l.coefficients 0) (map (mapping_by arity (positions_of ack_view) (members_of ack_view)) ack_turns) ≡ (1 ∷ 0 ∷ 0 ∷ []) ∷ (0 ∷ 1 ∷ 0 ∷ []) ∷ []
