-- Worked examples: built-in predicates, evaluated.
--
-- Names by number: 0 is `[]`, 1 is `'.'`, 2 is `a`, 3 is `b`, 6 is `+`, 7 is `-`, 8 is `*`. Variables by number: 0 is
-- N.
use Rattle.std.proofs.Common.{◌≡◌, ℕ, ◌^◌, ◌-◌, pos, negsuc, true, false, [], ◌∷◌, length, Some, None, refl}
use Rattle.cti_terms.specs.Tree.{Tree, Variable, Integer, Compound, trees}
use Rattle.cti_terms.specs.declared.atom_list.Atom.{Atom}
use Rattle.cti_terms.specs.declared.builtins.Arith.{Arith}
use Rattle.cti_terms.specs.declared.builtins.Builtin.TheVariants.{Is, Equal}
use Rattle.cti_terms.specs.declared.clauses.Clause.{Clause}
use Rattle.cti_terms.specs.declared.derivation.Goal.{Goal}
use Rattle.cti_terms.specs.Arithmetic.{Arithmetic, value, has_wide}
use Rattle.cti_terms.specs.Listing.{Listing}
use Rattle.cti_terms.specs.Derive.{query}
use Rattle.cti_terms.specs.Nodes.{first_nodes, longest}
use Rattle.cti_terms.specs.Answers.{answers, visited_nodes, leaves_wide, HasWide}

abbrev nil : Tree
nil = Compound 0 (trees [])

abbrev cons : Tree → Tree → Tree
cons t ts = Compound 1 (trees (t ∷ ts ∷ []))

abbrev a : Tree
a = Compound 2 (trees [])

abbrev b : Tree
b = Compound 3 (trees [])

abbrev number : ℕ → Tree
number n = Integer (pos n)

abbrev plus : Tree → Tree → Tree
plus t u = Compound 6 (trees (t ∷ u ∷ []))

abbrev times : Tree → Tree → Tree
times t u = Compound 8 (trees (t ∷ u ∷ []))

abbrev negated : Tree → Tree
negated t = Compound 7 (trees (t ∷ []))

abbrev N : Tree
N = Variable 0

abbrev arith : Arith
arith = record { plus = record { 0 = 6 }; minus = record { 0 = 7 }; times = record { 0 = 8 } }

-- ---- values

value_of_sum : value (Some arith) (plus (number 1) (negated (times (number 2) (number 3)))) ≡ Some (negsuc 4)
value_of_sum = refl

-- without names for the operations integers alone have a value
no_names : value None (plus (number 1) (number 2)) ≡ None
no_names = refl

no_value : value (Some arith) (plus N (number 1)) ≡ None
no_value = refl

-- the greatest number that fits, and one more
fits_still : has_wide (Some arith) (number (2 ^ 127 - 1)) ≡ false
fits_still = refl

one_too_many : has_wide (Some arith) (plus (number (2 ^ 127 - 1)) (number 1)) ≡ true
one_too_many = refl

-- a number inside counts too, also where the sum fits again
wide_inside : has_wide (Some arith) (plus (plus (number (2 ^ 127 - 1)) (number 1)) (negated (number 5))) ≡ true
wide_inside = refl

-- ---- len([],0).  len([_|T],N) :- len(T,M), N is M+1.

abbrev len : Tree → Tree → Atom
len t u = record { pred = record { 0 = 0 }; args = t ∷ u ∷ [] }

abbrev is : Tree → Tree → Atom
is t u = record { pred = record { 0 = 1 }; args = t ∷ u ∷ [] }

abbrev equal : Tree → Tree → Atom
equal t u = record { pred = record { 0 = 2 }; args = t ∷ u ∷ [] }

abbrev ends : Clause
ends = record { head = len nil (number 0); body = []; vars = 0 }

abbrev goes_on : Clause
goes_on = record {
  head = len (cons (Variable 0) (Variable 1)) (Variable 2);
  body = len (Variable 1) (Variable 3) ∷ is (Variable 2) (plus (Variable 3) (number 1)) ∷ [];
  vars = 4;
}

abbrev built_in : Arithmetic
built_in = record { names = Some arith; builtins = (record { 0 = 1 }, Is) ∷ (record { 0 = 2 }, Equal) ∷ [] }

abbrev lengths : Listing
lengths = record {
  preds = record { name = record { 0 = 9 }; arity = 2 } ∷ record { name = record { 0 = 10 }; arity = 2 } ∷ record { name = record { 0 = 11 }; arity = 2 } ∷ [];
  clauses = ends ∷ goes_on ∷ [];
  arithmetic = built_in;
}

-- the query len([a,b],N)
abbrev two_elements : Goal
two_elements = query (len (cons a (cons b nil)) N) 1

-- its nodes are the beginnings of 2, 2, 1, 0, 0
five_nodes : first_nodes lengths two_elements 7 ≡ (2 ∷ []) ∷ (2 ∷ 2 ∷ []) ∷ (2 ∷ 2 ∷ 1 ∷ []) ∷ (2 ∷ 2 ∷ 1 ∷ 0 ∷ []) ∷ (2 ∷ 2 ∷ 1 ∷ 0 ∷ 0 ∷ []) ∷ []
five_nodes = refl

five_steps : length (visited_nodes lengths two_elements 7) ≡ 5
five_steps = refl

longest_five : longest (visited_nodes lengths two_elements 7) ≡ 5
longest_five = refl

-- and the one answer is len([a,b],2)
length_two : answers lengths two_elements 7 ≡ (len (cons a (cons b nil)) (number 2) ∷ []) ∷ []
length_two = refl

-- ---- queries of built-in predicates

-- X is 2*3
product : answers lengths (query (is N (times (number 2) (number 3))) 1) 3 ≡ (is (number 6) (times (number 2) (number 3)) ∷ []) ∷ []
product = refl

one_node : first_nodes lengths (query (is N (times (number 2) (number 3))) 1) 3 ≡ (0 ∷ []) ∷ []
one_node = refl

-- 1+2 =:= 3
same_values : answers lengths (query (equal (plus (number 1) (number 2)) (number 3)) 0) 3 ≡ (equal (plus (number 1) (number 2)) (number 3) ∷ []) ∷ []
same_values = refl

-- X is Y+1 has no node, and 7 is 2*3 neither
unbound : first_nodes lengths (query (is N (plus (Variable 1) (number 1))) 2) 3 ≡ []
unbound = refl

other_value : first_nodes lengths (query (is (number 7) (times (number 2) (number 3))) 0) 3 ≡ []
other_value = refl

-- X is 170141183460469231731687303715884105727+1: the query itself is wide, so no node is visited
abbrev overflowing : Goal
overflowing = query (is N (plus (number (2 ^ 127 - 1)) (number 1))) 1

wide_query : leaves_wide lengths overflowing [] ≡ true
wide_query = refl

overflows : HasWide lengths overflowing 3
overflows = refl

none_visited : visited_nodes lengths overflowing 3 ≡ []
none_visited = refl

-- an expression without a value has no successor, also where a number in it is too large
wide_without_value : leaves_wide lengths (query (is N (plus (plus (number (2 ^ 127 - 1)) (number 1)) (Variable 1))) 2) [] ≡ false
wide_without_value = refl
