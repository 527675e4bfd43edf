-- Worked examples: the definitions, evaluated.
--
-- Names by number: 0 is `[]`, 1 is `'.'`, 2 is `a`, 3 is `b`, 4 is `f`. Variables by number: 0 is X, 1 is Y, 2 is Z.
use Rattle.std.proofs.Common.{◌≡◌, ℕ, true, false, List, [], ◌∷◌, Option, Some, None, option_and_then, option_map, refl}
use Rattle.cti_terms.specs.Tree.{Tree, Variable, Compound, trees, instance, size, is_rigid, is_below, nodes_of}
use Rattle.cti_terms.specs.declared.atom_list.Atom.{Atom}
use Rattle.cti_terms.specs.declared.clauses.Clause.{Clause}
use Rattle.cti_terms.specs.declared.derivation.Goal.{Goal}
use Rattle.cti_terms.specs.Arithmetic.{no_arithmetic}
use Rattle.cti_terms.specs.Listing.{Listing}
use Rattle.cti_terms.specs.Unify.{Binding, applied, first_step, Failed, only}
use Rattle.cti_terms.specs.UnifyFunction.{unify}
use Rattle.cti_terms.specs.Resolve.{resolve}
use Rattle.cti_terms.specs.Derive.{query, IsDerivation}
use Rattle.cti_terms.specs.Nodes.{nodes, first_nodes, longest}
use Rattle.cti_terms.specs.Answers.{answer_of, answers, depth_of, is_large, numbered_atoms}

abbrev nil : Tree
nil = Compound 0 (trees [])

abbrev cons : Tree → Tree → Tree
cons t ts = Compound 1 (trees (t ∷ ts ∷ []))

abbrev a : Tree
a = Compound 2 (trees [])

abbrev b : Tree
b = Compound 3 (trees [])

abbrev f : List Tree → Tree
f ts = Compound 4 (trees ts)

abbrev X : Tree
X = Variable 0

abbrev Y : Tree
Y = Variable 1

abbrev Z : Tree
Z = Variable 2

-- ---- terms

-- a list of two elements has two inner nodes and five nodes
list_size : size (λ _. 0) (cons a (cons b nil)) ≡ 2
list_size = refl

list_nodes : nodes_of (cons a (cons b nil)) ≡ 5
list_nodes = refl

-- a variable counts as its value: [a|X] with 7 for X
open_list_size : size (λ _. 7) (cons a X) ≡ 8
open_list_size = refl

-- the atom a has size 0
atom_size : size (λ _. 7) a ≡ 0
atom_size = refl

-- [a] is rigid, and [X] is not
list_is_rigid : is_rigid (cons a nil) ≡ true
list_is_rigid = refl

open_list_is_not_rigid : is_rigid (cons X nil) ≡ false
open_list_is_not_rigid = refl

-- the variables of f(X,Z) are below 3, and not below 2
below_three : is_below 3 (f (X ∷ Z ∷ [])) ≡ true
below_three = refl

not_below_two : is_below 2 (f (X ∷ Z ∷ [])) ≡ false
not_below_two = refl

-- b for X in f(X,Y,X) is f(b,Y,b)
instance_of_one : instance (only 0 b) (f (X ∷ Y ∷ X ∷ [])) ≡ f (b ∷ Y ∷ b ∷ [])
instance_of_one = refl

-- ---- unification

-- f(X,b) and f(a,Y) by two bindings
two_bindings : unify ((f (X ∷ b ∷ []), f (a ∷ Y ∷ [])) ∷ []) ≡ Some ((0, a) ∷ (1, b) ∷ [])
two_bindings = refl

-- of two variables the left one is bound
left_is_bound : unify ((X, Y) ∷ []) ≡ Some ((0, Y) ∷ [])
left_is_bound = refl

-- a binding replaces its variable in the equations that are left: f(X,X) and f(Y,a) bind X to Y, then Y to a
binding_is_replaced : unify ((f (X ∷ X ∷ []), f (Y ∷ a ∷ [])) ∷ []) ≡ Some ((0, Y) ∷ (1, a) ∷ [])
binding_is_replaced = refl

-- and in turn they make X the same as a
bindings_in_turn : applied ((0, Y) ∷ (1, a) ∷ []) X ≡ a
bindings_in_turn = refl

-- the arguments of p(X,X) and p(Y,f(Y)) do not unify, by the occurs check
occurs_check : unify ((X, Y) ∷ (X, f (Y ∷ [])) ∷ []) ≡ None
occurs_check = refl

-- nor do two names, or two numbers of arguments
two_names : unify ((a, b) ∷ []) ≡ None
two_names = refl

two_arities : first_step (f (X ∷ [])) (f (X ∷ X ∷ [])) ≡ Failed
two_arities = refl

-- a term unifies with itself without a binding
itself : unify ((f (X ∷ a ∷ []), f (X ∷ a ∷ [])) ∷ []) ≡ Some []
itself = refl

-- ---- resolution

-- an atom of app/3, the predicate of number 0
abbrev app : Tree → Tree → Tree → Atom
app t u v = record { pred = record { 0 = 0 }; args = t ∷ u ∷ v ∷ [] }

-- app([],L,L).
abbrev ends : Clause
ends = record { head = app nil (Variable 0) (Variable 0); body = []; vars = 1 }

-- app([H|T],L,[H|R]) :- app(T,L,R).
abbrev goes_on : Clause
goes_on = record {
  head = app (cons (Variable 0) (Variable 1)) (Variable 2) (cons (Variable 0) (Variable 3));
  body = app (Variable 1) (Variable 2) (Variable 3) ∷ [];
  vars = 4;
}

abbrev append : Listing
append = record { preds = record { name = record { 0 = 5 }; arity = 3 } ∷ []; clauses = ends ∷ goes_on ∷ []; arithmetic = no_arithmetic }

-- the query app([a],[b],X)
abbrev appends : Goal
appends = query (app (cons a nil) (cons b nil) X) 1

-- what clause k leaves, and what clauses leave in turn
abbrev left_after : Goal → ℕ → Option Goal
left_after g k = option_map (λ r. r.1) (resolve append g k)

-- the first clause does not resolve the query
first_fails : left_after appends 1 ≡ None
first_fails = refl

-- there is no clause 0 and no clause 3
no_clause_zero : left_after appends 0 ≡ None
no_clause_zero = refl

no_clause_three : left_after appends 3 ≡ None
no_clause_three = refl

-- the second does, with its variables raised by 1: H, T, L and R are 1 to 4
second_leaves : left_after appends 2 ≡ Some (record { atoms = app nil (cons b nil) (Variable 4) ∷ []; fresh = 5 })
second_leaves = refl

-- then the first clause leaves the empty goal
then_first_leaves : option_and_then (λ g. left_after g 1) (left_after appends 2) ≡ Some (record { atoms = []; fresh = 6 })
then_first_leaves = refl

-- so the two are a derivation
abbrev first_bindings : List Binding
first_bindings = (1, a) ∷ (2, nil) ∷ (3, cons b nil) ∷ (0, cons a (Variable 4)) ∷ []

abbrev then_bindings : List Binding
then_bindings = (5, cons b nil) ∷ (4, cons b nil) ∷ []

two_steps : IsDerivation append appends (2 ∷ 1 ∷ [])
two_steps = (first_bindings, record { atoms = app nil (cons b nil) (Variable 4) ∷ []; fresh = 5 }, refl, (then_bindings, record { atoms = []; fresh = 6 }, refl, tt))

-- with the answer [a,b]
answer : applied then_bindings (applied first_bindings X) ≡ cons a (cons b nil)
answer = refl

-- ---- nodes and answers

-- the query app(X,Y,[a])
abbrev splits : Goal
splits = query (app X Y (cons a nil)) 2

-- its derivations are [1], [2] and [2,1], at each depth from 2 on
three_nodes : nodes append 2 splits ≡ (1 ∷ []) ∷ (2 ∷ []) ∷ (2 ∷ 1 ∷ []) ∷ []
three_nodes = refl

no_fourth_node : nodes append 4 splits ≡ (1 ∷ []) ∷ (2 ∷ []) ∷ (2 ∷ 1 ∷ []) ∷ []
no_fourth_node = refl

-- the longest has two steps, and the first two nodes are [1] and [2]
longest_of_three : longest (first_nodes append splits 3) ≡ 2
longest_of_three = refl

two_nodes : first_nodes append splits 2 ≡ (1 ∷ []) ∷ (2 ∷ []) ∷ []
two_nodes = refl

-- the answers are app([],[a],[a]) and app([a],[],[a]), and the first of them where two nodes are looked at
two_answers : answers append splits 3 ≡ (app nil (cons a nil) (cons a nil) ∷ []) ∷ (app (cons a nil) nil (cons a nil) ∷ []) ∷ []
two_answers = refl

one_answer : answers append splits 2 ≡ (app nil (cons a nil) (cons a nil) ∷ []) ∷ []
one_answer = refl

-- the empty goal has no node, and its answer is that of the empty derivation
no_nodes : first_nodes append (record { atoms = []; fresh = 0 }) 3 ≡ []
no_nodes = refl

empty_answer : answers append (record { atoms = []; fresh = 0 }) 3 ≡ [] ∷ []
empty_answer = refl

-- app([a],Y,Z) has an answer with the variable 7 in two places, which is reported with the variable 0
open_answer : answer_of append (query (app (cons a nil) Y Z) 3) (2 ∷ 1 ∷ []) ≡ Some (app (cons a nil) (Variable 7) (cons a (Variable 7)) ∷ [])
open_answer = refl

told_answer : numbered_atoms (app (cons a nil) (Variable 7) (cons a (Variable 7)) ∷ []) ≡ app (cons a nil) (Variable 0) (cons a (Variable 0)) ∷ []
told_answer = refl

-- a list of two elements has depth 3, and is not large
list_depth : depth_of (cons a (cons b nil)) ≡ 3
list_depth = refl

list_is_not_large : is_large (app nil (cons b nil) (cons b nil) ∷ []) ≡ false
list_is_not_large = refl
