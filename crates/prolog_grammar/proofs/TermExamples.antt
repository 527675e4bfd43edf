-- Worked examples of terms with places: the tokens of a clause, its term, and its depth.
use Rattle.std.proofs.Common.{◌≡◌, ℕ, pos, negsuc, List, [], ◌∷◌, ◌++◌, Ok, refl}
use Rattle.prolog_grammar.specs.Token.{variable, integer, text, Token, Leaf, Joined, Name, Paren, Touching, ParenEnd, Bracket, BracketEnd, Brace, BraceEnd, Comma, Bar, End}
use Rattle.prolog_grammar.specs.Fault.{Verdict}
use Rattle.prolog_grammar.specs.Placed.{Tree, tree, Shape, Var, Int, Fun, no_trees, more_trees, Part, Known, placed_rules}
use Rattle.prolog_grammar.specs.Machine.{start}
use Rattle.prolog_grammar.specs.Walk.{walk}
use Rattle.prolog_grammar.proofs.ExampleTable.{equals, minus, cell, nil, curly, comma, f, a, b, infixes, prefixes}

-- the names that brackets, braces and cells have
abbrev names : Known
names = record { comma = comma; nil = nil; curly = curly; cell = cell }

-- a name alone, at a place
abbrev atom_at : ℕ → ℕ → Tree
atom_at at n = tree at (Fun n no_trees)

-- a name with one argument, and with two
abbrev of_one : ℕ → Tree → Shape
of_one n t = Fun n (more_trees t no_trees)

abbrev of_two : ℕ → Tree → Tree → Shape
of_two n t u = Fun n (more_trees t (more_trees u no_trees))

-- with an End and the limit 1000, the tokens are that term of that depth
abbrev Builds : List Token → ℕ → Shape → ℕ → Type 0
Builds us at shape depth =
    ◌≡◌ {A = Verdict Part} (walk 1000 (placed_rules 1000 infixes prefixes names) start (us ++ End ∷ []))
    (Ok (record { at = at; shape = shape; depth = depth }, []))

-- "ab" is the list of the codes 97 and 98, each cell at the place of the text
text_term : Builds (Leaf 0 (text (97 ∷ 98 ∷ [])) ∷ []) 0
    (of_two cell (tree 0 (Int (pos 97))) (tree 0 (of_two cell (tree 0 (Int (pos 98))) (atom_at 0 nil)))) 3
unfolding walk
text_term = refl

-- "" is []
empty_text_term : Builds (Leaf 0 (text []) ∷ []) 0 (Fun nil no_trees) 1
unfolding walk
empty_text_term = refl

-- [a|X] is a cell with a and X
list_term : Builds (Bracket 0 ∷ Name 1 a ∷ Bar ∷ Leaf 3 (variable 0) ∷ BracketEnd ∷ []) 0
    (of_two cell (atom_at 1 a) (tree 3 (Var 0))) 2
unfolding walk
list_term = refl

-- {a} is {} of a
curly_term : Builds (Brace 0 ∷ Name 1 a ∷ BraceEnd ∷ []) 0 (of_one curly (atom_at 1 a)) 2
unfolding walk
curly_term = refl

-- ( a ) = b begins at its parenthesis, and so does its left side
group_term : Builds (Paren 0 ∷ Name 2 a ∷ ParenEnd ∷ Name 6 equals ∷ Name 8 b ∷ []) 0
    (of_two equals (atom_at 0 a) (atom_at 8 b)) 2
unfolding walk
group_term = refl

-- -1 is the negative number
negative_term : Builds (Name 0 minus ∷ Joined 1 1 ∷ []) 0 (Int (negsuc 0)) 1
unfolding walk
negative_term = refl

-- - 1 is the operator applied to 1
minus_term : Builds (Name 0 minus ∷ Leaf 2 (integer 1) ∷ []) 0 (of_one minus (tree 2 (Int (pos 1)))) 2
unfolding walk
minus_term = refl

-- -0 is 0
zero_term : Builds (Name 0 minus ∷ Joined 1 0 ∷ []) 0 (Int (pos 0)) 1
unfolding walk
zero_term = refl

-- [](a) is the name [] with an argument
brackets_term : Builds (Bracket 0 ∷ BracketEnd ∷ Touching 2 ∷ Name 3 a ∷ ParenEnd ∷ []) 0 (of_one nil (atom_at 3 a)) 2
unfolding walk
brackets_term = refl

-- f(a,b)
compound_term : Builds (Name 0 f ∷ Touching 1 ∷ Name 2 a ∷ Comma ∷ Name 4 b ∷ ParenEnd ∷ []) 0
    (of_two f (atom_at 2 a) (atom_at 4 b)) 2
unfolding walk
compound_term = refl
