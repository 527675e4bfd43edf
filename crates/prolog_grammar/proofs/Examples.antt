-- Worked examples, computed by the machine: what tokens are read as, and where the first unexpected one is.
use Rattle.std.proofs.Common.{◌≡◌, ℕ, List, [], ◌∷◌, ◌++◌, Ok, Err, refl, sym, ◌∙◌}
use Rattle.prolog_grammar.specs.Token.{variable, integer, Token, Leaf, Joined, Name, Paren, Touching, ParenEnd, Bracket, BracketEnd, Brace, BraceEnd, Comma, Bar, End}
use Rattle.prolog_grammar.specs.Rules.{plain, brackets, braces}
use Rattle.prolog_grammar.specs.Grammar.{TermOf}
use Rattle.prolog_grammar.specs.Syntax.{Syntax, leaf, negative, atom, call, prefixed, infixed, listed_to, curled, grouped, nothing, more}
use Rattle.prolog_grammar.specs.Fault.{IsUnexpected}
use Rattle.prolog_grammar.specs.Machine.{Outcome, go, start}
use Rattle.prolog_grammar.proofs.Complete.{complete}
use Rattle.prolog_grammar.proofs.First.{unexpected}
use Rattle.prolog_grammar.proofs.ExampleTable.{equals, minus, arrow, neck, comma, f, a, b, c, x, table}

-- the first unexpected token of us is that of rest
abbrev Faults : List Token → List Token → Type 0
Faults us rest = ◌≡◌ {A = Outcome Syntax} (go table start us) (Err rest)

-- with an End, the tokens are read as t
abbrev Reads : List Token → Syntax → Type 0
Reads us t = ◌≡◌ {A = Outcome Syntax} (go table start (us ++ End ∷ [])) (Ok (t, []))

-- f(- --> a). at a
infix_operator_as_atom_in_arguments : Faults (Name 0 f ∷ Touching 1 ∷ Name 2 minus ∷ Name 4 arrow ∷ Name 8 a ∷ ParenEnd ∷ End ∷ [])
    (Name 8 a ∷ ParenEnd ∷ End ∷ [])
unfolding go
infix_operator_as_atom_in_arguments = refl

-- f(:- a). at a
operator_above_999_in_arguments : Faults (Name 0 f ∷ Touching 1 ∷ Name 2 neck ∷ Name 5 a ∷ ParenEnd ∷ End ∷ []) (Name 5 a ∷ ParenEnd ∷ End ∷ [])
unfolding go
operator_above_999_in_arguments = refl

-- a :- b :- c. at the second :-
two_necks : Faults (Name 0 a ∷ Name 2 neck ∷ Name 5 b ∷ Name 7 neck ∷ Name 10 c ∷ End ∷ []) (Name 7 neck ∷ Name 10 c ∷ End ∷ [])
unfolding go
two_necks = refl

-- a = b = c. at the second =
xfx_in_a_chain : Faults (Name 0 a ∷ Name 2 equals ∷ Name 4 b ∷ Name 6 equals ∷ Name 8 c ∷ End ∷ []) (Name 6 equals ∷ Name 8 c ∷ End ∷ [])
unfolding go
xfx_in_a_chain = refl

-- p(a b). at b
two_terms_in_arguments : Faults (Name 0 f ∷ Touching 1 ∷ Name 2 a ∷ Name 4 b ∷ ParenEnd ∷ End ∷ []) (Name 4 b ∷ ParenEnd ∷ End ∷ [])
unfolding go
two_terms_in_arguments = refl

-- p :- . at the End
no_body : Faults (Name 0 f ∷ Name 2 neck ∷ End ∷ []) (End ∷ [])
unfolding go
no_body = refl

-- p(,). at the comma
no_argument : Faults (Name 0 f ∷ Touching 1 ∷ Comma ∷ ParenEnd ∷ End ∷ []) (Comma ∷ ParenEnd ∷ End ∷ [])
unfolding go
no_argument = refl

-- [a|b,c]. at the comma
two_tails : Faults (Bracket 0 ∷ Name 1 a ∷ Bar ∷ Name 3 b ∷ Comma ∷ Name 5 c ∷ BracketEnd ∷ End ∷ []) (Comma ∷ Name 5 c ∷ BracketEnd ∷ End ∷ [])
unfolding go
two_tails = refl

-- :- :- --> a. at -->
prefix_operator_before_an_infix_one : Faults (Name 0 neck ∷ Name 3 neck ∷ Name 6 arrow ∷ Name 10 a ∷ End ∷ []) (Name 6 arrow ∷ Name 10 a ∷ End ∷ [])
unfolding go
prefix_operator_before_an_infix_one = refl

-- - 1 is -(1)
minus_apart_from_its_number : Reads (Name 0 minus ∷ Leaf 2 (integer 1) ∷ []) (prefixed 0 minus (leaf 2 (integer 1)))
unfolding go
minus_apart_from_its_number = refl

-- -1 is the negative number
negative_number : Reads (Name 0 minus ∷ Joined 1 1 ∷ []) (negative 0 1)
unfolding go
negative_number = refl

-- -(1) is a compound term
minus_with_arguments : Reads (Name 0 minus ∷ Touching 1 ∷ Leaf 2 (integer 1) ∷ ParenEnd ∷ [])
    (call (plain 0 minus) (more (leaf 2 (integer 1)) nothing))
unfolding go
minus_with_arguments = refl

-- - (1) applies the operator to a group
minus_before_a_group : Reads (Name 0 minus ∷ Paren 2 ∷ Leaf 3 (integer 1) ∷ ParenEnd ∷ []) (prefixed 0 minus (grouped 2 (leaf 3 (integer 1))))
unfolding go
minus_before_a_group = refl

-- a -1 is a subtraction
subtraction_without_layout : Reads (Name 0 a ∷ Name 2 minus ∷ Joined 3 1 ∷ []) (infixed minus (atom (plain 0 a)) (leaf 3 (integer 1)))
unfolding go
subtraction_without_layout = refl

-- a - -1 has a negative number
subtraction_of_a_negative_number : Reads (Name 0 a ∷ Name 2 minus ∷ Name 4 minus ∷ Joined 5 1 ∷ []) (infixed minus (atom (plain 0 a)) (negative 4 1))
unfolding go
subtraction_of_a_negative_number = refl

-- [a,b|T], where T is variable 0
list_with_a_tail : Reads (Bracket 0 ∷ Name 1 a ∷ Comma ∷ Name 3 b ∷ Bar ∷ Leaf 5 (variable 0) ∷ BracketEnd ∷ [])
    (listed_to 0 (more (atom (plain 1 a)) (more (atom (plain 3 b)) nothing)) (leaf 5 (variable 0)))
unfolding go
list_with_a_tail = refl

-- {a,b}
term_in_braces : Reads (Brace 0 ∷ Name 1 a ∷ Comma ∷ Name 3 b ∷ BraceEnd ∷ []) (curled 0 (infixed comma (atom (plain 1 a)) (atom (plain 3 b))))
unfolding go
term_in_braces = refl

-- 'f'(x): a quoted name is a name
quoted_name : Reads (Name 0 f ∷ Touching 3 ∷ Name 4 x ∷ ParenEnd ∷ []) (call (plain 0 f) (more (atom (plain 4 x)) nothing))
unfolding go
quoted_name = refl

-- []
empty_list : Reads (Bracket 0 ∷ BracketEnd ∷ []) (atom (brackets 0))
unfolding go
empty_list = refl

-- {}(a)
braces_with_arguments : Reads (Brace 0 ∷ BraceEnd ∷ Touching 3 ∷ Name 4 a ∷ ParenEnd ∷ []) (call (braces 0) (more (atom (plain 4 a)) nothing))
unfolding go
braces_with_arguments = refl

-- in - = a the prefix operator is an atom
prefix_operator_as_left_side : Reads (Name 0 minus ∷ Name 2 equals ∷ Name 4 a ∷ []) (infixed equals (atom (plain 0 minus)) (atom (plain 4 a)))
unfolding go
prefix_operator_as_left_side = refl

-- in - =(a) it is applied
prefix_operator_before_a_name_with_arguments : Reads (Name 0 minus ∷ Name 2 equals ∷ Touching 3 ∷ Name 4 a ∷ ParenEnd ∷ [])
    (prefixed 0 minus (call (plain 2 equals) (more (atom (plain 4 a)) nothing)))
unfolding go
prefix_operator_before_a_name_with_arguments = refl

-- f(a, (b, c))
group_in_arguments : Reads (Name 0 f ∷ Touching 1 ∷ Name 2 a ∷ Comma ∷ Paren 5 ∷ Name 6 b ∷ Comma ∷ Name 9 c ∷ ParenEnd ∷ ParenEnd ∷ [])
    (call (plain 0 f) (more (atom (plain 2 a)) (more (grouped 5 (infixed comma (atom (plain 6 b)) (atom (plain 9 c)))) nothing)))
unfolding go
group_in_arguments = refl

-- no tokens at all: the end
no_tokens : Faults [] []
unfolding go
no_tokens = refl

-- -0 keeps its tokens here
minus_zero : Reads (Name 0 minus ∷ Joined 1 0 ∷ []) (negative 0 0)
unfolding go
minus_zero = refl

-- f(-, -): a prefix operator as an atom before a comma and a closing parenthesis
prefix_operators_as_arguments : Reads (Name 0 f ∷ Touching 1 ∷ Name 2 minus ∷ Comma ∷ Name 5 minus ∷ ParenEnd ∷ [])
    (call (plain 0 f) (more (atom (plain 2 minus)) (more (atom (plain 5 minus)) nothing)))
unfolding go
prefix_operators_as_arguments = refl

-- [-|-]: and before a bar and a closing bracket
prefix_operators_in_a_list : Reads (Bracket 0 ∷ Name 1 minus ∷ Bar ∷ Name 3 minus ∷ BracketEnd ∷ [])
    (listed_to 0 (more (atom (plain 1 minus)) nothing) (atom (plain 3 minus)))
unfolding go
prefix_operators_in_a_list = refl

-- -. : and before the end
prefix_operator_alone : Reads (Name 0 minus ∷ []) (atom (plain 0 minus))
unfolding go
prefix_operator_alone = refl

-- - - a: a prefix operator before a prefix operator is applied
prefix_operators_in_a_row : Reads (Name 0 minus ∷ Name 2 minus ∷ Name 4 a ∷ []) (prefixed 0 minus (prefixed 2 minus (atom (plain 4 a))))
unfolding go
prefix_operators_in_a_row = refl

-- a - b - c is (a - b) - c
left_side_first : Reads (Name 0 a ∷ Name 2 minus ∷ Name 4 b ∷ Name 6 minus ∷ Name 8 c ∷ [])
    (infixed minus (infixed minus (atom (plain 0 a)) (atom (plain 4 b))) (atom (plain 8 c)))
unfolding go
left_side_first = refl

-- a , b , c is a , (b , c)
right_side_first : Reads (Name 0 a ∷ Comma ∷ Name 4 b ∷ Comma ∷ Name 8 c ∷ [])
    (infixed comma (atom (plain 0 a)) (infixed comma (atom (plain 4 b)) (atom (plain 8 c))))
unfolding go
right_side_first = refl

-- So a = b = c. has no reading in the grammar, and its second = is the first unexpected token by the definition.
no_reading_of_a_chain : (t : Syntax) (p : ℕ) (rest : List Token)
    → TermOf table (Name 0 a ∷ Name 2 equals ∷ Name 4 b ∷ Name 6 equals ∷ Name 8 c ∷ End ∷ []) (End ∷ rest) 1200 t p → ⊥
no_reading_of_a_chain t p rest reads = let both = sym (complete reads) ∙ xfx_in_a_chain in cc

first_unexpected_of_a_chain : IsUnexpected table (Name 0 a ∷ Name 2 equals ∷ Name 4 b ∷ Name 6 equals ∷ Name 8 c ∷ End ∷ [])
    (Name 6 equals ∷ Name 8 c ∷ End ∷ [])
first_unexpected_of_a_chain = unexpected table _ _ xfx_in_a_chain
