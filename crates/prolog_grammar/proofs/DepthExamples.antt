-- Worked examples of the depth rule, most of them with the limit 2: a token is too deep that begins an operand under
-- more than two openers, and an infix operator after a term of depth 2 or more. The last ones have the limit 1000.
use Rattle.std.proofs.Common.{◌≡◌, ℕ, zero, suc, true, is_ok, List, [], ◌∷◌, Err, refl}
use Rattle.prolog_grammar.specs.Token.{variable, integer, text, Token, Leaf, Name, Paren, Touching, ParenEnd, Bracket, BracketEnd, Comma, End}
use Rattle.prolog_grammar.specs.Rules.{plain}
use Rattle.prolog_grammar.specs.Syntax.{Syntax, leaf, atom, call, prefixed, infixed, listed, listed_to, grouped, nothing, more, depth}
use Rattle.prolog_grammar.specs.Depth.{quiet, operand, operator, clause_loads}
use Rattle.prolog_grammar.specs.Fault.{unexpected, deep, Verdict}
use Rattle.prolog_grammar.specs.Machine.{start}
use Rattle.prolog_grammar.specs.Walk.{walk}
use Rattle.prolog_grammar.proofs.ExampleTable.{minus, arrow, query, semicolon, f, a, b, c, table}

-- the verdict on us with the limit 2
abbrev Verdicts : List Token → Verdict Syntax → Type 0
Verdicts us v = ◌≡◌ {A = Verdict Syntax} (walk 2 table start us) v

-- (((a))). at a
three_parentheses : Verdicts (Paren 0 ∷ Touching 1 ∷ Touching 2 ∷ Name 3 a ∷ End ∷ []) (Err (deep (Name 3 a ∷ End ∷ [])))
unfolding walk
three_parentheses = refl

-- ((() at ), which is unexpected
unexpected_before_deep : Verdicts (Paren 0 ∷ Touching 1 ∷ Touching 2 ∷ ParenEnd ∷ []) (Err (unexpected (ParenEnd ∷ [])))
unfolding walk
unexpected_before_deep = refl

-- [a,b,c]. at c: two commas and the bracket are above it
third_item : Verdicts (Bracket 0 ∷ Name 1 a ∷ Comma ∷ Name 3 b ∷ Comma ∷ Name 5 c ∷ BracketEnd ∷ End ∷ [])
    (Err (deep (Name 5 c ∷ BracketEnd ∷ End ∷ [])))
unfolding walk
third_item = refl

-- f(a) - b. at -
deep_left_side : Verdicts (Name 0 f ∷ Touching 1 ∷ Name 2 a ∷ ParenEnd ∷ Name 5 minus ∷ Name 7 b ∷ End ∷ [])
    (Err (deep (Name 5 minus ∷ Name 7 b ∷ End ∷ [])))
unfolding walk
deep_left_side = refl

-- f(-(-(X( at X, whatever touches it
name_under_three_openers : Verdicts
    (Name 0 f ∷ Touching 1 ∷ Name 2 minus ∷ Touching 3 ∷ Name 4 minus ∷ Touching 5 ∷ Leaf 6 (variable 0) ∷ Touching 7 ∷ [])
    (Err (deep (Leaf 6 (variable 0) ∷ Touching 7 ∷ [])))
unfolding walk
name_under_three_openers = refl

-- (- -->( under two openers: --> is applied to, and begins an operand under three
open_role_with_a_parenthesis : Verdicts (Paren 0 ∷ Touching 1 ∷ Name 2 minus ∷ Name 4 arrow ∷ Touching 7 ∷ [])
    (Err (deep (Name 4 arrow ∷ Touching 7 ∷ [])))
unfolding walk
open_role_with_a_parenthesis = refl

-- with something else after it, it can be an operator, at 1200
open_role_without_one : Verdicts (Paren 0 ∷ Touching 1 ∷ Name 2 minus ∷ Name 4 arrow ∷ Name 8 a ∷ []) (Err (deep (Name 8 a ∷ [])))
unfolding walk
open_role_without_one = refl

-- f(a, - --> a: the role of --> is open, and the next token is unexpected
open_role_and_an_unexpected_token : Verdicts (Paren 0 ∷ Name 1 f ∷ Touching 2 ∷ Name 3 minus ∷ Name 5 arrow ∷ Name 9 a ∷ [])
    (Err (unexpected (Name 9 a ∷ [])))
unfolding walk
open_role_and_an_unexpected_token = refl

-- a text of two characters under one opener
text_of_two_characters : Verdicts (Paren 0 ∷ Leaf 1 (text (97 ∷ 98 ∷ [])) ∷ ParenEnd ∷ End ∷ [])
    (Err (deep (Leaf 1 (text (97 ∷ 98 ∷ [])) ∷ ParenEnd ∷ End ∷ [])))
unfolding walk
text_of_two_characters = refl

-- ( - ?- ; with a parenthesis that touches the ;: it would be an operator with the left term -(?-), which is too deep,
-- and the parenthesis is unexpected
deep_left_side_and_an_unexpected_token : Verdicts (Paren 0 ∷ Name 2 minus ∷ Name 4 query ∷ Name 7 semicolon ∷ Touching 8 ∷ [])
    (Err (unexpected (Touching 8 ∷ [])))
unfolding walk
deep_left_side_and_an_unexpected_token = refl

-- with anything else after it, it is too deep
deep_left_side_of_an_open_role : Verdicts (Paren 0 ∷ Name 2 minus ∷ Name 4 query ∷ Name 7 semicolon ∷ Paren 9 ∷ [])
    (Err (deep (Name 7 semicolon ∷ Paren 9 ∷ [])))
unfolding walk
deep_left_side_of_an_open_role = refl

-- What each token of a clause does. f(a).: the name, its parenthesis, the argument under one opener, and what closes
loads_of_a_compound : clause_loads (call (plain 0 f) (more (atom (plain 2 a)) nothing)) ≡ operand 0 ∷ quiet ∷ operand 1 ∷ quiet ∷ quiet ∷ []
loads_of_a_compound = refl

-- [a,b|c].: a comma and the bar are openers for what follows them
loads_of_a_list : clause_loads (listed_to 0 (more (atom (plain 1 a)) (more (atom (plain 3 b)) nothing)) (atom (plain 5 c)))
    ≡ operand 0 ∷ operand 1 ∷ quiet ∷ operand 2 ∷ quiet ∷ operand 3 ∷ quiet ∷ quiet ∷ []
loads_of_a_list = refl

-- -a - b.: the operator is taken after a term of depth 2, and its right side is under one opener
loads_of_operators : clause_loads
    (infixed minus (prefixed 0 minus (atom (plain 1 a))) (atom (plain 5 b))) ≡ operand 0 ∷ operand 1 ∷ operator 2 ∷ operand 1 ∷ quiet ∷ []
loads_of_operators = refl

-- ("ab").: the characters of a text are openers for itself, and the text has the depth of the list of them
loads_of_a_text : clause_loads (grouped 0 (leaf 1 (text (97 ∷ 98 ∷ [])))) ≡ operand 0 ∷ operand 3 ∷ quiet ∷ quiet ∷ []
loads_of_a_text = refl

depth_of_a_text : depth (leaf 0 (text (97 ∷ 98 ∷ []))) ≡ depth (listed 0 (more (leaf 1 (integer 97)) (more (leaf 4 (integer 98)) nothing)))
depth_of_a_text = refl

-- With the limit 1000. That many opening parentheses before these tokens, and closing ones
abbrev opening : ℕ → List Token → List Token
opening zero us = us
opening (suc n) us = Touching 0 ∷ opening n us

abbrev closing : ℕ → List Token → List Token
closing zero us = us
closing (suc n) us = ParenEnd ∷ closing n us

-- an element, and a given number more after commas, before these tokens
abbrev elements : ℕ → List Token → List Token
elements zero us = Name 0 a ∷ us
elements (suc n) us = Name 0 a ∷ Comma ∷ elements n us

-- the given number of subtractions before these tokens
abbrev subtractions : ℕ → List Token → List Token
subtractions zero us = us
subtractions (suc n) us = Name 0 minus ∷ Name 0 a ∷ subtractions n us

-- the tokens are read
abbrev IsRead : List Token → Type 0
IsRead us = is_ok (walk 1000 table start us) ≡ true

-- the token at which rest begins is too deep
abbrev IsTooDeep : List Token → List Token → Type 0
IsTooDeep us rest = ◌≡◌ {A = Verdict Syntax} (walk 1000 table start us) (Err (deep rest))

-- a name in 1,000 parentheses, and in 1,001
thousand_parentheses : IsRead (opening 1000 (Name 0 a ∷ closing 1000 (End ∷ [])))
unfolding walk
thousand_parentheses = refl

one_parenthesis_more : IsTooDeep (opening 1001 (Name 0 a ∷ closing 1001 (End ∷ []))) (Name 0 a ∷ closing 1001 (End ∷ []))
unfolding walk
one_parenthesis_more = refl

-- f([a,..,a]) with 999 elements, and with 1,000
longest_list : IsRead (Name 0 f ∷ Touching 1 ∷ Bracket 2 ∷ elements 998 (BracketEnd ∷ ParenEnd ∷ End ∷ []))
unfolding walk
longest_list = refl

one_element_more : IsTooDeep (Name 0 f ∷ Touching 1 ∷ Bracket 2 ∷ elements 999 (BracketEnd ∷ ParenEnd ∷ End ∷ [])) (Name 0 a ∷ BracketEnd ∷ ParenEnd ∷ End ∷ [])
unfolding walk
one_element_more = refl

-- a - a - .. - a with 999 operators, and with 1,000: the last one has a left side of depth 1,000
most_subtractions : IsRead (Name 0 a ∷ subtractions 999 (End ∷ []))
unfolding walk
most_subtractions = refl

one_subtraction_more : IsTooDeep (Name 0 a ∷ subtractions 1000 (End ∷ [])) (Name 0 minus ∷ Name 0 a ∷ End ∷ [])
unfolding walk
one_subtraction_more = refl
