-- The definitions on small texts.
use Rattle.std.proofs.Common.{◌≡◌, ℕ, pos, negsuc, List, [], ◌∷◌, Option, Some, None, Err, codes, refl}
use Rattle.prolog_tokens.specs.declared.token.TokenKind.{TokenKind}
use Rattle.prolog_tokens.specs.declared.token.TokenKind.TheVariants as kind
use Rattle.prolog_tokens.specs.declared.token.Token.{Token as TextToken}
use Rattle.prolog_grammar.specs.Token.{variable, integer, Leaf, Joined, Name, Touching, ParenEnd, Comma, End}
use Rattle.prolog_grammar.specs.Rules.{Infix}
use Rattle.prolog_grammar.specs.Fault.{unexpected}
use Rattle.prolog_grammar.specs.Placed.{Tree, tree, Int, Fun, no_trees, more_trees}
use Rattle.prolog_operators.specs.declared.kind.OpKind.TheVariants.{Xfx}
use Rattle.prolog_operators.specs.declared.fault.OpFault.TheVariants.{BadPriority, BadName}
use Rattle.prolog_reader.specs.declared.fault.ReadKind.TheVariants.{Lex, Unexpected}
use Rattle.prolog_tokens.specs.declared.fault.LexKind.TheVariants.{Unclosed}
use Rattle.prolog_terms.specs.Symbols.{none_seen, tokens_of, seen_after_all}
use Rattle.prolog_operators.specs.Table.{standard, setting}
use Rattle.prolog_reader.specs.Words.{words_of}
use Rattle.prolog_reader.specs.Directive.{Effect, sets, refuses, effect}
use Rattle.prolog_reader.specs.Reading.{clause_fault}

abbrev token : TokenKind → ℕ → ℕ → TextToken
token k start end = record { kind = k; start = start; end = end }

-- p(X,_,X). : a parenthesis touches its name, and `_` is another variable
abbrev fact : List ℕ
fact = codes "p(X,_,X)."

abbrev fact_tokens : List TextToken
fact_tokens =
    token kind.Name 0 1 ∷ token kind.Paren 1 2 ∷ token kind.Var 2 3 ∷ token kind.Comma 3 4 ∷ token kind.Var 4 5 ∷ token kind.Comma 5 6 ∷ token kind.Var 6 7 ∷ token kind.ParenEnd 7 8 ∷ token kind.End 8 9 ∷ []

example_variables : tokens_of (codes "p" ∷ []) fact none_seen None fact_tokens
    ≡ Name 0 0 ∷ Touching 1 ∷ Leaf 2 (variable 0) ∷ Comma ∷ Leaf 4 (variable 1) ∷ Comma ∷ Leaf 6 (variable 0) ∷ ParenEnd ∷ End ∷ []
example_variables = refl

example_count : (seen_after_all fact none_seen fact_tokens).count ≡ 2
example_count = refl

-- -1 - 1 : the first 1 belongs to the - before it, and the second does not
example_minus : tokens_of (codes "-" ∷ []) (codes "-1 - 1") none_seen None (token kind.Name 0 1 ∷ token (kind.Int (pos 1)) 1 2 ∷ token kind.Name 3 4 ∷ token (kind.Int (pos 1)) 5 6 ∷ [])
    ≡ Name 0 0 ∷ Joined 1 1 ∷ Name 3 0 ∷ Leaf 5 (integer 1) ∷ []
example_minus = refl

-- the numbers of the names of op clauses, and of two others
abbrev names : List (List ℕ)
names =
    codes ":-" ∷ codes "op" ∷ codes "xfx" ∷ codes "===" ∷ codes "," ∷ codes "[]" ∷ codes "{}" ∷ codes "." ∷ codes "=" ∷ codes "-" ∷ codes "xfy" ∷ codes "yfx" ∷ codes "fx" ∷ codes "fy" ∷ codes "|" ∷ []

abbrev atom : ℕ → Tree
atom n = tree 0 (Fun n no_trees)

-- :- op(P,xfx,N)
abbrev op_clause : Tree → Tree → Tree
op_clause p n = tree 0 (Fun 0 (more_trees (tree 3 (Fun 1 (more_trees p (more_trees (atom 2) (more_trees n no_trees))))) no_trees))

abbrev infix_after : Effect → ℕ → Option Infix
infix_after (sets table) n = table.infixes n
infix_after refuses n = None

-- :- op(700,xfx,===) makes it an operator, for [===] too, and leaves = as it is
example_op : infix_after (effect (words_of names) (standard names) (op_clause (tree 6 (Int (pos 700))) (atom 3))) 3 ≡ Some (record { priority = 700; left = 699; right = 699 })
example_op = refl

example_op_list : infix_after (effect (words_of names) (standard names) (op_clause (tree 6 (Int (pos 700))) (tree 0 (Fun 7 (more_trees (atom 3) (more_trees (atom 5) no_trees)))))) 3
    ≡ Some (record { priority = 700; left = 699; right = 699 })
example_op_list = refl

example_op_others : infix_after (effect (words_of names) (standard names) (op_clause (tree 6 (Int (pos 200))) (atom 3))) 8 ≡ Some (record { priority = 700; left = 699; right = 699 })
example_op_others = refl

-- priority 0 removes it, 1201 and -1 are refused, and so is the comma
example_op_removed : infix_after (effect (words_of names) (standard names) (op_clause (tree 6 (Int (pos 0))) (atom 8))) 8 ≡ None
example_op_removed = refl

example_op_wide : effect (words_of names) (standard names) (op_clause (tree 6 (Int (pos 1201))) (atom 3)) ≡ refuses
example_op_wide = refl

example_op_negative : effect (words_of names) (standard names) (op_clause (tree 6 (Int (negsuc 0))) (atom 3)) ≡ refuses
example_op_negative = refl

example_op_comma : effect (words_of names) (standard names) (op_clause (tree 6 (Int (pos 700))) (atom 4)) ≡ refuses
example_op_comma = refl

-- both wrong: the priority is reported
example_setting : setting (standard names) (pos 1201) Xfx 4 (codes ",") ≡ Err BadPriority
example_setting = refl

example_setting_name : setting (standard names) (pos 1200) Xfx 4 (codes ",") ≡ Err BadName
example_setting_name = refl

-- a text that ends within a clause is unexpected at its end, and a lexical fault counts there
example_end : clause_fault 3 None (token kind.Name 0 1 ∷ []) (Name 0 0 ∷ []) (unexpected []) ≡ (Unexpected, 3)
example_end = refl

example_lexical : clause_fault 3 (Some (record { kind = Unclosed; at = 2 })) (token kind.Name 0 1 ∷ []) (Name 0 0 ∷ []) (unexpected []) ≡ (Lex Unclosed, 2)
example_lexical = refl

example_token : clause_fault 3 None (token kind.Name 0 1 ∷ token kind.ParenEnd 2 3 ∷ []) (Name 0 0 ∷ ParenEnd ∷ []) (unexpected (ParenEnd ∷ [])) ≡ (Unexpected, 2)
example_token = refl
