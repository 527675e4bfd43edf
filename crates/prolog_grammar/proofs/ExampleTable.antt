-- A table of operators for the worked examples, and names by what they stand for.
use Rattle.std.proofs.Common.{ℕ, pred, Option, Some, None, cond, eqb}
use Rattle.prolog_grammar.specs.Rules.{Infix, Prefix, Rules}
use Rattle.prolog_grammar.specs.Syntax.{Syntax, syntax_rules}

abbrev pub equals : ℕ
equals = 0

abbrev pub minus : ℕ
minus = 1

abbrev pub arrow : ℕ
arrow = 2

abbrev pub neck : ℕ
neck = 3

abbrev pub cell : ℕ
cell = 4

abbrev pub query : ℕ
query = 5

abbrev pub semicolon : ℕ
semicolon = 6

abbrev pub nil : ℕ
nil = 7

abbrev pub curly : ℕ
curly = 8

abbrev pub comma : ℕ
comma = 9

abbrev pub f : ℕ
f = 10

abbrev pub a : ℕ
a = 11

abbrev pub b : ℕ
b = 12

abbrev pub c : ℕ
c = 13

abbrev pub x : ℕ
x = 20

-- an infix operator with both sides below it
abbrev xfx : ℕ → Option Infix
xfx priority = Some (record { priority = priority; left = pred priority; right = pred priority })

-- an infix operator with a left side up to it, and one with a right side up to it
abbrev yfx : ℕ → Option Infix
yfx priority = Some (record { priority = priority; left = priority; right = pred priority })

abbrev xfy : ℕ → Option Infix
xfy priority = Some (record { priority = priority; left = pred priority; right = priority })

-- = is 700 xfx, - is 500 yfx, --> and :- are 1200 xfx, and ; is 1100 xfy
abbrev pub infixes : ℕ → Option Infix
infixes n = cond (eqb n equals) (xfx 700)
    (cond (eqb n minus) (yfx 500)
    (cond (eqb n arrow) (xfx 1200)
    (cond (eqb n neck) (xfx 1200)
    (cond (eqb n semicolon) (xfy 1100) None))))

-- - is 200 fy, and :- and ?- are 1200 fx
abbrev pub prefixes : ℕ → Option Prefix
prefixes n = cond (eqb n minus) (Some (record { priority = 200; right = 200 }))
    (cond (eqb n neck) (Some (record { priority = 1200; right = 1199 }))
    (cond (eqb n query) (Some (record { priority = 1200; right = 1199 })) None))

-- the table, with trees that keep all tokens
abbrev pub table : Rules Syntax
table = syntax_rules infixes prefixes comma
