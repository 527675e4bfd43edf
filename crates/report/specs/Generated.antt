-- To believe, for the command.
-- The text of a program of the given number of predicates, for trying the analysis on larger programs. Predicate k is
-- named p with the number k.
--
-- Predicates come by threes: one appends lists, the next reverses a list by the one before, and the third reverses it
-- twice.
--
-- To believe: all of this file.
use Rattle.std.specs.Prelude.{ℕ, List, ◌++◌, ◌==◌, ◌-◌, ◌%◌, codes, decimal, flat_map, if◌then◌else◌}
use Rattle.linear_rows.specs.Step.{columns}

-- the name of predicate k, and what follows it
unfoldable pub named : ℕ → List ℕ → List ℕ
named k rest = codes "p" ++ decimal k ++ rest

-- predicate k appends two lists
abbrev pub appends : ℕ → List ℕ
appends k = named k (codes "([],L,L).\n") ++ named k (codes "([H|T],L,[H|R]) :- ") ++ named k (codes "(T,L,R).\n")

-- a list that is not empty is reversed by reversing its rest, and appending by predicate k - 1
abbrev pub reverses_more : ℕ → List ℕ
reverses_more k = named k (codes "([H|T],R) :- ") ++ named k (codes "(T,S), ") ++ named (k - 1) (codes "(S,[H],R).\n")

-- predicate k reverses a list
abbrev pub reverses : ℕ → List ℕ
reverses k = named k (codes "([],[]).\n") ++ reverses_more k

-- predicate k does twice what the one before does
abbrev pub repeats : ℕ → List ℕ
repeats k = named k (codes "(X,Y) :- ") ++ named (k - 1) (codes "(X,Z), ") ++ named (k - 1) (codes "(Z,Y).\n")

-- the clauses of predicate k, a line for each
abbrev pub predicate : ℕ → List ℕ
predicate k = if k % 3 == 1 then appends k else if k % 3 == 2 then reverses k else repeats k

-- the text of n predicates
abbrev pub generated : ℕ → List ℕ
generated n = flat_map predicate (columns 1 n)
