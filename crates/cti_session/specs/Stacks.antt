-- Private.
-- What is left to be counted on a stack, whose last element is on top. Nothing here has to be believed.
use Rattle.std.specs.Prelude.{ℕ, ◌+◌, ◌*◌, List, [], ◌∷◌, map, length}
use Rattle.std.specs.Borrow.{Bor}
use Rattle.prolog_terms.specs.declared.term.ReadTerm.{ReadTerm}
use Rattle.prolog_terms.specs.Clauses.{all_nodes, row}
use Rattle.prolog_terms.specs.Terms.{tree_of}

-- how many nodes some terms have together
abbrev pub list_nodes : List ReadTerm → ℕ
list_nodes ts = all_nodes (row (map tree_of ts))

-- how many nodes there are on a stack
abbrev pub stack_nodes : List (Bor (List ReadTerm)) → ℕ
stack_nodes [] = 0
stack_nodes (ts ∷ below) = stack_nodes below + list_nodes ts.now

-- how much there is to do
abbrev pub stack_work : List (Bor (List ReadTerm)) → ℕ
stack_work stack = 2 * stack_nodes stack + length stack
