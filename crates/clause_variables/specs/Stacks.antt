-- Private.
-- What is on a stack, whose last element is on top. Nothing here has to be believed.
use Rattle.std.specs.Prelude.{ℕ, ◌+◌, ◌*◌, List, [], ◌∷◌, ◌++◌, map}
use Rattle.std.specs.Borrow.{Bor}
use Rattle.prolog_terms.specs.declared.term.ReadTerm.{ReadTerm}
use Rattle.prolog_terms.specs.Clauses.{all_nodes, row}
use Rattle.prolog_terms.specs.Terms.{tree_of}
use Rattle.clause_variables.specs.Terms.{list_variables}
use Rattle.clause_variables.specs.TermViews.{plain_of}

-- the variables of the terms on a stack, those on top first
abbrev pub stack_variables : List (Bor (List ReadTerm)) → List ℕ
stack_variables [] = []
stack_variables (ts ∷ below) = stack_variables below ++ list_variables (map plain_of ts.now)

-- how much there is to do
abbrev pub list_work : List ReadTerm → ℕ
list_work ts = 1 + 2 * all_nodes (row (map tree_of ts))

abbrev pub stack_work : List (Bor (List ReadTerm)) → ℕ
stack_work [] = 0
stack_work (ts ∷ below) = stack_work below + list_work ts.now
