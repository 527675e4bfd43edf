-- Private.
-- Clauses that are made within the limits.
--
-- To believe: `IsSmall`.
use Rattle.std.specs.Prelude.{ℕ, ◌≤◌, ◌∷◌, length, sum_by}
use Rattle.cti_terms.specs.Tree.{nodes_of}
use Rattle.cti_terms.specs.declared.limits.TheConstants.{MOST_ATOMS, MOST_NODES, MOST_VARIABLES}
use Rattle.clause_normal.specs.Rules.{Call, Rule}
use Rattle.clause_normal.specs.Numbering.{order_of}

-- how many nodes the arguments of a call have together
abbrev pub call_nodes : Call → ℕ
call_nodes c = sum_by nodes_of c.args

-- a clause with as many atoms, different variables and nodes as a program's clauses may have at most
pub record IsSmall (r : Rule) : Type 0 where
  pub atoms : length r.body ≤ MOST_ATOMS
  pub variables : length (order_of r) ≤ MOST_VARIABLES
  pub nodes : sum_by call_nodes (r.head ∷ r.body) ≤ MOST_NODES
