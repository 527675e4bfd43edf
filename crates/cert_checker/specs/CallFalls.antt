-- Private.
-- A call of a clause's own component, as its mappings are tested. Nothing here has to be believed.
use Rattle.std.specs.Prelude.{◌≡◌, ◌↔◌, ℕ, ◌<◌, ◌≤◌, ℤ, List, IsTrue, map, length, Option, None}
use Rattle.std.specs.List.{AllByRecursion}
use Rattle.cert_structure.specs.Numbered.{lines_from}
use Rattle.cert_structure.specs.Order.{falls_line}
use Rattle.cti_terms.specs.Listing.{atom_nodes}
use Rattle.cti_terms.specs.Tree.{Tree, is_below}
use Rattle.cti_terms.specs.declared.atom_list.Atom.{Atom}
use Rattle.cti_terms.specs.declared.clauses.Clause.{Clause}
use Rattle.cti_terms.specs.declared.limits.TheConstants.{MOST_NODES, MOST_VARIABLES}
use Rattle.linear_rows.specs.Plain.{HaveWidth, plain_rows}
use Rattle.linear_rows.specs.Showing.{AreMultipliers}
use Rattle.linear_rows.specs.declared.multipliers.Multipliers.{Multipliers}
use Rattle.linear_rows.specs.declared.system.System.{System}
use Rattle.number_tests.specs.Proved.{MappingsFall}
use Rattle.number_tests.specs.Shape.{IsLevelPart, list_at}
use Rattle.number_tests.specs.Targets.{AreFallColumns}
use Rattle.number_tests.specs.declared.level_part.LevelPart.{LevelPart}
use Rattle.cert_checker.specs.Finding.{Finds, MappingsFail}
use Rattle.cert_checker.specs.declared.fault.Fault.{Fault}

-- the head and the call have a part for each mapping that has multipliers, and the system is of the clause
pub record IsReadyCall (expression : ℕ → Tree → List ℤ) (levels : List (List LevelPart)) (c : Clause) (b : Atom) (s : System) (ms : List Multipliers) : Type 0 where
  pub few : c.vars ≤ MOST_VARIABLES
  pub small : atom_nodes b ≤ MOST_NODES
  pub below : AllByRecursion (λ t. IsTrue (is_below c.vars t)) b.args
  pub head_there : c.head.pred.0 < length levels
  pub call_there : b.pred.0 < length levels
  pub heads : AllByRecursion (IsLevelPart (length c.head.args)) (list_at levels c.head.pred.0)
  pub calls : AllByRecursion (IsLevelPart (length b.args)) (list_at levels b.pred.0)
  pub heads_count : length (list_at levels c.head.pred.0) ≡ length ms
  pub calls_count : length (list_at levels b.pred.0) ≡ length ms
  pub multipliers : AllByRecursion (AreMultipliers (length s.rows.list)) ms
  pub width : s.rows.width ≡ c.vars
  pub widths : HaveWidth c.vars s.rows.list
  pub head_width : s.head.width ≡ c.vars
  pub head : plain_rows s.head.list ≡ map (expression c.vars) c.head.args

-- whether all mappings fall, and else the fault of the first one that fails over the columns of the head and the call
pub record FindsCall (expression : ℕ → Tree → List ℤ) (levels : List (List LevelPart)) (c : Clause) (b : Atom) (s : System) (ms : List Multipliers) (first : ℕ) (o : Option Fault) : Type 0 where
  pub hold : (o ≡ None) ↔ MappingsFall expression (plain_rows s.rows.list) c b (list_at levels c.head.pred.0) (list_at levels b.pred.0) ms
  pub columns : List (List ℤ)
  pub are : AreFallColumns (map (expression c.vars) c.head.args) (map (expression c.vars) b.args) c.vars columns
  pub finds : (k j : ℕ) → Finds (MappingsFail (plain_rows s.rows.list) columns (list_at levels c.head.pred.0) (list_at levels b.pred.0)) first (lines_from 0 (falls_line k j) ms) o
