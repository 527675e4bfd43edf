-- Private.
-- Clauses whose atoms have size rows, and their systems, an atom at a time. Nothing here has to be believed.
use Rattle.std.specs.Prelude.{◌≡◌, ℕ, ◌-◌, ◌<◌, ◌≤◌, ℤ, List, IsTrue, map, length, take, slice_get, Some}
use Rattle.std.specs.List.{AllByRecursion}
use Rattle.cti_terms.specs.Listing.{Listing, atom_nodes}
use Rattle.cti_terms.specs.Tree.{Tree, is_below}
use Rattle.cti_terms.specs.declared.atom_list.Atom.{Atom}
use Rattle.cti_terms.specs.declared.clauses.Clause.{Clause}
use Rattle.cti_terms.specs.declared.limits.TheConstants.{MOST_NODES, MOST_VARIABLES}
use Rattle.linear_rows.specs.Plain.{HaveWidth, plain_rows}
use Rattle.linear_rows.specs.declared.row.Rows.{Rows}
use Rattle.linear_rows.specs.declared.system.System.{System}
use Rattle.termination_model.specs.sizes.Sizes.{wide_system}
use Rattle.termination_model.specs.sizes.ShortSystems.{short_system}
use Rattle.number_tests.specs.declared.reached.Reached.{Reached}

-- an atom whose predicate has size rows over its arguments, and whose variables are below vars
pub record IsSizedAtom (sizes : List Rows) (vars : ℕ) (a : Atom) : Type 0 where
  pub there : a.pred.0 < length sizes
  pub own : (r : Rows) → slice_get sizes a.pred.0 ≡ Some r → HaveWidth (length a.args) r.list
  pub below : AllByRecursion (λ t. IsTrue (is_below vars t)) a.args
  pub small : atom_nodes a ≤ MOST_NODES

pub record IsSizedClause (sizes : List Rows) (c : Clause) : Type 0 where
  pub head : IsSizedAtom sizes c.vars c.head
  pub body : AllByRecursion (IsSizedAtom sizes c.vars) c.body
  pub few : c.vars ≤ MOST_VARIABLES

module _ (expression : ℕ → Tree → List ℤ) (size_rows : ℕ → List (List ℤ)) where
  -- the system of a clause's first j atoms, with the sizes of its head's arguments
  pub record IsSystemUpTo (c : Clause) (j : ℕ) (s : System) : Type 0 where
    pub variables : s.variables ≡ c.vars
    pub width : s.rows.width ≡ c.vars
    pub widths : HaveWidth c.vars s.rows.list
    pub rows : plain_rows s.rows.list ≡ short_system expression size_rows c.vars (take j c.body)
    pub wide : s.wide ≡ wide_system expression size_rows c.vars (take j c.body)
    pub head_width : s.head.width ≡ c.vars
    pub head : plain_rows s.head.list ≡ map (expression c.vars) c.head.args

  -- the system is that of the clause of its number, where it has one
  abbrev pub IsReached : Listing → Reached → Type 0
  IsReached p r = (c : Clause) → 1 ≤ r.clause → slice_get p.clauses (r.clause - 1) ≡ Some c → IsSystemUpTo c r.atoms r.system
