-- Private.
-- What is made of a clause for the steps on it.
--
-- To believe: `IsClauseSystem`.
use Rattle.std.specs.Prelude.{◌≡◌, ℕ, suc, ◌+◌, ℤ, List, map, length, Option, None, Some, All}
use Rattle.cti_terms.specs.declared.clauses.Clause.{Clause}
use Rattle.linear_rows.specs.Plain.{plain_row, plain_rows, HaveWidth}
use Rattle.linear_rows.specs.declared.row.Row.{Row}
use Rattle.linear_rows.specs.declared.system.System.{System}
use Rattle.termination_model.specs.sizes.ShortSystems.{short_row}
use Rattle.termination_model.specs.sizes.Sizes.{wide_rows}
use Rattle.polyhedra.specs.Telling.{IsSystem, HasNaturalHead}
use Rattle.size_chains.specs.Systems.{Systems, body_of, head_of, missing, naturals_of, system, tied, widened}
use Rattle.size_chains.specs.declared.clause_system.ClauseSystem.{ClauseSystem}

-- the numbers of a row, where there is one
abbrev pub plain_or_none : Option Row → Option (List ℤ)
plain_or_none None = None
plain_or_none (Some r) = Some (plain_row r)

-- a clause's system over its own naturals: zeros stand in the place of each row with a number that does not fit, and
-- `wide` says whether there is one
pub record IsClauseSystem (s : Systems) (rows : ℕ → List (List ℤ)) (k : Clause) (x : ClauseSystem) : Type 0 where
  pub naturals : x.naturals ≡ s.naturals k
  pub width : x.rows.width ≡ x.naturals
  pub widths : HaveWidth x.naturals x.rows.list
  pub body : plain_rows x.rows.list ≡ map short_row (system s rows k k.body)
  pub wide : x.wide ≡ wide_rows (system s rows k k.body)
  pub heads : map plain_or_none x.head ≡ s.heads k

-- a clause's system with a natural for each column that has no expression
pub record IsTied (x : ClauseSystem) (s : System) : Type 0 where
  pub variables : s.variables ≡ x.naturals + missing (map plain_or_none x.head)
  pub rows_width : s.rows.width ≡ s.variables
  pub head_width : s.head.width ≡ s.variables
  pub rows_widths : HaveWidth s.variables s.rows.list
  pub head_widths : HaveWidth s.variables s.head.list
  pub rows : plain_rows s.rows.list ≡ map (widened (missing (map plain_or_none x.head))) (plain_rows x.rows.list)
  pub head : plain_rows s.head.list ≡ tied x.naturals (missing (map plain_or_none x.head)) 0 (map plain_or_none x.head)
  pub wide : s.wide ≡ x.wide

-- so that it is the clause's system
pub record IsSystemOf (s : Systems) (rows : ℕ → List (List ℤ)) (k : Clause) (x : System) : Type 0 where
  pub variables : x.variables ≡ naturals_of s k
  pub body : plain_rows x.rows.list ≡ map short_row (body_of s rows k)
  pub wide : x.wide ≡ wide_rows (body_of s rows k)
  pub head : plain_rows x.head.list ≡ head_of s k

-- what is known of it
pub record IsMade (s : Systems) (rows : ℕ → List (List ℤ)) (k : Clause) (x : System) : Type 0 where
  pub of : IsSystemOf s rows k x
  pub long : All (λ r. length r ≡ suc (s.naturals k)) (map short_row (system s rows k k.body))
  pub system : IsSystem x
  pub natural : HasNaturalHead x
