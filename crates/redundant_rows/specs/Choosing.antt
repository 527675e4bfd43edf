-- Private.
-- Parts of rows on which all of them hold.
use Rattle.std.specs.Prelude.{ℕ, suc, ℤ, List}
use Rattle.linear_rows.specs.Members.{In}
use Rattle.linear_rows.specs.Rows.{HoldsOn}
use Rattle.linear_rows.specs.Irredundant.{IsIrredundant}
use Rattle.termination_model.specs.chains.ChainRows.{HasSublist}

-- each of the first rows holds on the second ones
abbrev pub AllHoldOn : ℕ → List (List ℤ) → List (List ℤ) → Type 0
AllHoldOn n rows all = (r : List ℤ) → In r all → HoldsOn (suc n) rows r

-- an irredundant part of rows, on which each of them holds
pub record IsCore (n : ℕ) (all rows : List (List ℤ)) : Type 0 where
  pub part : HasSublist all rows
  pub covers : AllHoldOn n rows all
  pub irredundant : IsIrredundant n rows
