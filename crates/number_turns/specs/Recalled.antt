-- Private.
-- To believe, for the modes by measures of numbers.
-- Transitions and numbers of mappings as the code holds them.
--
-- To believe: all of this file.
use Rattle.std.specs.Prelude.{◌≡◌, ◌≤ℤ◌, ℤ, pos, true, All, List, map, Option, None, Some}
use Rattle.std.specs.Borrow.{Bor}
use Rattle.std.specs.List.{AllByRecursion}
use Rattle.linear_rows.specs.Plain.{plain_row, plain_rows}
use Rattle.linear_rows.specs.Replacing.{row_fits}
use Rattle.linear_rows.specs.declared.row.Row.{Row}
use Rattle.termination_model.specs.columns.ColumnRows.{or_empty}
use Rattle.transitions.specs.StuckSets.{Feature as Number}
use Rattle.transitions.specs.Transitions.{Transition as Recalled}
use Rattle.number_turns.specs.declared.feature.Feature.{Feature}
use Rattle.number_turns.specs.declared.transition.Transition.{Transition}

-- a number of a mapping as a pair
abbrev pub spelled : Feature → Number
spelled f = (f.member, f.number)

-- a column's row, where there is one
abbrev pub column_of : Option Row → Option (List ℤ)
column_of None = None
column_of (Some r) = Some (plain_row r)

-- a held transition, over as many naturals as its rows are wide
abbrev pub recalled : Transition → Recalled
recalled τ = record {
  vars = τ.rows.width;
  rows = plain_rows τ.rows.list;
  head = τ.head.member;
  head_columns = map column_of τ.head.columns;
  call = τ.call.member;
  call_columns = map column_of τ.call.columns;
}

-- the transitions that are referred to
abbrev pub held_of : List (Bor Transition) → List Transition
held_of τs = map (λ τ. τ.now) τs

abbrev pub recalled_of : List (Bor Transition) → List Recalled
recalled_of τs = map recalled (held_of τs)

-- what a column counts is natural, where it has a row
abbrev pub IsNatural : Option (List ℤ) → Type 0
IsNatural e = All (λ z. pos 0 ≤ℤ z) (or_empty e)

-- the numbers of the rows fit, and those of the columns are natural
pub record HasNumbers (τ : Recalled) : Type 0 where
  pub rows : AllByRecursion (λ (r : List ℤ). row_fits r ≡ true) τ.rows
  pub head : AllByRecursion IsNatural τ.head_columns
  pub call : AllByRecursion IsNatural τ.call_columns
