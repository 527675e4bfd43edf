-- To believe, for the modes by lists of mappings.
-- The system of a turn: what coefficients, offsets, drops and multipliers have to obey so that a mapping rises at none
-- of the calls that remain, and falls at one of them at least.
--
-- The unknowns are the coefficients of the positions, one offset for each member, one drop for each remaining call, and
-- for each of these calls one multiplier for each row before it. There is one row for each call and each column of its
-- rule, the constant first: the level of the head, less that of the call, less the multiplied rows, is at least 0
-- there, and in the column of constants at least the call's drop. The last row says that the drops are together at
-- least 1.
--
-- This retells a procedure, but for the laws: a point gives a mapping with its drops, and multipliers that refute the
-- system give a stuck set.
use Rattle.std.specs.Prelude.{ℕ, zero, suc, ◌+◌, ℤ, pos, negsuc, List, [], ◌∷◌, ◌++◌, map, length}
use Rattle.cti_terms.specs.Tree.{Tree}
use Rattle.linear_rows.specs.Step.{columns}
use Rattle.linear_rows.specs.Solving.{zeros}
use Rattle.termination_model.specs.mappings.OwnCalls.{OwnCall, Position, rows_before}
use Rattle.termination_model.specs.mappings.SupportSystem.{less_one, position_entries, offset_entries, multiplier_entries, row_count}

abbrev pub ones : ℕ → List ℤ
ones zero = []
ones (suc n) = pos 1 ∷ ones n

-- what the drops count in a column of a call's row, with the given number of calls before and after it
abbrev pub drop_entries : ℕ → ℕ → ℕ → List ℤ
drop_entries earlier later x = zeros earlier ++ (less_one x ∷ zeros later)

-- the calls whose drop is 0 remain
abbrev pub left : {X : Type 0} → List X → List ℕ → List X
left [] ds = []
left (o ∷ os) [] = o ∷ os
left (o ∷ os) (zero ∷ ds) = o ∷ left os ds
left (o ∷ os) (suc d ∷ ds) = left os ds

module _ (expression : ℕ → Tree → List ℤ) (positions : List Position) (members : List ℕ) where
  -- the row of a call and a column, with the given numbers of drops and of multipliers of other calls before and after
  -- its own
  abbrev pub turn_row : ℕ → ℕ → ℕ → ℕ → OwnCall → ℕ → List ℤ
  turn_row earlier later before after o x =
      pos 0 ∷ (position_entries expression positions members o x ++ (offset_entries expression positions members o x
      ++ (drop_entries earlier later x ++ (zeros before ++ (multiplier_entries expression positions members o x ++ zeros after)))))

  abbrev pub call_turn_rows : ℕ → ℕ → ℕ → ℕ → OwnCall → List (List ℤ)
  call_turn_rows earlier later before after o = map (turn_row earlier later before after o) (columns 0 (suc o.rule.vars))

  abbrev pub turn_rows_from : ℕ → ℕ → List OwnCall → List (List ℤ)
  turn_rows_from earlier before [] = []
  turn_rows_from earlier before (o ∷ os) =
      call_turn_rows earlier (length os) before (row_count expression positions members os) o
      ++ turn_rows_from (suc earlier) (before + length (rows_before expression o)) os

  -- the drops are together at least 1
  abbrev pub sum_row : List OwnCall → List ℤ
  sum_row os = negsuc 0 ∷ (zeros (length positions) ++ (zeros (length members) ++ (ones (length os) ++ zeros (row_count expression positions members os))))

  -- the rows of the system for the calls that remain, and how many unknowns it has
  abbrev pub turn_rows : List OwnCall → List (List ℤ)
  turn_rows os = turn_rows_from 0 0 os ++ sum_row os ∷ []

  abbrev pub turn_unknowns : List OwnCall → ℕ
  turn_unknowns os = length positions + (length members + (length os + row_count expression positions members os))
