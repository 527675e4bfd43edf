-- A procedure, to believe for who is blown.
-- The system of a support: what coefficients at these positions, offsets and multipliers have to obey so that the
-- mapping falls at each of these calls.
--
-- The unknowns are the coefficients of the positions, one offset for each member, and for each call one multiplier for
-- each row before it. There is one row for each call and each column of its rule, the constant first: the level of the
-- head, less that of the call, less the multiplied rows, is at least 0 there, and in the column of constants at least
-- 1.
--
-- This retells a procedure, but for the laws: a point gives a mapping with its falls, and multipliers that refute the
-- system exclude every mapping at these positions.
use Rattle.std.specs.Prelude.{ℕ, zero, suc, ◌+◌, ◌==◌, ℤ, pos, negsuc, neg_ℤ, ◌-ℤ◌, if◌then◌else◌, List, [], ◌∷◌, ◌++◌, map, length, slice_index_or}
use Rattle.exact128.specs.Sums.{entry}
use Rattle.cti_terms.specs.Tree.{Tree}
use Rattle.linear_rows.specs.Step.{columns}
use Rattle.linear_rows.specs.Solving.{zeros}
use Rattle.termination_model.specs.claims.Claims.{Mapping}
use Rattle.termination_model.specs.mappings.OwnCalls.{OwnCall, Position, rows_before, head_sizes, call_sizes}

-- what a position's coefficient counts in a column of the level of an atom of the member q with these sizes
abbrev pub share : ℕ → List (List ℤ) → ℕ → Position → ℤ
share q sizes x p = if q == p.0 then entry (slice_index_or sizes p.1 []) x else pos 0

-- what a member's offset counts there
abbrev pub offset_share : ℕ → ℕ → ℕ → ℤ
offset_share q zero m = if q == m then pos 1 else pos 0
offset_share q (suc x) m = pos 0

-- the 1 by which levels fall
abbrev pub less_one : ℕ → ℤ
less_one zero = negsuc 0
less_one (suc x) = pos 0

module _ (expression : ℕ → Tree → List ℤ) (positions : List Position) (members : List ℕ) where
  abbrev pub position_entries : OwnCall → ℕ → List ℤ
  position_entries o x = map (λ p. share o.rule.member (head_sizes expression o) x p -ℤ share o.member (call_sizes expression o) x p) positions

  abbrev pub offset_entries : OwnCall → ℕ → List ℤ
  offset_entries o x = map (λ m. offset_share o.rule.member x m -ℤ offset_share o.member x m) members

  abbrev pub multiplier_entries : OwnCall → ℕ → List ℤ
  multiplier_entries o x = map (λ r. neg_ℤ (entry r x)) (rows_before expression o)

  -- the row of a call and a column, with the given number of multipliers of other calls before and after its own
  abbrev pub call_row : ℕ → ℕ → OwnCall → ℕ → List ℤ
  call_row before after o x =
      less_one x ∷ (position_entries o x ++ (offset_entries o x ++ (zeros before ++ (multiplier_entries o x ++ zeros after))))

  abbrev pub call_rows : ℕ → ℕ → OwnCall → List (List ℤ)
  call_rows before after o = map (call_row before after o) (columns 0 (suc o.rule.vars))

  -- how many rows calls have before them
  abbrev pub row_count : List OwnCall → ℕ
  row_count [] = 0
  row_count (o ∷ os) = length (rows_before expression o) + row_count os

  abbrev pub rows_from : ℕ → List OwnCall → List (List ℤ)
  rows_from before [] = []
  rows_from before (o ∷ os) = call_rows before (row_count os) o ++ rows_from (before + length (rows_before expression o)) os

  -- the rows of the system, and how many unknowns it has
  abbrev pub support_rows : List OwnCall → List (List ℤ)
  support_rows os = rows_from 0 os

  abbrev pub unknowns : List OwnCall → ℕ
  unknowns os = length positions + (length members + row_count os)

-- the value of a position, where each of these has one; 0 at other positions
abbrev pub value_of_position : List Position → List ℕ → ℕ → ℕ → ℕ
value_of_position [] ws q a = 0
value_of_position (p ∷ ps) [] q a = 0
value_of_position (p ∷ ps) (w ∷ ws) q a = (if q == p.0 then (if p.1 == a then w else 0) else 0) + value_of_position ps ws q a

abbrev pub value_of_member : List ℕ → List ℕ → ℕ → ℕ
value_of_member [] ws q = 0
value_of_member (m ∷ ms) [] q = 0
value_of_member (m ∷ ms) (w ∷ ws) q = (if q == m then w else 0) + value_of_member ms ws q

-- the mapping with these values, where a predicate has the given arity
abbrev pub mapping_at : (ℕ → ℕ) → List Position → List ℕ → List ℕ → List ℕ → Mapping
mapping_at arity positions members cs os = record {
  coefficients = λ q. map (value_of_position positions cs q) (columns 0 (arity q));
  offset = λ q. value_of_member members os q;
}
