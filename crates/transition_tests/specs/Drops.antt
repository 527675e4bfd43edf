-- Private.
-- To believe, for the modes by measures of numbers.
-- What multipliers have to show of a list of measures at a transition: that it drops.
--
-- There are multipliers for each measure up to the place of the call, which is the last one, and a floor. They show
-- that no measure before the place rises from the head to the call, that the one at the place falls by 1, and, the
-- floor, that this one is at least 0 on the head. A measure is given by its parts at the member of the head and at that
-- of the call.
--
-- To believe: all of this file.
use Rattle.std.specs.Prelude.{ℕ, ℤ, List, [], ◌∷◌, map, Option}
use Rattle.linear_rows.specs.declared.multipliers.Multipliers.{Multipliers}
use Rattle.number_tests.specs.declared.level_part.LevelPart.{LevelPart}
use Rattle.termination_model.specs.columns.ColumnClaims.{Mapping, difference}
use Rattle.termination_model.specs.columns.ColumnRows.{row_over}
use Rattle.transitions.specs.Transitions.{Transition}
use Rattle.transition_tests.specs.Targets.{IsTargetShown}

-- the part of a mapping at a member
abbrev pub part_of : ℕ → Mapping → LevelPart
part_of q l = record { coeffs = l.coefficients q; offset = l.offset q }

-- the parts of mappings at a member
abbrev pub parts_of : ℕ → List Mapping → List LevelPart
parts_of q ls = map (part_of q) ls

-- the level of an atom with these columns, as a row over n naturals
abbrev pub level_by : ℕ → List (Option (List ℤ)) → LevelPart → Option (List ℤ)
level_by n es part = row_over n es (part.offset ∷ part.coeffs)

-- the level of the head, less that of the call, less d
abbrev pub fall_by : Transition → ℕ → LevelPart → LevelPart → Option (List ℤ)
fall_by τ d head call = difference d (level_by τ.vars τ.head_columns head) (level_by τ.vars τ.call_columns call)

-- the multipliers show a target over the rows of a transition
abbrev pub IsShownAt : Transition → Option (List ℤ) → Multipliers → Type 0
IsShownAt τ target by = IsTargetShown τ.rows τ.vars target by

-- the measures with these parts drop: multipliers up to the place, and the floor
abbrev pub IsDropped : Transition → List LevelPart → List LevelPart → List Multipliers → Multipliers → Type 0
IsDropped τ heads calls [] floor = ⊥
IsDropped τ [] calls (by ∷ drops) floor = ⊥
IsDropped τ (head ∷ heads) [] (by ∷ drops) floor = ⊥
IsDropped τ (head ∷ heads) (call ∷ calls) (by ∷ []) floor =
    IsShownAt τ (fall_by τ 1 head call) by × IsShownAt τ (level_by τ.vars τ.head_columns head) floor
IsDropped τ (head ∷ heads) (call ∷ calls) (by ∷ (next ∷ drops)) floor =
    IsShownAt τ (fall_by τ 0 head call) by × IsDropped τ heads calls (next ∷ drops) floor
