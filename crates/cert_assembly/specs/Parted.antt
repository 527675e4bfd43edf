-- Private.
-- A predicate's part in a mapping, which is one of zeros where the mapping has none.
--
-- Nothing here has to be believed.
use Rattle.std.specs.Prelude.{ℕ, pos, Option, None, Some}
use Rattle.linear_rows.specs.Solving.{zeros}
use Rattle.number_tests.specs.declared.level_part.LevelPart.{LevelPart}

-- a part of zeros
abbrev pub zero_part : ℕ → LevelPart
zero_part n = record { coeffs = zeros n; offset = pos 0 }

abbrev pub part_or_zero : ℕ → Option LevelPart → LevelPart
part_or_zero n None = zero_part n
part_or_zero n (Some part) = part
