-- To believe, for reading.
-- How much a text may hold.
--
-- To believe: all of this file.
use Rattle.std.specs.Prelude.{ℕ}

-- the most bytes of a text
abbrev pub most_bytes : ℕ
most_bytes = 1048576
