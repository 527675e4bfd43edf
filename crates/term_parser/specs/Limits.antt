-- Private.
-- How much may be open. Nothing here has to be believed.
use Rattle.std.specs.Prelude.{ℕ}

-- the most openers under which an operand may begin
abbrev pub most_openers : ℕ
most_openers = 1000
