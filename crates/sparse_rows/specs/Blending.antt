-- Private.
-- The sum of two multiplied rows.
use Rattle.std.specs.Prelude.{ℤ, List}
use Rattle.linear_rows.specs.RowSums.{scaled, added}

-- the sum of two rows, the one times a and the other times b
abbrev pub blended : ℤ → ℤ → List ℤ → List ℤ → List ℤ
blended a b r s = added (scaled a r) (scaled b s)
