-- To believe, for the modes.
-- Sums and multiples of rows, column by column.
--
-- To believe: `scaled`, `added`.
use Rattle.std.specs.Prelude.{ℤ, List, [], ◌∷◌, ◌+ℤ◌, ◌*ℤ◌, map}

-- a row times a number
abbrev pub scaled : ℤ → List ℤ → List ℤ
scaled m xs = map (λ x. m *ℤ x) xs

-- the sum of two rows
abbrev pub added : List ℤ → List ℤ → List ℤ
added [] ys = ys
added (x ∷ xs) [] = x ∷ xs
added (x ∷ xs) (y ∷ ys) = (x +ℤ y) ∷ added xs ys
