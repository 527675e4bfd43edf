-- To believe, for the modes.
-- Sums of products of two lists of whole numbers without bound.
--
-- To believe: `entry` and `dot`. The value of a linear row at a point is one such sum.
use Rattle.std.specs.Prelude.{ℕ, ℤ, pos, List, [], ◌∷◌, ◌<◌, ◌≤◌, ◌+ℤ◌, ◌*ℤ◌, take, slice_index_or}
use Rattle.exact128.specs.Fits.{Fits}

-- the number at a place of a list, or 0 past its end
abbrev pub entry : List ℤ → ℕ → ℤ
entry xs k = slice_index_or xs k (pos 0)

-- the dot product of two lists: the sum of their products, place by place, up to the end of the shorter one
unfoldable pub dot : List ℤ → List ℤ → ℤ
dot [] ys = pos 0
dot (x ∷ xs) [] = pos 0
dot (x ∷ xs) (y ∷ ys) = x *ℤ y +ℤ dot xs ys

-- each of the first n products of two lists fits, and so does each sum of at most n of them from the first on
pub record DotFits (n : ℕ) (xs ys : List ℤ) : Type 0 where
  pub products : (k : ℕ) → k < n → Fits (entry xs k *ℤ entry ys k)
  pub sums : (k : ℕ) → k ≤ n → Fits (dot (take k xs) (take k ys))
