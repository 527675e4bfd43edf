-- Private.
-- The numbers of a fall, as the code sums them. Nothing here has to be believed.
use Rattle.std.specs.Prelude.{◌≡◌, ◌<◌, ◌≤ℤ◌, ℕ, suc, ℤ, pos, List, [], ◌∷◌, ◌++◌, All, length, slice_index_or}
use Rattle.termination_model.specs.sizes.Replacing.{column_over}
use Rattle.number_tests.specs.Drops.{drop_weights}
use Rattle.number_tests.specs.declared.level_part.LevelPart.{LevelPart}

-- each column of the first list, followed by that of the second
abbrev pub joined : List (List ℤ) → List (List ℤ) → List (List ℤ)
joined [] ys = []
joined (x ∷ xs) [] = []
joined (x ∷ xs) (y ∷ ys) = (x ++ y) ∷ joined xs ys

-- the columns of a head's expressions over the given number of variables, each followed by that of a call's
pub record AreFallColumns (head call : List (List ℤ)) (vars : ℕ) (columns : List (List ℤ)) : Type 0 where
  pub count : length columns ≡ suc vars
  pub each : (x : ℕ) → x < suc vars → slice_index_or columns x [] ≡ column_over head x ++ column_over call x

-- the head's offset and coefficients, and the call's with the other sign, and 1 less
abbrev pub fall_weights : LevelPart → LevelPart → List ℤ
fall_weights = drop_weights 1

-- natural numbers of the call, and columns as long as the weights
pub record CanBeWeighed (columns : List (List ℤ)) (head call : LevelPart) : Type 0 where
  pub offset : pos 0 ≤ℤ call.offset
  pub naturals : All (λ x. pos 0 ≤ℤ x) call.coeffs
  pub long : All (λ c. length c ≡ length (fall_weights head call)) columns
