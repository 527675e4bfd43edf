-- To believe, for the modes.
-- What shows that a row holds on rows, and what shows that it does not.
--
-- To believe: `Shows`, `FailsAt`. That a shown row holds is the law `proofs_are_sound` of this crate.
use Rattle.std.specs.Prelude.{◌≡◌, ℕ, ℤ, pos, negsuc, ◌≤◌, ◌≤ℤ◌, true, List, ◌∷◌, map, length, All}
use Rattle.linear_rows.specs.Rows.{Holds, AllHold}
use Rattle.linear_rows.specs.Proves.{Proves, AllColumnsFit}
use Rattle.linear_rows.specs.Solving.{zeros}
use Rattle.linear_rows.specs.Replacing.{row_fits}
use Rattle.linear_rows.specs.declared.multipliers.Multipliers.{Multipliers}
use Rattle.linear_rows.specs.declared.point.Point.{Point}

-- a natural multiplier for each of n rows, and a natural scale
pub record AreMultipliers (n : ℕ) (m : Multipliers) : Type 0 where
  pub each : length m.list ≡ n
  pub naturals : All (λ x. pos 0 ≤ℤ x) m.list
  pub scale : pos 0 ≤ℤ m.scale

-- the multiplied rows prove the target, and each number fits: those of the target, and those that the test forms
pub record IsShown (rows : List (List ℤ)) (target : List ℤ) (by : Multipliers) : Type 0 where
  pub target_fits : row_fits target ≡ true
  pub proves : Proves rows by.list target by.scale
  pub numbers_fit : AllColumnsFit rows by.list target by.scale

-- multipliers of the rows show the target
pub record Shows (rows : List (List ℤ)) (target : List ℤ) (by : Multipliers) : Type 0 where
  pub multipliers : AreMultipliers (length rows) by
  pub shown : IsShown rows target by

-- the row of n coefficients that holds nowhere: its constant is -1, and its coefficients are 0
abbrev pub bottom_row : ℕ → List ℤ
bottom_row n = negsuc 0 ∷ zeros n

-- a point of n naturals at which the rows hold and the row fails
pub record FailsAt (n : ℕ) (rows : List (List ℤ)) (row : List ℤ) (p : Point) : Type 0 where
  pub t : ℕ
  pub w : List ℕ
  pub t_is : p.t ≡ pos t
  pub w_is : p.w ≡ map pos w
  pub some : 1 ≤ t
  pub long : length w ≡ n
  pub hold : AllHold rows t w
  pub fails : ¬ Holds row t w
