-- A procedure, to believe for who is blown.
-- What allows a step of a chain to be weak.
--
-- To believe: `IsLicensed`, over what is known of a step's clause: the facts of a row over the head's arguments that it
-- holds there, that it fails at a point of it, and that its test there is blown.
use Rattle.std.specs.Prelude.{ℕ, ◌<◌, ◌≤◌, ℤ, ◌⊎◌, List}
use Rattle.std.specs.List.{AllByRecursion}
use Rattle.linear_rows.specs.Systems.{join_blown}
use Rattle.linear_rows.specs.Irredundant.{TestIsBlown}
use Rattle.termination_model.specs.chains.ChainRows.{bottom_row, IsBlown}
use Rattle.termination_model.specs.claims.Claims.{SomeOf}

module _ (n : ℕ) (HoldsThere FailsThere IsBlownThere : List ℤ → Type 0) (pass : ℕ) (old image : List (List ℤ)) where
  -- a row is known to fail, so that rows have to be joined, and the join's system is blown
  abbrev pub JoinIsBlown : Type 0
  JoinIsBlown = (pass ≤ 3) × SomeOf FailsThere old × IsBlown (join_blown n old image)

  -- the test of a row is blown, and no join is wanted: the passes of joins are over, or no row is known to fail
  abbrev pub RowIsBlown : Type 0
  RowIsBlown = SomeOf IsBlownThere old × ((3 < pass) ⊎ AllByRecursion (λ r. HoldsThere r ⊎ IsBlownThere r) old)

  -- a test whether the clause's system, the old rows or the image are empty is blown
  abbrev pub EmptinessIsBlown : Type 0
  EmptinessIsBlown = IsBlownThere (bottom_row n) ⊎ (TestIsBlown n old (bottom_row n) ⊎ TestIsBlown n image (bottom_row n))

  abbrev pub IsLicensed : Type 0
  IsLicensed = JoinIsBlown ⊎ (RowIsBlown ⊎ EmptinessIsBlown)
