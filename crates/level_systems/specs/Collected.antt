-- Private.
-- What is collected of a component. Nothing here has to be believed.
use Rattle.std.specs.Prelude.{◌≡◌, ℕ, ℤ, List, pos}
use Rattle.cti_terms.specs.Listing.{Listing}
use Rattle.cti_terms.specs.Tree.{Tree}
use Rattle.call_components.specs.Partition.{IsIn, Partition}
use Rattle.linear_rows.specs.Irredundant.{TestIsBlown}
use Rattle.linear_rows.specs.Members.{In}
use Rattle.linear_rows.specs.Showing.{Shows, bottom_row}
use Rattle.level_systems.specs.Held.{HasPoint, IsGivenUp, IsHeld}
use Rattle.level_systems.specs.declared.own_call.OwnCall.{OwnCall}
use Rattle.level_systems.specs.declared.reaching.Reach.{Reach}
use Rattle.level_systems.specs.declared.reaching.Reach.TheVariants.{Blown, Empty, Live}

-- what the test of rows over n variables says
abbrev pub IsEmptiness : ℕ → List (List ℤ) → Reach → Type 0
IsEmptiness n rows Live = HasPoint n rows
IsEmptiness n rows (Empty by) = Shows rows (bottom_row n) by × (by.scale ≡ pos 0)
IsEmptiness n rows Blown = TestIsBlown n rows (bottom_row n)

-- a held call of members
abbrev pub IsHeldIn : (ℕ → Tree → List ℤ) → Listing → (ℕ → List (List ℤ)) → Partition → ℕ → OwnCall → Type 0
IsHeldIn expression p rows comps c own = IsHeld expression p rows own × IsIn comps c own.caller.0 × IsIn comps c own.callee.0

-- one of the pairs was given up
abbrev pub SomeGivenUp : (ℕ → Tree → List ℤ) → Listing → (ℕ → List (List ℤ)) → List (ℕ × ℕ) → Type 0
SomeGivenUp expression p rows pairs = (x : ℕ × ℕ) × In x pairs × IsGivenUp expression p rows x.0 x.1
