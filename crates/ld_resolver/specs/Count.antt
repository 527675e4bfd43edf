-- Private.
-- How many nodes a goal has.
--
-- To believe: `HasNodes`.
use Rattle.std.specs.Prelude.{◌≡◌, ℕ, ◌≤◌, length}
use Rattle.cti_terms.specs.declared.derivation.Goal.{Goal}
use Rattle.cti_terms.specs.Listing.{Listing}
use Rattle.cti_terms.specs.Nodes.{nodes}

-- there are n derivations but the empty one: as many have at most the given number of steps, and no more have any other
-- number of steps
pub record HasNodes (p : Listing) (g : Goal) (n : ℕ) : Type 0 where
  pub depth : ℕ
  pub all : length (nodes p depth g) ≡ n
  pub most : (d : ℕ) → length (nodes p d g) ≤ n
