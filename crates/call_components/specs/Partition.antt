-- To believe, for the modes.
-- The components of a program: its predicates, together where each reaches the other, callees first.
--
-- Components are numbered from 0. To believe: `Partition`, `AreComponents`, over the words of `Calls.antt`.
use Rattle.std.specs.Prelude.{◌≡◌, ℕ, ◌≤◌, ◌<◌, ◌^◌, ◌↔◌, Bool, IsTrue, List, length, Contains, slice_get, Some}
use Rattle.std.specs.List.Sorted.{IsStrictlyIncreasing}
use Rattle.cti_terms.specs.Listing.{Listing}
use Rattle.call_components.specs.Calls.{Calls, Reaches}

-- the component of each predicate, and of each component its members and whether it is recursive
pub record Partition : Type 0 where
  pub of : List ℕ
  pub members : List (List ℕ)
  pub recursive : List Bool

-- the predicate a is in the component c
abbrev pub IsIn : Partition → ℕ → ℕ → Type 0
IsIn comps c a = slice_get comps.of a ≡ Some c

-- what every value of the type keeps: as many answers as components, which are few
pub record IsPartition (comps : Partition) : Type 0 where
  pub answers : length comps.recursive ≡ length comps.members
  pub few : length comps.members < 2 ^ 32

-- these are the program's components
pub record AreComponents (p : Listing) (comps : Partition) : Type 0 where
  -- each predicate is in one of them, and their members are in ascending order, and each has one
  pub each : length comps.of ≡ length p.preds
  pub answers : length comps.recursive ≡ length comps.members
  pub within : (c a : ℕ) → IsIn comps c a → c < length comps.members
  pub members : (c : ℕ) (ms : List ℕ) → slice_get comps.members c ≡ Some ms → (a : ℕ) → Contains ms a ↔ IsIn comps c a
  pub ascending : (c : ℕ) (ms : List ℕ) → slice_get comps.members c ≡ Some ms → IsStrictlyIncreasing ms × (0 < length ms)
  -- two predicates are in one component exactly where each reaches the other
  pub together : (a b c d : ℕ) → IsIn comps c a → IsIn comps d b
      → (c ≡ d) ↔ (Reaches (Calls p) a b × Reaches (Calls p) b a)
  -- a component stands after those that it calls
  pub callees_first : (a b c d : ℕ) → IsIn comps c a → IsIn comps d b → Calls p a b → d ≤ c
  -- a component is recursive exactly where a clause of a member calls a member
  pub recursive : (c : ℕ) (answer : Bool) → slice_get comps.recursive c ≡ Some answer
      → IsTrue answer ↔ ((a : ℕ) × (b : ℕ) × IsIn comps c a × IsIn comps c b × Calls p a b)
