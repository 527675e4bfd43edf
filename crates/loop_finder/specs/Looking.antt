-- Private.
-- What a walk finds under a path. Nothing here has to be believed.
use Rattle.std.specs.Prelude.{◌≡◌, ℕ, ◌-◌, ◌≤◌, List, ◌++◌, map, take, drop, length}
use Rattle.cti_terms.specs.declared.derivation.Goal.{Goal}
use Rattle.cti_terms.specs.Listing.{Listing, IsProgram}
use Rattle.loop_finder.specs.declared.path.Path.{Path}
use Rattle.loop_finder.specs.declared.search.Under.{Under}
use Rattle.loop_finder.specs.declared.search.Under.TheVariants.{Nothing, Cycle, Enough}
use Rattle.cti_terms.specs.Lifts.{IsGoalOf}
use Rattle.loop_finder.specs.Looked.{IsFirstLoop, IsWithoutLoop, IsStopped}
use Rattle.loop_finder.specs.Paths.{IsPath}

-- derivations that go on after some numbers
abbrev pub going_on : List ℕ → List (List ℕ) → List (List ℕ)
going_on ks = map (λ js. ks ++ js)

-- a path from some goal of a program
pub record IsPathOf (p : Listing) (path : Path) : Type 0 where
  pub program : IsProgram p
  pub from : Goal
  pub goal : IsGoalOf p from
  pub is : IsPath p from path.numbers.items path.goals.items

-- nothing was found among m of at most n derivations, and the path is as it was
pub record IsNothing (p : Listing) (g : Goal) (n : ℕ) (xs : List (List ℕ)) (old : Path) (before : ℕ) (new : Path) (after : ℕ) : Type 0 where
  pub numbers : new.numbers.items ≡ old.numbers.items
  pub goals : new.goals.items ≡ old.goals.items
  pub more : before ≤ after
  pub most : after ≤ 100000
  pub without : IsWithoutLoop p g n xs (after - before)

-- the path's end from number i on is a cycle, and the path is the first loop
pub record IsFound (p : Listing) (g : Goal) (n : ℕ) (xs : List (List ℕ)) (i : ℕ) (ns : List ℕ) : Type 0 where
  pub within : i ≤ length ns
  pub first : IsFirstLoop p g n xs (take i ns) (drop i ns)

-- what is found among derivations of which n may be looked at, from a path and a count to a path and a count
abbrev pub IsUnder : Listing → Goal → ℕ → List (List ℕ) → Path → ℕ → Under → Path → ℕ → Type 0
IsUnder p g n xs old before Nothing new after = IsNothing p g n xs old before new after
IsUnder p g n xs old before (Cycle i) new after = IsFound p g n xs i new.numbers.items
IsUnder p g n xs old before Enough new after = IsStopped p g n xs
