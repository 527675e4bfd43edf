-- Private.
-- What the tests of a certificate's numbers show of its claims.
--
-- To believe: nothing. These are the premises, on sizes and falls, under which claims show queries to end.
use Rattle.std.specs.Prelude.{◌≡◌, ℕ, ℤ, Bool, List}
use Rattle.std.specs.List.{AllByRecursion}
use Rattle.cti_terms.specs.Tree.{Tree}
use Rattle.cti_terms.specs.Listing.{Listing, IsProgram}
use Rattle.cti_terms.specs.declared.clauses.Clause.{Clause}
use Rattle.call_components.specs.Partition.{Partition, AreComponents}
use Rattle.cert_structure.specs.declared.parts.Parts.{Parts}
use Rattle.termination_model.specs.grounds.Grounds.{Family}
use Rattle.termination_model.specs.claims.Claims.{Measure, IsRanked}
use Rattle.termination_model.specs.sizes.Short.{SizesProved, DescendsProved}
use Rattle.cert_checker.specs.Claimed.{claims_of}
use Rattle.cert_checker.specs.Proved.{ByHold, FallsHold}
use Rattle.cert_checker.specs.Shape.{HaveFalls, HaveLevels, HaveRowProofs}
use Rattle.termination_model.specs.mappings.ComponentViews.{rank_in}

module _ (size : (ℕ → ℕ) → Tree → ℕ) (truth : (ℕ → Bool) → Tree → Bool) (expression : ℕ → Tree → List ℤ) where
  -- a clause calls nothing of a higher component
  abbrev pub ClausesAreRanked : Type 0
  ClausesAreRanked =
      (p : Listing) (comps : Partition) (parts : Parts) (grounds : Family) (pre : ℕ → Family)
      → IsProgram p → AreComponents p comps
      → AllByRecursion (IsRanked (claims_of size truth expression comps parts grounds pre)) p.clauses

  -- the size rows of each clause's head are proved
  abbrev pub SizesAreProved : Type 0
  SizesAreProved =
      (p : Listing) (comps : Partition) (parts : Parts) (grounds : Family) (pre : ℕ → Family)
      → HaveRowProofs p parts → ByHold expression p parts
      → AllByRecursion (SizesProved (claims_of size truth expression comps parts grounds pre)) p.clauses

  -- each measure of a component descends in its clauses
  abbrev pub FallsAreProved : Type 0
  FallsAreProved =
      (p : Listing) (comps : Partition) (parts : Parts) (grounds : Family) (pre : ℕ → Family)
      → IsProgram p → AreComponents p comps → HaveLevels p comps parts → HaveFalls p comps parts → FallsHold expression p comps parts
      → (r : ℕ) → (let c = claims_of size truth expression comps parts grounds pre in
      AllByRecursion (λ (m : Measure). AllByRecursion (λ (k : Clause). rank_in comps k.head.pred.0 ≡ r → DescendsProved c m k) p.clauses) (c.measures r))
