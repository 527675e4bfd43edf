-- Private.
-- What a refutation in the words of the model is in the words of a certificate.
--
-- To believe: nothing. The law says that a refutation that a search has found can fail the check only by a number that
-- does not fit.
use Rattle.std.specs.Prelude.{◌≡◌, ℕ, ℤ, Bool, List, map, length}
use Rattle.std.specs.List.{AllByRecursion}
use Rattle.call_components.specs.Partition.{Partition}
use Rattle.number_tests.specs.declared.pair_point.PairPoint.{PairPoint}
use Rattle.cert_structure.specs.declared.parts.Parts.{Parts}
use Rattle.cert_checker.specs.Claimed.{claims_of}
use Rattle.cert_checker.specs.Excluded.{IsNatural, itself, pair_of}
use Rattle.number_tests.specs.Refuting.{PairsFit, SumsRefute, clause_of}
use Rattle.cti_terms.specs.Listing.{Listing}
use Rattle.cti_terms.specs.Tree.{Tree}
use Rattle.termination_model.specs.grounds.Grounds.{Family}
use Rattle.termination_model.specs.mappings.Refutation.{IsRefutation}
use Rattle.termination_model.specs.mappings.View.{view_of}

-- a natural point of the pair's variables
pub record IsPointOf (p : Listing) (x : PairPoint) : Type 0 where
  pub natural : IsNatural x.point
  pub width : length x.point.w ≡ (clause_of p x).vars

abbrev pub RefutationsAreShown : Type 0
RefutationsAreShown =
    (size : (ℕ → ℕ) → Tree → ℕ) (truth : (ℕ → Bool) → Tree → Bool) (expression : ℕ → Tree → List ℤ) (p : Listing) (comps : Partition) (parts : Parts) (grounds : Family) (pre : ℕ → Family)
    (r : ℕ) (members : List ℕ) (xs : List PairPoint)
    → AllByRecursion (IsPointOf p) xs
    → (let c = claims_of size truth expression comps parts grounds pre in
    IsRefutation expression (view_of p c r itself) (map (pair_of p c r) xs) → PairsFit expression p xs → SumsRefute expression p members xs)
