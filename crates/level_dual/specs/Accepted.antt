-- Private.
-- Points that the check of a certificate accepts, of a refutation or of a stuck set. Nothing here has to be believed.
use Rattle.std.specs.Prelude.{ℕ, ℤ, List}
use Rattle.std.specs.List.{AllByRecursion}
use Rattle.cti_terms.specs.Listing.{Listing}
use Rattle.cti_terms.specs.Tree.{Tree}
use Rattle.number_tests.specs.Refuting.{PointHolds, SumsRefute}
use Rattle.number_tests.specs.declared.pair_point.PairPoint.{PairPoint}
use Rattle.level_systems.specs.Found.{PairsAscend}
use Rattle.level_systems.specs.Refuted.{HasPoints}

-- they ascend, each has the points that it needs, their sums refute, and the rows hold at each
pub record AreAccepted (expression : ℕ → Tree → List ℤ) (p : Listing) (rows : ℕ → List (List ℤ)) (members : List ℕ) (xs : List PairPoint) : Type 0 where
  pub ascend : PairsAscend (0, 0) xs
  pub points : AllByRecursion HasPoints xs
  pub sums : SumsRefute expression p members xs
  pub hold : AllByRecursion (PointHolds expression p rows) xs
