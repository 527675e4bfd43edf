-- To believe, for the command.
-- What a certificate's refutations have to show: that no mapping of a component falls at each of its calls.
--
-- To believe: all of this file.
use Rattle.std.specs.Prelude.{◌≡◌, ℕ, ℤ, List, slice_get, Some}
use Rattle.std.specs.List.{AllByRecursion}
use Rattle.cti_terms.specs.Tree.{Tree}
use Rattle.cti_terms.specs.Listing.{Listing}
use Rattle.call_components.specs.Partition.{Partition, IsIn}
use Rattle.cert_structure.specs.declared.parts.Parts.{Parts}
use Rattle.number_tests.specs.declared.refutation.Refutation.{Refutation}
use Rattle.number_tests.specs.Refuting.{PointHolds, SumsRefute}
use Rattle.termination_model.specs.sizes.Sizes.{rows_of}

module _ (expression : ℕ → Tree → List ℤ) where
  -- each refutation's sums refute, and the rows hold at its points
  abbrev pub RefutationsHold : Listing → Partition → Parts → Type 0
  RefutationsHold p comps parts =
      (q c : ℕ) (r : Refutation) (members : List ℕ) → slice_get parts.refutations q ≡ Some (Some r) → IsIn comps c q → slice_get comps.members c ≡ Some members
      → SumsRefute expression p members r.points × AllByRecursion (PointHolds expression p (rows_of parts.rows)) r.points
