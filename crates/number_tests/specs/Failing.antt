-- To believe, for the command.
-- Why tests of multipliers and of points fail.
--
-- Multipliers fail where a column of their test is below 0, and a number of the target or of the test may not fit. At a
-- point of a pair, as in the sums of a refutation, that a number does not fit comes before all else.
--
-- To believe: all of this file.
use Rattle.std.specs.Prelude.{◌≡◌, ℕ, zero, suc, ◌+◌, ◌-◌, ◌<◌, ℤ, true, false, List, [], ◌∷◌, take, Option, None, Some, slice_get}
use Rattle.std.specs.Io.Iter.{u64_saturate}
use Rattle.std.specs.List.{AllByRecursion}
use Rattle.cti_terms.specs.Tree.{Tree}
use Rattle.cti_terms.specs.Listing.{Listing}
use Rattle.cti_terms.specs.declared.clauses.Clause.{Clause}
use Rattle.linear_rows.specs.Verdict.{Says}
use Rattle.linear_rows.specs.declared.multipliers.Proof.TheVariants as proof
use Rattle.linear_rows.specs.declared.point.Point.{Point}
use Rattle.termination_model.specs.sizes.Systems.{row_fits, system}
use Rattle.number_tests.specs.Refuting.{PairsFit, PointHolds, RowsHold, SumsRefute, ValueFits, clause_of}
use Rattle.number_tests.specs.declared.flaw.Flaw.{Flaw}
use Rattle.number_tests.specs.declared.flaw.Flaw.TheVariants as flaw
use Rattle.number_tests.specs.declared.pair_point.PairPoint.{PairPoint}
use Rattle.number_tests.specs.declared.point_flaw.PointFlaw.{PointFlaw}

-- multipliers do not show a target: a number of the target does not fit, or the first column that does not hold says
-- why
pub data MultipliersFail (rows : List (List ℤ)) (ms target : List ℤ) (scale : ℤ) : Flaw → Type 0 where
  wide_target : row_fits target ≡ false → MultipliersFail rows ms target scale flaw.Wide
  wide : row_fits target ≡ true → Says rows ms target scale proof.Wide → MultipliersFail rows ms target scale flaw.Wide
  fails : row_fits target ≡ true → Says rows ms target scale proof.Fails → MultipliersFail rows ms target scale flaw.Fails

-- how much the items before a place count together
abbrev pub before : {X : Type 0} → (X → ℕ) → List X → ℕ → ℕ
before count [] i = 0
before count (x ∷ xs) zero = 0
before count (x ∷ xs) (suc i) = count x + before count xs i

-- how many points a pair has
abbrev pub points_at : Option Point → ℕ
points_at None = 1
points_at (Some y) = 2

abbrev pub points_of : PairPoint → ℕ
points_of x = points_at x.at

-- the first point of a pair fails, which has this place, or else the second one
pub data IsFirstOfPair (Holds : Point → Type 0) (Fails : Point → Flaw → Type 0) (x : PairPoint) (place : ℕ) (f : PointFlaw) : Type 0 where
  first : f.place ≡ place → Fails x.point f.flaw → IsFirstOfPair Holds Fails x place f
  second : (y : Point) → x.at ≡ Some y → Holds x.point → f.place ≡ u64_saturate (place + 1) → Fails y f.flaw → IsFirstOfPair Holds Fails x place f

module _ (expression : ℕ → Tree → List ℤ) where
  -- the rows of a clause's first j atoms fit, and so does each number that their values at a point form
  abbrev pub RowsFit : (ℕ → List (List ℤ)) → Clause → ℕ → Point → Type 0
  RowsFit rows c j x = AllByRecursion (λ row. (row_fits row ≡ true) × ValueFits x row) (system expression rows c.vars (take j c.body))

  -- some row does not hold at a point
  pub data PointFails (rows : ℕ → List (List ℤ)) (c : Clause) (j : ℕ) (x : Point) : Flaw → Type 0 where
    wide_point : ¬ RowsFit rows c j x → PointFails rows c j x flaw.Wide
    fails_point : RowsFit rows c j x → ¬ RowsHold expression rows c j x → PointFails rows c j x flaw.Fails

  -- the sums at the points refute nothing
  pub data SumsFail (p : Listing) (members : List ℕ) (xs : List PairPoint) : Flaw → Type 0 where
    wide_sums : ¬ PairsFit expression p xs → SumsFail p members xs flaw.Wide
    fails_sums : PairsFit expression p xs → ¬ SumsRefute expression p members xs → SumsFail p members xs flaw.Fails

  -- the first point at which some row of the atoms before its call does not hold
  pub record IsFirstPoint (p : Listing) (rows : ℕ → List (List ℤ)) (xs : List PairPoint) (f : PointFlaw) : Type 0 where
    pub i : ℕ
    pub x : PairPoint
    pub there : slice_get xs i ≡ Some x
    pub earlier : (k : ℕ) (y : PairPoint) → k < i → slice_get xs k ≡ Some y → PointHolds expression p rows y
    pub first : IsFirstOfPair (RowsHold expression rows (clause_of p x) (x.call - 1)) (PointFails rows (clause_of p x) (x.call - 1)) x (u64_saturate (before points_of xs i)) f
