-- To believe, for the modes.
-- The shapes of what multipliers and points are tested on: how many numbers there are, and that they are natural.
use Rattle.std.specs.Prelude.{◌≡◌, ℕ, ◌+◌, ◌-◌, ◌≤◌, ◌<◌, ◌⊎◌, ◌≤ℤ◌, ℤ, pos, List, [], ◌∷◌, All, IfSome, length, slice_get, slice_index_or, Some}
use Rattle.cti_terms.specs.Listing.{Listing}
use Rattle.cti_terms.specs.declared.atom_list.Atom.{Atom}
use Rattle.cti_terms.specs.declared.clauses.Clause.{Clause}
use Rattle.number_tests.specs.declared.level_part.LevelPart.{LevelPart}
use Rattle.number_tests.specs.declared.pair_point.PairPoint.{PairPoint}
use Rattle.linear_rows.specs.declared.point.Point.{Point}

-- the list at a place of a list of lists, or the empty one past the end
abbrev pub list_at : {X : Type 0} → List (List X) → ℕ → List X
list_at xss k = slice_index_or xss k []

-- how many size rows atoms have together
abbrev pub row_count : (ℕ → List (List ℤ)) → List Atom → ℕ
row_count rows [] = 0
row_count rows (b ∷ bs) = length (rows b.pred.0) + row_count rows bs

-- a natural coefficient for each of n arguments, and a natural offset
pub record IsLevelPart (n : ℕ) (l : LevelPart) : Type 0 where
  pub each : length l.coeffs ≡ n
  pub naturals : All (λ x. pos 0 ≤ℤ x) l.coeffs
  pub offset : pos 0 ≤ℤ l.offset

-- a pair of the program, with points of the clause's variables
pub record IsPairOf (p : Listing) (x : PairPoint) : Type 0 where
  pub clause : Clause
  pub there : slice_get p.clauses (x.clause - 1) ≡ Some clause
  pub first : 1 ≤ x.clause
  pub call : 1 ≤ x.call
  pub last : x.call ≤ length clause.body
  pub point : length x.point.w ≡ clause.vars
  pub at : IfSome x.at (λ (y : Point). length y.w ≡ clause.vars)

-- an earlier clause, or an earlier call of the same clause
abbrev pub IsBefore : ℕ × ℕ → ℕ × ℕ → Type 0
IsBefore q r = (q.0 < r.0) ⊎ ((q.0 ≡ r.0) × (q.1 < r.1))

abbrev pub place_of_pair : PairPoint → ℕ × ℕ
place_of_pair x = (x.clause, x.call)

-- each pair is after the one before it, and the first after this one
abbrev pub PairsAscend : ℕ × ℕ → List PairPoint → Type 0
PairsAscend last [] = Unit {0}
PairsAscend last (x ∷ xs) = IsBefore last (place_of_pair x) × PairsAscend (place_of_pair x) xs
