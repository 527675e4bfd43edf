-- Private.
-- Points of a component's calls. Nothing here has to be believed.
use Rattle.std.specs.Prelude.{◌≡◌, ◌≢◌, ◌+◌, ◌≤◌, ◌⊎◌, ℕ, suc, ℤ, pos, All, Bool, true, false, List, [], ◌∷◌, ◌++◌, drop, take, length, map, IfSome, Option, None, Some}
use Rattle.exact128.specs.Sums.{entry}
use Rattle.call_components.specs.Numbers.{number_of}
use Rattle.call_components.specs.Partition.{Partition}
use Rattle.cti_terms.specs.Listing.{Listing}
use Rattle.cti_terms.specs.Tree.{Tree}
use Rattle.linear_rows.specs.Members.{In}
use Rattle.linear_rows.specs.Plain.{HaveWidth, plain_rows}
use Rattle.linear_rows.specs.Showing.{bottom_row}
use Rattle.linear_rows.specs.Solving.{Solution, solution}
use Rattle.linear_rows.specs.Solving.Solution.{Found, Refuted}
use Rattle.linear_rows.specs.Systems.{test_rows}
use Rattle.linear_rows.specs.declared.point.Point.{Point}
use Rattle.number_tests.specs.declared.pair_point.PairPoint.{PairPoint}
use Rattle.termination_model.specs.mappings.BlownSupports.{CheckFits, live_calls}
use Rattle.termination_model.specs.mappings.ComponentViews.{component_view}
use Rattle.termination_model.specs.mappings.Excluding.{pairs_at}
use Rattle.termination_model.specs.mappings.OwnCalls.{OwnCall as Recalled}
use Rattle.termination_model.specs.mappings.Ready.{arity_in}
use Rattle.termination_model.specs.mappings.SupportSystem.{support_rows, unknowns}
use Rattle.level_systems.specs.Found.{HasSecondPoint, IsNaturalPoint}
use Rattle.level_systems.specs.Held.{live_of, numbers_of_call, recalled_at, spelled}
use Rattle.level_systems.specs.declared.component.Component.{Component}
use Rattle.level_systems.specs.declared.own_call.OwnCall.{OwnCall}

abbrev pub HasWidths : OwnCall → Type 0
HasWidths own = HaveWidth own.rows.width own.rows.list

-- points of a call's variables
pub record IsPointAt (own : OwnCall) (x : PairPoint) : Type 0 where
  pub clause : x.clause ≡ own.clause
  pub call : x.call ≡ own.call
  pub point : length x.point.w ≡ own.rows.width
  pub at : IfSome x.at (λ (y : Point). length y.w ≡ own.rows.width)

-- natural points, and a second one exactly where the first stands for a direction
abbrev pub HasPoints : PairPoint → Type 0
HasPoints x = IsNaturalPoint x.point × HasSecondPoint x.point.t x.at

-- points of one of these calls
abbrev pub IsOfCalls : List OwnCall → PairPoint → Type 0
IsOfCalls owns x = (own : OwnCall) × In own owns × IsPointAt own x

-- ---- what elimination finds
-- elimination finds these numbers where it tests whether rows are empty
abbrev pub IsTestPoint : ℕ → List (List ℤ) → List ℤ → Type 0
IsTestPoint n rows w = (t : ℤ) × (solution (n + 1) (test_rows n rows (bottom_row n)) ≡ Found t w)

-- the point that such numbers are, whose t comes last
abbrev pub IsFoundPoint : ℕ → List (List ℤ) → Option Point → Type 0
IsFoundPoint n rows None = (w : List ℤ) → IsTestPoint n rows w → ⊥
IsFoundPoint n rows (Some y) = (w : List ℤ) × IsTestPoint n rows w × (y.t ≡ entry w n) × (y.w ≡ take n w)

-- elimination finds a point at which the rows before a call hold
abbrev pub IsReached : OwnCall → Type 0
IsReached own = (w : List ℤ) × IsTestPoint own.rows.width (plain_rows own.rows.list) w

-- a point that stands for a direction has that second one
abbrev pub HasFoundPoint : OwnCall → ℤ → Option Point → Type 0
HasFoundPoint own t None = t ≢ pos 0
HasFoundPoint own t (Some y) = (t ≡ pos 0) × IsFoundPoint own.rows.width (plain_rows own.rows.list) (Some y)

-- ---- points that numbers spell
-- the point of a call that numbers spell, t first
pub record IsSpelled (own : OwnCall) (zs : List ℤ) (x : PairPoint) : Type 0 where
  pub clause : x.clause ≡ own.clause
  pub call : x.call ≡ own.call
  pub numbers : x.point.t ∷ x.point.w ≡ zs
  pub second : HasFoundPoint own x.point.t x.at

abbrev pub IsNought : List ℤ → Type 0
IsNought numbers = All (λ z. z ≡ pos 0) numbers

-- the point that numbers spell, or none where elimination finds no second one
abbrev pub IsSpelledIf : OwnCall → List ℤ → Option PairPoint → Type 0
IsSpelledIf own numbers None = IsReached own → ⊥
IsSpelledIf own numbers (Some x) = IsSpelled own numbers x

-- it is added, unless the numbers are all 0
abbrev pub IsAdded : OwnCall → List ℤ → List PairPoint → List PairPoint → Bool → Type 0
IsAdded own numbers old new false = IsReached own → ⊥
IsAdded own numbers old new true = (IsNought numbers × (new ≡ old)) ⊎ ((x : PairPoint) × (new ≡ old ++ x ∷ []) × IsSpelled own numbers x)

-- the points of calls that numbers spell, call by call, but for those whose numbers are all 0
abbrev pub ArePoints : List OwnCall → List ℤ → List PairPoint → Type 0
ArePoints [] numbers xs = xs ≡ []
ArePoints (own ∷ owns) numbers xs =
    (IsNought (take (suc own.rows.width) numbers) × ArePoints owns (drop (suc own.rows.width) numbers) xs)
    ⊎ ((x : PairPoint) × (ys : List PairPoint) × (xs ≡ x ∷ ys) × IsSpelled own (take (suc own.rows.width) numbers) x × ArePoints owns (drop (suc own.rows.width) numbers) ys)

-- there are numbers for each call, and a second point
abbrev pub AreSpelled : List OwnCall → List ℤ → Type 0
AreSpelled [] numbers = Unit {0}
AreSpelled (own ∷ owns) numbers = (suc own.rows.width ≤ length numbers) × IsReached own × AreSpelled owns (drop (suc own.rows.width) numbers)

-- these are the points, or there are none for want of numbers or of a second point
abbrev pub ArePointsIf : List OwnCall → List ℤ → Option (List PairPoint) → Type 0
ArePointsIf owns numbers None = AreSpelled owns numbers → ⊥
ArePointsIf owns numbers (Some xs) = ArePoints owns numbers xs

-- the points of multipliers that refute, if a system is refuted
abbrev pub RefuteIf : List OwnCall → Solution → Option (List PairPoint) → Type 0
RefuteIf owns s None = (vs : List ℤ) → s ≡ Refuted vs → AreSpelled owns vs → ⊥
RefuteIf owns s (Some xs) = (vs : List ℤ) × (s ≡ Refuted vs) × ArePoints owns vs xs

-- the solution of the system of all positions, over these calls
abbrev pub solution_of : (ℕ → Tree → List ℤ) → Component → List Recalled → Solution
solution_of expression x lives =
    solution (unknowns expression (map spelled x.order.items) (map number_of x.by_clauses.items) lives) (support_rows expression (map spelled x.order.items) (map number_of x.by_clauses.items) lives)

module _ (expression : ℕ → Tree → List ℤ) (p : Listing) (comps : Partition) (rows : ℕ → List (List ℤ)) (c : ℕ) (x : Component) where
  -- the calls that can be reached
  abbrev pub lives_of : List Recalled
  lives_of = map (λ own. recalled_at expression p rows comps c (numbers_of_call own)) (live_of x.calls.items)

  -- elimination refutes the system of all positions, and the check of its multipliers is in numbers that fit
  pub record IsInFit : Type 0 where
    pub numbers : List ℕ
    pub live : live_calls expression (component_view expression p comps rows c) (arity_in p) ≡ lives_of
    pub refuted : solution_of expression x lives_of ≡ Refuted (map pos numbers)
    pub fits : CheckFits expression (component_view expression p comps rows c) (arity_in p) (pairs_at lives_of numbers)
