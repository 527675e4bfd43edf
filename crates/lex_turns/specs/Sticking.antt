-- Private.
-- The points that multipliers against a turn's system spell, as the code makes them. Nothing here has to be believed.
use Rattle.std.specs.Prelude.{◌≡◌, ◌≤◌, ℕ, suc, ℤ, Bool, List, [], ◌∷◌, drop, length, take, map, Option, None, Some}
use Rattle.std.specs.List.{AllByRecursion}
use Rattle.call_components.specs.Numbers.{number_of}
use Rattle.call_components.specs.Partition.{Partition}
use Rattle.cti_terms.specs.Listing.{Listing}
use Rattle.cti_terms.specs.Tree.{Tree}
use Rattle.linear_rows.specs.Members.{In}
use Rattle.linear_rows.specs.Proves.{Refutes}
use Rattle.linear_rows.specs.Rows.{IsPoint}
use Rattle.linear_rows.specs.Solving.{solution}
use Rattle.linear_rows.specs.Solving.Solution.{Blown, Refuted}
use Rattle.number_tests.specs.declared.pair_point.PairPoint.{PairPoint}
use Rattle.termination_model.specs.lists.TurnSystem.{turn_rows, turn_unknowns}
use Rattle.level_systems.specs.Held.{spelled}
use Rattle.level_systems.specs.declared.component.Component.{Component}
use Rattle.level_systems.specs.declared.own_call.OwnCall.{OwnCall}
use Rattle.level_systems.specs.declared.position.Position.{Position}
use Rattle.lex_turns.specs.Coursing.{CannotTurn, IsStopped}
use Rattle.lex_turns.specs.Tracking.{kept, recalled}

-- the point of a call that numbers spell, t first
pub record IsPlain (own : OwnCall) (numbers : List ℤ) (x : PairPoint) : Type 0 where
  pub clause : x.clause ≡ own.clause
  pub call : x.call ≡ own.call
  pub spelled : x.point.t ∷ x.point.w ≡ numbers
  pub long : length x.point.w ≡ own.rows.width
  pub single : x.at ≡ None

-- those of calls, call by call
abbrev pub ArePlain : List OwnCall → List ℤ → List PairPoint → Type 0
ArePlain [] numbers xs = xs ≡ []
ArePlain (own ∷ owns) numbers xs =
    (x : PairPoint) × (ys : List PairPoint) × (xs ≡ x ∷ ys) × IsPlain own (take (suc own.rows.width) numbers) x × ArePlain owns (drop (suc own.rows.width) numbers) ys

-- there are numbers for each call
abbrev pub AreLong : List OwnCall → List ℤ → Type 0
AreLong [] numbers = Unit {0}
AreLong (own ∷ owns) numbers = (suc own.rows.width ≤ length numbers) × AreLong owns (drop (suc own.rows.width) numbers)

abbrev pub ArePlainIf : List OwnCall → List ℤ → Option (List PairPoint) → Type 0
ArePlainIf owns numbers None = AreLong owns numbers → ⊥
ArePlainIf owns numbers (Some xs) = ArePlain owns numbers xs

-- the points of some numbers
abbrev pub ArePlainOf : List OwnCall → List PairPoint → Type 0
ArePlainOf owns xs = (numbers : List ℤ) × ArePlain owns numbers xs

module _ (owns : List OwnCall) (n : ℕ) (lines : List (List ℤ)) where
  -- why there are no points of multipliers that refute a system
  pub data IsUnrefuted : Type 0 where
    blown : (step : ℕ) (wide : Bool) → solution n lines ≡ Blown step wide → IsUnrefuted
    found : (t : ℤ) (w : List ℤ) → IsPoint n lines t w → IsUnrefuted
    short : (vs : List ℤ) → Refutes n lines vs → (AreLong owns vs → ⊥) → IsUnrefuted

  -- the points of multipliers that refute it
  pub record AreRefuting (xs : List PairPoint) : Type 0 where
    pub multipliers : List ℤ
    pub solved : solution n lines ≡ Refuted multipliers
    pub refutes : Refutes n lines multipliers
    pub plain : ArePlain owns multipliers xs

  abbrev pub AreRefutingIf : Option (List PairPoint) → Type 0
  AreRefutingIf None = IsUnrefuted
  AreRefutingIf (Some xs) = AreRefuting xs

-- each of these positions is among those
abbrev pub AreAt : List Position → List Position → Type 0
AreAt some at = AllByRecursion (λ (r : Position). In (spelled r) (map spelled at)) some

module _ (expression : ℕ → Tree → List ℤ) (p : Listing) (comps : Partition) (rows : ℕ → List (List ℤ)) (c : ℕ) (x : Component) (at : List Position) (rest : List OwnCall) where
  -- how many unknowns the system of a turn for these calls has, and its rows
  abbrev pub unknowns_of : ℕ
  unknowns_of = turn_unknowns expression (map spelled at) (map number_of x.by_clauses.items) (recalled expression p comps rows c x at rest)

  abbrev pub lines_of : List (List ℤ)
  lines_of = turn_rows expression (map spelled at) (map number_of x.by_clauses.items) (recalled expression p comps rows c x at rest)

  -- where the search stops for these calls, at all positions, a turn is blown
  abbrev pub IsBlownWhereStopped : Type 0
  IsBlownWhereStopped =
      (gone : List Bool) → kept x.calls.items gone ≡ rest → AreAt x.order.items at → IsStopped expression p comps rows c x at gone → (first : Bool) → CannotTurn expression p comps rows c x at first rest
