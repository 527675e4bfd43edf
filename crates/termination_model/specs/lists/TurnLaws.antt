-- Private.
-- What the system of a turn is for.
use Rattle.std.specs.Prelude.{◌≡◌, ℕ, suc, ◌≤◌, ℤ, pos, List, [], ◌∷◌, ◌++◌, map, take, drop, length}
use Rattle.std.specs.List.{AllByRecursion}
use Rattle.cti_terms.specs.Tree.{Tree}
use Rattle.linear_rows.specs.Proves.{Proves, Refutes}
use Rattle.linear_rows.specs.Rows.{AllHold}
use Rattle.linear_rows.specs.Members.{In}
use Rattle.termination_model.specs.claims.Claims.{Mapping, SomeOf}
use Rattle.termination_model.specs.mappings.Excluding.{IsLive, IsOfMembers, IsOwnCall, number_count, pairs_at}
use Rattle.termination_model.specs.mappings.OwnCalls.{OwnCall, Position, rows_before}
use Rattle.termination_model.specs.mappings.Refutation.{Pair}
use Rattle.termination_model.specs.lists.Stuck.{IsStuck}
use Rattle.termination_model.specs.mappings.SupportLaws.{HasFew, HasWidths}
use Rattle.termination_model.specs.mappings.SupportSystem.{row_count, mapping_at}
use Rattle.termination_model.specs.lists.TurnSystem.{turn_rows, turn_unknowns}
use Rattle.termination_model.specs.mappings.View.{Rule, fall_over}

module _ (expression : ℕ → Tree → List ℤ) where
  -- the multipliers show at each call, with scale 1, that the mapping falls by each number that is at most the call's
  -- drop
  abbrev pub AreDrops : Mapping → List OwnCall → List ℕ → List ℕ → Type 0
  AreDrops l [] ds ms = Unit {0}
  AreDrops l (o ∷ os) [] ms = ⊥
  AreDrops l (o ∷ os) (d ∷ ds) ms =
      ((e : ℕ) → e ≤ d → Proves (rows_before expression o) (map pos (take (length (rows_before expression o)) ms)) (fall_over expression o.rule o.member o.call.args e l) (pos 1))
      × AreDrops l os ds (drop (length (rows_before expression o)) ms)

-- a point of a turn's system gives a mapping, with multipliers that show its drops, one of which is positive
abbrev pub PointsDrop : Type 0
PointsDrop =
    (expression : ℕ → Tree → List ℤ) (positions : List Position) (members : List ℕ) (arity : ℕ → ℕ) (calls : List OwnCall)
    (t : ℕ) (cs os ds ms : List ℕ)
    → HasWidths expression → AllByRecursion (HasFew arity) calls → 1 ≤ t
    → length cs ≡ length positions → length os ≡ length members → length ds ≡ length calls → length ms ≡ row_count expression positions members calls
    → AllHold (turn_rows expression positions members calls) t (cs ++ (os ++ (ds ++ ms)))
    → AreDrops expression (mapping_at arity positions members cs os) calls ds ms × SomeOf (λ d. 1 ≤ d) ds

-- multipliers that refute it, of which the last is that of the sum of the drops, give a stuck set of all calls that
-- remain
abbrev pub RefutedTurnsStick : Type 0
RefutedTurnsStick =
    (expression : ℕ → Tree → List ℤ) (view : List Rule) (positions : List Position) (members : List ℕ) (calls : List OwnCall) (vs : List ℕ) (s : ℕ)
    → HasWidths expression → AllByRecursion (IsOwnCall view) calls → AllByRecursion (IsLive expression) calls → 1 ≤ length calls → length vs ≡ number_count calls
    → AllByRecursion (IsOfMembers members) (pairs_at calls vs)
    → AllByRecursion (λ (p : Pair). ((a : ℕ) → suc a ≤ length p.rule.args → In (p.rule.member, a) positions) × ((a : ℕ) → suc a ≤ length p.call.args → In (p.member, a) positions)) (pairs_at calls vs)
    → Refutes (turn_unknowns expression positions members calls) (turn_rows expression positions members calls) (map pos (vs ++ s ∷ []))
    → IsStuck expression view (pairs_at calls vs)

module _ (expression : ℕ → Tree → List ℤ) where
  -- the multipliers show at each call, with scale 1, that the mapping falls by this number
  abbrev pub ShowDrops : Mapping → List OwnCall → List ℕ → List ℕ → Type 0
  ShowDrops l [] ds ms = Unit {0}
  ShowDrops l (o ∷ os) [] ms = ⊥
  ShowDrops l (o ∷ os) (d ∷ ds) ms =
      Proves (rows_before expression o) (map pos (take (length (rows_before expression o)) ms)) (fall_over expression o.rule o.member o.call.args d l) (pos 1)
      × ShowDrops l os ds (drop (length (rows_before expression o)) ms)

-- whatever drops multipliers show, one of them positive, are those of a point: so a call may leave in a turn whose
-- point gave it the drop 0, where its multipliers show that it falls
abbrev pub DropsMakeTurns : Type 0
DropsMakeTurns =
    (expression : ℕ → Tree → List ℤ) (positions : List Position) (members : List ℕ) (arity : ℕ → ℕ) (calls : List OwnCall)
    (cs os ds ms : List ℕ)
    → HasWidths expression → AllByRecursion (HasFew arity) calls
    → length cs ≡ length positions → length os ≡ length members → length ds ≡ length calls → length ms ≡ row_count expression positions members calls
    → ShowDrops expression (mapping_at arity positions members cs os) calls ds ms → SomeOf (λ d. 1 ≤ d) ds
    → AllHold (turn_rows expression positions members calls) 1 (cs ++ (os ++ (ds ++ ms)))
