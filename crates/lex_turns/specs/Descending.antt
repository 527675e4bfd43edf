-- To believe, for the modes by lists of mappings.
-- Lists of level mappings of a component that descend, found in turns at a set of positions, and when none is found.
--
-- In each turn a mapping rises at none of the calls that remain, and those at which it falls by 1 leave. Where none
-- remains, the mappings of the turns are a list that descends. Positions are numbered from 1, by predicate and
-- argument.
--
-- To believe: all of this file but what speaks of the measures of turns (`AreMeasuresAt`, `IsListAt`, `AreMeasuresOf`,
-- `IsMeasureOf`, `NoneDescends`), which no promise uses.
use Rattle.std.specs.Prelude.{◌≡◌, ◌-◌, ◌⊎◌, ◌≤◌, ℕ, suc, ℤ, pos, Bool, true, false, List, [], ◌∷◌, ◌++◌, map, take, length, slice_get, Some}
use Rattle.std.specs.List.{AllByRecursion}
use Rattle.call_components.specs.Partition.{Partition}
use Rattle.cti_terms.specs.Listing.{Listing}
use Rattle.cti_terms.specs.Tree.{Tree}
use Rattle.cti_terms.specs.declared.atom_list.Atom.{Atom}
use Rattle.cti_terms.specs.declared.clauses.Clause.{Clause}
use Rattle.linear_rows.specs.Irredundant.{TestIsBlown}
use Rattle.linear_rows.specs.Members.{In}
use Rattle.linear_rows.specs.Rows.{AreEmpty}
use Rattle.linear_rows.specs.Showing.{AreMultipliers, IsShown, bottom_row}
use Rattle.linear_rows.specs.Solving.{Solution, solution}
use Rattle.linear_rows.specs.Solving.Solution.{Blown, Found, Refuted}
use Rattle.linear_rows.specs.declared.multipliers.Multipliers.{Multipliers}
use Rattle.number_tests.specs.Shape.{row_count}
use Rattle.number_tests.specs.declared.level_part.LevelPart.{LevelPart}
use Rattle.termination_model.specs.mappings.BlownSupports.{CheckFits, in_order}
use Rattle.termination_model.specs.claims.Claims.{Mapping}
use Rattle.termination_model.specs.mappings.ComponentViews.{component_view, members_in, positions_in}
use Rattle.termination_model.specs.mappings.Excluding.{IsZeroOutside, IsLive, pairs_at}
use Rattle.termination_model.specs.mappings.OwnCalls.{OwnCall, Position, members_of, own_calls, rows_before}
use Rattle.termination_model.specs.mappings.Ready.{arity_in, positions_by}
use Rattle.termination_model.specs.lists.Stuck.{ListDescends}
use Rattle.termination_model.specs.mappings.Supports.{picked_from}
use Rattle.termination_model.specs.mappings.SupportSystem.{mapping_at}
use Rattle.termination_model.specs.sizes.Systems.{row_fits}
use Rattle.termination_model.specs.sizes.ShortSystems.{short_system}
use Rattle.termination_model.specs.lists.TurnSystem.{turn_rows, turn_unknowns}
use Rattle.termination_model.specs.lists.Turns.{AreTurns, DropsFit, EmptyFit, Turn, mapping_by, remaining}
use Rattle.termination_model.specs.mappings.View.{Rule}
use Rattle.level_systems.specs.Mappings.{HasMeasures, level_in}
use Rattle.level_systems.specs.Pairs.{pairs_of}
use Rattle.level_systems.specs.Valued.{IsPartOf}
use Rattle.level_systems.specs.declared.measure.Measure.{Measure}
use Rattle.number_tests.specs.Drops.{drop_of}
use Rattle.lex_turns.specs.declared.call_drops.CallDrops.{CallDrops}
use Rattle.lex_turns.specs.declared.measure_list.MeasureList.{MeasureList}

-- of these calls, those that can be reached: the rows before each of the others hold nowhere
abbrev pub AreReached : (ℕ → Tree → List ℤ) → List OwnCall → List OwnCall → Type 0
AreReached expression [] lives = lives ≡ []
AreReached expression (o ∷ os) lives =
    (AreEmpty (suc o.rule.vars) (rows_before expression o) × AreReached expression os lives)
    ⊎ ((rest : List OwnCall) × (lives ≡ o ∷ rest) × IsLive expression o × AreReached expression os rest)

-- a part for each of these predicates, those of the mapping of a turn
pub record IsMeasureOf (p : Listing) (preds : List ℕ) (positions : List Position) (members : List ℕ) (u : Turn) (ms : List Measure) : Type 0 where
  pub measures : HasMeasures p preds ms
  pub parts : AllByRecursion (λ (m : Measure). IsPartOf (mapping_by (arity_in p) positions members u) m.pred.0 m.part) ms

abbrev pub AreMeasuresOf : Listing → List ℕ → List Position → List ℕ → List Turn → List (List Measure) → Type 0
AreMeasuresOf p preds positions members [] [] = Unit {0}
AreMeasuresOf p preds positions members [] (ms ∷ mss) = ⊥
AreMeasuresOf p preds positions members (u ∷ us) [] = ⊥
AreMeasuresOf p preds positions members (u ∷ us) (ms ∷ mss) = IsMeasureOf p preds positions members u ms × AreMeasuresOf p preds positions members us mss

module _ (expression : ℕ → Tree → List ℤ) (p : Listing) (rows : ℕ → List (List ℤ)) where
  -- multipliers show, over the size rows of the atoms before the call of a pair, that the level of the head less that
  -- of the call is at least this number
  abbrev pub IsDrop : ℕ → List Measure → ℕ × ℕ → Multipliers → Type 0
  IsDrop d ms pair by =
      (k : Clause) (b : Atom) (head call : LevelPart) → slice_get p.clauses (pair.0 - 1) ≡ Some k → slice_get k.body (pair.1 - 1) ≡ Some b
      → level_in ms k.head.pred.0 ≡ Some head → level_in ms b.pred.0 ≡ Some call
      → AreMultipliers (row_count rows (take (pair.1 - 1) k.body)) by × IsShown (short_system expression rows k.vars (take (pair.1 - 1) k.body)) (drop_of expression d k b head call) by

  -- a pair has its place where its last multipliers are: there the level falls, and it rises in none of the measures
  -- before
  abbrev pub HasPlace : List (List Measure) → ℕ × ℕ → List Multipliers → Type 0
  HasPlace mss pair [] = ⊥
  HasPlace [] pair (by ∷ bys) = ⊥
  HasPlace (ms ∷ mss) pair (by ∷ []) = IsDrop 1 ms pair by
  HasPlace (ms ∷ mss) pair (by ∷ (next ∷ bys)) = IsDrop 0 ms pair by × HasPlace mss pair (next ∷ bys)

module _ (expression : ℕ → Tree → List ℤ) (view : List Rule) (arity : ℕ → ℕ) (positions : List Position) where
  -- what elimination finds for the calls that remain
  abbrev pub turn_solution : List OwnCall → Solution
  turn_solution rest = solution (turn_unknowns expression positions (members_of view) rest) (turn_rows expression positions (members_of view) rest)

  -- a turn cannot be made for the calls that remain: the solving is blown, or a number does not fit in the check of the
  -- mapping's drops, or of a stuck set
  pub data IsTurnBlown (first : Bool) (rest : List OwnCall) : Type 0 where
    solving : (step : ℕ) (wide : Bool) → turn_solution rest ≡ Blown step wide → IsTurnBlown first rest
    mapping : (t : ℤ) (u : Turn) → turn_solution rest ≡ Found t (map pos (u.coefficients ++ (u.offsets ++ (u.drops ++ u.multipliers))))
        → length u.coefficients ≡ length positions → length u.offsets ≡ length (members_of view) → length u.drops ≡ length rest
        → (DropsFit expression view arity (mapping_by arity positions (members_of view) u) rest u.drops u.multipliers
        → (first ≡ true → EmptyFit expression view arity (mapping_by arity positions (members_of view) u)) → ⊥)
        → IsTurnBlown first rest
    -- no turn can be made at all positions, and a number does not fit in the check of the stuck set that shows it
    sticking : (vs : List ℕ) (s : ℕ) → ((r : Position) → In r (positions_by arity (members_of view)) → In r positions)
        → turn_solution rest ≡ Refuted (map pos (vs ++ s ∷ [])) → (CheckFits expression view arity (pairs_at rest vs) → ⊥) → IsTurnBlown first rest

  abbrev pub is_first : List Turn → Bool
  is_first [] = true
  is_first (u ∷ us) = false

  -- the search is given up: a row before a call does not fit, a test of emptiness is blown, or a turn cannot be made
  -- for the calls that some turns leave
  pub data IsGivenUp : Type 0 where
    unfit : (o : OwnCall) (r : List ℤ) → In o (own_calls view) → In r (rows_before expression o) → row_fits r ≡ false → IsGivenUp
    undecided : (o : OwnCall) → In o (own_calls view) → TestIsBlown o.rule.vars (rows_before expression o) (bottom_row o.rule.vars) → IsGivenUp
    turned : (lives : List OwnCall) (us : List Turn) → AreReached expression (own_calls view) lives → AreTurns expression positions (members_of view) lives us
        → 1 ≤ length (remaining lives us) → IsTurnBlown (is_first us) (remaining lives us) → IsGivenUp

module _ (expression : ℕ → Tree → List ℤ) (p : Listing) (comps : Partition) (rows : ℕ → List (List ℤ)) (c : ℕ) where
  abbrev pub view : List Rule
  view = component_view expression p comps rows c

  -- the measures of turns that leave no call that can be reached, or one measure where none can be reached
  pub data AreMeasuresAt (positions : List Position) (mss : List (List Measure)) : Type 0 where
    turned : (lives : List OwnCall) (us : List Turn) → AreReached expression (own_calls view) lives → AreTurns expression positions (members_of view) lives us
        → remaining lives us ≡ [] → 1 ≤ length us → AreMeasuresOf p (members_in comps c) positions (members_of view) us mss → AreMeasuresAt positions mss
    zero : (ms : List Measure) → AreReached expression (own_calls view) [] → mss ≡ ms ∷ [] → HasMeasures p (members_in comps c) ms
        → AllByRecursion (λ (m : Measure). IsPartOf (mapping_at (arity_in p) [] [] [] []) m.pred.0 m.part) ms → AreMeasuresAt positions mss

  -- such measures, and the place of each pair of the component, in order
  pub record IsListAt (positions : List Position) (l : MeasureList) : Type 0 where
    pub measures : AreMeasuresAt positions l.measures
    pub pairs : map (λ (d : CallDrops). (d.clause, d.call)) l.drops ≡ pairs_of p comps c
    pub places : AllByRecursion (λ (d : CallDrops). HasPlace expression p rows l.measures (d.clause, d.call) d.by) l.drops

  -- the positions of a set, in the order of the clauses
  abbrev pub positions_at : List ℕ → List Position
  positions_at s = in_order expression view (arity_in p) (picked_from 1 (positions_in p comps c) s)

  -- no list of mappings at the positions of a set descends
  abbrev pub NoneDescends : List ℕ → Type 0
  NoneDescends s = (ls : List Mapping) → AllByRecursion (IsZeroOutside (picked_from 1 (positions_in p comps c) s)) ls → ListDescends expression view ls → ⊥
