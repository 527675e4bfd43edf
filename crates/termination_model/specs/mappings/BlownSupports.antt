-- A procedure, to believe for who is blown.
-- When a support is blown: some solving for it is, or a number does not fit in the check of what is found.
--
-- A row before a call that does not fit, and a blown test whether such rows are empty, blow every support. So does the
-- solving of the support's system, and a found mapping or refutation with a number that does not fit in its check.
--
-- This retells a procedure. That every query that meets a mode ends does not rest on it; that no mode is missing does,
-- but for what is blown.
use Rattle.std.specs.Prelude.{◌≡◌, ◌==◌, ◌&&◌, ◌+◌, ℕ, ℤ, pos, Bool, true, false, List, [], ◌∷◌, ◌++◌, map, filter, take, drop, length}
use Rattle.std.specs.List.{AllByRecursion, list_any}
use Rattle.exact128.specs.Sums.{DotFits, entry}
use Rattle.cti_terms.specs.Tree.{Tree}
use Rattle.linear_rows.specs.Irredundant.{TestIsBlown}
use Rattle.linear_rows.specs.Members.{In}
use Rattle.linear_rows.specs.Proves.{AllColumnsFit}
use Rattle.linear_rows.specs.Showing.{bottom_row}
use Rattle.linear_rows.specs.Solving.{Solution, solution}
use Rattle.linear_rows.specs.Solving.Solution.{Blown, Found, Refuted}
use Rattle.linear_rows.specs.Systems.{test_rows}
use Rattle.termination_model.specs.claims.Claims.{Mapping}
use Rattle.termination_model.specs.mappings.Excluding.{pairs_at}
use Rattle.termination_model.specs.mappings.OwnCalls.{OwnCall, Position, members_of, own_calls, rows_before}
use Rattle.termination_model.specs.mappings.Ready.{positions_by}
use Rattle.termination_model.specs.mappings.Refutation.{Pair, gather, head_load, call_load}
use Rattle.termination_model.specs.mappings.SupportSystem.{mapping_at, support_rows, unknowns}
use Rattle.termination_model.specs.sizes.Systems.{row_fits}
use Rattle.termination_model.specs.mappings.View.{Rule, fall_over, system_of}

abbrev pub is_found : Solution → Bool
is_found (Blown step wide) = false
is_found (Found t w) = true
is_found (Refuted ms) = false

abbrev pub same_position : Position → Position → Bool
same_position p r = (p.0 == r.0) && (p.1 == r.1)

module _ (expression : ℕ → Tree → List ℤ) (view : List Rule) (arity : ℕ → ℕ) where
  -- the solution of the test whether the rows before a call are empty
  abbrev pub emptiness : OwnCall → Solution
  emptiness o = solution (o.rule.vars + 1) (test_rows o.rule.vars (rows_before expression o) (bottom_row o.rule.vars))

  -- the calls that can be reached
  abbrev pub live_calls : List OwnCall
  live_calls = filter (λ o. is_found (emptiness o)) (own_calls view)

  -- these positions in the order of the clauses
  abbrev pub in_order : List Position → List Position
  in_order ps = filter (λ r. list_any (same_position r) ps) (positions_by arity (members_of view))

  abbrev pub support_solution : List Position → Solution
  support_solution ps = solution (unknowns expression (in_order ps) (members_of view) live_calls) (support_rows expression (in_order ps) (members_of view) live_calls)

  -- each number fits that the check of a mapping's falls forms, those of the targets among them
  abbrev pub FallsFit : Mapping → List OwnCall → List ℤ → Type 0
  FallsFit l [] ms = Unit {0}
  FallsFit l (o ∷ os) ms =
      (row_fits (fall_over expression o.rule o.member o.call.args 1 l) ≡ true)
      × AllColumnsFit (rows_before expression o) (take (length (rows_before expression o)) ms) (fall_over expression o.rule o.member o.call.args 1 l) (pos 1)
      × FallsFit l os (drop (length (rows_before expression o)) ms)

  -- the targets of calls that cannot be reached fit as well
  abbrev pub TargetsFit : Mapping → Type 0
  TargetsFit l = AllByRecursion (λ (o : OwnCall). row_fits (fall_over expression o.rule o.member o.call.args 1 l) ≡ true) (own_calls view)

  -- the rows before the call of a pair, and the sizes of its arguments
  abbrev pub pair_rows : Pair → List (List ℤ)
  pair_rows p = system_of expression p.rule.vars (take p.place p.rule.body)

  abbrev pub pair_sizes : Pair → List (List ℤ)
  pair_sizes p = map (expression p.rule.vars) p.rule.args ++ map (expression p.rule.vars) p.call.args

  -- a row's value at a point is formed in numbers that fit
  abbrev pub FitsAt : List ℤ → List ℤ → Type 0
  FitsAt numbers e = DotFits (length e) e numbers

  -- a point of the test of emptiness, whose last number is the t of a point of the rows
  abbrev pub last_first : ℕ → List ℤ → List ℤ
  last_first n w = entry w n ∷ take n w

  -- each number fits that the check of a refutation forms: the values at each point, those at the second point of a
  -- pair whose t is 0, and the sums for each member
  pub record CheckFits (ps : List Pair) : Type 0 where
    pub values : AllByRecursion (λ p. AllByRecursion (FitsAt (pos p.t ∷ map pos p.w)) (pair_rows p ++ pair_sizes p)) ps
    pub seconds : AllByRecursion (λ p. (o : OwnCall) (t : ℤ) (w : List ℤ) → p.t ≡ 0 → In o (own_calls view) → o.rule ≡ p.rule → o.place ≡ p.place → emptiness o ≡ Found t w
        → AllByRecursion (FitsAt (last_first o.rule.vars w)) (pair_rows p)) ps
    pub head_sums : (k q : ℕ) → row_fits (gather q (map (head_load expression) (take k ps))) ≡ true
    pub call_sums : (k q : ℕ) → row_fits (gather q (map (call_load expression) (take k ps))) ≡ true

  -- the system of these positions is blown
  pub data IsBlownAt (ps : List Position) : Type 0 where
    unfit : (o : OwnCall) (r : List ℤ) → In o (own_calls view) → In r (rows_before expression o) → row_fits r ≡ false → IsBlownAt ps
    undecided : (o : OwnCall) → In o (own_calls view) → TestIsBlown o.rule.vars (rows_before expression o) (bottom_row o.rule.vars) → IsBlownAt ps
    solving : (step : ℕ) (wide : Bool) → support_solution ps ≡ Blown step wide → IsBlownAt ps
    mapping : (t : ℤ) (cs os ms : List ℕ) → support_solution ps ≡ Found t (map pos (cs ++ (os ++ ms))) → length cs ≡ length (in_order ps) → length os ≡ length (members_of view)
        → (FallsFit (mapping_at arity (in_order ps) (members_of view) cs os) live_calls (map pos ms) → TargetsFit (mapping_at arity (in_order ps) (members_of view) cs os) → ⊥) → IsBlownAt ps
    refutation : (vs : List ℕ) → support_solution ps ≡ Refuted (map pos vs) → (CheckFits (pairs_at live_calls vs) → ⊥) → IsBlownAt ps
