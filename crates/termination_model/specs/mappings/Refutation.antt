-- To believe, for the modes.
-- Why no mapping of a component decreases.
--
-- A refutation gives points of calls: at each, the size rows of the atoms before the call hold. Some t is positive, and
-- for each coefficient and each offset the sum of the heads' values is at most that of the calls' values. At t = 0 the
-- point stands for a direction, and a point with t at least 1 is given beside it.
--
-- To believe: `Decreases`, `IsRefutation`.
-- Source: the duality of linear programs, as in Sohn and Van Gelder 1991.
use Rattle.std.specs.Prelude.{◌≡◌, ℕ, suc, ◌≤◌, ◌==◌, ℤ, pos, ◌≤ℤ◌, if◌then◌else◌, List, [], ◌∷◌, map, take, length, slice_get, Some, ◌⊎◌}
use Rattle.std.specs.List.{AllByRecursion}
use Rattle.exact128.specs.Sums.{dot, entry}
use Rattle.linear_rows.specs.Rows.{AllHold, HoldsOn}
use Rattle.cti_terms.specs.Tree.{Tree}
use Rattle.termination_model.specs.sizes.Rows.{added}
use Rattle.termination_model.specs.claims.Claims.{Mapping, SomeOf}
use Rattle.termination_model.specs.mappings.View.{Member, Call, Rule, system_of, fall_over}

-- a call of a member in a rule, and a point of the variables
pub record Pair : Type 0 where
  pub rule : Rule
  pub place : ℕ
  pub call : Call
  pub member : ℕ
  pub w : List ℕ
  pub t : ℕ

-- a member with the values of its arguments, that of the offset first
abbrev pub Load : Type 0
Load = ℕ × List ℤ

-- the sum of the values at a member
abbrev pub gather : ℕ → List Load → List ℤ
gather q [] = []
gather q (h ∷ hs) = if h.0 == q then added h.1 (gather q hs) else gather q hs

module _ (expression : ℕ → Tree → List ℤ) where
  -- the mapping falls at each call of a member
  abbrev pub Decreases : List Rule → Mapping → Type 0
  Decreases view l = AllByRecursion (λ (k : Rule). (j : ℕ) (b : Call) (q : ℕ) → slice_get k.body j ≡ Some b → b.place ≡ Member q
      → HoldsOn (suc k.vars) (system_of expression k.vars (take j k.body)) (fall_over expression k q b.args 1 l)) view

  abbrev pub values_at : ℕ → List ℕ → ℕ → List Tree → List ℤ
  values_at n w t ts = pos t ∷ map (λ e. dot e (pos t ∷ map pos w)) (map (expression n) ts)

  abbrev pub head_load : Pair → Load
  head_load p = (p.rule.member, values_at p.rule.vars p.w p.t p.rule.args)

  abbrev pub call_load : Pair → Load
  call_load p = (p.member, values_at p.rule.vars p.w p.t p.call.args)

  -- the pair is one of the view, the rows before the call hold at its point, and where t is 0 also at some point with t
  -- at least 1
  pub record IsPair (view : List Rule) (p : Pair) : Type 0 where
    pub there : SomeOf (λ k. k ≡ p.rule) view
    pub call : slice_get p.rule.body p.place ≡ Some p.call
    pub member : p.call.place ≡ Member p.member
    pub width : length p.w ≡ p.rule.vars
    pub holds : AllHold (system_of expression p.rule.vars (take p.place p.rule.body)) p.t p.w
    pub point : (1 ≤ p.t) ⊎ ((w : List ℕ) × (t : ℕ) × (1 ≤ t) × (length w ≡ p.rule.vars) × AllHold (system_of expression p.rule.vars (take p.place p.rule.body)) t w)

  -- some t is positive, and for each coefficient and offset the heads' values are together at most the calls'
  pub record IsRefutation (view : List Rule) (ps : List Pair) : Type 0 where
    pub pairs : AllByRecursion (IsPair view) ps
    pub positive : SomeOf (λ (p : Pair). 1 ≤ p.t) ps
    pub columns : (q i : ℕ) → entry (gather q (map head_load ps)) i ≤ℤ entry (gather q (map call_load ps)) i

abbrev pub NoneDecreases : Type 0
NoneDecreases = (expression : ℕ → Tree → List ℤ) (view : List Rule) (ps : List Pair) (l : Mapping)
    → IsRefutation expression view ps → Decreases expression view l → ⊥
