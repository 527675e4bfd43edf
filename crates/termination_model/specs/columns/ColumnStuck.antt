-- Private.
-- To believe, for the modes by lists of mappings of whole numbers.
-- Stuck sets over columns: a set of calls, and for each of them a group of points, which exclude that a list falls
-- first at this call.
--
-- To believe: `ListDescends`, `IsNatural`, `IsStuck`.
use Rattle.std.specs.Prelude.{◌≡◌, ℕ, suc, ◌*◌, ◌≤◌, ℤ, pos, neg_ℤ, ◌≤ℤ◌, Bool, true, ◌⊎◌, List, [], ◌∷◌, ◌++◌, map, take, length, slice_get, Option, None, Some}
use Rattle.std.specs.List.{AllByRecursion}
use Rattle.exact128.specs.Sums.{dot, entry}
use Rattle.linear_rows.specs.Rows.{AllHold}
use Rattle.cti_terms.specs.Tree.{Tree}
use Rattle.termination_model.specs.claims.Claims.{SomeOf}
use Rattle.termination_model.specs.mappings.View.{Member}
use Rattle.termination_model.specs.mappings.Refutation.{Load, gather}
use Rattle.termination_model.specs.columns.ColumnRows.{or_empty}
use Rattle.termination_model.specs.columns.ColumnClaims.{Mapping}
use Rattle.termination_model.specs.columns.ColumnView.{Call, Rule, columns_in, system_of, FallsOver}

-- a call of a member in a rule
pub record Own : Type 0 where
  pub rule : Rule
  pub place : ℕ
  pub call : Call
  pub member : ℕ

-- a point of a call's rule
pub record Point : Type 0 where
  pub own : Own
  pub t : ℕ
  pub w : List ℕ

-- a call with its point, points of other calls of the set, and perhaps a floor: a point of the call's head alone
pub record Group : Type 0 where
  pub first : Point
  pub others : List Point
  pub floor : Option (ℕ × List ℕ)

-- a size column's number is natural
abbrev pub IsNatural : (ℕ → ℕ → Bool) → Mapping → Type 0
IsNatural sizes l = (q i : ℕ) → sizes q i ≡ true → pos 0 ≤ℤ entry (l.coefficients q) i

module _ (width : ℕ) (expression : ℕ → Tree → ℕ → Option (List ℤ)) where
  -- at each call of a member the list falls at some place
  abbrev pub ListDescends : List Rule → List Mapping → Type 0
  ListDescends view ls = AllByRecursion (λ (k : Rule). (j : ℕ) (b : Call) (q : ℕ) → slice_get k.body j ≡ Some b → b.place ≡ Member q
      → (i : ℕ) × FallsOver width expression k (system_of width expression k.vars (take j k.body)) q b i ls) view

  abbrev pub rows_before : Own → List (List ℤ)
  rows_before o = system_of width expression o.rule.vars (take o.place o.rule.body)

  -- the rows before the call hold at t and w
  abbrev pub IsAt : Own → ℕ → List ℕ → Type 0
  IsAt o t w = (length w ≡ o.rule.vars * width) × AllHold (rows_before o) t w

  pub record IsOwn (view : List Rule) (o : Own) : Type 0 where
    pub there : SomeOf (λ k. k ≡ o.rule) view
    pub call : slice_get o.rule.body o.place ≡ Some o.call
    pub member : o.call.place ≡ Member o.member

  -- t, and the values of the columns at t and w; 0 where there is no expression
  abbrev pub values_at : ℕ → List ℕ → List Tree → ℕ → List ℕ → List ℤ
  values_at n ks ts t w = pos t ∷ map (λ e. dot e (pos t ∷ map pos w)) (map or_empty (columns_in width expression n ks ts))

  abbrev pub head_at : Own → ℕ → List ℕ → Load
  head_at o t w = (o.rule.member, values_at o.rule.vars o.rule.kinds o.rule.args t w)

  abbrev pub call_at : Own → ℕ → List ℕ → Load
  call_at o t w = (o.member, map neg_ℤ (values_at o.rule.vars o.call.kinds o.call.args t w))

  abbrev pub floor_at : Own → Option (ℕ × List ℕ) → List Load
  floor_at o None = []
  floor_at o (Some f) = head_at o f.0 f.1 ∷ []

  -- what the heads have at the points, less what the calls have, and what the head has at the floor
  abbrev pub loads : Group → List Load
  loads g =
      map (λ (p : Point). head_at p.own p.t p.w) (g.first ∷ g.others)
      ++ (map (λ (p : Point). call_at p.own p.t p.w) (g.first ∷ g.others) ++ floor_at g.first.own g.floor)

  -- a call lacks an expression in a column of a member
  abbrev pub Lacks : Own → ℕ → ℕ → Type 0
  Lacks o q i =
      ((o.rule.member ≡ q) × (slice_get (columns_in width expression o.rule.vars o.rule.kinds o.rule.args) i ≡ Some None))
      ⊎ ((o.member ≡ q) × (slice_get (columns_in width expression o.rule.vars o.call.kinds o.call.args) i ≡ Some None))

  abbrev pub IsBalancedAt : (ℕ → ℕ → Bool) → List Group → Group → ℕ → ℕ → Type 0
  IsBalancedAt sizes gs g q i =
      SomeOf (λ (h : Group). Lacks h.first.own q i) gs
      ⊎ ((entry (gather q (loads g)) (suc i) ≡ pos 0) ⊎ ((sizes q i ≡ true) × (entry (gather q (loads g)) (suc i) ≤ℤ pos 0)))

  abbrev pub IsFloor : Own → Option (ℕ × List ℕ) → Type 0
  IsFloor o None = Unit {0}
  IsFloor o (Some f) = IsAt o f.0 f.1

  -- points of calls of the set; the sum of each offset is 0, that of each column 0, and of a size column at most 0
  pub record IsGroup (view : List Rule) (sizes : ℕ → ℕ → Bool) (gs : List Group) (g : Group) : Type 0 where
    pub own : IsOwn view g.first.own
    pub some : 1 ≤ g.first.t
    pub here : IsAt g.first.own g.first.t g.first.w
    pub others : AllByRecursion (λ (p : Point). IsAt p.own p.t p.w × SomeOf (λ (h : Group). h.first.own ≡ p.own) gs) g.others
    pub floor : IsFloor g.first.own g.floor
    pub offsets : (q : ℕ) → entry (gather q (loads g)) 0 ≡ pos 0
    pub columns : (q i : ℕ) → IsBalancedAt sizes gs g q i

  pub record IsStuck (view : List Rule) (sizes : ℕ → ℕ → Bool) (gs : List Group) : Type 0 where
    pub some : 1 ≤ length gs
    pub groups : AllByRecursion (IsGroup view sizes gs) gs

-- where a stuck set stands, no list descends
abbrev pub NoneDescends : Type 0
NoneDescends = (width : ℕ) (expression : ℕ → Tree → ℕ → Option (List ℤ)) (view : List Rule) (sizes : ℕ → ℕ → Bool) (gs : List Group) (ls : List Mapping)
    → IsStuck width expression view sizes gs → AllByRecursion (IsNatural sizes) ls → ListDescends width expression view ls → ⊥
