-- Private.
-- To believe, for the modes by measures of numbers.
-- Transitions: what measures see of a pair of a clause's head and a call of its body, and lists that descend over them.
--
-- A transition is over so many naturals, those of the clause's variables. Rows say what is known of them before the
-- call. The columns of the head and of the call are rows over them, where there is an expression. A mapping gives each
-- member a number for each of its columns, and an offset. A list of mappings descends where at each transition some
-- mapping is at least 0 on the head and falls to the call, and none before it rises.
--
-- To believe: `Transition`, `head_level`, `fall`, `FallsAt`, `Descends`.
-- Source: Podelski and Rybalchenko 2004; Bradley, Manna and Sipma 2005.
use Rattle.std.specs.Prelude.{ℕ, zero, suc, ◌*◌, ℤ, List, [], ◌∷◌, Option}
use Rattle.std.specs.List.{AllByRecursion}
use Rattle.termination_model.specs.columns.ColumnRows.{row_over}
use Rattle.termination_model.specs.columns.ColumnClaims.{Mapping, RowHoldsOn, difference}
use Rattle.termination_model.specs.columns.ColumnStuck.{Own, rows_before}
use Rattle.termination_model.specs.columns.ColumnView.{columns_in}
use Rattle.cti_terms.specs.Tree.{Tree}

-- the members of head and call, with their columns
pub record Transition : Type 0 where
  pub vars : ℕ
  pub rows : List (List ℤ)
  pub head : ℕ
  pub head_columns : List (Option (List ℤ))
  pub call : ℕ
  pub call_columns : List (Option (List ℤ))

-- the transition of a call in a component's view, where each variable has so many naturals
abbrev pub transition_of : ℕ → (ℕ → Tree → ℕ → Option (List ℤ)) → Own → Transition
transition_of width expression o = record {
  vars = o.rule.vars * width;
  rows = rows_before width expression o;
  head = o.rule.member;
  head_columns = columns_in width expression o.rule.vars o.rule.kinds o.rule.args;
  call = o.member;
  call_columns = columns_in width expression o.rule.vars o.call.kinds o.call.args;
}

-- the level of an atom of member q with these columns, as a row over n naturals
abbrev pub level_of : ℕ → ℕ → List (Option (List ℤ)) → Mapping → Option (List ℤ)
level_of n q es l = row_over n es (l.offset q ∷ l.coefficients q)

abbrev pub head_level : Transition → Mapping → Option (List ℤ)
head_level τ l = level_of τ.vars τ.head τ.head_columns l

abbrev pub call_level : Transition → Mapping → Option (List ℤ)
call_level τ l = level_of τ.vars τ.call τ.call_columns l

-- the level of the head, less that of the call, less d
abbrev pub fall : Transition → ℕ → Mapping → Option (List ℤ)
fall τ d l = difference d (head_level τ l) (call_level τ l)

-- a row holds wherever those of the transition do
abbrev pub HoldsThere : Transition → Option (List ℤ) → Type 0
HoldsThere τ = RowHoldsOn (suc τ.vars) τ.rows

-- the mapping at place i falls and is at least 0 on the head, and none before it rises
abbrev pub FallsAt : Transition → ℕ → List Mapping → Type 0
FallsAt τ i [] = ⊥
FallsAt τ zero (l ∷ ls) = HoldsThere τ (fall τ 1 l) × HoldsThere τ (head_level τ l)
FallsAt τ (suc i) (l ∷ ls) = HoldsThere τ (fall τ 0 l) × FallsAt τ i ls

abbrev pub Descends : List Transition → List Mapping → Type 0
Descends τs ls = AllByRecursion (λ (τ : Transition). (i : ℕ) × FallsAt τ i ls) τs
