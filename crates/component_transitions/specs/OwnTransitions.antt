-- Private.
-- What measures with numbers see of a call, and of the calls of a component of itself.
--
-- Columns measure terms, an argument of a predicate has as many as its kind says, and size rows are over these. Before
-- a call the size rows of the atoms before it hold, with zeros in the place of each row that has a number which does
-- not fit. That the levels of a transition are those of claims is the law `transitions_are_of_claims` of this crate.
--
-- To believe: `transition_at`, `own_transitions`.
use Rattle.std.specs.Prelude.{◌≡◌, ◌≤◌, ◌*◌, ◌-◌, ◌⊎◌, ℕ, ℤ, pos, false, List, map, take, length, sum, slice_get, Option, None, Some}
use Rattle.call_components.specs.Partition.{IsIn, Partition}
use Rattle.cti_terms.specs.Listing.{Listing}
use Rattle.cti_terms.specs.declared.atom_list.Atom.{Atom}
use Rattle.cti_terms.specs.declared.clauses.Clause.{Clause}
use Rattle.level_systems.specs.Pairs.{call_at, clause_at, pairs_of}
use Rattle.linear_rows.specs.Irredundant.{TestIsBlown}
use Rattle.linear_rows.specs.Members.{In}
use Rattle.linear_rows.specs.Plain.{HaveWidth, plain_rows}
use Rattle.linear_rows.specs.Replacing.{row_fits}
use Rattle.linear_rows.specs.Showing.{Shows, bottom_row}
use Rattle.linear_rows.specs.declared.multipliers.Multipliers.{Multipliers}
use Rattle.number_columns.specs.ColumnLists.{columns_over}
use Rattle.number_columns.specs.ColumnSystems.{of_sizes, short_rows}
use Rattle.number_turns.specs.Recalled.{HasNumbers, recalled}
use Rattle.termination_model.specs.columns.ColumnClaims.{Mapping, fall_row, level_row, system}
use Rattle.termination_model.specs.columns.Columns.{Columns}
use Rattle.transitions.specs.StuckSets.{HasPoint}
use Rattle.transitions.specs.Transitions.{Transition, call_level, fall, head_level}
use Rattle.transitions.specs.Turns.{HasWidths}
use Rattle.component_transitions.specs.declared.own_transition.OwnTransition.{OwnTransition}

-- the rows of a transition hold somewhere, or multipliers with scale 0 show that they hold nowhere
abbrev pub IsReach : Transition → Option Multipliers → Type 0
IsReach τ None = HasPoint τ
IsReach τ (Some by) = Shows τ.rows (bottom_row τ.vars) by × (by.scale ≡ pos 0)

module _ (m : Columns) (kinds : ℕ → List ℕ) (rows : ℕ → List (List ℤ)) where
  -- from the head of a clause to the call b at place j of its body, counted from 0
  abbrev pub transition_at : Clause → ℕ → Atom → Transition
  transition_at k j b = record {
    vars = k.vars * m.width;
    rows = short_rows m kinds rows k.vars (take j k.body);
    head = k.head.pred.0;
    head_columns = columns_over m kinds k.vars k.head;
    call = b.pred.0;
    call_columns = columns_over m kinds k.vars b;
  }

  module _ (p : Listing) where
    -- of a clause and a call that count from 1
    abbrev pub transition_of : ℕ × ℕ → Transition
    transition_of pair = transition_at (clause_at p pair.0) (pair.1 - 1) (call_at p pair.0 pair.1)

    -- those of a component's calls of itself, by clause and call
    abbrev pub own_transitions : Partition → ℕ → List Transition
    own_transitions comps c = map transition_of (pairs_of p comps c)

    -- the held call is the call b of the clause k
    pub record IsHeldBy (k : Clause) (b : Atom) (own : OwnTransition) : Type 0 where
      pub there : slice_get p.clauses (own.clause - 1) ≡ Some k
      pub first : 1 ≤ own.clause
      pub at : slice_get k.body (own.call - 1) ≡ Some b
      pub one : 1 ≤ own.call
      pub is : recalled own.transition ≡ transition_at k (own.call - 1) b
      pub numbers : HasNumbers (recalled own.transition)
      pub lengths : HaveWidth own.transition.rows.width own.transition.rows.list
      pub widths : HasWidths (λ q. sum (kinds q)) (recalled own.transition)
      pub reach : IsReach (recalled own.transition) own.empty

    abbrev pub IsHeld : OwnTransition → Type 0
    IsHeld own = IsHeldBy (clause_at p own.clause) (call_at p own.clause own.call) own

    -- the call j of the clause k is held
    abbrev pub IsHeldAs : ℕ → ℕ → OwnTransition → Type 0
    IsHeldAs k j own = (own.clause ≡ k) × (own.call ≡ j) × IsHeld own

    -- a held call of members
    abbrev pub IsHeldIn : Partition → ℕ → OwnTransition → Type 0
    IsHeldIn comps c own = IsHeld own × IsIn comps c own.transition.head.member × IsIn comps c own.transition.call.member

    -- a row before the call j of the clause k does not fit, or the test whether these rows are empty is blown
    abbrev pub IsGivenUp : ℕ → ℕ → Type 0
    IsGivenUp k j =
        ((r : List ℤ) × In r (system (of_sizes m kinds rows) (clause_at p k).vars (take (j - 1) (clause_at p k).body)) × (row_fits r ≡ false))
        ⊎ TestIsBlown ((clause_at p k).vars * m.width) (transition_of (k, j)).rows (bottom_row ((clause_at p k).vars * m.width))

    -- one of the pairs was given up
    abbrev pub SomeGivenUp : List (ℕ × ℕ) → Type 0
    SomeGivenUp pairs = (x : ℕ × ℕ) × In x pairs × IsGivenUp x.0 x.1

-- the numbers of a held call
abbrev pub numbers_of_call : OwnTransition → ℕ × ℕ
numbers_of_call own = (own.clause, own.call)

-- the levels of a transition, and its falls, are those of claims of these size rows
abbrev pub TransitionsAreOfClaims : Type 0
TransitionsAreOfClaims = (m : Columns) (kinds : ℕ → List ℕ) (rows : ℕ → List (List ℤ)) (k : Clause) (j : ℕ) (b : Atom) (d : ℕ) (l : Mapping)
    → (head_level (transition_at m kinds rows k j b) l ≡ level_row (of_sizes m kinds rows) k.vars l k.head)
    × (call_level (transition_at m kinds rows k j b) l ≡ level_row (of_sizes m kinds rows) k.vars l b)
    × (fall (transition_at m kinds rows k j b) d l ≡ fall_row (of_sizes m kinds rows) k b d l)
