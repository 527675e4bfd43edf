-- Private.
-- What the code asks of a mapping at a transition, as targets of a turn. Nothing here has to be believed.
use Rattle.std.specs.Prelude.{◌≡◌, ◌≤ℤ◌, ℕ, ◌+◌, ◌++◌, ℤ, pos, neg_ℤ, All, Option, Bool, true, false, List, [], ◌∷◌, map, length}
use Rattle.exact128.specs.Fits.{fits}
use Rattle.exact128.specs.Sums.{entry}
use Rattle.linear_rows.specs.Plain.{plain_row}
use Rattle.linear_rows.specs.RowSums.{added}
use Rattle.linear_rows.specs.Solving.{zeros}
use Rattle.linear_rows.specs.declared.row.Row.{Row}
use Rattle.termination_model.specs.columns.ColumnRows.{or_empty}
use Rattle.transitions.specs.StuckSets.{Feature}
use Rattle.transitions.specs.Templates.{Target}
use Rattle.transitions.specs.Transitions.{Transition}
use Rattle.transitions.specs.Turns.{call_row, fall_target, head_row, level_target}
use Rattle.number_turns.specs.Recalled.{column_of, recalled, spelled}
use Rattle.number_turns.specs.declared.demand.Aim.{Aim}
use Rattle.number_turns.specs.declared.demand.Aim.TheVariants as aim
use Rattle.number_turns.specs.declared.demand.Demand.{Demand}
use Rattle.number_turns.specs.declared.feature.Feature.{Feature as HeldFeature}
use Rattle.number_turns.specs.declared.transition.Transition.{Transition as HeldTransition}

-- what columns count in column x of the clause is natural
abbrev pub AreNatural : ℕ → List (Option Row) → Type 0
AreNatural x columns = All (λ (c : Option Row). pos 0 ≤ℤ entry (or_empty (column_of c)) x) columns

-- the numbers of a held transition, column by column
pub record HoldsNumbers (τ : HeldTransition) : Type 0 where
  pub fit : (x : ℕ) → All (λ (r : Row). fits (entry (plain_row r) x) ≡ true) τ.rows.list
  pub head : (x : ℕ) → AreNatural x τ.head.columns
  pub call : (x : ℕ) → AreNatural x τ.call.columns

-- by what a number is multiplied in what is to be at least 0
abbrev pub feature_row : Aim → Transition → Feature → List ℤ
feature_row aim.Keep τ f = added (head_row τ f) (map neg_ℤ (call_row τ f))
feature_row aim.Fall τ f = added (head_row τ f) (map neg_ℤ (call_row τ f))
feature_row aim.Floor τ f = head_row τ f

abbrev pub least_of : Aim → ℕ
least_of aim.Keep = 0
least_of aim.Fall = 1
least_of aim.Floor = 0

abbrev pub target_of : List Feature → Demand → Target
target_of fs d = record {
  vars = d.transition.now.rows.width;
  rows = (recalled d.transition.now).rows;
  features = map (feature_row d.aim (recalled d.transition.now)) fs;
  least = least_of d.aim;
}

-- the targets of one transition
abbrev pub targets_by : List Feature → Bool → Transition → List Target
targets_by fs false τ = fall_target fs 0 τ ∷ []
targets_by fs true τ = fall_target fs 1 τ ∷ (level_target fs τ ∷ [])

abbrev pub HasItsNumbers : Demand → Type 0
HasItsNumbers d = HoldsNumbers d.transition.now

-- how many rows are known for demands together
abbrev pub row_count : List Demand → ℕ
row_count [] = 0
row_count (d ∷ ds) = length d.transition.now.rows.list + row_count ds

-- a row and then the numbers of a column, with so many multipliers of other demands before and after its own
abbrev pub with_numbers : List HeldFeature → Demand → ℕ → ℕ → ℕ → List ℤ → List ℤ
with_numbers fs d before after x row =
    ((((row ++ map (λ f. entry (feature_row d.aim (recalled d.transition.now) (spelled f)) x) fs)
    ++ map (λ f. neg_ℤ (entry (feature_row d.aim (recalled d.transition.now) (spelled f)) x)) fs)
    ++ zeros before)
    ++ map (λ r. neg_ℤ (entry (plain_row r) x)) d.transition.now.rows.list)
    ++ zeros after
