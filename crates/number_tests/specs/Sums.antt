-- Private.
-- Sums of values for each predicate, as the code keeps them. Nothing here has to be believed.
use Rattle.std.specs.Prelude.{◌≡◌, ◌==◌, ℕ, ℤ, Bool, true, false, if◌then◌else◌, List, [], Option, None, Some}
use Rattle.std.specs.BTreeMap.{BTreeMap, get}
use Rattle.std.specs.Ordering.{nat_cmp}
use Rattle.termination_model.specs.sizes.Rows.{added}
use Rattle.termination_model.specs.sizes.Systems.{row_fits}

abbrev pub list_or_none : Option (List ℤ) → List ℤ
list_or_none None = []
list_or_none (Some xs) = xs

-- the sums of a predicate, or none
abbrev pub sum_at : BTreeMap ℕ (List ℤ) → ℕ → List ℤ
sum_at m q = list_or_none (get nat_cmp m q)

-- the values are added to the sums of one predicate where these fit
abbrev pub AddsTo : BTreeMap ℕ (List ℤ) → BTreeMap ℕ (List ℤ) → ℕ → List ℤ → Bool → Type 0
AddsTo old new pred values true = (row_fits (added (sum_at old pred) values) ≡ true) × ((q : ℕ) → sum_at new q ≡ (if pred == q then added (sum_at old q) values else sum_at old q))
AddsTo old new pred values false = row_fits (added (sum_at old pred) values) ≡ false
