-- Private.
-- The sums of a refutation's values, a pair at a time. Nothing here has to be believed.
use Rattle.std.specs.Prelude.{ℤ, ℕ, Bool, true, false, List, ◌⊎◌}
use Rattle.std.specs.List.{AllByRecursion}
use Rattle.std.specs.BTreeMap.{BTreeMap}
use Rattle.linear_rows.specs.declared.point.Point.{Point}
use Rattle.number_tests.specs.Refuting.{ValueFits, values_of}
use Rattle.number_tests.specs.Sums.{AddsTo}

-- the values of expressions at a point are added to the sums of a predicate, where they and the sums fit
abbrev pub AddsLoad : BTreeMap ℕ (List ℤ) → BTreeMap ℕ (List ℤ) → ℕ → List (List ℤ) → Point → Bool → Type 0
AddsLoad old new pred es x true = AllByRecursion (ValueFits x) es × AddsTo old new pred (values_of es x) true
AddsLoad old new pred es x false = AllByRecursion (ValueFits x) es → AddsTo old new pred (values_of es x) false

-- both are added where all fits
abbrev pub AddsBoth : (Bool → Type 0) → (Bool → Type 0) → Bool → Type 0
AddsBoth heads calls true = heads true × calls true
AddsBoth heads calls false = heads false ⊎ calls false
