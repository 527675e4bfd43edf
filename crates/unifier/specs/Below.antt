-- Private.
-- Variables below a counter. Nothing here has to be believed.
use Rattle.std.specs.Prelude.{◌≡◌, ℕ, ◌≤◌, List, None}
use Rattle.std.specs.List.{AllByRecursion}
use Rattle.cti_terms.specs.Unify.{Equation, Binding}
use Rattle.cti_terms.specs.Below.{TermBelow}
use Rattle.unifier.specs.Store.{stored}

-- each variable from n on is free
abbrev pub FreeFrom : ℕ → List Binding → Type 0
FreeFrom n s = (y : ℕ) → n ≤ y → stored s y ≡ None

-- each variable on the left of equations is below n
abbrev pub LeftBelow : ℕ → List Equation → Type 0
LeftBelow n = AllByRecursion (λ e. TermBelow n e.0)
