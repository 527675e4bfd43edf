-- Private.
-- A point of a clause's system that is remembered. Nothing here has to be believed.
use Rattle.std.specs.Prelude.{◌≡◌, ◌∷◌, ℤ, pos, ◌≤ℤ◌, List, Option, None, Some}
use Rattle.exact128.specs.Sums.{dot}
use Rattle.linear_rows.specs.Plain.{plain_rows}
use Rattle.linear_rows.specs.Rows.{IsPoint}
use Rattle.linear_rows.specs.declared.point.Point.{Point}
use Rattle.linear_rows.specs.declared.system.System.{System}
use Rattle.simplex.specs.declared.held.Held.{Held}
use Rattle.simplex.specs.declared.held.Held.TheVariants.{Yes, No, Blown}

-- what is remembered is a point of the system
abbrev pub IsPointOf : System → Option Point → Type 0
IsPointOf s None = Unit {0}
IsPointOf s (Some p) = IsPoint s.variables (plain_rows s.rows.list) p.t p.w

-- the point at which a row failed is remembered in place of an earlier one
abbrev pub IsRemembered : Held → Option Point → Option Point → Type 0
IsRemembered (Yes by) last now = now ≡ last
IsRemembered (No p) last now = now ≡ Some p
IsRemembered Blown last now = now ≡ last

-- a copy of what is remembered, at which a row's value is below 0
abbrev pub IsFailing : Option Point → List ℤ → Point → Type 0
IsFailing None row p = ⊥
IsFailing (Some q) row p = (p ≡ q) × (pos 0 ≤ℤ dot row (q.t ∷ q.w) → ⊥)

-- there is a number, and it is below 0
abbrev pub HasNegative : Option ℤ → Type 0
HasNegative None = ⊥
HasNegative (Some x) = pos 0 ≤ℤ x → ⊥
