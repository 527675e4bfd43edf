-- Private.
-- Systems at points, as the code tests them. Nothing here has to be believed.
use Rattle.std.specs.Prelude.{◌≡◌, ◌≤ℤ◌, ℤ, pos, false, List}
use Rattle.std.specs.List.{AllByRecursion}
use Rattle.exact128.specs.Sums.{dot}
use Rattle.linear_rows.specs.declared.point.Point.{Point}
use Rattle.linear_rows.specs.Plain.{plain_rows}
use Rattle.linear_rows.specs.declared.system.System.{System}
use Rattle.number_tests.specs.Refuting.{ValueFits, numbers_of}
use Rattle.number_tests.specs.declared.flaw.Flaw.{Flaw}
use Rattle.number_tests.specs.declared.flaw.Flaw.TheVariants as flaw

-- a row's value fits, and is at least 0
abbrev pub ValueHolds : Point → List ℤ → Type 0
ValueHolds x row = ValueFits x row × (pos 0 ≤ℤ dot row (numbers_of x))

-- no row was replaced, and each holds
abbrev pub SystemHolds : System → Point → Type 0
SystemHolds s x = (s.wide ≡ false) × AllByRecursion (ValueHolds x) (plain_rows s.rows.list)

-- no row was replaced, and each number fits that is formed
abbrev pub SystemFits : System → Point → Type 0
SystemFits s x = (s.wide ≡ false) × AllByRecursion (ValueFits x) (plain_rows s.rows.list)

-- some row does not hold, and why
pub data SystemFails (s : System) (x : Point) : Flaw → Type 0 where
  wide : ¬ SystemFits s x → SystemFails s x flaw.Wide
  fails : SystemFits s x → ¬ SystemHolds s x → SystemFails s x flaw.Fails
