-- Private.
-- What a test of multipliers says. Nothing here has to be believed.
use Rattle.std.specs.Prelude.{◌≡◌, ◌↔◌, ℤ, List, Option, None, Some, IfSome}
use Rattle.linear_rows.specs.Showing.{IsShown}
use Rattle.linear_rows.specs.declared.multipliers.Multipliers.{Multipliers}
use Rattle.linear_rows.specs.declared.multipliers.Proof.{Proof}
use Rattle.linear_rows.specs.declared.multipliers.Proof.TheVariants as proof
use Rattle.linear_rows.specs.declared.row.Row.{Row}
use Rattle.termination_model.specs.sizes.Replacing.{IsRowIfFits}
use Rattle.number_tests.specs.Failing.{MultipliersFail}
use Rattle.number_tests.specs.declared.flaw.Flaw.{Flaw}
use Rattle.number_tests.specs.declared.flaw.Flaw.TheVariants as flaw

-- the flaw that an answer of the test is
abbrev pub flaw_in : Proof → Option Flaw
flaw_in proof.Holds = None
flaw_in proof.Fails = Some flaw.Fails
flaw_in proof.Wide = Some flaw.Wide

-- there is no flaw exactly where multipliers show the row that the target stands for
abbrev pub FlawShows : List (List ℤ) → Option Row → Multipliers → Option Flaw → Type 0
FlawShows rows target by flaw = (z : List ℤ) → IsRowIfFits z target → (flaw ≡ None) ↔ IsShown rows z by

-- and a flaw is why they do not show it
abbrev pub FlawFails : List (List ℤ) → Option Row → Multipliers → Option Flaw → Type 0
FlawFails rows target by flaw = (z : List ℤ) → IsRowIfFits z target → IfSome flaw (MultipliersFail rows by.list z by.scale)
