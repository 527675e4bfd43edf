-- Private.
-- Reading items one after the other into their places. Nothing here has to be believed.
use Rattle.std.specs.Prelude.{◌≡◌, List, Result, Ok, Err}
use Rattle.std.specs.Borrow.{Bor}
use Rattle.fact_reading.specs.declared.stop.Stop.{Stop}
use Rattle.fact_reading.specs.declared.stop.Stop.TheVariants as stop
use Rattle.fact_reading.specs.Walk.{Read}

-- the code read a value into its place, and gave the facts after it; or it found the first wrong fact
abbrev pub Fills : {F A : Type 0} → Result (Bor (List F)) Stop → A → Read F A → Type 0
Fills (Ok s) x o = o ≡ Ok (x, s.now)
Fills (Err (stop.Wrong left why)) x o = o ≡ Err (left, why)
Fills (Err stop.Memory) x o = Unit {0}
