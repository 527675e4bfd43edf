-- The test of a number and what it says.
use Rattle.std.proofs.Common.{◌≡◌, ℤ, ◌^◌, Bool, true, false, refl}
use Rattle.std.specs.Prelude.{unsigned_abs, ◌&&◌}
use Rattle.std.proofs.lemmas.Bool.{lt-ltb, ltb-true}
use Rattle.exact128.specs.Fits.{Fits, fits}

pub to_fits : (z : ℤ) → Fits z → fits z ≡ true
to_fits z h = lt-ltb (unsigned_abs z) (2 ^ 127) h

pub of_fits : (z : ℤ) → fits z ≡ true → Fits z
of_fits z e = ltb-true (unsigned_abs z) (2 ^ 127) e

-- both tests of a conjunction
pub both : (a b : Bool) → (a && b) ≡ true → (a ≡ true) × (b ≡ true)
both true true e = (refl, refl)
both true false e = cc
both false b e = cc

-- a test that cannot hold fails
pub either_bool : (b : Bool) → (b ≡ true → ⊥) → b ≡ false
either_bool true h = absurd (h refl)
either_bool false h = refl
