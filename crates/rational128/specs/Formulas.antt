-- Private.
-- What an operation of `Ratio` gives, said by the formulas of exact128's fractions.
use Rattle.std.specs.Prelude.{◌≡◌, Option, Some, None, Result, Ok, Err}
use Rattle.exact128.specs.Fractions.{Fraction}
use Rattle.rational128.specs.declared.ratio.Ratio.{Ratio}
use Rattle.rational128.specs.declared.ratio.Wide.{Wide}

-- the two numbers of a fraction
abbrev pub fraction_of : Ratio → Fraction
fraction_of r = record { num = r.num; den = r.den }

-- the answer is the value of a formula, and Wide exactly where it has none
abbrev pub Gives : Option Fraction → Result Ratio Wide → Type 0
Gives o (Ok r) = o ≡ Some (fraction_of r)
Gives o (Err w) = o ≡ None
