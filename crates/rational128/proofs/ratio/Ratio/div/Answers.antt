use Rattle.std.proofs.Common.{◌≡◌, pos, ◌*ℤ◌, Ok, Err, Result}
use Rattle.std.specs.Prelude.{unsigned_abs, IfOk}
use Rattle.exact128.specs.Fractions.{signed_of}
use Rattle.exact128.proofs.FractionQuotients.{quotient_is, quotient_value}
use Rattle.rational128.specs.declared.ratio.Ratio.{Ratio}
use Rattle.rational128.proofs.ratio.Ratio.div.Goals as goal

pub returns-clause-value : goal.returns-clause-value
returns-clause-value c = look c.mul.result (rw (c.inverse.ensures.num, c.inverse.ensures.den) at c.mul.ensures.value)
  where
    look : {E : Type 0} (r : Result Ratio E) → IfOk r (λ r. r.num *ℤ (c.args.self.den *ℤ pos (unsigned_abs c.args.other.num)) ≡ (c.args.self.num *ℤ signed_of (unsigned_abs c.args.other.den) (pos 1) c.args.other.num) *ℤ r.den) → IfOk r (λ r. r.num *ℤ (c.args.self.den *ℤ c.args.other.num) ≡ (c.args.self.num *ℤ c.args.other.den) *ℤ r.den)
    look (Ok r) e = quotient_value c.args.self.num c.args.self.den c.args.other.num c.args.other.den r.num r.den c.args.self.positive c.args.other.positive c.requires e
    look (Err w) e = e

pub returns-clause-exact : goal.returns-clause-exact
returns-clause-exact c =
    let same = quotient_is c.args.self.num c.args.self.den c.args.other.num c.args.other.den c.args.self.positive c.args.other.positive c.requires in
    rw same at (rw (c.inverse.ensures.num, c.inverse.ensures.den) at c.mul.ensures.exact)
