use Rattle.std.proofs.Common.{◌≡◌, sym, subst, ◌∙◌, arith}
use Rattle.std.specs.Int.{IsGcd}
use Rattle.exact128.specs.Gcd.{gcd}
use Rattle.exact128.proofs.Gcds.{gcd_is, gcd-mod, gcd-zero, gcd-pos, gcd-le}
use Rattle.exact128.proofs.divisor.gcd.Goals as goal

pub loop-y-preserved : goal.loop-y-preserved
loop-y-preserved c = gcd-mod _ _ ∙ c.loop-y.invariant

pub returns : goal.returns
returns c =
    let is : c.loop-y.x ≡ gcd c.args.a c.args.b = sym (gcd-zero _ _ (omega arith)) ∙ c.loop-y.invariant in
    record {
      value = is;
      greatest = subst (IsGcd c.args.a c.args.b) (sym is) (gcd_is c.args.a c.args.b);
      some = λ p. omega (arith, is, gcd-pos c.args.a c.args.b p);
      within = λ p. omega (arith, is, gcd-le c.args.a c.args.b p);
    }
