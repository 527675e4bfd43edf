use Rattle.std.proofs.Common.{◌≡◌, ◌+◌, true, arith, sym, ◌∙◌, subst, OnOk, Some, None, get_or, []}
use Rattle.exact128.specs.Sums.{entry}
use Rattle.linear_rows.specs.Equation.{equation_from}
use Rattle.linear_rows.specs.Blown.{step_fits}
use Rattle.fourier.specs.Saying.{FitsUnless}
use Rattle.linear_rows.proofs.Steps.{positive_is}
use Rattle.linear_rows.proofs.Whole.{opposite_falls}
use Rattle.linear_rows.proofs.Places.{equation_is}
use Rattle.fourier.proofs.StepLemmas.{ok_unless, fits_solved, fits_crossed}
use Rattle.fourier.proofs.stepping.combinations.Goals as goal

pub cross_equation-requires-clause-i : goal.cross_equation-requires-clause-i
cross_equation-requires-clause-i c =
    let e : equation_from (c.args.last + 1) c.args.k c.args.rows.now 0 c.args.rows.now ≡ Some (c.in-Some.i, c.in-Some.j) = sym c.equation.ensures ∙ c.in-Some.is in
    let is = equation_is (c.args.last + 1) c.args.k c.args.rows.now c.in-Some.i c.in-Some.j e in
    is.i_within

pub cross_equation-requires-clause-j : goal.cross_equation-requires-clause-j
cross_equation-requires-clause-j c =
    let e : equation_from (c.args.last + 1) c.args.k c.args.rows.now 0 c.args.rows.now ≡ Some (c.in-Some.i, c.in-Some.j) = sym c.equation.ensures ∙ c.in-Some.is in
    let is = equation_is (c.args.last + 1) c.args.k c.args.rows.now c.in-Some.i c.in-Some.j e in
    is.j_within

pub cross_equation-requires-clause-rises : goal.cross_equation-requires-clause-rises
cross_equation-requires-clause-rises c =
    let e : equation_from (c.args.last + 1) c.args.k c.args.rows.now 0 c.args.rows.now ≡ Some (c.in-Some.i, c.in-Some.j) = sym c.equation.ensures ∙ c.in-Some.is in
    let is = equation_is (c.args.last + 1) c.args.k c.args.rows.now c.in-Some.i c.in-Some.j e in
    positive_is (entry (get_or c.args.rows.now c.in-Some.i []) c.args.k) is.rises

pub cross_equation-requires-clause-falls : goal.cross_equation-requires-clause-falls
cross_equation-requires-clause-falls c =
    let e : equation_from (c.args.last + 1) c.args.k c.args.rows.now 0 c.args.rows.now ≡ Some (c.in-Some.i, c.in-Some.j) = sym c.equation.ensures ∙ c.in-Some.is in
    let is = equation_is (c.args.last + 1) c.args.k c.args.rows.now c.in-Some.i c.in-Some.j e in
    opposite_falls (c.args.last + 1) c.args.k (get_or c.args.rows.now c.in-Some.i []) (get_or c.args.rows.now c.in-Some.j []) (omega arith) (positive_is (entry (get_or c.args.rows.now c.in-Some.i []) c.args.k) is.rises) is.opposite

pub returns-in-Some-clause-fits : goal.returns-in-Some-clause-fits
returns-in-Some-clause-fits c =
    let e : equation_from (c.args.last + 1) c.args.k c.args.rows.now 0 c.args.rows.now ≡ Some (c.in-Some.i, c.in-Some.j) = sym c.equation.ensures ∙ c.in-Some.is in
    ok_unless c.args.brief c.cross_equation.new.kept (step_fits c.args.last c.args.k c.args.rows.now) c.cross_equation.result
    (subst (λ b. OnOk c.cross_equation.result (b ≡ true)) (fits_solved c.args.last c.args.k c.in-Some.i c.in-Some.j c.args.rows.now e) c.cross_equation.ensures.fits)

pub returns-in-Some-clause-wide : goal.returns-in-Some-clause-wide
returns-in-Some-clause-wide c =
    let e : equation_from (c.args.last + 1) c.args.k c.args.rows.now 0 c.args.rows.now ≡ Some (c.in-Some.i, c.in-Some.j) = sym c.equation.ensures ∙ c.in-Some.is in
    λ is. sym (fits_solved c.args.last c.args.k c.in-Some.i c.in-Some.j c.args.rows.now e) ∙ c.cross_equation.ensures.wide is

pub returns-in-None-clause-fits : goal.returns-in-None-clause-fits
returns-in-None-clause-fits c =
    let e : equation_from (c.args.last + 1) c.args.k c.args.rows.now 0 c.args.rows.now ≡ None = sym c.equation.ensures ∙ c.in-None.is in
    subst (λ b. OnOk c.cross_rising.result (FitsUnless c.args.brief c.cross_rising.new.kept b)) (fits_crossed c.args.last c.args.k c.args.rows.now e) c.cross_rising.ensures.fits

pub returns-in-None-clause-wide : goal.returns-in-None-clause-wide
returns-in-None-clause-wide c =
    let e : equation_from (c.args.last + 1) c.args.k c.args.rows.now 0 c.args.rows.now ≡ None = sym c.equation.ensures ∙ c.in-None.is in
    λ is. sym (fits_crossed c.args.last c.args.k c.args.rows.now e) ∙ c.cross_rising.ensures.wide is
