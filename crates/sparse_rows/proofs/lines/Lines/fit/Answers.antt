use Rattle.std.proofs.Common.{◌≡◌, ◌<◌, length, false, arith, sym, ap, get_or, []}
use Rattle.exact128.specs.Fits.{fits}
use Rattle.linear_rows.specs.Blown.{all_of}
use Rattle.sparse_rows.proofs.Alls.{all_from, all_not, rows_fit}
use Rattle.sparse_rows.proofs.lines.Lines.fit.Goals as goal

pub returns-then-not-fits-clause-value : goal.returns-then-not-fits-clause-value
returns-then-not-fits-clause-value c =
    let lt : c.loop-i.i < length c.args.self.now = omega arith in
    let e : all_of fits (get_or c.args.self.now c.loop-i.i []) ≡ false = cc (c.fits.ensures, c.if-not-fits.true, ap (all_of fits) c.get.ensures) in
    sym (all_not (all_of fits) c.args.self.now [] c.loop-i.i lt e)

pub returns-clause-value : goal.returns-clause-value
returns-clause-value c = sym (all_from (all_of fits) c.args.self.now [] (λ j l. c.loop-i.invariant j (omega arith)))

pub returns-clause-fit : goal.returns-clause-fit
returns-clause-fit c = λ e. rows_fit c.args.self.now (all_from (all_of fits) c.args.self.now [] (λ j l. c.loop-i.invariant j (omega arith)))
