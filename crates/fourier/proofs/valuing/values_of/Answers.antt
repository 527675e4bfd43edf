use Rattle.std.proofs.Common.{◌≡◌, ◌+◌, ◌-◌, ◌<◌, suc, length, map, drop, arith, subst, Some, None, pos}
use Rattle.exact128.specs.Fractions.{whole}
use Rattle.rational128.specs.Formulas.{fraction_of}
use Rattle.linear_rows.specs.Elimination.{rising}
use Rattle.linear_rows.specs.Step.{columns}
use Rattle.linear_rows.specs.Solving.{greatest}
use Rattle.fourier.specs.History.{values_back}
use Rattle.fourier.proofs.ValueLemmas.{values_stop}
use Rattle.fourier.proofs.valuing.values_of.Goals as goal

pub returns-in-Err-clause-wide : goal.returns-in-Err-clause-wide
returns-in-Err-clause-wide c =
    let j = c.loop-i.i - 1 in
    let n = length c.loop-i.values.items in
    let s : c.loop-i.i ≡ suc j = omega arith in
    let count = c.loop-i.invariant.count in
    let lt : j < length c.args.before.now = omega (arith, count) in
    let len : suc j + n ≡ length c.args.before.now = omega (arith, count) in
    let later : values_back (columns (suc (suc j)) n) (drop (suc j) c.args.before.now) ≡ Some (map fraction_of c.loop-i.values.items) =
    subst (λ k. values_back (columns (suc k) n) (drop k c.args.before.now) ≡ Some (map fraction_of c.loop-i.values.items)) s c.loop-i.invariant.values in
    let none : greatest (j + 1) (map fraction_of c.loop-i.values.items) (whole (pos 0)) (rising (j + 1) c.get.result.now) ≡ None = c.in-Err.ensures in
    λ e. values_stop j n c.args.before.now c.get.result.now (map fraction_of c.loop-i.values.items) lt len c.get.ensures later none
