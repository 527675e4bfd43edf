use Rattle.std.proofs.Common.{rules, ℕ, ℤ, pos, refl, subst, arith, below_more}
use Rattle.std.specs.Int.{w128}
use Rattle.std.specs.Prelude.{FitsSigned, ◌≤ℤ◌, ◌*ℤ◌}
use Rattle.std.proofs.lemmas.Int.{to_z-of_z}
use Rattle.exact128.specs.Sums.{entry}
use Rattle.redundant_rows.proofs.MultipleLemmas.{multiple_row}
use Rattle.redundant_rows.proofs.multiple.is_at_least.Goals as goal

pub returns : goal.returns
returns c = λ _.
    let row = c.args.row.now in
    let other = c.args.other.now in
    let f : FitsSigned w128 row.constant = search rules in
    let g : FitsSigned w128 other.constant = search rules in
    let natural : pos 0 ≤ℤ c.args.ratio.num = search rules in
    let first = simp to_z-of_z at (c.if-not-number_is_at_least.ensures refl) in
    multiple_row row.constant other.constant row.coeffs other.coeffs c.args.ratio.num c.args.ratio.den natural c.args.ratio.positive first
    (λ k l. c.loop-k.invariant k (omega (arith, l, c.loop-k-test.false, c.len-k-end.ensures)))

pub loop-k-preserved : goal.loop-k-preserved
loop-k-preserved c =
    let num = c.args.ratio.num in
    let den = c.args.ratio.den in
    let k = c.loop-k.k in
    let f : FitsSigned w128 c.entry.result = search rules in
    let g : FitsSigned w128 c.entry-in-loop-k.result = search rules in
    let here = simp to_z-of_z at (c.if-not-number_is_at_least-2.ensures refl) in
    below_more (λ (j : ℕ). (num *ℤ entry c.args.other.now.coeffs j) ≤ℤ (den *ℤ entry c.args.row.now.coeffs j)) k c.loop-k.invariant
    (subst (λ (x : ℤ). (num *ℤ entry c.args.other.now.coeffs k) ≤ℤ (den *ℤ x)) c.entry.ensures (subst (λ (x : ℤ). (num *ℤ x) ≤ℤ (den *ℤ c.entry.result)) c.entry-in-loop-k.ensures here))
