use Rattle.std.proofs.Common.{rules, ◌≡◌, suc, length, drop, ◌<◌, ◌-◌, get_or, arith, refl, sym, ap, ◌∙◌}
use Rattle.std.specs.Int.{w128}
use Rattle.std.specs.Prelude.{FitsSigned, unsigned_abs}
use Rattle.std.proofs.lemmas.Int.{to_z-of_z}
use Rattle.exact128.specs.Gcd.{gcd}
use Rattle.linear_rows.specs.Cleaning.{row_gcd}
use Rattle.sparse_rows.specs.Sparse.{spread}
use Rattle.sparse_rows.proofs.NumberTests.{row_gcd_fits}
use Rattle.sparse_rows.proofs.SparseLemmas.{nothing, part_at, gcd_starts, gcd_goes_on}
use Rattle.sparse_rows.proofs.line.shared_of.Goals as goal

pub loop-i-init : goal.loop-i-init
loop-i-init c = record { value = gcd_starts c.args.parts.now c.args.tail (length c.args.parts.now) refl; place = omega arith }

pub loop-i-preserved : goal.loop-i-preserved
loop-i-preserved c =
    let lt : c.loop-i.i - 1 < length c.args.parts.now = let p = c.loop-i.invariant.place in omega arith in
    let f : FitsSigned w128 (get_or c.args.parts.now (c.loop-i.i - 1) nothing).number = search rules in
    let u : c.unsigned_abs.result ≡ unsigned_abs (get_or c.args.parts.now (c.loop-i.i - 1) nothing).number = c.unsigned_abs.ensures.value ∙ ap unsigned_abs (to_z-of_z w128 (get_or c.args.parts.now (c.loop-i.i - 1) nothing).number f) in
    let one : suc (c.loop-i.i - 1) ≡ c.loop-i.i = omega arith in
    let before : c.loop-i.shared ≡ row_gcd (spread (drop (suc (c.loop-i.i - 1)) c.args.parts.now) c.args.tail) = c.loop-i.invariant.value ∙ ap (λ k. row_gcd (spread (drop k c.args.parts.now) c.args.tail)) (sym one) in
    record {
      value = c.gcd-shared.ensures.value ∙ ap (λ a. gcd a c.loop-i.shared) u ∙ gcd_goes_on c.args.parts.now c.args.tail (c.loop-i.i - 1) (get_or c.args.parts.now (c.loop-i.i - 1) nothing) c.loop-i.shared lt (part_at c.args.parts.now (c.loop-i.i - 1) lt) before;
      place = let p = c.loop-i.invariant.place in omega arith;
    }

pub returns-clause-within : goal.returns-clause-within
returns-clause-within c =
    let none : c.loop-i.i ≡ 0 = omega arith in
    let is : c.loop-i.shared ≡ row_gcd (spread c.args.parts.now c.args.tail) = c.loop-i.invariant.value ∙ ap (λ k. row_gcd (spread (drop k c.args.parts.now) c.args.tail)) none in
    omega (arith, is, row_gcd_fits (spread c.args.parts.now c.args.tail) c.requires)
