use Rattle.std.proofs.Common.{ℕ, ◌<◌, ◌∙◌, length, ap, subst, arith, refl}
use Rattle.linear_rows.specs.Plain.{plain_rows, HaveWidth}
use Rattle.redundant_rows.specs.Sweeping.{IsImplied}
use Rattle.redundant_rows.proofs.Sweeps.{less_self, less_out, fewer_rows, plain_without}
use Rattle.redundant_rows.proofs.undominated.undominated.Goals as goal

pub returns-then-len-gt-MOST_COMPARED-clause-less : goal.returns-then-len-gt-MOST_COMPARED-clause-less
returns-then-len-gt-MOST_COMPARED-clause-less c = less_self c.args.rows.width (plain_rows c.args.rows.list)

pub loop-place-init : goal.loop-place-init
loop-place-init c = record { width = refl; widths = c.requires; signs = c.in_ok-signs.ensures; less = less_self c.args.rows.width (plain_rows c.args.rows.list) }

pub loop-place-preserved-then-is_dominated : goal.loop-place-preserved-then-is_dominated
loop-place-preserved-then-is_dominated c =
    let i = c.loop-place.invariant in
    let n = c.args.rows.width in
    let l = c.loop-place.rows.list in
    let new = c.without-rows.result.list in
    let lt : c.loop-place.place < length l = omega (arith, c.loop-place-test.true, c.len.ensures) in
    let out = ap plain_rows c.without-rows.ensures.rows ∙ plain_without c.loop-place.place l in
    let implied : IsImplied n (plain_rows l) c.loop-place.place = subst (λ (k : ℕ). IsImplied k (plain_rows l) c.loop-place.place) i.width (c.is_dominated.ensures c.if-is_dominated.true) in
    record {
      width = c.without-rows.ensures.width ∙ i.width;
      widths = subst (λ (k : ℕ). HaveWidth k new) i.width c.without-rows.ensures.widths;
      signs = let removed = c.remove.ensures.len in let fewer = fewer_rows c.loop-place.place l new lt out in omega (arith, removed, i.signs, fewer);
      less = less_out n (plain_rows c.args.rows.list) l new c.loop-place.place lt out implied i.less;
    }

pub loop-place-smaller-then-is_dominated : goal.loop-place-smaller-then-is_dominated
loop-place-smaller-then-is_dominated c =
    let l = c.loop-place.rows.list in
    let lt : c.loop-place.place < length l = omega (arith, c.loop-place-test.true, c.len.ensures) in
    let fewer = fewer_rows c.loop-place.place l c.without-rows.result.list lt (ap plain_rows c.without-rows.ensures.rows ∙ plain_without c.loop-place.place l) in
    omega (arith, fewer, lt)
