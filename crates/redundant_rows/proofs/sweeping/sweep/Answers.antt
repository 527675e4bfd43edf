use Rattle.std.proofs.Common.{◌≡◌, ℕ, suc, ◌<◌, ◌+◌, List, ℤ, length, ap, subst, sym, ◌∙◌, true, false, arith, refl}
use Rattle.linear_rows.specs.Plain.{plain_rows, HaveWidth}
use Rattle.redundant_rows.specs.Sweeping.{IsSwept, IsNeeded, IsLess, IsImplied}
use Rattle.redundant_rows.proofs.Sweeps.{less_self, less_out, fewer_rows, swept_more}
use Rattle.redundant_rows.proofs.sweeping.sweep.Goals as goal

never : {X : Type 0} → true ≡ false → X
never e = absurd (not_same e)
  where
    not_same : true ≡ false → ⊥
    not_same e = cc

pub loop-place-init : goal.loop-place-init
loop-place-init c = record {
  width = refl;
  widths = c.requires.width;
  less = less_self c.args.rows.width (plain_rows c.args.rows.list);
  swept = λ e i l m. absurd (omega arith);
  count = omega arith;
  fewer = λ e. never (sym e);
}

pub loop-place-preserved : goal.loop-place-preserved
loop-place-preserved c =
    let i = c.loop-place.invariant in
    let kept = c.in_ok-tried.ensures.kept c.if-tried.false in
    let n = c.args.rows.width in
    let same : plain_rows c.in_ok-tried.tried.rows.list ≡ plain_rows c.loop-place.rows.list = ap plain_rows kept.0 in
    record {
      width = c.in_ok-tried.ensures.width ∙ i.width;
      widths = subst (HaveWidth n) (sym kept.0) i.widths;
      less = subst (IsLess n (plain_rows c.args.rows.list)) (sym same) i.less;
      swept = λ e.
          let up : suc c.loop-place.place ≡ c.loop-place.place + 1 = omega arith in
          let needed : IsNeeded n (plain_rows c.loop-place.rows.list) c.loop-place.place = subst (λ (k : ℕ). IsNeeded k (plain_rows c.loop-place.rows.list) c.loop-place.place) i.width kept.1 in
          subst (λ (rs : List (List ℤ)). IsSwept n rs (c.loop-place.place + 1)) (sym same) (subst (IsSwept n (plain_rows c.loop-place.rows.list)) up (swept_more n (plain_rows c.loop-place.rows.list) c.loop-place.place (i.swept e) needed));
      count = let l : length c.in_ok-tried.tried.rows.list ≡ length c.loop-place.rows.list = ap length kept.0 in omega (arith, l, i.count);
      fewer = λ e. let l : length c.in_ok-tried.tried.rows.list ≡ length c.loop-place.rows.list = ap length kept.0 in let f = i.fewer e in omega (arith, l, f);
    }

pub loop-place-preserved-then-tried : goal.loop-place-preserved-then-tried
loop-place-preserved-then-tried c =
    let i = c.loop-place.invariant in
    let out = c.in_ok-tried.ensures.out c.if-tried.true in
    let n = c.args.rows.width in
    let l = c.loop-place.rows.list in
    let new = c.in_ok-tried.tried.rows.list in
    let lt : c.loop-place.place < length l = omega (arith, c.loop-place-test.true, c.len.ensures) in
    let implied : IsImplied n (plain_rows l) c.loop-place.place = subst (λ (k : ℕ). IsImplied k (plain_rows l) c.loop-place.place) i.width out.1 in
    let less = fewer_rows c.loop-place.place l new lt out.0 in
    record {
      width = c.in_ok-tried.ensures.width ∙ i.width;
      widths = subst (λ (k : ℕ). HaveWidth k new) i.width c.in_ok-tried.ensures.widths;
      less = less_out n (plain_rows c.args.rows.list) l new c.loop-place.place lt out.0 implied i.less;
      swept = λ e. never e;
      count = omega (arith, less, i.count);
      fewer = λ _. omega (arith, less, i.count);
    }

pub loop-place-smaller : goal.loop-place-smaller
loop-place-smaller c =
    let kept = c.in_ok-tried.ensures.kept c.if-tried.false in
    let l : length c.in_ok-tried.tried.rows.list ≡ length c.loop-place.rows.list = ap length kept.0 in
    let lt : c.loop-place.place < length c.loop-place.rows.list = omega (arith, c.loop-place-test.true, c.len.ensures) in
    omega (arith, l, lt)

pub loop-place-smaller-then-tried : goal.loop-place-smaller-then-tried
loop-place-smaller-then-tried c =
    let out = c.in_ok-tried.ensures.out c.if-tried.true in
    let lt : c.loop-place.place < length c.loop-place.rows.list = omega (arith, c.loop-place-test.true, c.len.ensures) in
    let less = fewer_rows c.loop-place.place c.loop-place.rows.list c.in_ok-tried.tried.rows.list lt out.0 in
    omega (arith, less, lt)
