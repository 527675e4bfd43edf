use Rattle.std.proofs.Common.{rules, ◌≡◌, ◌+ℤ◌, ◌∷◌, [], ℕ, ℤ, List, length, sym, subst, ap, ◌∙◌, arith, below_more, FitsSigned}
use Rattle.std.specs.Int.{w128}
use Rattle.std.proofs.lemmas.Int.{to_z-of_z}
use Rattle.std.proofs.lemmas.List.{length-append}
use Rattle.exact128.specs.Fits.{Fits}
use Rattle.exact128.specs.Sums.{entry}
use Rattle.termination_model.specs.sizes.Rows.{added}
use Rattle.termination_model.proofs.RowColumns.{kept, pushed_last, row_that_does_not, row_that_fits, same_lists}
use Rattle.number_tests.proofs.SumLists.{entry_sum, length-sum}
use Rattle.number_tests.proofs.member_sums.sum_numbers.Goals as goal

pub returns-in_default : goal.returns-in_default
returns-in_default c =
    let xs = c.args.xs.now in
    let ys = c.args.ys.now in
    let n = c.loop-i.i in
    let fx : FitsSigned w128 c.entry.result = search rules in
    let fy : FitsSigned w128 c.entry-in-loop-i.result = search rules in
    let out = simp to_z-of_z at c.in_default.ensures in
    let is : entry (added xs ys) n ≡ c.entry.result +ℤ c.entry-in-loop-i.result = entry_sum xs ys n ∙ sym (λ i. c.entry.ensures i +ℤ c.entry-in-loop-i.ensures i) in
    let no_fit = row_that_does_not (added xs ys) n (omega (arith, length-sum xs ys, c.max-i-end.ensures, c.len.ensures, c.len-2.ensures)) (λ f. out (subst Fits is f)) in
    λ yes. cc

pub loop-i-preserved : goal.loop-i-preserved
loop-i-preserved c =
    let xs = c.args.xs.now in
    let ys = c.args.ys.now in
    let n = c.loop-i.i in
    let i = c.loop-i.invariant in
    let fx : FitsSigned w128 c.entry.result = search rules in
    let fy : FitsSigned w128 c.entry-in-loop-i.result = search rules in
    let fs : FitsSigned w128 c.in-Some.sum = search rules in
    let some = simp to_z-of_z at c.in-Some.ensures in
    let pushed = simp to_z-of_z at c.in_ok-push.ensures.ok in
    let is : entry (added xs ys) n ≡ c.entry.result +ℤ c.entry-in-loop-i.result = entry_sum xs ys n ∙ sym (λ i. c.entry.ensures i +ℤ c.entry-in-loop-i.ensures i) in
    record {
      long = ap length pushed ∙ omega (arith, length-append c.loop-i.sums (c.in-Some.sum ∷ []), i.long);
      each = below_more (λ (k : ℕ). entry c.push.new.self k ≡ entry (added xs ys) k) n
          (λ k lt. ap (λ (zs : List ℤ). entry zs k) pushed ∙ kept c.loop-i.sums c.in-Some.sum k (omega (arith, i.long)) ∙ i.each k lt)
          (ap (λ (zs : List ℤ). entry zs n) pushed ∙ pushed_last c.loop-i.sums c.in-Some.sum n (sym i.long) ∙ some.1 ∙ sym is);
      fit = below_more (λ (k : ℕ). Fits (entry (added xs ys) k)) n i.fit (subst Fits (sym is) some.0);
    }

pub returns : goal.returns
returns c =
    let xs = c.args.xs.now in
    let ys = c.args.ys.now in
    let i = c.loop-i.invariant in
    let all : c.loop-i.i ≡ length (added xs ys) = omega (arith, length-sum xs ys, c.max-i-end.ensures, c.len.ensures, c.len-2.ensures) in (
      row_that_fits (added xs ys) (λ k lt. i.fit k (omega (arith, all))),
      same_lists c.loop-i.sums (added xs ys) (i.long ∙ all) (λ k lt. i.each k (omega (arith, i.long))),
    )
