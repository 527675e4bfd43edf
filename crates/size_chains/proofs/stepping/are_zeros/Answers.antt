use Rattle.std.proofs.Common.{rules, ◌≡◌, ◌∙◌, sym, subst, ap, arith, List, ℤ, pos, length, IsTrue, false, below_more, FitsSigned}
use Rattle.std.specs.Int.{w128}
use Rattle.std.proofs.lemmas.Int.{to_z-of_z}
use Rattle.exact128.specs.Sums.{entry}
use Rattle.linear_rows.specs.Solving.{zeros}
use Rattle.size_chains.proofs.Bottoms.{zeros_all}
use Rattle.termination_model.proofs.Entries.{entry_zeros}
use Rattle.size_chains.proofs.stepping.are_zeros.Goals as goal

pub returns : goal.returns
returns c = (λ _. zeros_all c.args.numbers.now (λ j l. c.loop-k.invariant j (omega (arith, c.loop-k-test.false, c.len-k-end.ensures))), λ _. search rules)

pub loop-k-preserved : goal.loop-k-preserved
loop-k-preserved c =
    let f : FitsSigned w128 c.entry.result = search rules in
    let e = simp to_z-of_z at c.is_nought.ensures in
    let t : IsTrue c.is_nought.result = subst IsTrue (sym c.if-not-is_nought.false) (search rules) in
    below_more _ _ c.loop-k.invariant (sym c.entry.ensures ∙ e.0 t)

pub returns-then-not-is_nought : goal.returns-then-not-is_nought
returns-then-not-is_nought c =
    let f : FitsSigned w128 c.entry.result = search rules in
    let e = simp to_z-of_z at c.is_nought.ensures in
    let never : IsTrue false → c.args.numbers.now ≡ zeros (length c.args.numbers.now) = λ h. cc in (
      never,
      λ same.
          let at : entry c.args.numbers.now c.loop-k.k ≡ pos 0 = ap (λ (xs : List ℤ). entry xs c.loop-k.k) same ∙ entry_zeros (length c.args.numbers.now) c.loop-k.k in
          let t : IsTrue c.is_nought.result = e.1 (c.entry.ensures ∙ at) in
          subst IsTrue c.if-not-is_nought.true t,
    )
