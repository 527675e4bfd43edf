use Rattle.std.proofs.Common.{◌≡◌, ◌∙◌, ℕ, false, length, get_or, List, sym, ap, arith}
use Rattle.clause_variables.specs.Terms.{is_among}
use Rattle.clause_variables.proofs.OrderLemmas.{more_numbers}
use Rattle.clause_variables.proofs.order.firsts.Goals as goal

pub returns-then-len-most : goal.returns-then-len-most
returns-then-len-most c =
    let away : is_among c.numbers.order.items (get_or c.args.xs.now c.numbers.x-index 0) ≡ false =
    sym (c.if-not-is_among.ensures ∙ ap (λ (ys : List ℕ). is_among ys (get_or c.args.xs.now c.numbers.x-index 0)) c.deref.ensures.value) in
    let m = more_numbers c.numbers.order.items c.args.xs.now c.numbers.x-index c.numbers-test.true away in
    omega (arith, m, ap length c.numbers.invariant.whole, c.numbers.order.ok.0)
