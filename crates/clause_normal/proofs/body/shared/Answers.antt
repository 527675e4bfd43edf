use Rattle.std.proofs.Common.{◌≡◌, ◌∙◌, ◌||◌, ◌&&◌, ℕ, Bool, List, true, nat_lt, not, length, get_or, slice_index, sym, ap, arith}
use Rattle.clause_variables.specs.Terms.{is_among}
use Rattle.clause_variables.proofs.OrderLemmas.{one_more}
use Rattle.clause_normal.proofs.body.shared.Goals as goal

pub returns-then-len : goal.returns-then-len
returns-then-len c =
    let outside : ℕ → Bool = λ x. nat_lt (slice_index c.args.places.now.firsts.items x) c.args.start || nat_lt c.args.end (slice_index c.args.places.now.ends.items x) in
    let order = c.own.order.items in
    let x = get_or c.args.own.now c.own.x-index 0 in
    let new : (outside x && not (is_among order x)) ≡ true = sym (c.if-is_new.ensures ∙ ap (λ (ys : List ℕ). outside x && not (is_among ys x)) c.deref.ensures.value) in
    omega (arith, one_more outside order c.args.own.now c.own.x-index c.own-test.true new, ap length c.own.invariant.whole, c.own.order.ok.0)
