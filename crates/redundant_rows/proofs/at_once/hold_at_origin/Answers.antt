use Rattle.std.proofs.Common.{rules, ℕ, ◌<◌, pos, subst, ◌∙◌, length, arith, below_more, sym}
use Rattle.std.proofs.lemmas.Option.{get_or_from_slice_get}
use Rattle.std.specs.Prelude.{◌≤ℤ◌, slice_index_or}
use Rattle.linear_rows.specs.declared.row.Row.{Row}
use Rattle.termination_model.proofs.Lists.{any_default}
use Rattle.redundant_rows.proofs.at_once.hold_at_origin.Goals as goal

pub loop-k-preserved : goal.loop-k-preserved
loop-k-preserved c =
    let list = c.args.rows.now.list in
    let k = c.loop-k.k in
    let row = c.get.result.now in
    let lt : k < length list = omega (arith, c.loop-k-test.true, c.len-k-end.ensures) in
    let here : pos 0 ≤ℤ row.constant = search rules in
    below_more (λ (j : ℕ). (d : Row) → pos 0 ≤ℤ (slice_index_or list j d).constant) k c.loop-k.invariant
    (λ d. subst (λ (r : Row). pos 0 ≤ℤ r.constant) ((sym (get_or_from_slice_get list k row row c.get.ensures)) ∙ any_default list k row d lt) here)

pub returns : goal.returns
returns c = λ _ k d l. c.loop-k.invariant k (omega (arith, l, c.loop-k-test.false, c.len-k-end.ensures)) d
