use Rattle.std.proofs.Common.{rules, ◌≡◌, ◌∙◌, ℤ, pos, negsuc, ◌-ℤ◌, int_lt, false, map, sym, subst}
use Rattle.std.specs.Prelude.{◌≤ℤ◌}
use Rattle.std.proofs.lemmas.Bool.Decides.{Decides-int_eq}
use Rattle.exact128.specs.Sums.{dot}
use Rattle.exact384.specs.Value.{value_of}
use Rattle.linear_rows.specs.Plain.{plain_row}
use Rattle.linear_rows.specs.Proves.{goal_number}
use Rattle.simplex.proofs.WideMultipliers.{at_most, nowhere}
use Rattle.simplex.proofs.WidePoints.{minus_one}
use Rattle.simplex.proofs.wide_multipliers.WideMultipliers.show_column.Goals as goal

pub returns-then-place-eq0 : goal.returns-then-place-eq0
returns-then-place-eq0 c = λ e.
    let row = plain_row c.args.row.now in
    let scale : ℤ = value_of c.args.self.now.scale in
    let sum : ℤ = dot (map value_of c.args.self.now.list.items) c.args.numbers.now in
    let none : scale ≡ pos 0 = (Decides-int_eq scale (pos 0)).0 (sym c.is_zero.ensures ∙ c.if-is_zero.true) in
    let is : goal_number scale row c.args.place ≡ negsuc 0 = nowhere scale row c.args.place none c.if-place-eq0.true in
    let tested = c.is_sum_above.ensures ∙ (λ j. int_lt (minus_one j) (dot (map value_of (c.as_slice-list.ensures.value j)) c.args.numbers.now)) in
    let below : c.is_sum_above.result ≡ false = search rules in
    subst (λ (z : ℤ). pos 0 ≤ℤ (z -ℤ sum)) (sym is) (at_most (negsuc 0) sum (sym tested ∙ below))
