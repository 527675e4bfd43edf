use Rattle.std.proofs.Common.{rules, ◌≡◌, ◌∙◌, ℤ, List, negsuc, int_lt, true, false, map, sym, subst}
use Rattle.exact128.specs.Sums.{dot}
use Rattle.exact384.specs.Value.{value_of}
use Rattle.linear_rows.specs.Plain.{plain_row, plain_rows}
use Rattle.simplex.proofs.WidePoints.{refuted_if}
use Rattle.simplex.proofs.wide_point.WidePoint.refutes.Goals as goal

pub returns : goal.returns
returns c =
    let numbers = map value_of c.args.self.now.numbers.items in
    let row = plain_row c.args.row.now in
    let yes : c.is_point.result ≡ true = search rules in
    let is : c.as_slice.result.now ≡ row = c.as_slice.ensures.value ∙ c.in_ok-spell.ensures in
    let fails : int_lt (negsuc 0) (dot numbers row) ≡ false = subst (λ (r : List ℤ). int_lt (negsuc 0) (dot numbers r) ≡ false) is (sym c.meets.ensures ∙ c.if-meets.false) in
    refuted_if c.args.rows.now.width numbers (plain_rows c.args.rows.now.list) row (c.is_point.ensures yes) fails c.meets_all.result c.meets_all.ensures
