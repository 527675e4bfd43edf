use Rattle.std.proofs.Common.{◌<◌, ℤ, List, pos, [], map, length, sym, subst, arith}
use Rattle.std.specs.Prelude.{◌≤ℤ◌}
use Rattle.std.proofs.lemmas.List.{get_or-map, length-map}
use Rattle.exact128.specs.Sums.{dot}
use Rattle.exact384.specs.Value.{value_of}
use Rattle.linear_rows.specs.Plain.{plain_row}
use Rattle.linear_rows.specs.declared.row.Row.{Row}
use Rattle.simplex.proofs.wide_point.WidePoint.meets_all.Goals as goal

pub returns : goal.returns
returns c = λ _ k d l.
    let list = c.args.rows.now.list in
    let spare : Row = record { constant = pos 0; coeffs = [] } in
    let lt : k < length list = rw (length-map list plain_row) at l in
    let past : k < length c.as_slice-row-items.result.now = rw (← c.as_slice-row-items.ensures) at lt in
    subst (λ (r : List ℤ). pos 0 ≤ℤ dot (map value_of c.args.self.now.numbers.items) r) (sym (get_or-map plain_row list k spare d lt)) (c.loop-row.invariant k spare (omega (arith, c.loop-row-test.false, lt, past)))
