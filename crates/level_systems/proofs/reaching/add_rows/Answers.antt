use Rattle.std.proofs.Common.{◌≡◌, ◌∷◌, ◌++◌, [], List, ℤ, pos, slice_get, Some, ap, sym, ◌∙◌}
use Rattle.linear_rows.specs.Plain.{plain_row, plain_rows}
use Rattle.linear_rows.specs.Systems.{at_last}
use Rattle.linear_rows.specs.declared.row.Row.{Row}
use Rattle.simplex.proofs.RowLists.{at_place, map_push, rows_more}
use Rattle.level_systems.proofs.reaching.add_rows.Goals as goal

abbrev last : List ℤ → List ℤ
last r = at_last r (pos 0)

pub loop-row-preserved : goal.loop-row-preserved
loop-row-preserved c =
    let i = c.loop-row.invariant in
    let made : plain_row c.in_ok-at_last.field-0 ≡ last (plain_row c.row-item.result) = c.in_ok-at_last.ensures in
    let items : List Row = c.as_slice-row-items.result.now in
    let at : slice_get c.args.rows.now.list c.loop-row.row-index ≡ Some c.row-item.result =
    ap (λ (rs : List Row). slice_get rs c.loop-row.row-index) (sym c.as_slice-row-items.ensures) ∙ at_place items c.loop-row.row-index c.row-item.result c.loop-row-test.true c.row-item.is in
    record {
      width = c.push.ensures.width ∙ i.width;
      widths = c.push.ensures.rows i.widths;
      rows =
          ap plain_rows c.in_ok-push.ensures.ok
          ∙ map_push plain_row c.loop-row.test.list c.in_ok-at_last.field-0
          ∙ (λ j. i.rows j ++ made j ∷ [])
          ∙ rows_more last (plain_rows c.args.test.now.list) c.args.rows.now.list c.loop-row.row-index c.row-item.result at;
    }
