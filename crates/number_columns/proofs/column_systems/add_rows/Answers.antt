use Rattle.std.proofs.Common.{◌≡◌, ◌∷◌, ◌++◌, ◌||◌, ◌+◌, ℕ, Bool, [], List, ℤ, map, take, slice_get, Some, not, sym, subst, ap, ◌∙◌}
use Rattle.linear_rows.specs.Replacing.{row_fits}
use Rattle.linear_rows.specs.Plain.{HaveWidth, plain_row, plain_rows}
use Rattle.linear_rows.specs.declared.row.Row.{Row}
use Rattle.termination_model.specs.sizes.Sizes.{wide_rows}
use Rattle.termination_model.specs.sizes.ShortSystems.{short_row}
use Rattle.termination_model.proofs.Lists.{at_place, mapped_place, map_push, taken_more, append_assoc}
use Rattle.termination_model.proofs.SystemLaws.{wide_push}
use Rattle.number_columns.specs.ColumnLists.{plain_columns}
use Rattle.number_columns.specs.ColumnSystems.{row_or_zeros}
use Rattle.number_columns.proofs.column_systems.add_rows.Goals as goal

pub loop-row-preserved : goal.loop-row-preserved
loop-row-preserved c =
    let items = c.as_slice-row-items.result.now in
    let n = c.loop-row.row-index in
    let i = c.loop-row.invariant in
    let over : List ℤ → List ℤ = row_or_zeros c.args.system.now.rows.width (plain_columns c.args.list.now) in
    let own : List (List ℤ) = plain_rows c.args.own.now.list in
    let row : List ℤ = plain_row c.row-item.result in
    let at : slice_get c.args.own.now.list n ≡ Some c.row-item.result =
    ap (λ (rs : List Row). slice_get rs n) (sym c.as_slice-row-items.ensures) ∙ at_place items n c.row-item.result c.loop-row-test.true c.row-item.is in
    let there : slice_get own n ≡ Some row = mapped_place plain_row c.args.own.now.list n c.row-item.result at in
    let more : take (n + 1) own ≡ take n own ++ row ∷ [] = taken_more own n row there in
    let before : List (List ℤ) = plain_rows c.args.system.now.rows.list in
    let mapped : map over (take (n + 1) own) ≡ map over (take n own) ++ over row ∷ [] = ap (map over) more ∙ map_push over (take n own) row in
    let put : plain_row c.in_ok-short.short.row ≡ short_row (over row) = c.in_ok-short.ensures.row ∙ ap (λ (k : ℕ). short_row (row_or_zeros k (plain_columns c.args.list.now) row)) i.width in
    record {
      variables = i.variables;
      head = i.head;
      width = c.push.ensures.width ∙ i.width;
      widths = subst (λ (k : ℕ). HaveWidth k c.push.new.self.list) (c.push.ensures.width ∙ i.width) (c.push.ensures.rows (subst (λ (k : ℕ). HaveWidth k c.loop-row.system.rows.list) (sym i.width) i.widths));
      rows =
          ap plain_rows c.in_ok-push.ensures.ok
          ∙ map_push plain_row c.loop-row.system.rows.list c.in_ok-short.short.row
          ∙ ap (λ (s : List (List ℤ)). s ++ plain_row c.in_ok-short.short.row ∷ []) i.rows
          ∙ ap (λ (z : List ℤ). (before ++ map short_row (map over (take n own))) ++ z ∷ []) put
          ∙ append_assoc before (map short_row (map over (take n own))) (short_row (over row) ∷ [])
          ∙ ap (λ (s : List (List ℤ)). before ++ s) (sym (map_push short_row (map over (take n own)) (over row)) ∙ ap (map short_row) (sym mapped));
      wide =
          ap (λ (b : Bool). b || c.in_ok-short.short.wide) i.wide
          ∙ ap (λ (b : Bool). (c.args.system.now.wide || wide_rows (map over (take n own))) || b) (c.in_ok-short.ensures.wide ∙ ap (λ (k : ℕ). not (row_fits (row_or_zeros k (plain_columns c.args.list.now) row))) i.width)
          ∙ wide_push c.args.system.now.wide (map over (take n own)) (over row)
          ∙ ap (λ (s : List (List ℤ)). c.args.system.now.wide || wide_rows s) (sym mapped);
    }
