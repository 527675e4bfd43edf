use Rattle.std.proofs.Common.{◌≡◌, ◌∙◌, ◌∷◌, ◌++◌, ◌+◌, [], ℤ, List, Option, map, take, length, slice_get, Some, sym, ap, arith}
use Rattle.linear_rows.specs.Plain.{plain_row, plain_rows}
use Rattle.termination_model.specs.columns.ColumnRows.{or_zeros}
use Rattle.termination_model.proofs.Lists.{at_place, by_places, mapped_place, map_push, taken_more}
use Rattle.number_columns.specs.ColumnLists.{HasLength, plain_column, plain_columns}
use Rattle.number_columns.proofs.OverLaws.{length_or_zeros}
use Rattle.number_columns.proofs.StatedLaws.{plain_push}
use Rattle.number_columns.proofs.rows_over.filled.Goals as goal

pub push-requires : goal.push-requires
push-requires c =
    let i = c.loop-i.i in
    let n = c.args.width in
    let e = plain_column c.index-list-i.result in
    let at : slice_get (plain_columns c.args.list.now) i ≡ Some e = mapped_place plain_column c.args.list.now i c.index-list-i.result (at_place c.args.list.now i c.index-list-i.result (omega arith) c.index-list-i.is) in
    let long = length_or_zeros n e (by_places (HasLength n) (plain_columns c.args.list.now) c.requires i e at) in
    let made = ap length c.in_ok-row_or_zeros.ensures ∙ long in
    omega (arith, made, c.loop-i.invariant.width)

pub loop-i-preserved : goal.loop-i-preserved
loop-i-preserved c =
    let i = c.loop-i.i in
    let n = c.args.width in
    let es = plain_columns c.args.list.now in
    let e = plain_column c.index-list-i.result in
    let at : slice_get es i ≡ Some e = mapped_place plain_column c.args.list.now i c.index-list-i.result (at_place c.args.list.now i c.index-list-i.result (omega arith) c.index-list-i.is) in
    let more : take (i + 1) es ≡ take i es ++ e ∷ [] = taken_more es i e at in
    record {
      width = c.push.ensures.width ∙ c.loop-i.invariant.width;
      rows =
          plain_push c.loop-i.rows.list c.push.new.self.list c.in_ok-row_or_zeros.field-0 (map (or_zeros n) (take i es)) (or_zeros n e) c.in_ok-push.ensures.ok c.loop-i.invariant.rows c.in_ok-row_or_zeros.ensures
          ∙ sym (map_push (or_zeros n) (take i es) e)
          ∙ ap (map (or_zeros n)) (sym more);
    }
