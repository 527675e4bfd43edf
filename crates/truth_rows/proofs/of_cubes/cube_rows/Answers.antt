use Rattle.std.proofs.Common.{◌≡◌, ◌||◌, List, length, slice_get, Some, sym, ap, ◌∙◌, arith}
use Rattle.bool_diagrams.specs.declared.cube.Cell.{Cell}
use Rattle.bool_diagrams.specs.Cubes.{covers, values_of}
use Rattle.bool_diagrams.specs.Rows.{holds}
use Rattle.bool_diagrams.proofs.CallerLemmas.{holds_later, keeps_twice}
use Rattle.truth_rows.proofs.CellLaws.{any_next, any_skipped, cells_read, covers_is, covers_none}
use Rattle.termination_model.proofs.Lists.{at_place}
use Rattle.truth_rows.proofs.of_cubes.cube_rows.Goals as goal

pub loop-cube-preserved-then-cells-width : goal.loop-cube-preserved-then-cells-width
loop-cube-preserved-then-cells-width c =
    let i = c.loop-cube.invariant in
    let n = c.loop-cube.cube-index in
    let cube = c.cube-item.result in
    let at : slice_get c.args.cubes.now n ≡ Some cube = at_place c.args.cubes.now n cube c.loop-cube-test.true c.cube-item.is in
    let l : length c.cells-cells.result.now ≡ length cube = ap length c.cells-cells.ensures in
    record {
      keeps = i.keeps;
      known = i.known;
      reads = i.reads;
      rows = λ row long. i.rows row long ∙ any_skipped (λ (cells : List Cell). covers cells row) c.args.cubes.now n cube at (covers_none cube row (λ e. c.if-cells-width.true (l ∙ e ∙ long)));
    }

pub loop-cube-preserved : goal.loop-cube-preserved
loop-cube-preserved c =
    let i = c.loop-cube.invariant in
    let n = c.loop-cube.cube-index in
    let cube = c.cube-item.result in
    let cells = c.cells-cells.result.now in
    let same : length cells ≡ c.args.width = c.if-cells-width.false in
    let at : slice_get c.args.cubes.now n ≡ Some cube = at_place c.args.cubes.now n cube c.loop-cube-test.true c.cube-item.is in
    let later = holds_later c.loop-cube.table c.cell_rows.new.table c.loop-cube.rows c.cell_rows.ensures.keeps i.known in
    let agreeing = holds c.cell_rows.new.table c.in_ok-agreeing.agreeing in
    let e = c.in_ok-rows.ensures.rows in
    record {
      keeps = keeps_twice _ _ _ i.keeps (keeps_twice _ _ _ c.cell_rows.ensures.keeps c.or.ensures.keeps);
      known = c.in_ok-rows.ensures.known;
      reads = λ row other agree.
          e row
          ∙ (λ k. (later row ∙ i.reads row other agree ∙ sym (later other)) k || cells_read cells (length cells) agreeing c.in_ok-agreeing.ensures.rows row other (λ v lt. agree v (omega arith)) k)
          ∙ sym (e other);
      rows = λ row long.
          e (values_of row)
          ∙ (λ k. (later (values_of row) ∙ i.rows row long) k
          || (covers_is cells row (agreeing (values_of row)) (long ∙ sym same) (c.in_ok-agreeing.ensures.rows (values_of row)) ∙ ap (λ (cs : List Cell). covers cs row) c.cells-cells.ensures) k)
          ∙ any_next (λ (cs : List Cell). covers cs row) c.args.cubes.now n cube at;
    }
