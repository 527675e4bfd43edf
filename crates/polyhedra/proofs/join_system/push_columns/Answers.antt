use Rattle.std.proofs.Common.{◌-◌, ◌+◌, ◌++◌, [], pos, ◌∙◌, ◌∷◌, arith}
use Rattle.linear_rows.specs.Solving.{units}
use Rattle.linear_rows.specs.Systems.{differences, opposite}
use Rattle.redundant_rows.proofs.Appends.{row_moved, differences_left}
use Rattle.redundant_rows.proofs.RowLists.{still_wide}
use Rattle.polyhedra.proofs.join_system.push_columns.Goals as goal

pub loop-i-preserved : goal.loop-i-preserved
loop-i-preserved c =
    let i = c.loop-i.invariant in
    let n = c.args.rows.now.width in
    let a = c.args.arity in
    let k = c.loop-i.i in
    record {
      width = c.push.ensures.width ∙ i.width;
      widths = still_wide c.loop-i.rows c.push.new.self n i.width c.push.ensures.width c.push.ensures.rows i.widths;
      rows = row_moved c.loop-i.rows.list c.push.new.self.list c.in_ok-difference_row.field-0 (pos 0 ∷ (units a k ++ opposite (units a k) ++ pos 0 ∷ []))
          (differences a (a - k) k) (differences a (a - (k + 1)) (k + 1)) _
          c.in_ok-push.ensures.ok c.in_ok-difference_row.ensures.row (differences_left a k (omega arith)) i.rows;
    }
