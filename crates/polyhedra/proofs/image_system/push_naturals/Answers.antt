use Rattle.std.proofs.Common.{◌-◌, ◌+◌, pos, ◌∙◌, ◌∷◌, arith}
use Rattle.linear_rows.specs.Solving.{units}
use Rattle.linear_rows.specs.Systems.{naturals}
use Rattle.redundant_rows.proofs.Appends.{row_moved, naturals_left}
use Rattle.redundant_rows.proofs.RowLists.{still_wide}
use Rattle.polyhedra.proofs.image_system.push_naturals.Goals as goal

pub loop-i-preserved : goal.loop-i-preserved
loop-i-preserved c =
    let i = c.loop-i.invariant in
    let n = c.args.rows.now.width in
    let k = c.loop-i.i in
    record {
      width = c.push.ensures.width ∙ i.width;
      widths = still_wide c.loop-i.rows c.push.new.self n i.width c.push.ensures.width c.push.ensures.rows i.widths;
      rows = row_moved c.loop-i.rows.list c.push.new.self.list c.in_ok-natural_row.field-0 (pos 0 ∷ units n (c.args.from + k))
          (naturals (c.args.count - k) (c.args.from + k) n) (naturals (c.args.count - (k + 1)) (c.args.from + (k + 1)) n) _
          c.in_ok-push.ensures.ok c.in_ok-natural_row.ensures.row (naturals_left c.args.count k c.args.from n (omega arith)) i.rows;
    }
