use Rattle.std.proofs.Common.{suc, ◌+◌, ◌∙◌, subst, ap}
use Rattle.linear_rows.specs.Plain.{plain_row, plain_rows}
use Rattle.linear_rows.specs.Systems.{test_rows}
use Rattle.linear_rows.specs.Decides.{Decides}
use Rattle.simplex.proofs.TestLaws.{point_fails}
use Rattle.simplex.proofs.RowLists.{long_rows}
use Rattle.simplex.proofs.testing.held.Goals as goal

pub returns-in-Point : goal.returns-in-Point
returns-in-Point c =
    let n = c.args.rows.now.width in
    let rows = plain_rows c.args.rows.now.list in
    let row = plain_row c.args.row.now in
    let fl = point_fails n rows row c.in-Point.point.t c.in-Point.point.w (long_rows n c.args.rows.now.list c.requires.width) (ap suc c.requires.row) (subst (Decides (n + 1) (test_rows n rows row)) c.in-Point.is c.requires.solves) in
    record {
      t = fl.t;
      w = fl.values;
      t_is = c.failing.ensures.t ∙ fl.t_is;
      w_is = c.failing.ensures.w ∙ fl.w_is;
      some = fl.some;
      long = fl.long;
      hold = fl.hold;
      fails = fl.fails;
    }
