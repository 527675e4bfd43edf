use Rattle.std.proofs.Common.{◌≡◌, subst, false}
use Rattle.exact128.specs.Fits.{fits}
use Rattle.linear_rows.specs.Blown.{all_of}
use Rattle.linear_rows.specs.Plain.{plain_row, plain_rows}
use Rattle.simplex.specs.Telling.{IsTestIfFits}
use Rattle.simplex.proofs.WideTests.{wide_target}
use Rattle.simplex.proofs.testing.holds.Goals as goal

pub returns-in_default : goal.returns-in_default
returns-in_default c =
    let e : all_of fits (plain_row c.args.row.now) ≡ false = subst (IsTestIfFits c.args.rows.now c.args.row.now) c.in_default.is c.in_ok-system.ensures in
    wide_target c.args.rows.now.width (plain_rows c.args.rows.now.list) (plain_row c.args.row.now) e
