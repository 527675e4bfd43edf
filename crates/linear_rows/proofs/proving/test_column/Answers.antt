use Rattle.std.proofs.Common.{arith}
use Rattle.std.proofs.lemmas.Int.{to_z-of_z, ints}
use Rattle.std.proofs.lemmas.List.{length-map}
use Rattle.linear_rows.specs.Plain.{plain_row, plain_rows}
use Rattle.linear_rows.proofs.ColumnTests.{IsTested, tested}
use Rattle.linear_rows.proofs.proving.test_column.Goals as goal

pub returns-then-rest-lt0 : goal.returns-then-rest-lt0
returns-then-rest-lt0 c =
    let is : IsTested (plain_rows c.args.rows.now) c.args.multipliers.now (plain_row c.args.target.now) c.args.scale c.args.k c.in-Some-minus.rest = grind (arith, to_z-of_z, length-map, tested) in
    (is.fits, omega (arith, ints, is.value))

pub returns-else-rest-lt0 : goal.returns-else-rest-lt0
returns-else-rest-lt0 c =
    let is : IsTested (plain_rows c.args.rows.now) c.args.multipliers.now (plain_row c.args.target.now) c.args.scale c.args.k c.in-Some-minus.rest = grind (arith, to_z-of_z, length-map, tested) in
    (is.fits, omega (arith, ints, is.value))
