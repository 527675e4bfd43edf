use Rattle.std.proofs.Common.{◌<◌, ◌^◌, length, arith}
use Rattle.call_components.proofs.Searches.{starts}
use Rattle.call_components.proofs.search.Search.new.Goals as goal

pub returns-clause-start : goal.returns-clause-start
returns-clause-start c =
    let rows = c.args.table.now in
    let few : length rows < 2 ^ 32 = omega arith in
    let marks = c.in_ok-marks.ensures in
    rw (c.in_ok-marks.ensures, c.new-2.ensures, c.new-3.ensures, c.new-4.ensures.items, c.count.ensures) (starts rows c.requires few)
