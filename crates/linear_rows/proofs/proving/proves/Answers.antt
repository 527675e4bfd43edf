use Rattle.std.proofs.Common.{below_more}
use Rattle.std.specs.Int.{w128}
use Rattle.std.specs.Prelude.{FitsSigned}
use Rattle.linear_rows.proofs.proving.proves.Goals as goal

pub loop-k-preserved : goal.loop-k-preserved
loop-k-preserved c =
    let fs : FitsSigned w128 c.args.scale = c.ranges.scale in
    below_more _ _ c.loop-k.invariant (rw c.as_slice.ensures at c.in-Holds.ensures)
