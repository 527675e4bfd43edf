use Rattle.fourier.proofs.Loops.{crossed_fit}
use Rattle.fourier.proofs.crossing.cross_add.Goals as goal

pub add-requires : goal.add-requires
add-requires c = crossed_fit c.args.column.k c.args.r.now c.args.s.now c.in_ok-row.row c.requires.long c.in_ok-row.ensures.fits c.in_ok-row.ensures.row
