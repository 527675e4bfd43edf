use Rattle.std.proofs.Common.{Ok}
use Rattle.linear_rows.specs.Plain.{plain_rows}
use Rattle.fourier.proofs.EliminateLemmas.{long_of}
use Rattle.fourier.proofs.SolveLemmas.{spells_decides}
use Rattle.fourier.proofs.solving.solve_briefly.Goals as goal

pub returns-in-Ok-clause-decides : goal.returns-in-Ok-clause-decides
returns-in-Ok-clause-decides c =
    let n = c.args.rows.now.width in
    let given = plain_rows c.args.rows.now.list in
    spells_decides n given (Ok c.in-Ok.solved) (long_of n c.args.rows.now.list c.requires) c.in-Ok.ensures
