use Rattle.linear_rows.specs.Plain.{plain_rows}
use Rattle.linear_rows.specs.Solving.{solution}
use Rattle.fourier.proofs.EliminateLemmas.{long_of}
use Rattle.fourier.proofs.SolveLemmas.{spells_exactly, spells_decides, spells_proved}
use Rattle.fourier.proofs.solving.solve.Goals as goal

pub returns-clause-exact : goal.returns-clause-exact
returns-clause-exact c = spells_exactly (solution c.args.rows.now.width (plain_rows c.args.rows.now.list)) c.solved.result c.solved.ensures

pub returns-clause-decides : goal.returns-clause-decides
returns-clause-decides c =
    let n = c.args.rows.now.width in
    let given = plain_rows c.args.rows.now.list in
    spells_decides n given c.solved.result (long_of n c.args.rows.now.list c.requires) (spells_exactly (solution n given) c.solved.result c.solved.ensures)

pub returns-clause-proved : goal.returns-clause-proved
returns-clause-proved c =
    let n = c.args.rows.now.width in
    let given = plain_rows c.args.rows.now.list in
    spells_proved n given c.solved.result (long_of n c.args.rows.now.list c.requires) (spells_exactly (solution n given) c.solved.result c.solved.ensures)
