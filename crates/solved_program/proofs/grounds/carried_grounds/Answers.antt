use Rattle.solved_program.proofs.GroundRows.{carried_all}
use Rattle.solved_program.proofs.grounds.carried_grounds.Goals as goal

pub returns : goal.returns
returns c =
    carried_all c.args.edit.now c.args.table.now c.args.old.now c.truth-none.result c.in_ok-sets.sets.items c.truth-none.ensures.known c.truth-none.ensures.rows c.requires.old
    c.in_ok-sets.ensures.each c.in_ok-sets.ensures.carried
