use Rattle.std.proofs.Common.{◌∙◌}
use Rattle.solved_program.proofs.CarriedRows.{sizes_carried}
use Rattle.solved_program.proofs.carrying.carried.Goals as goal

pub returns-clause-sizes : goal.returns-clause-sizes
returns-clause-sizes c =
    sizes_carried c.args.edit.now.before.now.preds c.args.edit.now.after.now.preds c.args.old.now.sizes.rows c.in_ok-rows.rows c.in_ok-rows.ensures.each c.in_ok-rows.ensures.rows

pub returns-clause-count : goal.returns-clause-count
returns-clause-count c = c.in_ok-proofs.ensures.each ∙ c.requires.kept.each
