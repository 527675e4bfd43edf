use Rattle.solved_program.proofs.grounds.resolve_grounds.Goals as goal

pub carried_grounds-requires : goal.carried_grounds-requires
carried_grounds-requires g c = record { old = c.requires.old.sets_are }
