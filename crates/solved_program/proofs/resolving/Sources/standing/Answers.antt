use Rattle.solved_program.proofs.resolving.Sources.standing.Goals as goal

pub standing-requires-clause-clauses : goal.standing-requires-clause-clauses
standing-requires-clause-clauses c = record { edit = c.requires.sources.edit; own_before = c.requires.sources.own_before; own = c.requires.sources.own }
