use Rattle.termination_model.proofs.choosing.+add_chosen.Given as goal

-- proposed from what the function passes where it calls itself
abbrev pub decreases-add_chosen : goal.decreases-add_chosen
decreases-add_chosen l = l.room
