use Rattle.std.proofs.Common.{sym, ◌∙◌}
use Rattle.truth_rows.proofs.ModeLaws.{mode_place}
use Rattle.truth_rows.proofs.of_modes.admits.Goals as goal

pub returns : goal.returns
returns c = c.eval.ensures ∙ c.requires.reads _ _ (λ v lt. c.row_of_mode.ensures v lt ∙ sym (mode_place c.args.mode.now 1 c.args.arity v lt))
