use Rattle.std.proofs.Common.{◌≡◌, ◌∙◌, sym}
use Rattle.cert_modes.proofs.closing.has_stated_row.Goals as goal

pub admits-requires-clause-reads : goal.admits-requires-clause-reads
admits-requires-clause-reads c = c.requires.reads 2 (c.clauses-program.ensures.sound.binary c.args.pred.0 _ (sym c.builtin.ensures ∙ c.in-Some.is))
