use Rattle.prolog_operators.proofs.NameLemmas.{number_kept, extends_with_text}
use Rattle.std.proofs.Common.{◌∙◌, sym}
use Rattle.prolog_reader.proofs.NamingLemmas.{names_one}
use Rattle.prolog_reader.proofs.words.word.Goals as goal

pub returns-clause-number : goal.returns-clause-number
returns-clause-number c = rw (c.in_ok-name.ensures.number, c.in_ok-name.ensures.added) (number_kept c.args.names.now c.args.text.now)

pub returns-clause-kept : goal.returns-clause-kept
returns-clause-kept c = rw c.in_ok-name.ensures.added (extends_with_text c.args.names.now c.args.text.now)

pub returns-clause-added : goal.returns-clause-added
returns-clause-added c = c.in_ok-name.ensures.added ∙ sym (names_one c.args.names.now c.args.text.now)
