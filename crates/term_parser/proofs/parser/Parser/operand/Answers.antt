use Rattle.term_parser.proofs.parser.Parser.operand.Goals as goal

pub returns-in-Text : goal.returns-in-Text
returns-in-Text c = rw c.in-Text.is (rw c.deref.ensures.value at c.text.ensures)
