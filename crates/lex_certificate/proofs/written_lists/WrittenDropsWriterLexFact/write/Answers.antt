use Rattle.lex_certificate.proofs.written_lists.WrittenDropsWriterLexFact.write.Goals as goal

pub returns : goal.returns
returns c = rw c.in_ok-clause.ensures at (rw c.as_slice.ensures at c.write_each.ensures)
