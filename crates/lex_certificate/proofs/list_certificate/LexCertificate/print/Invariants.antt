use Rattle.std.proofs.Common.{◌≡◌, take}
use Rattle.lex_certificate.specs.Text.{text_of}
use Rattle.lex_certificate.proofs.list_certificate.LexCertificate.print.Given as goal

-- the lines so far are written
abbrev pub invariant-loop-fact : goal.invariant-loop-fact
invariant-loop-fact l = l.text.items ≡ text_of (take l.fact-index l.fact-items)
