use Rattle.std.proofs.Common.{◌≡◌, take}
use Rattle.certificate.specs.Text.{text_of}
use Rattle.certificate.proofs.certificate.Certificate.print.Given as goal

-- the lines so far are written
abbrev pub invariant-loop-fact : goal.invariant-loop-fact
invariant-loop-fact l = l.text.items ≡ text_of (take l.fact-index l.fact-items)
