use Rattle.std.proofs.Common.{◌≡◌, take, flat_map}
use Rattle.prove_certificate.proofs.lines.print_lines.Given as goal

-- the lines so far are written
abbrev pub invariant-loop-fact : goal.invariant-loop-fact
invariant-loop-fact g l = l.text.items ≡ flat_map g.F.Line.shown (take l.fact-index l.facts)
