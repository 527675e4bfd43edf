use Rattle.std.proofs.Common.{◌≡◌, ◌++◌, take}
use Rattle.fact_reading.specs.Numbered.{facts_from}
use Rattle.cert_writing.proofs.writer.write_each.Given as goal

-- the facts of the items so far are there
abbrev pub invariant-loop-number : goal.invariant-loop-number
invariant-loop-number g l = l.out ≡ l.fn.out ++ facts_from 0 (g.W.Writer.facts l.writer) (take l.number l.items)
