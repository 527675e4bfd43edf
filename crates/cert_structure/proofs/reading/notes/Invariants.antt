use Rattle.std.proofs.Common.{◌≡◌, ◌+◌, drop}
use Rattle.std.specs.List.{prefix_len}
use Rattle.cert_structure.specs.Order.{is_note}
use Rattle.cert_structure.proofs.reading.notes.Given as goal

-- all facts so far are notes
abbrev pub invariant-loop-fact : goal.invariant-loop-fact
invariant-loop-fact l = record {
  counted : l.count ≡ l.fact-index;
  rest : l.fact-index + prefix_len is_note (drop l.fact-index l.facts) ≡ prefix_len is_note l.facts;
}
