use Rattle.std.proofs.Common.{◌≡◌, ◌≤◌, ◌+◌, ◌++◌, length}
use Rattle.certificate.specs.Text.{text_of}
use Rattle.certificate.specs.Range.{AreInRange}
use Rattle.certificate.proofs.certificate.read_facts.Given as goal

-- the text is the facts so far and the rest
abbrev pub invariant-loop-fact : goal.invariant-loop-fact
invariant-loop-fact l = record {
  whole : l.fn.text ≡ text_of l.facts ++ l.rest;
  in_range : AreInRange l.facts;
  few : length l.facts + length l.rest ≤ length l.fn.text;
}

abbrev pub decreases-loop-fact : goal.decreases-loop-fact
decreases-loop-fact l = length l.rest
