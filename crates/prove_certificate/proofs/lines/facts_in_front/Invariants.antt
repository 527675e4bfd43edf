use Rattle.std.proofs.Common.{◌≡◌, ◌≤◌, ◌+◌, ◌++◌, length, flat_map}
use Rattle.std.specs.List.{AllByRecursion}
use Rattle.prove_certificate.proofs.lines.facts_in_front.Given as goal

-- the text is the facts so far and the rest
abbrev pub invariant-loop-fact : goal.invariant-loop-fact
invariant-loop-fact g l = record {
  whole : l.fn.text ≡ flat_map g.F.Line.shown l.facts ++ l.rest;
  in_range : AllByRecursion g.F.Line.fits l.facts;
  few : length l.facts + length l.rest ≤ length l.fn.text;
}

abbrev pub decreases-loop-fact : goal.decreases-loop-fact
decreases-loop-fact g l = length l.rest
