use Rattle.std.proofs.Common.{◌≡◌, reverse, vec_len}
use Rattle.call_components.specs.Search.{joined}
use Rattle.call_components.proofs.search.join.Given as goal

abbrev pub invariant-loop-last : goal.invariant-loop-last
invariant-loop-last l = joined l.place (reverse l.segments.items) ≡ joined l.place (reverse l.initial.segments.items)

abbrev pub decreases-loop-last : goal.decreases-loop-last
decreases-loop-last l = vec_len l.segments
