use Rattle.std.proofs.Common.{◌≡◌, drop}
use Rattle.lex_measures.specs.Exact.{place_in}
use Rattle.lex_measures.proofs.places.place_of.Given as goal

-- none of the drops so far are those of the call
abbrev pub invariant-loop-drops : goal.invariant-loop-drops
invariant-loop-drops l = place_in (drop l.drops-index l.drops-items) l.clause l.call ≡ place_in l.drops-items l.clause l.call
