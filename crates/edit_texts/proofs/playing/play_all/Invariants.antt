use Rattle.std.proofs.Common.{◌≡◌, length, map}
use Rattle.std.specs.Vec.Iter.{into_iter_items, into_iter_len}
use Rattle.prolog_terms.specs.Terms.{clause_of}
use Rattle.edit_texts.specs.Playing.{HasPlayed}
use Rattle.edit_texts.proofs.playing.play_all.Given as goal

-- the edits before this one are done
abbrev pub invariant-loop-edit : goal.invariant-loop-edit
invariant-loop-edit l = (l.names ≡ l.initial.names)
    × HasPlayed l.initial.names (map clause_of l.fn.edits.items) (map clause_of (into_iter_items l.edit-iterator)) l.playing
    × (into_iter_len l.edit-iterator ≡ length (into_iter_items l.edit-iterator))
