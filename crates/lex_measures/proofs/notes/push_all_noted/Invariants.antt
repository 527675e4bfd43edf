use Rattle.std.proofs.Common.{◌≡◌, ◌++◌}
use Rattle.std.specs.List.{flat_map}
use Rattle.std.specs.Vec.Iter.{into_iter_items}
use Rattle.lex_measures.specs.Exact.{noted}
use Rattle.lex_measures.proofs.notes.push_all_noted.Given as goal

-- the notes so far are there, and the others are to come
abbrev pub invariant-loop-note : goal.invariant-loop-note
invariant-loop-note l = l.out ++ flat_map noted (into_iter_items l.note-iterator) ≡ l.fn.out ++ flat_map noted l.fn.notes
