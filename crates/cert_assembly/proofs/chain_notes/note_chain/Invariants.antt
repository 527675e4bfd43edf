use Rattle.std.proofs.Common.{◌≡◌, ◌+◌, ◌++◌, length, map}
use Rattle.std.specs.Vec.Iter.{into_iter_items}
use Rattle.cert_structure.specs.Numbered.{facts_from}
use Rattle.numeric_model.specs.States.{plain_step}
use Rattle.cert_assembly.specs.ChainNotes.{chain_notes, step_notes}
use Rattle.cert_assembly.proofs.chain_notes.note_chain.Given as goal

-- the notes of the steps so far are there, and those of the others are to come
abbrev pub invariant-loop-step : goal.invariant-loop-step
invariant-loop-step l =
    (l.out ++ facts_from (l.number + 1) (step_notes l.p l.names) (map plain_step (into_iter_items l.step-iterator)) ≡ l.fn.out ++ chain_notes l.p l.names (map plain_step l.fn.steps))
    × (l.number + length (into_iter_items l.step-iterator) ≡ length l.fn.steps)
