use Rattle.std.proofs.Common.{◌≡◌, ◌+◌, ◌++◌, length, map}
use Rattle.std.specs.Vec.Iter.{into_iter_items}
use Rattle.cert_structure.specs.Numbered.{facts_from}
use Rattle.numeric_model.specs.States.{plain_step}
use Rattle.certificate.specs.Text.{text_of}
use Rattle.cert_assembly.specs.ChainNotes.{chain_notes, step_notes}
use Rattle.cert_assembly.proofs.chain_notes.print_chain.Given as goal

-- the text of the notes of the steps so far is there, and that of the others is to come
abbrev pub invariant-loop-step : goal.invariant-loop-step
invariant-loop-step l =
    (l.out.items ++ text_of (facts_from (l.number + 1) (step_notes l.p l.names) (map plain_step (into_iter_items l.step-iterator))) ≡ l.fn.out.items ++ text_of (chain_notes l.p l.names (map plain_step l.fn.steps)))
    × (l.number + length (into_iter_items l.step-iterator) ≡ length l.fn.steps)
