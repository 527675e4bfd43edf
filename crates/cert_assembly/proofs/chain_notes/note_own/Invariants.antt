use Rattle.std.proofs.Common.{◌≡◌, ◌+◌, ◌≤◌, ◌++◌, drop, length, map}
use Rattle.cert_structure.specs.Numbered.{facts_from}
use Rattle.numeric_model.specs.States.{plain_step}
use Rattle.cert_assembly.specs.ChainNotes.{step_notes}
use Rattle.cert_assembly.proofs.chain_notes.note_own.Given as goal

-- the notes of the steps so far are there, two for each at least, and those of the others are to come
abbrev pub invariant-loop-step : goal.invariant-loop-step
invariant-loop-step l =
    (l.out ++ facts_from (l.number + 1) (step_notes l.p l.names) (map plain_step (drop l.step-index l.steps)) ≡ l.fn.out ++ facts_from (l.before + 1) (step_notes l.p l.names) (map plain_step l.steps))
    × (l.number ≡ l.before + l.step-index)
    × (l.number + l.number ≤ length l.out)
