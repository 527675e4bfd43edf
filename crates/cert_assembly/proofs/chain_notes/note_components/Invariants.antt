use Rattle.std.proofs.Common.{◌≡◌, ◌+◌, ◌≤◌, ◌++◌, drop, length, map}
use Rattle.std.specs.List.{flat_map}
use Rattle.cert_structure.specs.Numbered.{facts_from}
use Rattle.numeric_model.specs.States.{plain_step}
use Rattle.cert_assembly.specs.ChainNotes.{chain_notes, step_notes}
use Rattle.cert_assembly.proofs.chain_notes.note_components.Given as goal

-- the notes of the components so far are there, and those of the others are to come
abbrev pub invariant-loop-own : goal.invariant-loop-own
invariant-loop-own l =
    (l.out ++ facts_from (l.number + 1) (step_notes l.p l.names) (map plain_step (flat_map (λ own. own) (drop l.own-index l.steps))) ≡ l.fn.out ++ chain_notes l.p l.names (map plain_step (flat_map (λ own. own) l.steps)))
    × (l.number + l.number ≤ length l.out)
