use Rattle.std.proofs.Common.{◌≡◌, ◌++◌, drop, map}
use Rattle.report.specs.SupportNotes.{blown_note}
use Rattle.report.proofs.support_notes.Described.note_given_up.Given as goal

abbrev pub invariant-loop-set : goal.invariant-loop-set
invariant-loop-set l =
    l.out ++ map (blown_note l.self.p.now l.self.names.now l.self.comps.now l.c l.q.0) (drop l.set-index l.sets) ≡ l.fn.out ++ map (blown_note l.self.p.now l.self.names.now l.self.comps.now l.c l.q.0) l.sets
