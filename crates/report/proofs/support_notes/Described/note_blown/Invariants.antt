use Rattle.std.proofs.Common.{◌≡◌, ◌-◌, ◌++◌, length}
use Rattle.std.specs.List.{flat_map}
use Rattle.linear_rows.specs.Step.{columns}
use Rattle.report.specs.Levels.{given_up}
use Rattle.report.specs.SupportNotes.{blown_at, blown_notes}
use Rattle.cert_assembly.specs.Leading.{led_by}
use Rattle.report.proofs.support_notes.Described.note_blown.Given as goal

abbrev pub invariant-loop-q : goal.invariant-loop-q
invariant-loop-q l =
    l.out ++ flat_map (λ q. blown_at l.self.p.now l.self.names.now l.self.comps.now (given_up l.found) q (led_by l.self.comps.now q)) (columns l.q (length l.self.p.now.preds - l.q))
    ≡ l.fn.out ++ blown_notes l.self.p.now l.self.names.now l.self.comps.now (given_up l.found)
