use Rattle.std.proofs.Common.{◌≡◌, ◌-◌, ◌++◌, length}
use Rattle.std.specs.List.{flat_map}
use Rattle.linear_rows.specs.Step.{columns}
use Rattle.report.specs.SupportNotes.{large_at, large_notes}
use Rattle.cert_assembly.specs.Leading.{led_by}
use Rattle.report.proofs.support_notes.Described.note_large.Given as goal

abbrev pub invariant-loop-q : goal.invariant-loop-q
invariant-loop-q l =
    l.out ++ flat_map (λ q. large_at l.self.p.now l.self.names.now l.self.comps.now q (led_by l.self.comps.now q)) (columns l.q (length l.self.p.now.preds - l.q))
    ≡ l.fn.out ++ large_notes l.self.p.now l.self.names.now l.self.comps.now
