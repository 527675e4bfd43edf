use Rattle.std.proofs.Common.{◌+◌, ◌-◌, ℕ, List, arith, length}
use Rattle.std.specs.List.{flat_map}
use Rattle.certificate.specs.declared.fact.Fact.{Fact}
use Rattle.linear_rows.specs.Step.{columns}
use Rattle.report.specs.Levels.{given_up}
use Rattle.report.specs.SupportNotes.{blown_at}
use Rattle.cert_assembly.specs.Leading.{led_by}
use Rattle.cert_assembly.proofs.NoteLaws.{added, columns_end, columns_step, ended}
use Rattle.report.proofs.support_notes.Described.note_blown.Goals as goal

pub loop-q-preserved : goal.loop-q-preserved
loop-q-preserved c =
    let s = c.args.self.now in
    let f : ℕ → List Fact = λ q. blown_at s.p.now s.names.now s.comps.now (given_up c.args.found.now) q (led_by s.comps.now q) in
    let n = length s.p.now.preds in
    let q = c.loop-q.q in
    added _ _ (f q) (flat_map f (columns (q + 1) (n - (q + 1)))) (flat_map f (columns q (n - q))) _ c.in_ok-note_blown_at.ensures (columns_step f q n (omega arith)) c.loop-q.invariant

pub returns : goal.returns
returns c =
    let s = c.args.self.now in
    let f : ℕ → List Fact = λ q. blown_at s.p.now s.names.now s.comps.now (given_up c.args.found.now) q (led_by s.comps.now q) in
    let n = length s.p.now.preds in
    let q = c.loop-q.q in
    ended _ (flat_map f (columns q (n - q))) _ (columns_end f q n (omega arith)) c.loop-q.invariant
