use Rattle.std.proofs.Common.{◌+◌, ◌-◌, ℕ, List, arith, length}
use Rattle.std.specs.List.{flat_map}
use Rattle.cert_assembly.proofs.NoteLaws.{added, columns_end, columns_step, ended}
use Rattle.cert_assembly.specs.Leading.{led_by}
use Rattle.lex_certificate.specs.declared.fact.LexFact.{LexFact}
use Rattle.linear_rows.specs.Step.{columns}
use Rattle.lex_measures.specs.Exact.{note_at}
use Rattle.lex_measures.specs.Lists.{found_of}
use Rattle.lex_measures.proofs.notes.Described.note_components.Goals as goal

pub loop-q-preserved : goal.loop-q-preserved
loop-q-preserved c =
    let s = c.args.self.now in
    let f : ℕ → List LexFact = λ q. note_at s.p.now s.names.now (found_of c.args.found.now) q (led_by s.comps.now q) in
    let n = length s.p.now.preds in
    let q = c.loop-q.q in
    added _ _ (f q) (flat_map f (columns (q + 1) (n - (q + 1)))) (flat_map f (columns q (n - q))) _ c.in_ok-note_at.ensures (columns_step f q n (omega arith)) c.loop-q.invariant

pub returns : goal.returns
returns c =
    let s = c.args.self.now in
    let f : ℕ → List LexFact = λ q. note_at s.p.now s.names.now (found_of c.args.found.now) q (led_by s.comps.now q) in
    let n = length s.p.now.preds in
    let q = c.loop-q.q in
    ended _ (flat_map f (columns q (n - q))) _ (columns_end f q n (omega arith)) c.loop-q.invariant
