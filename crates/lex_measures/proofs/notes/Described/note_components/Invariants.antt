use Rattle.std.proofs.Common.{◌≡◌, ◌-◌, ◌++◌, length}
use Rattle.std.specs.List.{flat_map}
use Rattle.cert_assembly.specs.Leading.{led_by}
use Rattle.linear_rows.specs.Step.{columns}
use Rattle.lex_measures.specs.Exact.{component_notes, note_at}
use Rattle.lex_measures.specs.Lists.{found_of}
use Rattle.lex_measures.proofs.notes.Described.note_components.Given as goal

abbrev pub invariant-loop-q : goal.invariant-loop-q
invariant-loop-q l =
    l.out ++ flat_map (λ q. note_at l.self.p.now l.self.names.now (found_of l.found) q (led_by l.self.comps.now q)) (columns l.q (length l.self.p.now.preds - l.q))
    ≡ l.fn.out ++ component_notes l.self.p.now l.self.names.now l.self.comps.now (found_of l.found)
