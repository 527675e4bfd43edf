use Rattle.std.proofs.Common.{◌≡◌, ◌-◌, ◌++◌, length, map}
use Rattle.linear_rows.specs.Step.{columns}
use Rattle.lex_measures.specs.Lists.{printed_stuck, stuck_of}
use Rattle.cert_assembly.specs.Leading.{led_by}
use Rattle.lex_measures.proofs.printed.Printed.stuck.Given as goal

abbrev pub invariant-loop-q : goal.invariant-loop-q
invariant-loop-q l =
    l.stuck ++ map (λ q. stuck_of l.self.found.now (led_by l.self.comps.now q)) (columns l.q (length l.self.p.now.preds - l.q)) ≡ printed_stuck l.self.p.now l.self.comps.now l.self.found.now
