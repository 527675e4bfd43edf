use Rattle.std.proofs.Common.{◌≡◌, ◌-◌, ◌++◌, length, map}
use Rattle.linear_rows.specs.Step.{columns}
use Rattle.report.specs.Levels.{refutation_list, refutation_of}
use Rattle.cert_assembly.specs.Leading.{led_by}
use Rattle.report.proofs.levels.Mapped.refutations.Given as goal

abbrev pub invariant-loop-q : goal.invariant-loop-q
invariant-loop-q l =
    l.refutations ++ map (λ q. refutation_of l.self.found.now (led_by l.self.comps.now q)) (columns l.q (length l.self.p.now.preds - l.q)) ≡ refutation_list l.self.p.now l.self.comps.now l.self.found.now
