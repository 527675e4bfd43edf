use Rattle.std.proofs.Common.{◌≡◌, ◌-◌, ◌++◌, length, map}
use Rattle.linear_rows.specs.Step.{columns}
use Rattle.report.specs.Levels.{level_list, levels_at}
use Rattle.report.proofs.levels.Mapped.levels.Given as goal

abbrev pub invariant-loop-q : goal.invariant-loop-q
invariant-loop-q l =
    l.levels ++ map (levels_at l.self.p.now l.self.comps.now l.self.found.now) (columns l.q (length l.self.p.now.preds - l.q)) ≡ level_list l.self.p.now l.self.comps.now l.self.found.now
