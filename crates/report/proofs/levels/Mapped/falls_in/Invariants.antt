use Rattle.std.proofs.Common.{◌≡◌, ◌+◌, ◌++◌, drop}
use Rattle.cert_structure.specs.Shape.{head_of}
use Rattle.report.specs.Levels.{ArePassed, falls_from, mappings_at}
use Rattle.report.proofs.levels.Mapped.falls_in.Given as goal

abbrev pub invariant-loop-place : goal.invariant-loop-place
invariant-loop-place l =
    record {
      falls : l.falls ++ falls_from l.self.p.now l.self.comps.now l.self.found.now l.clause l.place (drop l.place l.body) ≡ falls_from l.self.p.now l.self.comps.now l.self.found.now l.clause 0 l.body;
      passed : ArePassed (mappings_at l.self.comps.now l.self.found.now (head_of l.self.p.now l.clause)) l.at (l.clause + 1) (l.place + 1);
    }
