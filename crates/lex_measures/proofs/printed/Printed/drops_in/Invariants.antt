use Rattle.std.proofs.Common.{◌≡◌, ◌+◌, ◌++◌, drop}
use Rattle.cert_structure.specs.Shape.{head_of}
use Rattle.lex_measures.specs.Lists.{ArePassed, drops_from, lists_at}
use Rattle.lex_measures.proofs.printed.Printed.drops_in.Given as goal

abbrev pub invariant-loop-place : goal.invariant-loop-place
invariant-loop-place l =
    record {
      drops : l.drops ++ drops_from l.self.p.now l.self.comps.now l.self.found.now l.clause l.place (drop l.place l.body) ≡ drops_from l.self.p.now l.self.comps.now l.self.found.now l.clause 0 l.body;
      passed : ArePassed (lists_at l.self.comps.now l.self.found.now (head_of l.self.p.now l.clause)) l.at (l.clause + 1) (l.place + 1);
    }
