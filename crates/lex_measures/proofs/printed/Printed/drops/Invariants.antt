use Rattle.std.proofs.Common.{◌≡◌, ◌+◌, ◌-◌, ◌++◌, ℕ, Some, length, map, slice_get}
use Rattle.cert_structure.specs.Shape.{body_of}
use Rattle.linear_rows.specs.Step.{columns}
use Rattle.lex_measures.specs.Lists.{ArePassed, printed_drops, drops_from, lists_of_component}
use Rattle.lex_measures.proofs.printed.Printed.drops.Given as goal

abbrev pub invariant-loop-clause : goal.invariant-loop-clause
invariant-loop-clause l =
    record {
      each : length l.places.items ≡ length l.self.found.now;
      passed : (c n : ℕ) → slice_get l.places.items c ≡ Some n → ArePassed (lists_of_component l.self.found.now (Some c)) n (l.clause + 1) 1;
      drops : l.drops ++ map (λ k. drops_from l.self.p.now l.self.comps.now l.self.found.now k 0 (body_of l.self.p.now k)) (columns l.clause (length l.self.p.now.clauses - l.clause))
          ≡ printed_drops l.self.p.now l.self.comps.now l.self.found.now;
    }
