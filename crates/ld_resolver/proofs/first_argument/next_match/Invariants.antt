use Rattle.std.proofs.Common.{ℕ, suc, ◌-◌, ◌≤◌, length}
use Rattle.cti_terms.specs.Resolve.{raised}
use Rattle.ld_resolver.specs.Chain.{IsNext}
use Rattle.ld_resolver.specs.FirstArguments.{IsNextMatch}
use Rattle.ld_resolver.proofs.first_argument.next_match.Given as goal

abbrev pub invariant-loop-shape : goal.invariant-loop-shape
invariant-loop-shape l = record {
  from_one : 1 ≤ l.number;
  next : (fresh k : ℕ) → IsNext l.program l.atom.pred.0 k l.next → IsNextMatch l.program l.bindings (raised l.base l.atom) fresh k l.number;
}

abbrev pub decreases-loop-shape : goal.decreases-loop-shape
decreases-loop-shape l = suc (length l.program.clauses) - l.number
