use Rattle.std.proofs.Common.{◌≡◌, ℕ, List, [], ◌∷◌, ◌++◌}
use Rattle.cti_terms.specs.Tree.{Tree}
use Rattle.unifier.specs.Raised.{raised_tree}
use Rattle.unifier.specs.Store.{full, chain_of}
use Rattle.unifier.specs.Visits.{Leads}
use Rattle.unifier.proofs.occurs_check.reached.Given as goal

abbrev pub invariant-loop-other : goal.invariant-loop-other
invariant-loop-other l = record {
  same : full l.bindings (raised_tree l.now) ≡ full l.bindings (raised_tree l.fn.term);
  leads : (ts : List Tree) (x : ℕ) → Leads l.bindings x (ts ++ raised_tree l.fn.term ∷ []) l.fn.visited (ts ++ raised_tree l.now ∷ []) l.visited;
}

abbrev pub decreases-loop-other : goal.decreases-loop-other
decreases-loop-other l = chain_of l.bindings (raised_tree l.now)
