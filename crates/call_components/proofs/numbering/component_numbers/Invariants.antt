use Rattle.std.proofs.Common.{◌≡◌, ℕ, ◌<◌, []}
use Rattle.call_components.specs.Marked.{mark_of, IsSeen}
use Rattle.call_components.specs.Search.{IsIdle}
use Rattle.call_components.proofs.numbering.component_numbers.Given as goal

abbrev pub invariant-loop-root : goal.invariant-loop-root
invariant-loop-root l = record {
  idle : IsIdle l.table l.search;
  empty : l.search.segments.items ≡ [];
  seen : (a : ℕ) → a < l.root → IsSeen (mark_of l.search.marks a);
}
