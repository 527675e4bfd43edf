use Rattle.call_components.specs.Search.{IsIdle, KeepsSeen, work}
use Rattle.call_components.proofs.search.Search.finish.Given as goal

abbrev pub invariant-loop-last : goal.invariant-loop-last
invariant-loop-last l = IsIdle l.table l.self × KeepsSeen l.initial.self.marks l.self.marks

abbrev pub decreases-loop-last : goal.decreases-loop-last
decreases-loop-last l = work l.table l.self
