use Rattle.std.proofs.Common.{◌↔◌, ◌<◌, ℕ, Contains, slice_index_or}
use Rattle.term_size.specs.Members.{members}
use Rattle.term_size.proofs.counting.Counts.occurring.Given as goal

abbrev pub invariant-loop-x : goal.invariant-loop-x
invariant-loop-x l = (x : ℕ) → Contains (members l.set) x ↔ ((x < l.x) × (0 < slice_index_or l.self.variables x 0))
