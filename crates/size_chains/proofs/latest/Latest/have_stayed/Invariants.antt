use Rattle.std.proofs.Common.{take}
use Rattle.size_chains.specs.Repeating.{HaveStayed}
use Rattle.size_chains.proofs.latest.Latest.have_stayed.Given as goal

-- the atoms so far
abbrev pub invariant-loop-atom : goal.invariant-loop-atom
invariant-loop-atom l = HaveStayed l.self.changes.items l.place (take l.atom-index l.body)
