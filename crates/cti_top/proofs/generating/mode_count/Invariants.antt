use Rattle.std.proofs.Common.{◌≡◌, ◌≤◌, ◌*◌, ◌^◌, take}
use Rattle.cti_top.specs.Summary.{mode_count}
use Rattle.cti_top.proofs.generating.mode_count.Given as goal

-- the modes of the facts so far are counted, and a fact has fewer than 2^64
abbrev pub invariant-loop-fact : goal.invariant-loop-fact
invariant-loop-fact l = (l.count ≡ mode_count (take l.fact-index l.facts)) × (l.count ≤ l.fact-index * 2 ^ 64)
