use Rattle.std.proofs.Common.{◌≡◌, ◌+◌, map, take}
use Rattle.precond_fixpoint.proofs.ranks.component_ranks.Given as goal

-- the ranks so far
abbrev pub invariant-loop-q : goal.invariant-loop-q
invariant-loop-q l = l.ranks.items ≡ map (λ c. c + 1) (take l.q l.comps.of)
