use Rattle.std.proofs.Common.{◌≡◌, ◌++◌, drop}
use Rattle.prove_parts.specs.Flat.{flat_levels}
use Rattle.prove_parts.proofs.flat.flat_levels.Given as goal

-- the levels so far, and those of the predicates that are left
abbrev pub invariant-loop-own : goal.invariant-loop-own
invariant-loop-own l = l.levels ++ flat_levels (drop l.own-index l.kinds) l.rest ≡ flat_levels l.kinds l.lists
