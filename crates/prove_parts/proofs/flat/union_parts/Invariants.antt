use Rattle.std.proofs.Common.{◌≡◌, take, map}
use Rattle.prove_parts.specs.Flat.{union_part}
use Rattle.prove_parts.proofs.flat.union_parts.Given as goal

-- those so far are united
abbrev pub invariant-loop-list : goal.invariant-loop-list
invariant-loop-list l = l.parts ≡ map (union_part l.kinds) (take l.list-index l.own)
