use Rattle.std.proofs.Common.{◌≡◌, ◌≤◌, ◌*◌, take}
use Rattle.prove_parts.specs.Shape.{columns_of}
use Rattle.prove_parts.proofs.widths.columns_of.Given as goal

-- the columns so far are counted
abbrev pub invariant-loop-kind : goal.invariant-loop-kind
invariant-loop-kind l = (l.count ≡ columns_of (take l.kind-index l.kinds)) × (l.count ≤ 3 * l.kind-index)
