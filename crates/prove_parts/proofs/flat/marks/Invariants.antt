use Rattle.std.proofs.Common.{◌≡◌, ◌≤◌, ◌*◌, ◌++◌, drop}
use Rattle.prove_parts.specs.Flat.{marks_from}
use Rattle.prove_parts.proofs.flat.marks.Given as goal

-- the marks so far, and those of the arguments that are left
abbrev pub invariant-loop-kind : goal.invariant-loop-kind
invariant-loop-kind l = (l.marks.items ++ marks_from l.first (drop l.kind-index l.kinds) l.measures ≡ marks_from 0 l.kinds l.measures) × (l.first ≤ 3 * l.kind-index)
