use Rattle.std.proofs.Common.{◌≡◌, take}
use Rattle.cert_assembly.proofs.copies.copied_proofs.Given as goal

abbrev pub invariant-loop-list : goal.invariant-loop-list
invariant-loop-list l = l.copy ≡ take l.list-index l.proofs
