use Rattle.std.proofs.Common.{◌≡◌, take}
use Rattle.cert_assembly.proofs.copies.copied_rows.Given as goal

abbrev pub invariant-loop-own : goal.invariant-loop-own
invariant-loop-own l = l.copy ≡ take l.own-index l.own-items
