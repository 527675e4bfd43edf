use Rattle.std.proofs.Common.{◌≡◌, take}
use Rattle.cert_assembly.proofs.copies.copied_pairs.Given as goal

abbrev pub invariant-loop-pair : goal.invariant-loop-pair
invariant-loop-pair l = l.copy ≡ take l.pair-index l.pairs
