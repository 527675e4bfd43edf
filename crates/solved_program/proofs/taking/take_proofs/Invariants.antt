use Rattle.std.proofs.Common.{◌≡◌, length, map, take}
use Rattle.solved_program.specs.Taken.{AreTaken, place_of}
use Rattle.solved_program.proofs.taking.take_proofs.Given as goal

abbrev pub invariant-loop-k : goal.invariant-loop-k
invariant-loop-k l = record {
  each : length l.to ≡ length l.fn.to;
  taken : AreTaken (map place_of (take l.k-index l.own)) l.from l.fn.to l.to;
}
