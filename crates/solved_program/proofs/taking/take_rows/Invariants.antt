use Rattle.std.proofs.Common.{◌≡◌, length, map, take}
use Rattle.call_components.specs.Numbers.{number_of}
use Rattle.solved_program.specs.Taken.{AreTaken}
use Rattle.solved_program.proofs.taking.take_rows.Given as goal

abbrev pub invariant-loop-q : goal.invariant-loop-q
invariant-loop-q l = record {
  each : length l.to ≡ length l.fn.to;
  taken : AreTaken (map number_of (take l.q-index l.members)) l.from l.fn.to l.to;
}
