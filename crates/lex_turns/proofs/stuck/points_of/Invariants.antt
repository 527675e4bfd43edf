use Rattle.std.proofs.Common.{◌++◌, List, drop}
use Rattle.number_tests.specs.declared.pair_point.PairPoint.{PairPoint}
use Rattle.level_systems.specs.Turned.{held_of}
use Rattle.lex_turns.specs.Sticking.{AreLong, ArePlain}
use Rattle.lex_turns.proofs.stuck.points_of.Given as goal

-- with the points of the calls that are left, these are those of all calls
abbrev pub invariant-loop-own : goal.invariant-loop-own
invariant-loop-own l = record {
  rest : (ys : List PairPoint) → ArePlain (held_of (drop l.own-index l.rest)) l.numbers ys → ArePlain (held_of l.rest) l.fn.numbers (l.points ++ ys);
  long : AreLong (held_of l.rest) l.fn.numbers → AreLong (held_of (drop l.own-index l.rest)) l.numbers;
}
