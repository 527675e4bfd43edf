use Rattle.std.proofs.Common.{◌≡◌, ◌<◌, ◌^◌, drop}
use Rattle.prolog_tokens.specs.Numbers.{number_of, number_from}
use Rattle.prolog_tokens.proofs.numbers.number.Given as goal

-- the digits so far, and then the others, spell the number
abbrev pub invariant-loop-byte : goal.invariant-loop-byte
invariant-loop-byte l = record {
  spelled : number_from l.base l.number (drop l.byte-index l.digits) ≡ number_of l.base l.digits;
  small : l.number < 2 ^ 127;
}
