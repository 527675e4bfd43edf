use Rattle.std.proofs.Common.{◌≡◌, ◌≤◌, ◌-◌, length, drop}
use Rattle.prolog_tokens.specs.Places.{further}
use Rattle.prolog_tokens.specs.Layout.{gap_len}
use Rattle.prolog_tokens.proofs.layout.gap_len.Given as goal

-- what is passed and what is left make the gap
abbrev pub invariant-spaces : goal.invariant-spaces
invariant-spaces l = record {
  left : further l.at (gap_len 0 (drop l.at l.bytes)) ≡ gap_len 0 l.bytes;
  within : l.at ≤ length l.bytes;
}

abbrev pub decreases-spaces : goal.decreases-spaces
decreases-spaces l = length l.bytes - l.at
