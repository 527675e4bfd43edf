use Rattle.std.proofs.Common.{◌≡◌, ◌≤◌, ◌-◌, length, drop}
use Rattle.prolog_tokens.specs.Places.{further}
use Rattle.prolog_tokens.specs.Items.{item_len}
use Rattle.prolog_tokens.proofs.items.item_len.Given as goal

-- what is passed and what is left make the item
abbrev pub invariant-pieces : goal.invariant-pieces
invariant-pieces l = record {
  left : further l.at (item_len l.quote 0 (drop l.at l.bytes)) ≡ item_len l.quote 0 l.bytes;
  within : l.at ≤ length l.bytes;
}

abbrev pub decreases-pieces : goal.decreases-pieces
decreases-pieces l = length l.bytes - l.at
