use Rattle.std.proofs.Common.{◌≤◌, ◌-◌, length, drop}
use Rattle.std.specs.Str.{encode_utf8_all}
use Rattle.prolog_tokens.specs.Items.{item_characters}
use Rattle.prolog_tokens.proofs.AppendLemmas.{Appended}
use Rattle.prolog_tokens.proofs.decoding.decode_item.Given as goal

-- what is appended and what is left to append are all characters
abbrev pub invariant-pieces : goal.invariant-pieces
invariant-pieces l = record {
  appended : Appended l.fn.out.items l.out.items (encode_utf8_all (item_characters l.quote 0 (drop l.at l.bytes))) (encode_utf8_all (item_characters l.quote 0 l.bytes));
  within : l.at ≤ length l.bytes;
}

abbrev pub decreases-pieces : goal.decreases-pieces
decreases-pieces l = length l.bytes - l.at
