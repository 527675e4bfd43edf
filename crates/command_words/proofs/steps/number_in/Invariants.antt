use Rattle.std.proofs.Common.{◌≡◌, ◌≤◌, drop}
use Rattle.std.specs.Char.{is_digit}
use Rattle.std.specs.List.{list_all}
use Rattle.std.specs.Str.Parse.{digits_value, digits_value_after}
use Rattle.command_words.proofs.steps.number_in.Given as goal

-- the number so far with the digits that are left is the whole number
abbrev pub invariant-loop-byte : goal.invariant-loop-byte
invariant-loop-byte l = record {
  value : digits_value_after 10 l.value (drop l.byte-index l.text) ≡ digits_value 10 l.text;
  digits : list_all (λ b. is_digit b 10) (drop l.byte-index l.text) ≡ list_all (λ b. is_digit b 10) l.text;
  small : l.value ≤ l.greatest;
}
