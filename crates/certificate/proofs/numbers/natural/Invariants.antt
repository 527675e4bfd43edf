use Rattle.std.proofs.Common.{◌≡◌, ◌≤◌, take}
use Rattle.std.specs.Str.Parse.{AllDigits, digits_value}
use Rattle.certificate.proofs.numbers.natural.Given as goal

-- the digits so far and their value
abbrev pub invariant-loop-byte : goal.invariant-loop-byte
invariant-loop-byte l =
    (l.len ≡ l.byte-index) × AllDigits 10 (take l.len l.text) × (l.value ≡ digits_value 10 (take l.len l.text)) × (l.value ≤ l.most)
