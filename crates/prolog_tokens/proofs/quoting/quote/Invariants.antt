use Rattle.std.proofs.Common.{◌≡◌, ◌++◌, ◌∷◌, take}
use Rattle.std.specs.List.{flat_map}
use Rattle.prolog_tokens.specs.Spelling.{spelled_byte}
use Rattle.prolog_tokens.proofs.quoting.quote.Given as goal

-- the quote and the bytes so far are appended
abbrev pub invariant-loop-byte : goal.invariant-loop-byte
invariant-loop-byte l = l.out.items ≡ l.fn.out.items ++ (39 ∷ flat_map spelled_byte (take l.byte-index l.text))
