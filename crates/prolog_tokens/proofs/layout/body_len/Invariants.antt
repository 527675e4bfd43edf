use Rattle.std.proofs.Common.{◌≡◌, ◌≤◌, ◌+◌, length}
use Rattle.prolog_tokens.specs.Layout.{body_len}
use Rattle.prolog_tokens.proofs.layout.body_len.Given as goal

-- what is passed and what is left make the body
abbrev pub invariant-body : goal.invariant-body
invariant-body l = record {
  passed : body_len l.bytes + length l.rest ≡ length l.bytes + body_len l.rest;
  left : length l.rest ≤ length l.bytes;
}

abbrev pub decreases-body : goal.decreases-body
decreases-body l = length l.rest
