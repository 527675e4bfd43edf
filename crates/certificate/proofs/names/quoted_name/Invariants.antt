use Rattle.std.proofs.Common.{◌≡◌, length}
use Rattle.certificate.specs.Parse.{read_until, read_byte, with_all}
use Rattle.certificate.proofs.names.quoted_name.Given as goal

-- what is read in all is the bytes so far and what is read of the rest
abbrev pub invariant-loop-first : goal.invariant-loop-first
invariant-loop-first l = with_all l.name (read_until 39 read_byte l.rest) ≡ read_until 39 read_byte l.initial.rest

abbrev pub decreases-loop-first : goal.decreases-loop-first
decreases-loop-first l = length l.rest
