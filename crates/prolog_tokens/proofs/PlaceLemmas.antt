-- Lengths and places that are moved twice.
use Rattle.std.proofs.Common.{◌≡◌, ℕ, ◌+◌, Result, Ok, Err, refl, add_assoc, zero-add}
use Rattle.prolog_tokens.specs.Places.{further}
use Rattle.prolog_tokens.specs.declared.fault.LexFault.{LexFault}

pub further-further : (a b : ℕ) (r : Result ℕ LexFault) → further a (further b r) ≡ further (a + b) r
further-further a b (Ok n) = rw add_assoc refl
further-further a b (Err fault) = rw add_assoc refl

pub further-zero : (r : Result ℕ LexFault) → further 0 r ≡ r
further-zero (Ok n) = rw zero-add refl
further-zero (Err fault) = rw zero-add refl
