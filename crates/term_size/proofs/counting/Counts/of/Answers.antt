use Rattle.std.proofs.Common.{ℕ, arith}
use Rattle.std.proofs.lemmas.List.{get_or-replicate}
use Rattle.term_size.proofs.counting.Counts.of.Goals as goal

pub add-requires-clause-room : goal.add-requires-clause-room
add-requires-clause-room c = record { names = omega arith; variables = λ x lt. omega (arith, get_or-replicate {A = ℕ} 48 x 0 0 lt) }

pub returns : goal.returns
returns c = record {
  names = omega (arith, c.add.ensures.names);
  variables = λ x lt. omega (arith, get_or-replicate {A = ℕ} 48 x 0 0 lt, c.add.ensures.variables x lt);
}
