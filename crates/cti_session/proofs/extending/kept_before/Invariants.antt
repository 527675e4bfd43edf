use Rattle.std.proofs.Common.{◌≡◌, ◌++◌, replicate}
use Rattle.kept_clauses.specs.KeptLists.{IsIncreasing, IsOnto, kept_from}
use Rattle.cti_session.proofs.ExtendLemmas.{nothing}
use Rattle.cti_session.proofs.extending.kept_before.Given as goal

abbrev pub invariant-loop : goal.invariant-loop
invariant-loop l = record {
  order : IsIncreasing l.kept.items;
  onto : IsOnto l.count l.kept.items;
  is : l.kept.items ≡ kept_from 1 l.count ++ replicate l.counter nothing;
}
