use Rattle.std.proofs.Common.{◌≡◌, ◌<◌, ℕ, slice_get, Some, false}
use Rattle.std.specs.List.{AllByRecursion}
use Rattle.call_components.specs.Partition.{IsIn}
use Rattle.cert_checker.specs.Proved.{IsZero}
use Rattle.number_tests.specs.Shape.{list_at}
use Rattle.lex_checker.proofs.zeros.lists_are_zero.Given as goal

abbrev pub invariant-loop-q : goal.invariant-loop-q
invariant-loop-q l = (q : ℕ) → q < l.q → (c : ℕ) → IsIn l.comps c q → slice_get l.comps.recursive c ≡ Some false → AllByRecursion (AllByRecursion IsZero) (list_at l.parts.lists q)
