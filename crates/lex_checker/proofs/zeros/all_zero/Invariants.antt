use Rattle.std.proofs.Common.{◌≡◌, ◌<◌, ℕ, List, slice_get, Some}
use Rattle.std.specs.List.{AllByRecursion}
use Rattle.cert_checker.specs.Proved.{IsZero}
use Rattle.number_tests.specs.declared.level_part.LevelPart.{LevelPart}
use Rattle.lex_checker.proofs.zeros.all_zero.Given as goal

abbrev pub invariant-loop-measures : goal.invariant-loop-measures
invariant-loop-measures l = (i : ℕ) → i < l.measures-index → (x : List LevelPart) → slice_get l.lists i ≡ Some x → AllByRecursion IsZero x
