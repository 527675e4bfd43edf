use Rattle.std.proofs.Common.{◌≡◌, ◌<◌, ℕ, slice_get, Some}
use Rattle.cert_checker.specs.Proved.{IsZero}
use Rattle.number_tests.specs.declared.level_part.LevelPart.{LevelPart}
use Rattle.lex_checker.proofs.zeros.is_zero.Given as goal

abbrev pub invariant-loop-part : goal.invariant-loop-part
invariant-loop-part l = (i : ℕ) → i < l.part-index → (x : LevelPart) → slice_get l.measures i ≡ Some x → IsZero x
