use Rattle.std.proofs.Common.{◌≡◌, ◌<◌, ℕ, slice_get, Some}
use Rattle.number_tests.specs.declared.level_part.LevelPart.{LevelPart}
use Rattle.cert_checker.specs.Proved.{IsZero}
use Rattle.cert_checker.proofs.measure_faults.part_fault.Given as goal

abbrev pub invariant-loop-m : goal.invariant-loop-m
invariant-loop-m l = (i : ℕ) → i < l.m → (x : LevelPart) → slice_get l.parts i ≡ Some x → IsZero x
