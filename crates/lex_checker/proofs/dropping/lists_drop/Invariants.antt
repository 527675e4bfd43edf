use Rattle.std.proofs.Common.{◌<◌, ℕ}
use Rattle.linear_rows.specs.Plain.{plain_rows}
use Rattle.number_tests.specs.Shape.{list_at}
use Rattle.lex_checker.specs.Shape.{AreShown}
use Rattle.lex_checker.proofs.dropping.lists_drop.Given as goal

abbrev pub invariant-loop-m : goal.invariant-loop-m
invariant-loop-m l = (m : ℕ) → m < l.m → AreShown (plain_rows l.rows.list) l.columns (list_at l.heads m) (list_at l.calls m) (list_at l.proofs m)
