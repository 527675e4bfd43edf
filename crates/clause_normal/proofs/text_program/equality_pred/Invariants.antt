use Rattle.std.proofs.Common.{◌≡◌, ◌+◌, drop}
use Rattle.std.specs.List.{position_or_len}
use Rattle.clause_normal.specs.Numbering.{is_equality}
use Rattle.clause_normal.proofs.text_program.equality_pred.Given as goal

abbrev pub invariant-loop-i : goal.invariant-loop-i
invariant-loop-i l = position_or_len (is_equality l.names) l.program.preds ≡ l.i + position_or_len (is_equality l.names) (drop l.i l.program.preds)
