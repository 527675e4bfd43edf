use Rattle.std.proofs.Common.{◌≡◌}
use Rattle.linear_rows.specs.Plain.{HaveWidth}
use Rattle.lex_turns.proofs.whole.whole_system.Given as goal

abbrev pub invariant-loop-call : goal.invariant-loop-call
invariant-loop-call l = record {
  width : l.system.width ≡ l.width;
  widths : HaveWidth l.system.width l.system.list;
}
