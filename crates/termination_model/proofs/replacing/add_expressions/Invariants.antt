use Rattle.std.proofs.Common.{◌≡◌, ◌++◌, map, take}
use Rattle.linear_rows.specs.Plain.{HaveWidth, plain_rows}
use Rattle.termination_model.proofs.replacing.add_expressions.Given as goal

abbrev pub invariant-loop-argument : goal.invariant-loop-argument
invariant-loop-argument g l = record {
  width : l.rows.width ≡ l.fn.rows.width;
  wide : HaveWidth l.fn.rows.width l.rows.list;
  each : plain_rows l.rows.list ≡ plain_rows l.fn.rows.list ++ map (g.N.Norm.expression l.norm l.fn.rows.width) (take l.argument-index l.arguments);
}
