use Rattle.std.proofs.Common.{◌≡◌, take}
use Rattle.linear_rows.specs.Plain.{HaveWidth, plain_rows}
use Rattle.termination_model.specs.sizes.Sizes.{rows_of, wide_system}
use Rattle.termination_model.specs.sizes.ShortSystems.{short_system}
use Rattle.termination_model.proofs.systems.system.Given as goal

abbrev pub invariant-loop-i : goal.invariant-loop-i
invariant-loop-i g l = record {
  variables : l.system.variables ≡ l.clause.vars;
  width : l.system.rows.width ≡ l.clause.vars;
  widths : HaveWidth l.clause.vars l.system.rows.list;
  head : l.system.head ≡ l.initial.system.head;
  rows : plain_rows l.system.rows.list ≡ short_system (g.N.Norm.expression l.norm) (rows_of l.sizes.rows) l.clause.vars (take l.i l.clause.body);
  wide : l.system.wide ≡ wide_system (g.N.Norm.expression l.norm) (rows_of l.sizes.rows) l.clause.vars (take l.i l.clause.body);
}
