use Rattle.std.proofs.Common.{◌≡◌, map, take}
use Rattle.termination_model.specs.columns.Columns.{columns_of}
use Rattle.number_columns.specs.ColumnLists.{counts_at, plain_columns}
use Rattle.number_columns.proofs.arguments.atom_columns.Given as goal

abbrev pub invariant-loop-i : goal.invariant-loop-i
invariant-loop-i g l =
    plain_columns l.list ≡ columns_of (take l.i (counts_at (g.C.Columns.count l.columns) (g.C.Columns.listed l.columns) l.atom.pred.0)) (take l.i (map ((g.C.Columns.columns l.columns).expression l.vars) l.atom.args))
