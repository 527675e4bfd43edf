use Rattle.std.proofs.Common.{◌≡◌, ◌++◌, drop, map}
use Rattle.std.specs.List.{AllByRecursion}
use Rattle.component_transitions.specs.OwnTransitions.{IsHeldIn, numbers_of_call}
use Rattle.number_columns.specs.ColumnLists.{counts_at}
use Rattle.level_systems.specs.Pairs.{calls_from, clause_at}
use Rattle.termination_model.specs.sizes.Sizes.{rows_of}
use Rattle.component_transitions.proofs.collecting.add_calls.Given as goal

abbrev pub invariant-loop-j : goal.invariant-loop-j
invariant-loop-j g l =
    record {
      pairs : map numbers_of_call l.calls.items ++ calls_from l.setting.comps.now l.c l.k l.j (drop l.j (clause_at l.setting.program.now l.k).body) ≡ map numbers_of_call l.fn.calls.items ++ calls_from l.setting.comps.now l.c l.k 0 (clause_at l.setting.program.now l.k).body;
      held : AllByRecursion (IsHeldIn (g.C.Columns.columns l.setting.columns.now) (counts_at (g.C.Columns.count l.setting.columns.now) (g.C.Columns.listed l.setting.columns.now)) (rows_of l.setting.sizes.now) l.setting.program.now l.setting.comps.now l.c) l.calls.items;
    }
