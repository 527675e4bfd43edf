use Rattle.std.proofs.Common.{◌≡◌, map, take}
use Rattle.std.specs.List.{AllByRecursion}
use Rattle.component_clauses.specs.Numbered.{with_clauses}
use Rattle.component_transitions.specs.OwnTransitions.{IsHeldIn, numbers_of_call}
use Rattle.number_columns.specs.ColumnLists.{counts_at}
use Rattle.termination_model.specs.sizes.Sizes.{rows_of}
use Rattle.level_systems.proofs.OwnPairs.{pairs_in}
use Rattle.component_transitions.proofs.collecting.own_transitions.Given as goal

abbrev pub invariant-loop-k : goal.invariant-loop-k
invariant-loop-k g l =
    record {
      pairs : map numbers_of_call l.calls.items ≡ pairs_in l.own.comps.now l.own.number (with_clauses l.own.program.now.clauses (take l.k-index l.own.clauses.now));
      held : AllByRecursion (IsHeldIn (g.C.Columns.columns l.columns) (counts_at (g.C.Columns.count l.columns) (g.C.Columns.listed l.columns)) (rows_of l.sizes) l.own.program.now l.own.comps.now l.own.number) l.calls.items;
    }
