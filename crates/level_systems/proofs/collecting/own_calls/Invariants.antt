use Rattle.std.proofs.Common.{◌≡◌, map, take}
use Rattle.std.specs.List.{AllByRecursion}
use Rattle.component_clauses.specs.Numbered.{with_clauses}
use Rattle.level_systems.specs.Collected.{IsHeldIn}
use Rattle.level_systems.specs.Held.{numbers_of_call}
use Rattle.termination_model.specs.sizes.Sizes.{rows_of}
use Rattle.level_systems.proofs.OwnPairs.{pairs_in}
use Rattle.level_systems.proofs.collecting.own_calls.Given as goal

abbrev pub invariant-loop-k : goal.invariant-loop-k
invariant-loop-k g l =
    record {
      pairs : map numbers_of_call l.calls.items ≡ pairs_in l.own.comps.now l.own.number (with_clauses l.own.program.now.clauses (take l.k-index l.own.clauses.now));
      held : AllByRecursion (IsHeldIn (g.N.Norm.expression l.norm) l.own.program.now (rows_of l.sizes.rows) l.own.comps.now l.own.number) l.calls.items;
    }
