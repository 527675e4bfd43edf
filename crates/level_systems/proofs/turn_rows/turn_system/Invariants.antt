use Rattle.std.proofs.Common.{◌≡◌, ◌+◌, ◌++◌, ℕ, ℤ, List, drop, length, map}
use Rattle.std.specs.List.{AllByRecursion}
use Rattle.call_components.specs.Numbers.{number_of}
use Rattle.cti_terms.specs.Tree.{Tree}
use Rattle.linear_rows.specs.Plain.{HaveWidth, plain_rows}
use Rattle.level_systems.specs.Held.{spelled}
use Rattle.level_systems.specs.Recalled.{Recalls}
use Rattle.level_systems.specs.Turned.{all_rows, held_of}
use Rattle.level_systems.specs.declared.own_call.OwnCall.{OwnCall}
use Rattle.termination_model.specs.mappings.OwnCalls.{OwnCall as Recalled}
use Rattle.termination_model.specs.lists.TurnSystem.{turn_rows_from}
use Rattle.level_systems.proofs.turn_rows.turn_system.Given as goal

abbrev pub invariant-loop-own : goal.invariant-loop-own
invariant-loop-own l =
    record {
      count : l.before + all_rows (held_of (drop l.own-index l.calls)) ≡ l.count;
      place : l.earlier ≡ l.own-index;
      width : l.system.width ≡ length l.positions + (length l.members + (length l.calls + l.count));
      widths : HaveWidth l.system.width l.system.list;
      rows : (expression : ℕ → Tree → List ℤ) (re : OwnCall → Recalled) → AllByRecursion (λ own. Recalls expression (re own) own) (held_of l.calls)
          → plain_rows l.system.list ++ turn_rows_from expression (map spelled l.positions) (map number_of l.members) l.earlier l.before (map re (held_of (drop l.own-index l.calls)))
          ≡ turn_rows_from expression (map spelled l.positions) (map number_of l.members) 0 0 (map re (held_of l.calls));
    }
