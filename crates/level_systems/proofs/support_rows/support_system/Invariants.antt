use Rattle.std.proofs.Common.{◌≡◌, ◌+◌, ◌++◌, ℕ, ℤ, List, drop, length, map}
use Rattle.std.specs.List.{AllByRecursion}
use Rattle.call_components.specs.Numbers.{number_of}
use Rattle.cti_terms.specs.Tree.{Tree}
use Rattle.linear_rows.specs.Plain.{HaveWidth, plain_rows}
use Rattle.level_systems.specs.Held.{live_of, spelled}
use Rattle.level_systems.specs.Recalled.{Recalls, count_of}
use Rattle.level_systems.specs.declared.own_call.OwnCall.{OwnCall}
use Rattle.termination_model.specs.mappings.OwnCalls.{OwnCall as Recalled}
use Rattle.termination_model.specs.mappings.SupportSystem.{rows_from, support_rows}
use Rattle.level_systems.proofs.support_rows.support_system.Given as goal

abbrev pub invariant-loop-own : goal.invariant-loop-own
invariant-loop-own l =
    record {
      count : l.before + count_of (drop l.own-index l.calls) ≡ l.count;
      width : l.system.width ≡ length l.positions + (length l.members + l.count);
      widths : HaveWidth l.system.width l.system.list;
      rows : (expression : ℕ → Tree → List ℤ) (re : OwnCall → Recalled) → AllByRecursion (λ own. Recalls expression (re own) own) l.calls
          → plain_rows l.system.list ++ rows_from expression (map spelled l.positions) (map number_of l.members) l.before (map re (live_of (drop l.own-index l.calls)))
          ≡ support_rows expression (map spelled l.positions) (map number_of l.members) (map re (live_of l.calls));
    }
