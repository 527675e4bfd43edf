use Rattle.std.proofs.Common.{◌≡◌, ◌++◌, ℕ, ℤ, List, map}
use Rattle.call_components.specs.Numbers.{number_of}
use Rattle.cti_terms.specs.Tree.{Tree}
use Rattle.linear_rows.specs.Plain.{HaveWidth, plain_rows}
use Rattle.linear_rows.specs.Step.{columns}
use Rattle.level_systems.specs.Held.{spelled}
use Rattle.level_systems.specs.Recalled.{Recalls}
use Rattle.termination_model.specs.mappings.OwnCalls.{OwnCall as Recalled}
use Rattle.termination_model.specs.lists.TurnSystem.{turn_row}
use Rattle.level_systems.proofs.turn_rows.Unknowns.add_turn.Given as goal

abbrev pub invariant-loop-x : goal.invariant-loop-x
invariant-loop-x l =
    record {
      width : l.system.width ≡ l.fn.system.width;
      widths : HaveWidth l.fn.system.width l.fn.system.list → HaveWidth l.system.width l.system.list;
      rows : (expression : ℕ → Tree → List ℤ) (o : Recalled) → Recalls expression o l.own
          → plain_rows l.system.list ≡ plain_rows l.fn.system.list ++ map (turn_row expression (map spelled l.self.positions.now) (map number_of l.self.members.now) l.self.earlier l.self.later l.self.before l.self.after o) (columns 0 l.x);
    }
