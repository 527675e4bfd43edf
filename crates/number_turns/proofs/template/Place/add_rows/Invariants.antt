use Rattle.std.proofs.Common.{◌≡◌, ◌++◌, map}
use Rattle.linear_rows.specs.Plain.{HaveWidth, plain_rows}
use Rattle.linear_rows.specs.Step.{columns}
use Rattle.transitions.specs.Templates.{template_row}
use Rattle.number_turns.specs.Demanding.{target_of}
use Rattle.number_turns.specs.Recalled.{spelled}
use Rattle.number_turns.proofs.template.Place.add_rows.Given as goal

abbrev pub invariant-loop-x : goal.invariant-loop-x
invariant-loop-x l =
    record {
      width : l.system.width ≡ l.fn.system.width;
      widths : HaveWidth l.fn.system.width l.fn.system.list → HaveWidth l.system.width l.system.list;
      rows : plain_rows l.system.list ≡ plain_rows l.fn.system.list ++ map (template_row l.self.before l.self.after (target_of (map spelled l.self.features.now) l.self.demand)) (columns 0 l.x);
    }
