use Rattle.std.proofs.Common.{◌≡◌, ◌+◌, ◌++◌, drop, length, map}
use Rattle.linear_rows.specs.Plain.{HaveWidth, plain_rows}
use Rattle.transitions.specs.Templates.{template_rows, template_rows_from}
use Rattle.number_turns.specs.Demanding.{row_count, target_of}
use Rattle.number_turns.specs.Recalled.{spelled}
use Rattle.number_turns.proofs.template.template.Given as goal

abbrev pub invariant-loop-demand : goal.invariant-loop-demand
invariant-loop-demand l =
    record {
      count : l.before + row_count (drop l.demand-index l.demands) ≡ l.count;
      width : l.system.width ≡ length l.features + (length l.features + l.count);
      widths : HaveWidth l.system.width l.system.list;
      rows : plain_rows l.system.list ++ template_rows_from l.before (map (target_of (map spelled l.features)) (drop l.demand-index l.demands))
          ≡ template_rows (map (target_of (map spelled l.features)) l.demands);
    }
