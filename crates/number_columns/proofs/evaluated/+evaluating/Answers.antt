use Rattle.std.proofs.Common.{◌≡◌, ◌∙◌, Some, length, sym, arith}
use Rattle.cti_terms.specs.Spell.{trees_of}
use Rattle.number_columns.specs.Numeric.{all_evaluated}
use Rattle.number_columns.proofs.MeetLaws.{evaluated_count, no_operand}
use Rattle.number_columns.proofs.evaluated.+evaluating.Goals as goal

pub is_operand-returns-in_default-2 : goal.is_operand-returns-in_default-2
is_operand-returns-in_default-2 t c =
    let o = Some c.args.arith in
    sym (no_operand c.args.arith c.args.name.0 (all_evaluated o c.args.variable (trees_of c.args.args.now)) (omega (arith, c.in_default.len_at_least, evaluated_count o c.args.variable c.args.args.now)))
