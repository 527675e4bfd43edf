use Rattle.std.proofs.Common.{◌+◌, map, length, ap, sym, ◌∙◌}
use Rattle.std.proofs.lemmas.List.{length-map}
use Rattle.transitions.specs.Templates.{row_count as rows_of_targets, template_rows}
use Rattle.number_turns.specs.Demanding.{row_count, target_of}
use Rattle.number_turns.specs.Recalled.{held_of, spelled}
use Rattle.number_turns.proofs.ColumnEntries.{all_hold}
use Rattle.number_turns.proofs.TemplateSteps.{rows_are}
use Rattle.number_turns.proofs.turning.system_of.Goals as goal

pub demands_of-requires : goal.demands_of-requires
demands_of-requires c = all_hold (held_of c.args.transitions.now) c.requires

pub returns-clause-width : goal.returns-clause-width
returns-clause-width c =
    let features = c.args.features.now in
    let fs = map spelled features in
    let count = sym (rows_are fs c.in_ok-demands.demands.items) ∙ ap rows_of_targets (c.in_ok-demands.ensures.targets fs) in
    let many = sym (length-map features spelled) in
    c.in_ok-system.ensures.width ∙ ap (λ ds. length features + (length features + row_count ds)) c.as_slice.ensures.value ∙ (λ i. many i + (many i + count i))

pub returns-clause-rows : goal.returns-clause-rows
returns-clause-rows c =
    c.in_ok-system.ensures.rows ∙ ap (λ ds. template_rows (map (target_of (map spelled c.args.features.now)) ds)) c.as_slice.ensures.value ∙ ap template_rows (c.in_ok-demands.ensures.targets (map spelled c.args.features.now))
