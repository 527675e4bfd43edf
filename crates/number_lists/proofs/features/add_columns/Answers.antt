use Rattle.std.proofs.Common.{◌++◌, ◌∷◌, [], List, map, ap, sym, ◌∙◌}
use Rattle.linear_rows.specs.Step.{columns}
use Rattle.termination_model.proofs.Lists.{append_assoc, map_push}
use Rattle.transitions.specs.StuckSets.{Feature as Number}
use Rattle.number_turns.specs.Recalled.{spelled}
use Rattle.number_turns.specs.declared.feature.Feature.{Feature}
use Rattle.number_lists.proofs.ColumnLists.{columns_next, numbered}
use Rattle.number_lists.proofs.features.add_columns.Goals as goal

pub loop-i-preserved : goal.loop-i-preserved
loop-i-preserved c =
    let r = c.args.position in
    let i = c.loop-i.i in
    let number = c.in_ok-column_number.field-0 in
    let added : Feature = record { member = r.member; number = number } in
    let before = map (numbered r.member) (columns r.first i) in
    ap (λ (fs : List Feature). map spelled fs) c.in_ok-push.ensures.items
    ∙ map_push spelled c.loop-i.features.items added
    ∙ ap (λ (s : List Number). s ++ spelled added ∷ []) c.loop-i.invariant
    ∙ append_assoc (map spelled c.args.features.now.items) before (spelled added ∷ [])
    ∙ ap (λ (s : List Number). map spelled c.args.features.now.items ++ s) (sym (columns_next r.member r.first i number c.in_ok-column_number.ensures))
