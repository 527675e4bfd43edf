use Rattle.std.proofs.Common.{◌≡◌, List, Some, slice_get, true, map, ap, sym, subst, ◌∙◌}
use Rattle.termination_model.proofs.Lists.{at_place}
use Rattle.level_systems.specs.Held.{spelled}
use Rattle.level_systems.specs.Mappings.{mapping_with}
use Rattle.level_systems.specs.declared.measure.Measure.{Measure}
use Rattle.level_dual.specs.Large.{has_coefficient}
use Rattle.lex_turns.specs.FoundLists.{is_used}
use Rattle.lex_turns.proofs.ListSupports.{used_there}
use Rattle.lex_turns.proofs.large.is_used.Goals as goal

pub returns-then-has_coefficient : goal.returns-then-has_coefficient
returns-then-has_coefficient c =
    let r = spelled c.args.position in
    let items = c.as_slice-measures-items.result.now in
    let i = c.loop-measures.measures-index in
    let ms = c.measures-item.result in
    let at : slice_get items i ≡ Some ms = at_place items i ms c.loop-measures-test.true c.measures-item.is in
    let yes : has_coefficient ms r ≡ true = ap (λ (ns : List Measure). has_coefficient ns r) (sym c.as_slice.ensures) ∙ sym c.has_coefficient.ensures ∙ c.if-has_coefficient.true in
    sym (subst (λ (mss : List (List Measure)). is_used r (map mapping_with mss) ≡ true) c.as_slice-measures-items.ensures (used_there r items i ms at yes))
