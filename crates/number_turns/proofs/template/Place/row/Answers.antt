use Rattle.std.proofs.Common.{rules, ◌∷◌, FitsSigned, ap, ◌∙◌}
use Rattle.std.specs.Int.{w128}
use Rattle.std.proofs.lemmas.Int.{to_z-of_z}
use Rattle.number_turns.specs.Demanding.{with_numbers}
use Rattle.number_turns.proofs.DemandRows.{row_is}
use Rattle.number_turns.proofs.template.Place.row.Goals as goal

pub returns : goal.returns
returns c =
    let fits : FitsSigned w128 c.constant.result = search rules in
    let place = c.args.self.now in
    let numbers = c.from_vec.ensures ∙ c.in_ok-add_numbers.ensures ∙ ap (with_numbers place.features.now place.demand place.before place.after c.args.x) c.new-numbers.ensures.items in
    simp to_z-of_z ((λ i. c.constant.ensures i ∷ numbers i) ∙ row_is place.features.now place.demand place.before place.after c.args.x)
