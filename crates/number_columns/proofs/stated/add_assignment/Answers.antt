use Rattle.std.proofs.Common.{◌≡◌, ◌∙◌, ◌++◌, ◌∷◌, [], refl, ap}
use Rattle.cti_terms.specs.declared.builtins.Builtin.TheVariants.{Equal}
use Rattle.linear_rows.specs.Plain.{plain_rows}
use Rattle.termination_model.specs.columns.Measures.{above_is_within, below_is_within, first_exceeds, second_exceeds, size_is_zero, stated_rows}
use Rattle.std.proofs.Common.{pos, List, ℤ}
use Rattle.number_columns.proofs.StatedLaws.{append_five, plain_push}
use Rattle.number_columns.proofs.stated.add_assignment.Goals as goal

pub returns-clause-rows : goal.returns-clause-rows
returns-clause-rows c =
    let p = plain_rows c.args.rows.now.list in
    let one = plain_push c.args.rows.now.list c.push.new.self.list c.in_ok-size_is_zero.field-0 p size_is_zero c.in_ok-push.ensures.ok refl c.in_ok-size_is_zero.ensures in
    let two = c.in_ok-add_equality.ensures.rows ∙ ap (λ (s : List (List ℤ)). s ++ stated_rows Equal) one in
    let three = plain_push c.add_equality.new.rows.list c.push-2.new.self.list c.in_ok-above_is_within.field-0 ((p ++ size_is_zero ∷ []) ++ stated_rows Equal) above_is_within c.in_ok-push-2.ensures.ok two c.in_ok-above_is_within.ensures in
    let four = plain_push c.push-2.new.self.list c.push-3.new.self.list c.in_ok-below_is_within.field-0 (((p ++ size_is_zero ∷ []) ++ stated_rows Equal) ++ above_is_within ∷ []) below_is_within c.in_ok-push-3.ensures.ok three c.in_ok-below_is_within.ensures in
    four ∙ append_five p size_is_zero (first_exceeds (pos 0)) (second_exceeds (pos 0)) above_is_within below_is_within
