use Rattle.std.proofs.Common.{rules, ◌≡◌, ◌++◌, ◌∷◌, [], ℕ, List, map, pos, ap, sym, ◌∙◌, FitsSigned}
use Rattle.std.specs.Int.{w128}
use Rattle.std.proofs.lemmas.Int.{to_z-of_z}
use Rattle.linear_rows.specs.Step.{columns}
use Rattle.termination_model.specs.mappings.SupportSystem.{value_of_position}
use Rattle.termination_model.proofs.Lists.{map_push}
use Rattle.level_systems.specs.Held.{spelled}
use Rattle.level_systems.proofs.RowLengths.{columns_more}
use Rattle.level_systems.proofs.values.coefficients.Goals as goal

pub loop-argument-preserved : goal.loop-argument-preserved
loop-argument-preserved c = λ cs l e.
    let f : FitsSigned w128 c.coefficient_at.result = search rules in
    let pushed : c.push.new.self ≡ c.loop-argument.numbers ++ c.coefficient_at.result ∷ [] = simp to_z-of_z at c.in_ok-push.ensures.ok in
    let a = c.loop-argument.argument in
    let value = value_of_position (map spelled c.args.positions.now) cs c.args.pred.0 in
    let one = c.coefficient_at.ensures cs l e in
    pushed
    ∙ (λ j. c.loop-argument.invariant cs l e j ++ one j ∷ [])
    ∙ sym (ap (λ (ks : List ℕ). map (λ n. pos n) (map value ks)) (columns_more a) ∙ ap (map (λ n. pos n)) (map_push value (columns 0 a) a) ∙ map_push (λ n. pos n) (map value (columns 0 a)) (value a))
