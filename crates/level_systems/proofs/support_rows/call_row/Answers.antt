use Rattle.std.proofs.Common.{rules, ◌∷◌, FitsSigned, ◌∙◌}
use Rattle.std.specs.Int.{w128}
use Rattle.std.proofs.lemmas.Int.{to_z-of_z}
use Rattle.level_systems.proofs.support_rows.call_row.Goals as goal

pub returns : goal.returns
returns c =
    let fits : FitsSigned w128 c.less_one.result = search rules in
    let numbers = c.from_vec.ensures ∙ c.in_ok-row.ensures in
    simp to_z-of_z (λ i. c.less_one.ensures i ∷ numbers i)
