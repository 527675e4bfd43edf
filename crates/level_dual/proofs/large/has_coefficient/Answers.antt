use Rattle.std.proofs.Common.{rules, ℤ, ap, sym, ◌∙◌}
use Rattle.std.specs.Int.{w128}
use Rattle.std.specs.Prelude.{FitsSigned, nat_lt, unsigned_abs}
use Rattle.std.proofs.lemmas.Int.{to_z-of_z}
use Rattle.level_systems.specs.Held.{spelled}
use Rattle.level_dual.proofs.CoefficientLaws.{coefficient_is}
use Rattle.level_dual.proofs.large.has_coefficient.Goals as goal

pub returns : goal.returns
returns c =
    let fits : FitsSigned w128 c.entry.result = search rules in
    let value = simp to_z-of_z at c.unsigned_abs.ensures.value in
    (λ j. nat_lt 0 (value j)) ∙ ap (λ (z : ℤ). nat_lt 0 (unsigned_abs z)) c.entry.ensures ∙ sym (coefficient_is c.args.measures.now (spelled c.args.position) c.in-Some.part.now c.in-Some.ensures.some)
