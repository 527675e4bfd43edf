use Rattle.std.proofs.Common.{rules, ◌≡◌, FitsSigned, sym, ◌∙◌}
use Rattle.std.specs.Int.{w128}
use Rattle.std.specs.Prelude.{◌-ℤ◌}
use Rattle.std.proofs.lemmas.Int.{to_z-of_z}
use Rattle.exact128.specs.Sums.{entry}
use Rattle.number_turns.specs.Demanding.{feature_row}
use Rattle.number_turns.specs.Recalled.{recalled, spelled}
use Rattle.number_turns.proofs.DemandRows.{fall_entry}
use Rattle.number_turns.proofs.demand.Demand.share.Goals as goal

pub returns-in-Keep : goal.returns-in-Keep
returns-in-Keep c =
    let fits : FitsSigned w128 c.difference.result = search rules in
    let τ = recalled c.args.self.now.transition.now in
    let f = spelled c.args.feature in
    let head : FitsSigned w128 c.share-head.result = search rules in
    let call : FitsSigned w128 c.share.result = search rules in
    let told : c.difference.result ≡ c.share-head.result -ℤ c.share.result = simp to_z-of_z at c.difference.ensures.value in
    let value : c.difference.result ≡ entry (feature_row c.args.self.now.aim τ f) c.args.x =
    told ∙ (λ i. c.share-head.ensures.share τ.vars i -ℤ c.share.ensures.share τ.vars i) ∙ sym (fall_entry c.args.self.now.aim τ f c.args.x c.in-Keep.is) in
    simp to_z-of_z (record { share = value; fits = c.difference.ensures.fits })
