use Rattle.std.proofs.Common.{ℤ, pos, List, ◌≡◌, ◌∷◌, ap, sym, subst, ◌∙◌}
use Rattle.std.specs.Prelude.{IfSome}
use Rattle.exact128.specs.Sums.{dot}
use Rattle.linear_rows.specs.Plain.{plain_row}
use Rattle.level_dual.proofs.VanishLaws.{growth_at}
use Rattle.level_dual.proofs.vanishing.growth.Goals as goal

pub returns : goal.returns
returns c =
    let row = c.get.result.now in
    let list = c.args.sizes.now.list in
    subst (λ (x : ℤ). IfSome c.value_at.result (λ growth. growth ≡ x))
    (ap (λ (d : List ℤ). dot (plain_row row) (pos 0 ∷ d)) c.as_slice.ensures ∙ sym (growth_at list c.args.ray.now c.args.argument row c.get.ensures))
    c.value_at.ensures
