use Rattle.std.proofs.Common.{rules, ◌++◌, ◌∷◌, [], List, ℤ, Bool, length, arith, ap, ◌∙◌, ◌<◌}
use Rattle.std.specs.Int.{w128}
use Rattle.std.specs.Prelude.{FitsSigned}
use Rattle.std.proofs.lemmas.Int.{to_z-of_z}
use Rattle.exact128.specs.Sums.{entry}
use Rattle.linear_rows.specs.Elimination.{is_negative}
use Rattle.sparse_rows.proofs.Alls.{mapped_more}
use Rattle.fourier.proofs.crossing.falling_flags.Goals as goal

pub loop-i-preserved : goal.loop-i-preserved
loop-i-preserved c =
    let f : FitsSigned w128 c.entry.result = search rules in
    let falls : List ℤ → Bool = λ s. is_negative (entry s c.args.k) in
    let lt : c.loop-i.i < length c.args.rows.now = omega arith in
    let e = (simp to_z-of_z at c.is_negative.ensures) ∙ ap is_negative (c.entry.ensures ∙ ap (λ r. entry r c.args.k) c.get.ensures) in
    c.in_ok-push.ensures.items ∙ ap (λ l. l ++ c.is_negative.result ∷ []) c.loop-i.invariant ∙ mapped_more falls c.args.rows.now c.loop-i.i [] c.is_negative.result lt e
