use Rattle.std.proofs.Common.{rules, ◌≡◌, suc, ◌+◌, ◌-◌, ℤ, List, pos, length, ap, sym, subst, ◌∙◌, ◌++◌, ◌∷◌, arith}
use Rattle.std.specs.Int.{w128}
use Rattle.std.specs.Prelude.{All, FitsSigned, ◌≤ℤ◌}
use Rattle.std.proofs.lemmas.Int.{to_z-of_z}
use Rattle.linear_rows.specs.Solving.{zeros}
use Rattle.linear_rows.specs.Showing.{AreMultipliers}
use Rattle.redundant_rows.proofs.Appends.{long_alone}
use Rattle.redundant_rows.proofs.Origins.{alone_natural}
use Rattle.redundant_rows.proofs.at_once.of_one.Goals as goal

pub returns : goal.returns
returns c =
    let n = c.args.count in
    let p = c.args.place in
    let r = n - p - 1 in
    let x = c.args.times in
    let f : FitsSigned w128 x = search rules in
    let g : FitsSigned w128 c.args.scale = search rules in
    let pushed = simp to_z-of_z at c.in_ok-push_alone.ensures in
    let list : c.push_alone.new.numbers ≡ zeros p ++ x ∷ zeros r = pushed ∙ ap (λ (s : List ℤ). s ++ (zeros p ++ x ∷ zeros r)) c.new-list.ensures in
    let long : length c.push_alone.new.numbers ≡ p + suc r = ap length list ∙ long_alone p r x in
    let made : AreMultipliers n (record { scale = c.args.scale; list = c.push_alone.new.numbers }) = record {
      each = omega (arith, long, c.requires.place);
      naturals = subst (λ (xs : List ℤ). All (λ x. pos 0 ≤ℤ x) xs) (sym list) (alone_natural p r x c.requires.times);
      scale = c.requires.scale;
    } in
    simp to_z-of_z made
