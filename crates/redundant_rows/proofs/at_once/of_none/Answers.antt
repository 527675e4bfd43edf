use Rattle.std.proofs.Common.{◌≡◌, ℤ, List, pos, length, ap, sym, subst, ◌∙◌, ◌++◌, arith}
use Rattle.std.specs.Prelude.{All, ◌≤ℤ◌}
use Rattle.std.proofs.lemmas.Int.{ints}
use Rattle.linear_rows.specs.Solving.{zeros}
use Rattle.redundant_rows.proofs.Origins.{zeros_natural}
use Rattle.simplex.proofs.RowLists.{length-zeros}
use Rattle.redundant_rows.proofs.at_once.of_none.Goals as goal

pub returns : goal.returns
returns c =
    let n = c.args.count in
    let list : c.push_zeros.new.numbers ≡ zeros n = c.in_ok-push_zeros.ensures ∙ ap (λ (s : List ℤ). s ++ zeros n) c.new-list.ensures in
    record {
      each = ap length list ∙ length-zeros n;
      naturals = subst (λ (xs : List ℤ). All (λ x. pos 0 ≤ℤ x) xs) (sym list) (zeros_natural n);
      scale = omega (arith, ints);
    }
