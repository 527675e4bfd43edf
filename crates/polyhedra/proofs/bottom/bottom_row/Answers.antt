use Rattle.std.proofs.Common.{rules, ◌≡◌, ℤ, pos, negsuc, List, ◌∷◌, replicate, ap, ◌∙◌}
use Rattle.simplex.proofs.RowLists.{replicated}
use Rattle.polyhedra.proofs.bottom.bottom_row.Goals as goal

pub returns-clause-row : goal.returns-clause-row
returns-clause-row c =
    let e : c.in_ok-vec.field-0.items ≡ replicate c.args.n (pos 0) = search rules in
    ap (λ (xs : List ℤ). negsuc 0 ∷ xs) (c.from_vec-coeffs.ensures ∙ e ∙ replicated c.args.n)
