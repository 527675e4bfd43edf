use Rattle.std.proofs.Common.{rules, ◌≡◌, ◌∷◌, ◌∙◌, replicate, ℕ, zero, suc, pos, refl, ap}
use Rattle.linear_rows.specs.Solving.{zeros}
use Rattle.linear_rows.proofs.numbers.zeros.Goals as goal

replicated : (n : ℕ) → replicate n (pos 0) ≡ zeros n
replicated zero = refl
replicated (suc n) = ap (λ s. pos 0 ∷ s) (replicated n)

pub returns : goal.returns
returns c =
    let e : c.in_ok-items.items.items ≡ replicate c.args.count (pos 0) = search rules in
    c.from_vec.ensures ∙ e ∙ replicated c.args.count
