use Rattle.std.proofs.Common.{◌≡◌, ◌∙◌, ◌∷◌, ℤ, List, pos, ap}
use Rattle.number_columns.proofs.OverLaws.{zeros_are}
use Rattle.number_columns.proofs.rows_over.zero_row.Goals as goal

pub returns : goal.returns
returns c = ap (λ (s : List ℤ). pos 0 ∷ s) (c.in_ok-coeffs.ensures ∙ zeros_are c.args.width)
