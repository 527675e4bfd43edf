use Rattle.std.proofs.Common.{◌≡◌, ◌∙◌, ℕ, ℤ, List, [], ◌∷◌, map, ap, refl, sym}
use Rattle.linear_rows.specs.Plain.{plain_rows}
use Rattle.redundant_rows.proofs.Appends.{append_none}
use Rattle.size_chains.specs.Systems.{widened}
use Rattle.size_chains.proofs.tying.widened_rows.Goals as goal

none_wider : (rows : List (List ℤ)) → map (widened 0) rows ≡ rows
none_wider [] = refl
none_wider (r ∷ rows) = let here = append_none r in let more = none_wider rows in λ i. here i ∷ more i

pub returns-then-more-eq0-clause-rows : goal.returns-then-more-eq0-clause-rows
returns-then-more-eq0-clause-rows c = sym (ap (λ (m : ℕ). map (widened m) (plain_rows c.args.rows.list)) c.if-more-eq0.true ∙ none_wider (plain_rows c.args.rows.list))
