use Rattle.std.proofs.Common.{◌≡◌, ◌∷◌, ◌++◌, [], List, ℕ, zero, suc, ℤ, pos, negsuc, map, ap, sym, ◌∙◌, refl}
use Rattle.std.specs.Prelude.{neg_ℤ}
use Rattle.linear_rows.specs.Plain.{plain_rows}
use Rattle.linear_rows.specs.Showing.{bottom_row}
use Rattle.linear_rows.specs.Solving.{zeros}
use Rattle.linear_rows.specs.Systems.{at_last, opposite}
use Rattle.simplex.proofs.RowLists.{append_assoc}
use Rattle.level_systems.proofs.reaching.test_of.Goals as goal

opposite_zeros : (n : ℕ) → map neg_ℤ (zeros n) ≡ zeros n
opposite_zeros zero = refl
opposite_zeros (suc n) = ap (λ s. pos 0 ∷ s) (opposite_zeros n)

-- that the row that holds nowhere fails says that the last column is at least 1
last_again : (n : ℕ) → at_last (opposite (bottom_row n)) (negsuc 0) ≡ negsuc 0 ∷ (zeros n ++ pos 1 ∷ [])
last_again n = ap (λ (s : List ℤ). negsuc 0 ∷ (s ++ pos 1 ∷ [])) (opposite_zeros n)

pub returns-clause-rows : goal.returns-clause-rows
returns-clause-rows c =
    let n = c.args.rows.now.width in
    let rows = map (λ r. at_last r (pos 0)) (plain_rows c.args.rows.now.list) in
    let one : List ℤ = negsuc 0 ∷ (zeros n ++ pos 1 ∷ []) in
    c.in_ok-add_last-2.ensures.rows
    ∙ ap (λ (s : List (List ℤ)). s ++ one ∷ []) (c.in_ok-add_last.ensures.rows ∙ ap (λ (s : List (List ℤ)). s ++ one ∷ []) (c.in_ok-add_rows.ensures.rows ∙ ap (λ (s : List (List ℤ)). s ++ rows) (ap plain_rows c.new-test.ensures.list)))
    ∙ append_assoc rows (one ∷ []) (one ∷ [])
    ∙ ap (λ (r : List ℤ). rows ++ one ∷ r ∷ []) (sym (last_again n))
