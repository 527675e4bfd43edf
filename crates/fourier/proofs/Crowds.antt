-- Loops that stop once too many rows are kept.
use Rattle.std.proofs.Common.{◌≡◌, ℕ, zero, suc, ℤ, List, [], ◌∷◌, ◌++◌, ◌<◌, Bool, true, false, cond, take, drop, length, refl, sym, ap, ◌∙◌}
use Rattle.std.specs.Prelude.{fold, filter}
use Rattle.sparse_rows.specs.Adding.{add_rows}
use Rattle.fourier.proofs.Loops.{fold-append}
use Rattle.fourier.proofs.StepLemmas.{added_full}

filter_parts : {X : Type 0} (p : X → Bool) (xs ys : List X) → filter p (xs ++ ys) ≡ filter p xs ++ filter p ys
filter_parts p [] ys = refl
filter_parts p (x ∷ xs) ys = front (p x) (filter_parts p xs ys)
  where
    front : (b : Bool) → filter p (xs ++ ys) ≡ filter p xs ++ filter p ys → cond b (x ∷ filter p (xs ++ ys)) (filter p (xs ++ ys)) ≡ cond b (x ∷ filter p xs) (filter p xs) ++ filter p ys
    front true e = ap (λ l. x ∷ l) e
    front false e = e

take_drop : {X : Type 0} (i : ℕ) (xs : List X) → take i xs ++ drop i xs ≡ xs
take_drop zero xs = refl
take_drop (suc i) [] = refl
take_drop (suc i) (x ∷ xs) = ap (λ l. x ∷ l) (take_drop i xs)

fold_full : (m : ℕ) (f : List ℤ → List (List ℤ)) (kept rs : List (List ℤ)) → 4096 < length kept → fold (λ kept r. add_rows m kept (f r)) kept rs ≡ kept
fold_full m f kept [] h = refl
fold_full m f kept (r ∷ rs) h = ap (λ l. fold (λ kept r. add_rows m kept (f r)) l rs) (added_full m kept (f r) h) ∙ fold_full m f kept rs h

-- what is kept after some of the rows is kept after all
pub full_all : (m : ℕ) (f : List ℤ → List (List ℤ)) (p : List ℤ → Bool) (start kept rows : List (List ℤ)) (i : ℕ) → kept ≡ fold (λ kept r. add_rows m kept (f r)) start (filter p (take i rows)) → 4096 < length kept
    → kept ≡ fold (λ kept r. add_rows m kept (f r)) start (filter p rows)
full_all m f p start kept rows i e h =
    let G : List (List ℤ) → List ℤ → List (List ℤ) = λ kept r. add_rows m kept (f r) in
    let parts : fold G start (filter p rows) ≡ fold G (fold G start (filter p (take i rows))) (filter p (drop i rows)) =
    ap (fold G start) (ap (filter p) (sym (take_drop i rows)) ∙ filter_parts p (take i rows) (drop i rows)) ∙ fold-append G start (filter p (take i rows)) (filter p (drop i rows)) in
    sym (parts ∙ ap (λ l. fold G l (filter p (drop i rows))) (sym e) ∙ fold_full m f kept (filter p (drop i rows)) h)
