-- Loops that add the rows of a list with a property.
use Rattle.std.proofs.Common.{◌≡◌, ℕ, zero, suc, ℤ, List, [], ◌∷◌, ◌++◌, ◌+◌, ◌<◌, ◌≤◌, Bool, true, false, cond, take, length, get_or, refl, sym, ap, ◌∙◌, arith}
use Rattle.std.specs.Prelude.{fold, filter}
use Rattle.sparse_rows.specs.Adding.{add_row, add_rows}

pub fold-more : {K X : Type 0} (G : K → X → K) (start : K) (xs : List X) (x : X) → fold G start (xs ++ x ∷ []) ≡ G (fold G start xs) x
fold-more G start [] x = refl
fold-more G start (y ∷ ys) x = fold-more G (G start y) ys x

-- one more of a list with a property
pub filter_yes : {X : Type 0} (p : X → Bool) (xs : List X) (i : ℕ) (d : X) → i < length xs → p (get_or xs i d) ≡ true → filter p (take i xs) ++ get_or xs i d ∷ [] ≡ filter p (take (i + 1) xs)
filter_yes p [] i d h e = absurd (omega arith)
filter_yes p (x ∷ xs) zero d h e = rw e refl
filter_yes {X} p (x ∷ xs) (suc i) d h e =
    let one : suc i + 1 ≡ suc (i + 1) = omega arith in
    front (filter p (take i xs)) (filter p (take (i + 1) xs)) (p x) (filter_yes p xs i d (omega arith) e) ∙ ap (λ k. filter p (take k (x ∷ xs))) (sym one)
  where
    front : (ys zs : List X) (b : Bool) → ys ++ get_or xs i d ∷ [] ≡ zs → cond b (x ∷ ys) ys ++ get_or xs i d ∷ [] ≡ cond b (x ∷ zs) zs
    front ys zs true e = ap (λ l. x ∷ l) e
    front ys zs false e = e

pub filter_no : {X : Type 0} (p : X → Bool) (xs : List X) (i : ℕ) (d : X) → i < length xs → p (get_or xs i d) ≡ false → filter p (take i xs) ≡ filter p (take (i + 1) xs)
filter_no p [] i d h e = absurd (omega arith)
filter_no p (x ∷ xs) zero d h e = rw e refl
filter_no p (x ∷ xs) (suc i) d h e =
    let one : suc i + 1 ≡ suc (i + 1) = omega arith in
    ap (λ l. cond (p x) (x ∷ l) l) (filter_no p xs i d (omega arith) e) ∙ ap (λ k. filter p (take k (x ∷ xs))) (sym one)

pub take_all : {X : Type 0} (xs : List X) (n : ℕ) → length xs ≤ n → take n xs ≡ xs
take_all [] zero h = refl
take_all [] (suc n) h = refl
take_all (x ∷ xs) zero h = absurd (omega arith)
take_all (x ∷ xs) (suc n) h = ap (λ l. x ∷ l) (take_all xs n (omega arith))

-- ---- rows that are added, each where it has a property
pub added_yes : (m : ℕ) (p : List ℤ → Bool) (start kept next rows : List (List ℤ)) (i : ℕ) (row : List ℤ) → i < length rows → kept ≡ add_rows m start (filter p (take i rows)) → p (get_or rows i []) ≡ true → row ≡ get_or rows i [] →
    next ≡ add_row m kept row → next ≡ add_rows m start (filter p (take (i + 1) rows))
added_yes m p start kept next rows i row h k e is n =
    n ∙ both_same kept _ row _ k is ∙ sym (fold-more (add_row m) start (filter p (take i rows)) (get_or rows i [])) ∙ ap (λ l. add_rows m start l) (filter_yes p rows i [] h e)
  where
    both_same : (x y : List (List ℤ)) (r s : List ℤ) → x ≡ y → r ≡ s → add_row m x r ≡ add_row m y s
    both_same x y r s e f = cc

pub added_no : (m : ℕ) (p : List ℤ → Bool) (start kept rows : List (List ℤ)) (i : ℕ) → i < length rows → kept ≡ add_rows m start (filter p (take i rows)) → p (get_or rows i []) ≡ false → kept ≡ add_rows m start (filter p (take (i + 1) rows))
added_no m p start kept rows i h k e = k ∙ ap (λ l. add_rows m start l) (filter_no p rows i [] h e)

pub added_all : (m : ℕ) (p : List ℤ → Bool) (start kept rows : List (List ℤ)) (i : ℕ) → length rows ≤ i → kept ≡ add_rows m start (filter p (take i rows)) → kept ≡ add_rows m start (filter p rows)
added_all m p start kept rows i h k = k ∙ ap (λ l. add_rows m start (filter p l)) (take_all rows i h)
