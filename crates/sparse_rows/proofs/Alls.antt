-- Tests of all numbers and rows.
use Rattle.std.proofs.Common.{◌≡◌, ℕ, zero, suc, ℤ, List, [], ◌∷◌, ◌++◌, ◌+◌, ◌<◌, ◌^◌, Bool, true, false, length, map, take, get_or, refl, sym, ap, ◌∙◌, arith}
use Rattle.std.specs.Prelude.{All, ◌&&◌, unsigned_abs}
use Rattle.std.specs.Cmp.Derive.{both_true}
use Rattle.std.proofs.lemmas.Bool.{ltb-true}
use Rattle.std.proofs.lemmas.List.Elements.{All-nil, All-cons}
use Rattle.exact128.specs.Fits.{Fits, fits}
use Rattle.linear_rows.specs.Blown.{all_of, numbers_fit}
use Rattle.sparse_rows.specs.Adding.{AllFit}
use Rattle.exact128.proofs.FitsLemmas.{both}

pub all_from : {X : Type 0} (p : X → Bool) (xs : List X) (d : X) → ((j : ℕ) → j < length xs → p (get_or xs j d) ≡ true) → all_of p xs ≡ true
all_from p [] d h = refl
all_from p (x ∷ xs) d h = both_true (h 0 (omega arith)) (all_from p xs d (λ j l. h (suc j) (omega arith)))

pub all_not : {X : Type 0} (p : X → Bool) (xs : List X) (d : X) (j : ℕ) → j < length xs → p (get_or xs j d) ≡ false → all_of p xs ≡ false
all_not p [] d j h e = absurd (omega arith)
all_not p (x ∷ xs) d zero h e = rw e refl
all_not p (x ∷ xs) d (suc j) h e = rw (all_not p xs d j (omega arith) e) (right_false (p x))
  where
    right_false : (b : Bool) → (b && false) ≡ false
    right_false true = refl
    right_false false = refl

row_fit : (xs : List ℤ) → all_of fits xs ≡ true → All Fits xs
row_fit [] e = All-nil Fits
row_fit (x ∷ xs) e =
    let two = both (fits x) (all_of fits xs) e in
    All-cons Fits x xs (ltb-true (unsigned_abs x) (2 ^ 127) two.0) (row_fit xs two.1)

pub rows_fit : (rows : List (List ℤ)) → numbers_fit rows ≡ true → AllFit rows
rows_fit [] e = All-nil (λ r. All Fits r)
rows_fit (r ∷ rs) e =
    let two = both (all_of fits r) (numbers_fit rs) e in
    All-cons (λ r. All Fits r) r rs (row_fit r two.0) (rows_fit rs two.1)

-- what holds of the items so far, with one more
pub mapped_more : {X Y : Type 0} (f : X → Y) (xs : List X) (i : ℕ) (d : X) (y : Y) → i < length xs → y ≡ f (get_or xs i d) → map f (take i xs) ++ y ∷ [] ≡ map f (take (i + 1) xs)
mapped_more f [] i d y h e = absurd (omega arith)
mapped_more f (x ∷ xs) zero d y h e = ap (λ z. z ∷ []) e
mapped_more f (x ∷ xs) (suc i) d y h e =
    let one : suc i + 1 ≡ suc (i + 1) = omega arith in
    ap (λ l. f x ∷ l) (mapped_more f xs i d y (omega arith) e) ∙ ap (λ k. map f (take k (x ∷ xs))) (sym one)
