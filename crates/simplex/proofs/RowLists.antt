-- Rows and their plain lists.
use Rattle.std.proofs.Common.{◌≡◌, ℕ, zero, suc, ◌+◌, ◌<◌, ◌≤◌, ℤ, pos, List, [], ◌∷◌, ◌++◌, map, replicate, take, length, slice_get, get_or, Some, refl, ap, sym, ◌∙◌, arith}
use Rattle.std.specs.Prelude.{All}
use Rattle.linear_rows.specs.Plain.{plain_row, plain_rows, HaveWidth}
use Rattle.linear_rows.specs.Solving.{zeros}
use Rattle.linear_rows.specs.declared.row.Row.{Row}

pub replicated : (n : ℕ) → replicate n (pos 0) ≡ zeros n
replicated zero = refl
replicated (suc n) = ap (λ s. pos 0 ∷ s) (replicated n)

pub length-zeros : (m : ℕ) → length (zeros m) ≡ m
length-zeros zero = refl
length-zeros (suc m) = ap suc (length-zeros m)

pub long_rows : (n : ℕ) (rows : List Row) → HaveWidth n rows → All (λ r. length r ≡ suc n) (plain_rows rows)
long_rows n [] h k d l = absurd (omega arith)
long_rows n (r ∷ rows) h zero d l = ap suc (h 0 r (omega arith))
long_rows n (r ∷ rows) h (suc k) d l = long_rows n rows (λ j e m. h (suc j) e (omega arith)) k d (omega arith)

pub map_push : {X Y : Type 0} → (f : X → Y) (xs : List X) (x : X) → map f (xs ++ x ∷ []) ≡ map f xs ++ f x ∷ []
map_push f [] x = refl
map_push f (y ∷ ys) x = ap (λ s. f y ∷ s) (map_push f ys x)

pub append_assoc : {X : Type 0} → (xs ys zs : List X) → (xs ++ ys) ++ zs ≡ xs ++ (ys ++ zs)
append_assoc [] ys zs = refl
append_assoc (x ∷ xs) ys zs = ap (λ s. x ∷ s) (append_assoc xs ys zs)

pub length_push : {X : Type 0} → (xs : List X) (x : X) → length (xs ++ x ∷ []) ≡ suc (length xs)
length_push [] x = refl
length_push (y ∷ xs) x = ap suc (length_push xs x)

-- the element that a loop is at
pub at_place : {X : Type 0} → (xs : List X) (i : ℕ) (x : X) → i < length xs → x ≡ get_or xs i x → slice_get xs i ≡ Some x
at_place [] i x lt e = absurd (omega arith)
at_place (y ∷ ys) zero x lt e = ap Some (sym e)
at_place (y ∷ ys) (suc i) x lt e = at_place ys i x (omega arith) e

-- one more element taken
pub taken_more : {X : Type 0} → (xs : List X) (i : ℕ) (x : X) → slice_get xs i ≡ Some x → take (i + 1) xs ≡ take i xs ++ x ∷ []
taken_more [] i x e = cc
taken_more (y ∷ ys) zero x e = let same : y ≡ x = cc in λ i. same i ∷ []
taken_more (y ∷ ys) (suc i) x e = let rest = taken_more ys i x e in let more : suc i + 1 ≡ suc (i + 1) = omega arith in rw more (ap (λ s. y ∷ s) rest)

pub all_taken : {X : Type 0} → (n : ℕ) (xs : List X) → length xs ≤ n → take n xs ≡ xs
all_taken zero [] l = refl
all_taken (suc n) [] l = refl
all_taken zero (x ∷ xs) l = absurd (omega arith)
all_taken (suc n) (x ∷ xs) l = ap (λ s. x ∷ s) (all_taken n xs (omega arith))

-- one more row, each made another
pub rows_more : (f : List ℤ → List ℤ) (before : List (List ℤ)) (rows : List Row) (i : ℕ) (r : Row) → slice_get rows i ≡ Some r
    → (before ++ map f (plain_rows (take i rows))) ++ f (plain_row r) ∷ [] ≡ before ++ map f (plain_rows (take (i + 1) rows))
rows_more f before rows i r e =
    let more : map f (plain_rows (take (i + 1) rows)) ≡ map f (plain_rows (take i rows)) ++ f (plain_row r) ∷ [] =
    ap (λ (rs : List Row). map f (plain_rows rs)) (taken_more rows i r e) ∙ ap (map f) (map_push plain_row (take i rows) r) ∙ map_push f (plain_rows (take i rows)) (plain_row r) in
    append_assoc before (map f (plain_rows (take i rows))) (f (plain_row r) ∷ []) ∙ ap (λ s. before ++ s) (sym more)
