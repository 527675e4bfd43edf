-- The search for an equation.
use Rattle.std.proofs.Common.{◌≡◌, ℕ, zero, suc, ℤ, List, [], ◌∷◌, ◌+◌, ◌<◌, ◌≤◌, Bool, true, false, cond, ◌||◌, Some, None, drop, length, get_or, refl, sym, subst, ap, ◌∙◌, arith}
use Rattle.std.specs.Prelude.{◌&&◌}
use Rattle.std.specs.List.{list_any}
use Rattle.exact128.specs.Sums.{entry}
use Rattle.linear_rows.specs.Elimination.{is_positive}
use Rattle.linear_rows.specs.Equation.{negates, place_of, equation_from}

-- a place within the list is one that passes
pub any_from_place : {X : Type 0} (p : X → Bool) (xs : List X) → place_of p xs < length xs → list_any p xs ≡ true
any_from_place p [] h = absurd (omega arith)
any_from_place p (x ∷ xs) h = look (p x) refl h (any_from_place p xs)
  where
    look : (b : Bool) → p x ≡ b → cond b 0 (suc (place_of p xs)) < suc (length xs) → (place_of p xs < length xs → list_any p xs ≡ true) → (p x || list_any p xs) ≡ true
    look true e h next = rw e refl
    look false e h next = rw e (next (omega arith))

pub none_from_place : {X : Type 0} (p : X → Bool) (xs : List X) → length xs ≤ place_of p xs → list_any p xs ≡ false
none_from_place p [] h = refl
none_from_place p (x ∷ xs) h = look (p x) refl h (none_from_place p xs)
  where
    look : (b : Bool) → p x ≡ b → suc (length xs) ≤ cond b 0 (suc (place_of p xs)) → (length xs ≤ place_of p xs → list_any p xs ≡ false) → (p x || list_any p xs) ≡ false
    look true e h next = absurd (omega arith)
    look false e h next = rw e (next (omega arith))

drop_one : (xs : List (List ℤ)) (i : ℕ) → i < length xs → drop i xs ≡ get_or xs i [] ∷ drop (suc i) xs
drop_one [] i h = absurd (omega arith)
drop_one (x ∷ xs) zero h = refl
drop_one (x ∷ xs) (suc i) h = drop_one xs i (omega arith)

-- one row further
pub equation_later : (n k i : ℕ) (all : List (List ℤ)) (r : List ℤ) → i < length all → r ≡ get_or all i [] → (is_positive (entry r k) && list_any (λ s. negates n r s) all) ≡ false →
    equation_from n k all (i + 1) (drop (i + 1) all) ≡ equation_from n k all i (drop i all)
equation_later n k i all r h is e =
    let one : i + 1 ≡ suc i = omega arith in
    let f : (is_positive (entry (get_or all i []) k) && list_any (λ s. negates n (get_or all i []) s) all) ≡ false = subst (λ r. (is_positive (entry r k) && list_any (λ s. negates n r s) all) ≡ false) is e in
    ap (λ p. equation_from n k all p (drop p all)) one ∙ sym (ap (equation_from n k all i) (drop_one all i h) ∙ rw f refl)

pub equation_here : (n k i j : ℕ) (all : List (List ℤ)) (r : List ℤ) → i < length all → r ≡ get_or all i [] → is_positive (entry r k) ≡ true → list_any (λ s. negates n r s) all ≡ true → j ≡ place_of (λ s. negates n r s) all →
    equation_from n k all i (drop i all) ≡ Some (i, j)
equation_here n k i j all r h is e f ej =
    let e2 : is_positive (entry (get_or all i []) k) ≡ true = subst (λ r. is_positive (entry r k) ≡ true) is e in
    let f2 : list_any (λ s. negates n (get_or all i []) s) all ≡ true = subst (λ r. list_any (λ s. negates n r s) all ≡ true) is f in
    let j2 : j ≡ place_of (λ s. negates n (get_or all i []) s) all = subst (λ r. j ≡ place_of (λ s. negates n r s) all) is ej in
    ap (equation_from n k all i) (drop_one all i h) ∙ rw (e2, f2) (ap (λ j. Some (i, j)) (sym j2))

pub equation_over : (n k i : ℕ) (all : List (List ℤ)) → length all ≤ i → equation_from n k all i (drop i all) ≡ None
equation_over n k i all h = ap (equation_from n k all i) (drop_over all i h)
  where
    drop_over : (xs : List (List ℤ)) (i : ℕ) → length xs ≤ i → drop i xs ≡ []
    drop_over [] zero h = refl
    drop_over [] (suc i) h = refl
    drop_over (x ∷ xs) zero h = absurd (omega arith)
    drop_over (x ∷ xs) (suc i) h = drop_over xs i (omega arith)
