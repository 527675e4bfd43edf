-- Sums of lists, place by place, and sums for each predicate, a load at a time.
use Rattle.std.proofs.Common.{◌≡◌, ℕ, zero, suc, ◌+◌, ◌==◌, max, ℤ, ◌+ℤ◌, Bool, true, false, if◌then◌else◌, List, [], ◌∷◌, ◌++◌, length, refl, sym, ap, ◌∙◌, arith}
use Rattle.std.proofs.lemmas.Int.{ints}
use Rattle.exact128.specs.Sums.{entry}
use Rattle.termination_model.specs.sizes.Rows.{added}
use Rattle.termination_model.specs.mappings.Refutation.{Load, gather}

pub entry_next : (x : ℤ) (xs : List ℤ) (n : ℕ) → entry (x ∷ xs) (n + 1) ≡ entry xs n
entry_next x xs n = let e : n + 1 ≡ suc n = omega arith in rw e refl

pub entry_sum : (xs ys : List ℤ) (k : ℕ) → entry (added xs ys) k ≡ entry xs k +ℤ entry ys k
entry_sum [] ys k = omega (arith, ints)
entry_sum (x ∷ xs) [] k = omega (arith, ints)
entry_sum (x ∷ xs) (y ∷ ys) zero = refl
entry_sum (x ∷ xs) (y ∷ ys) (suc k) = entry_sum xs ys k

pub length-sum : (xs ys : List ℤ) → length (added xs ys) ≡ max (length xs) (length ys)
length-sum [] ys = omega arith
length-sum (x ∷ xs) [] = omega arith
length-sum (x ∷ xs) (y ∷ ys) = omega (arith, length-sum xs ys)

added_assoc : (xs ys zs : List ℤ) → added (added xs ys) zs ≡ added xs (added ys zs)
added_assoc [] ys zs = refl
added_assoc (x ∷ xs) [] zs = refl
added_assoc (x ∷ xs) (y ∷ ys) [] = refl
added_assoc (x ∷ xs) (y ∷ ys) (z ∷ zs) =
    let here : (x +ℤ y) +ℤ z ≡ x +ℤ (y +ℤ z) = omega (arith, ints) in
    let rest = added_assoc xs ys zs in
    λ i. here i ∷ rest i

added_none : (xs : List ℤ) → added xs [] ≡ xs
added_none [] = refl
added_none (x ∷ xs) = refl

-- one more load
pub gather_push : (q : ℕ) (hs : List Load) (h : Load) → gather q (hs ++ h ∷ []) ≡ (if h.0 == q then added (gather q hs) h.1 else gather q hs)
gather_push q [] h = last (h.0 == q)
  where
    last : (b : Bool) → (if b then added h.1 [] else []) ≡ (if b then added [] h.1 else [])
    last true = added_none h.1
    last false = refl
gather_push q (g ∷ hs) h = both (g.0 == q) (h.0 == q) (gather_push q hs h)
  where
    both : (a b : Bool) → gather q (hs ++ h ∷ []) ≡ (if b then added (gather q hs) h.1 else gather q hs)
        → (if a then added g.1 (gather q (hs ++ h ∷ [])) else gather q (hs ++ h ∷ []))
        ≡ (if b then added (if a then added g.1 (gather q hs) else gather q hs) h.1 else (if a then added g.1 (gather q hs) else gather q hs))
    both true true e = ap (added g.1) e ∙ sym (added_assoc g.1 (gather q hs) h.1)
    both true false e = ap (added g.1) e
    both false true e = e
    both false false e = e
