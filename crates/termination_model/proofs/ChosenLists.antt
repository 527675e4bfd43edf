-- The steps of listing all sets.
use Rattle.std.proofs.Common.{◌≡◌, ℕ, zero, suc, ◌+◌, ◌-◌, List, [], ◌∷◌, ◌++◌, map, take, length, refl, ap, sym, ◌∙◌, arith}
use Rattle.termination_model.specs.grounds.Modes.{chosen, chosen_up_to}
use Rattle.termination_model.proofs.Lists.{append_assoc}

map_append : {X Y : Type 0} (f : X → Y) (xs ys : List X) → map f (xs ++ ys) ≡ map f xs ++ map f ys
map_append f [] ys = refl
map_append f (x ∷ xs) ys = ap (λ s. f x ∷ s) (map_append f xs ys)

behind : (numbers : List ℕ) (i : ℕ) (xss : List (List ℕ)) → map (λ args. (numbers ++ i ∷ []) ++ args) xss ≡ map (λ args. numbers ++ args) (map (λ args. i ∷ args) xss)
behind numbers i [] = refl
behind numbers i (xs ∷ xss) = let rest = behind numbers i xss in let here = append_assoc numbers (i ∷ []) xs in λ j. here j ∷ rest j

chosen_cases : (k i m : ℕ) → (k ≡ 0 → ⊥) → (m ≡ 0 → ⊥) → chosen k i m ≡ map (λ args. i ∷ args) (chosen (k - 1) (i + 1) (m - 1)) ++ chosen k (i + 1) (m - 1)
chosen_cases zero i m h l = absurd (h refl)
chosen_cases (suc k) i zero h l = absurd (l refl)
chosen_cases (suc k) i (suc m) h l =
    let a : suc k - 1 ≡ k = omega arith in
    let b : suc m - 1 ≡ m = omega arith in
    let c : i + 1 ≡ suc i = omega arith in
    rw (a, b, c) refl

pub chosen_added : (numbers : List ℕ) (before : List (List ℕ)) (k i m : ℕ) → (k ≡ 0 → ⊥) → (m ≡ 0 → ⊥)
    → (before ++ map (λ args. (numbers ++ i ∷ []) ++ args) (chosen (k - 1) (i + 1) (m - 1))) ++ map (λ args. numbers ++ args) (chosen k (i + 1) (m - 1))
    ≡ before ++ map (λ args. numbers ++ args) (chosen k i m)
chosen_added numbers before k i m h l =
    append_assoc before (map (λ args. (numbers ++ i ∷ []) ++ args) (chosen (k - 1) (i + 1) (m - 1))) (map (λ args. numbers ++ args) (chosen k (i + 1) (m - 1)))
    ∙ ap (λ s. before ++ s) (ap (λ s. s ++ map (λ args. numbers ++ args) (chosen k (i + 1) (m - 1))) (behind numbers i (chosen (k - 1) (i + 1) (m - 1)))
    ∙ sym (map_append (λ args. numbers ++ args) (map (λ args. i ∷ args) (chosen (k - 1) (i + 1) (m - 1))) (chosen k (i + 1) (m - 1)))
    ∙ ap (map (λ args. numbers ++ args)) (sym (chosen_cases k i m h l)))

-- the lists of up to the given number of numbers, by loops from 0 on
pub sets_below : ℕ → ℕ → List (List ℕ)
sets_below n zero = []
sets_below n (suc k) = sets_below n k ++ chosen k 1 n

pub sets_all : (n k : ℕ) → sets_below n (suc k) ≡ chosen_up_to n k
unfolding sets_below
sets_all n zero = refl
sets_all n (suc k) = ap (λ s. s ++ chosen (suc k) 1 n) (sets_all n k)

map_same : (xss : List (List ℕ)) → map (λ args. [] ++ args) xss ≡ xss
map_same [] = refl
map_same (xs ∷ xss) = ap (λ s. xs ∷ s) (map_same xss)

pub sets_more : (n k : ℕ) → sets_below n k ++ map (λ args. [] ++ args) (chosen k 1 n) ≡ sets_below n (k + 1)
unfolding sets_below
sets_more n k = let more : k + 1 ≡ suc k = omega arith in rw more (ap (λ s. sets_below n k ++ s) (map_same (chosen k 1 n)))

pub cut_off : (xs : List ℕ) (y : ℕ) → take (length xs) (xs ++ y ∷ []) ≡ xs
cut_off [] y = refl
cut_off (x ∷ xs) y = ap (λ s. x ∷ s) (cut_off xs y)

pub sets_none : (n : ℕ) → [] ≡ sets_below n 0
unfolding sets_below
sets_none n = refl
