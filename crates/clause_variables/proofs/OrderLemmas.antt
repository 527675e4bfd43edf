-- Lemmas on numbers in the order of their first occurrence.
use Rattle.std.proofs.Common.{◌≡◌, ℕ, ◌+◌, ◌<◌, ◌≤◌, ◌∙◌, ◌&&◌, not, Bool, true, false, cond, nat_eq, List, [], ◌∷◌, ◌++◌, length, get_or, drop, refl, ap, sym, arith, length-append, eq-eqb, subst}
use Rattle.std.specs.List.{count_by, filter, AllByRecursion}
use Rattle.clause_variables.proofs.ListLemmas.{all_push}
use Rattle.std.proofs.lemmas.List.Sums.{sum_by-cons}
use Rattle.std.proofs.lemmas.List.{at_drop_more}
use Rattle.clause_variables.specs.Terms.{is_among, with_number, with_numbers, firsts}

-- one number more, or none
with_number_true : (xs : List ℕ) (x : ℕ) → is_among xs x ≡ true → with_number xs x ≡ xs
with_number_true xs x h = rw h refl

with_number_false : (xs : List ℕ) (x : ℕ) → is_among xs x ≡ false → with_number xs x ≡ xs ++ x ∷ []
with_number_false xs x h = rw h refl

with_number_grows : (xs : List ℕ) (x : ℕ) → length xs ≤ length (with_number xs x)
with_number_grows xs x = by_test (is_among xs x) refl
  where
    by_test : (b : Bool) → is_among xs x ≡ b → length xs ≤ length (with_number xs x)
    by_test true h = omega (arith, ap length (with_number_true xs x h))
    by_test false h = omega (arith, ap length (with_number_false xs x h), length-append xs (x ∷ []))

with_numbers_grows : (xs ys : List ℕ) → length xs ≤ length (with_numbers xs ys)
with_numbers_grows xs [] = omega arith
with_numbers_grows xs (y ∷ ys) = omega (arith, with_number_grows xs y, with_numbers_grows (with_number xs y) ys)

-- a number that is not among them makes more
pub more_numbers : (order xs : List ℕ) (i : ℕ) → i < length xs → is_among order (get_or xs i 0) ≡ false → length order < length (with_numbers order (drop i xs))
more_numbers order xs i h away =
    let e = at_drop_more (λ (ys : List ℕ). length (with_numbers order ys)) xs i 0 h in
    let y = get_or xs i 0 in
    omega (arith, e, ap length (with_number_false order y away), length-append order (y ∷ []), with_numbers_grows (with_number order y) (drop (i + 1) xs))

-- a number in front is there
pub count_head : (x : ℕ) (xs : List ℕ) → 1 ≤ count_by (nat_eq x) (x ∷ xs)
count_head x xs =
    let t : nat_eq x x ≡ true = eq-eqb x x refl in
    let one : ◌≡◌ {A = ℕ} (cond (nat_eq x x) 1 0) 1 = ap (λ (b : Bool). cond {A = ℕ} b 1 0) t in
    omega (arith, sum_by-cons (λ y. cond (nat_eq x y) 1 0) x xs, one)

-- what holds of each number holds of each of the firsts, and of each that passes a test
all_with_number : (P : ℕ → Type 0) (xs : List ℕ) (x : ℕ) → AllByRecursion P xs → P x → AllByRecursion P (with_number xs x)
all_with_number P xs x h p = by_test (is_among xs x) refl
  where
    by_test : (b : Bool) → is_among xs x ≡ b → AllByRecursion P (with_number xs x)
    by_test true e = let Q : List ℕ → Type 0 = λ ys. AllByRecursion P ys in subst Q (sym (with_number_true xs x e)) h
    by_test false e = all_push P xs (with_number xs x) x (with_number_false xs x e) h p

all_with_numbers : (P : ℕ → Type 0) (xs ys : List ℕ) → AllByRecursion P xs → AllByRecursion P ys → AllByRecursion P (with_numbers xs ys)
all_with_numbers P xs [] h k = h
all_with_numbers P xs (y ∷ ys) h k = all_with_numbers P (with_number xs y) ys (all_with_number P xs y h k.0) k.1

pub all_firsts : (P : ℕ → Type 0) (ys : List ℕ) → AllByRecursion P ys → AllByRecursion P (firsts ys)
all_firsts P ys k = all_with_numbers P [] ys tt k

pub all_filter : (P : ℕ → Type 0) (p : ℕ → Bool) (ys : List ℕ) → AllByRecursion P ys → AllByRecursion P (filter p ys)
all_filter P p [] h = tt
all_filter P p (y ∷ ys) h = by_test (all_filter P p ys h.1) (p y) refl
  where
    by_test : AllByRecursion P (filter p ys) → (b : Bool) → p y ≡ b → AllByRecursion P (filter p (y ∷ ys))
    by_test rest true e = rw e (h.0, rest)
    by_test rest false e = rw e rest

-- one number more, which passes a test and is new, or does not
module _ (p : ℕ → Bool) (order xs : List ℕ) (i : ℕ) (lt : i < length xs) where
  abbrev next : ℕ
  next = get_or xs i 0

  abbrev rest : List ℕ
  rest = drop (i + 1) xs

  step : (b c : Bool) → p next ≡ b → is_among order next ≡ c → (b && not c) ≡ false → with_numbers order (filter p (next ∷ rest)) ≡ with_numbers order (filter p rest)
  step true true d e h = rw d (ap (λ (ys : List ℕ). with_numbers ys (filter p rest)) (with_number_true order next e))
  step true false d e h = absurd (cc h)
  step false c d e h = rw d refl

  more : (b c : Bool) → p next ≡ b → is_among order next ≡ c → (b && not c) ≡ true → with_numbers order (filter p (next ∷ rest)) ≡ with_numbers (order ++ next ∷ []) (filter p rest)
  more true true d e h = absurd (cc h)
  more true false d e h = rw d (ap (λ (ys : List ℕ). with_numbers ys (filter p rest)) (with_number_false order next e))
  more false c d e h = absurd (cc h)

  pub skip_one : (p next && not (is_among order next)) ≡ false → with_numbers order (filter p (drop i xs)) ≡ with_numbers order (filter p rest)
  skip_one h = at_drop_more (λ (ys : List ℕ). with_numbers order (filter p ys)) xs i 0 lt ∙ step (p next) (is_among order next) refl refl h

  pub take_one : (p next && not (is_among order next)) ≡ true → with_numbers order (filter p (drop i xs)) ≡ with_numbers (order ++ next ∷ []) (filter p rest)
  take_one h = at_drop_more (λ (ys : List ℕ). with_numbers order (filter p ys)) xs i 0 lt ∙ more (p next) (is_among order next) refl refl h

  pub one_more : (p next && not (is_among order next)) ≡ true → length order < length (with_numbers order (filter p (drop i xs)))
  one_more h = omega (arith, ap length (take_one h), with_numbers_grows (order ++ next ∷ []) (filter p rest), length-append order (next ∷ []))
