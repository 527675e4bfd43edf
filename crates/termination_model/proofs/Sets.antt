-- Ascending lists of numbers as sets, and their order in the walk.
use Rattle.std.proofs.Common.{◌≡◌, ℕ, zero, suc, ◌+◌, ◌<◌, ◌≤◌, ◌⊎◌, inl, inr, true, List, [], ◌∷◌, ◌++◌, length, map, take, slice_get, Some, refl, ap, sym, subst, ◌∙◌, arith, nat_eq}
use Rattle.std.specs.List.{list_any}
use Rattle.std.proofs.lemmas.Bool.Decides.{nat_tests}
use Rattle.std.proofs.lemmas.Bool.{or_cases, or_left, or_right, and_parts, and_from}
use Rattle.linear_rows.specs.Members.{In}
use Rattle.linear_rows.proofs.Members.{in-left, in-right, of-append, in-map}
use Rattle.termination_model.specs.grounds.Modes.{is_part, chosen, chosen_up_to}
use Rattle.termination_model.specs.grounds.Minimal.{IsSet}

abbrev pub Part : List ℕ → List ℕ → Type 0
Part xs ys = (x : ℕ) → In x xs → In x ys

eq_true : (x y : ℕ) → nat_eq x y ≡ true → x ≡ y
eq_true x y h = grind (arith, nat_tests)

true_eq : (x y : ℕ) → x ≡ y → nat_eq x y ≡ true
true_eq x y h = grind (arith, nat_tests)

pub any_in : (x : ℕ) (ys : List ℕ) → list_any (λ y. nat_eq x y) ys ≡ true → In x ys
any_in x [] h = cc
any_in x (y ∷ ys) h = elim (or_cases (nat_eq x y) (list_any (λ y. nat_eq x y) ys) h) [ inl e ↦ inl (sym (eq_true x y e)) | inr k ↦ inr (any_in x ys k) ]

pub in_any : (x : ℕ) (ys : List ℕ) → In x ys → list_any (λ y. nat_eq x y) ys ≡ true
in_any x [] h = absurd h
in_any x (y ∷ ys) (inl e) = or_left (nat_eq x y) (list_any (λ y. nat_eq x y) ys) (true_eq x y (sym e))
in_any x (y ∷ ys) (inr k) = or_right (nat_eq x y) (list_any (λ y. nat_eq x y) ys) (in_any x ys k)

pub to_part : (xs ys : List ℕ) → is_part xs ys ≡ true → Part xs ys
to_part [] ys h x i = absurd i
to_part (z ∷ xs) ys h x (inl e) = subst (λ (v : ℕ). In v ys) e (any_in z ys (and_parts (list_any (λ y. nat_eq z y) ys) (is_part xs ys) h).0)
to_part (z ∷ xs) ys h x (inr i) = to_part xs ys (and_parts (list_any (λ y. nat_eq z y) ys) (is_part xs ys) h).1 x i

pub of_part : (xs ys : List ℕ) → Part xs ys → is_part xs ys ≡ true
of_part [] ys h = refl
of_part (z ∷ xs) ys h = and_from (list_any (λ y. nat_eq z y) ys) (is_part xs ys) (in_any z ys (h z (inl refl))) (of_part xs ys (λ x i. h x (inr i)))

pub part_trans : (xs ys zs : List ℕ) → is_part xs ys ≡ true → is_part ys zs ≡ true → is_part xs zs ≡ true
part_trans xs ys zs h k = of_part xs zs (λ x i. to_part ys zs k x (to_part xs ys h x i))

pub part_self : (xs : List ℕ) → is_part xs xs ≡ true
part_self xs = of_part xs xs (λ x i. i)

-- the numbers of a set are within its bounds
pub within : (lo hi : ℕ) (xs : List ℕ) → IsSet lo hi xs → (x : ℕ) → In x xs → (lo ≤ x) × (x < hi)
within lo hi [] h x i = absurd i
within lo hi (y ∷ ys) h x (inl e) = let l = h.0 in let m = h.1 in (omega arith, omega arith)
within lo hi (y ∷ ys) h x (inr i) = let r = within (suc y) hi ys h.2 x i in let l = h.0 in let a = r.0 in let b = r.1 in (omega arith, omega arith)

-- a part without a number that is too small lies in the rest
rest_part : (lo hi x y : ℕ) (xs ys : List ℕ) → IsSet (suc x) hi xs → y ≤ x → Part xs (y ∷ ys) → Part xs ys
rest_part lo hi x y xs ys h le p z i = go (p z i)
  where
    above : suc x ≤ z
    above = (within (suc x) hi xs h z i).0

    go : In z (y ∷ ys) → In z ys
    go (inl e) = let a = above in absurd (omega arith)
    go (inr k) = k

pub part_shorter : (lo hi lo' hi' : ℕ) (xs ys : List ℕ) → IsSet lo hi xs → IsSet lo' hi' ys → Part xs ys → length xs ≤ length ys
part_shorter lo hi lo' hi' [] ys h k p = omega arith
part_shorter lo hi lo' hi' (x ∷ xs) [] h k p = absurd (p x (inl refl))
part_shorter lo hi lo' hi' (x ∷ xs) (y ∷ ys) h k p = go (p x (inl refl)) (λ le. part_shorter (suc x) hi (suc y) hi' xs ys h.2 k.2 (rest_part lo hi x y xs ys h.2 le (λ z i. p z (inr i))))
  where
    go : In x (y ∷ ys) → (y ≤ x → length xs ≤ length ys) → suc (length xs) ≤ suc (length ys)
    go (inl e) rec = let r = rec (omega arith) in omega arith
    go (inr i) rec = let a = (within (suc y) hi' ys k.2 x i).0 in let r = rec (omega arith) in omega arith

pub part_same : (lo hi lo' hi' : ℕ) (xs ys : List ℕ) → IsSet lo hi xs → IsSet lo' hi' ys → Part xs ys → length ys ≤ length xs → xs ≡ ys
part_same lo hi lo' hi' [] [] h k p le = refl
part_same lo hi lo' hi' [] (y ∷ ys) h k p le = absurd (omega arith)
part_same lo hi lo' hi' (x ∷ xs) [] h k p le = absurd (p x (inl refl))
part_same lo hi lo' hi' (x ∷ xs) (y ∷ ys) h k p le = go (p x (inl refl)) (λ l m. part_same (suc x) hi (suc y) hi' xs ys h.2 k.2 (rest_part lo hi x y xs ys h.2 l (λ z i. p z (inr i))) m)
  where
    longer : In x ys → suc (length xs) ≤ length ys
    longer i =
        let a = (within (suc y) hi' ys k.2 x i).0 in
        part_shorter lo hi (suc y) hi' (x ∷ xs) ys h k.2 (inside (omega arith))
      where
        inside : suc y ≤ x → Part (x ∷ xs) ys
        inside l z (inl e) = subst (λ (v : ℕ). In v ys) e i
        inside l z (inr j) = rest_part lo hi x y xs ys h.2 (omega arith) (λ v g. p v (inr g)) z j

    go : In x (y ∷ ys) → (y ≤ x → length ys ≤ length xs → xs ≡ ys) → (x ∷ xs) ≡ (y ∷ ys)
    go (inl e) rec = let r = rec (omega arith) (omega arith) in cc
    go (inr i) rec = let l = longer i in absurd (omega arith)

-- ---- the order of the walk
map_in : (i : ℕ) (xss : List (List ℕ)) (xs : List ℕ) → In xs xss → In (i ∷ xs) (map (λ args. i ∷ args) xss)
map_in i xss xs h = in-map (λ args. i ∷ args) xss xs h

split_from : (i x : ℕ) → i ≤ x → (x ≡ i) ⊎ (suc i ≤ x)
split_from i x l = grind arith

chosen_case : (m i x : ℕ) (xs : List ℕ) → IsSet i (i + suc m) (x ∷ xs) → (IsSet (suc i) (suc i + m) xs → In xs (chosen (length xs) (suc i) m))
    → (IsSet (suc i) (suc i + m) (x ∷ xs) → In (x ∷ xs) (chosen (suc (length xs)) (suc i) m)) → (x ≡ i) ⊎ (suc i ≤ x)
    → In (x ∷ xs) (chosen (suc (length xs)) i (suc m))
chosen_case m i x xs h here later (inl e) =
    let more : i + suc m ≡ suc i + m = omega arith in
    let rest = subst (λ (z : ℕ). IsSet z (i + suc m) xs) (ap suc e) h.2 in
    let there = here (subst (λ (z : ℕ). IsSet (suc i) z xs) more rest) in
    in-left (map (λ args. i ∷ args) (chosen (length xs) (suc i) m)) (chosen (suc (length xs)) (suc i) m) (x ∷ xs)
    (subst (λ (z : ℕ). In (z ∷ xs) (map (λ args. i ∷ args) (chosen (length xs) (suc i) m))) (sym e) (map_in i (chosen (length xs) (suc i) m) xs there))
chosen_case m i x xs h here later (inr l) =
    let more : i + suc m ≡ suc i + m = omega arith in
    in-right (map (λ args. i ∷ args) (chosen (length xs) (suc i) m)) (chosen (suc (length xs)) (suc i) m) (x ∷ xs)
    (later (subst (λ (z : ℕ). IsSet (suc i) z (x ∷ xs)) more (l, h.1, h.2)))

pub in_chosen : (m i : ℕ) (xs : List ℕ) → IsSet i (i + m) xs → In xs (chosen (length xs) i m)
in_chosen m i [] h = inl refl
in_chosen zero i (x ∷ xs) h = let l = h.0 in let k = h.1 in absurd (omega arith)
in_chosen (suc m) i (x ∷ xs) h = chosen_case m i x xs h (in_chosen m (suc i) xs) (in_chosen m (suc i) (x ∷ xs)) (split_from i x h.0)

set_short_case : (m i x : ℕ) (xs : List ℕ) → IsSet i (i + suc m) (x ∷ xs) → (IsSet (suc i) (suc i + m) xs → length xs ≤ m)
    → (IsSet (suc i) (suc i + m) (x ∷ xs) → suc (length xs) ≤ m) → (x ≡ i) ⊎ (suc i ≤ x) → suc (length xs) ≤ suc m
set_short_case m i x xs h here later (inl e) =
    let more : i + suc m ≡ suc i + m = omega arith in
    let r = here (subst (λ (z : ℕ). IsSet (suc i) z xs) more (subst (λ (z : ℕ). IsSet z (i + suc m) xs) (ap suc e) h.2)) in
    omega arith
set_short_case m i x xs h here later (inr l) =
    let more : i + suc m ≡ suc i + m = omega arith in
    let r = later (subst (λ (z : ℕ). IsSet (suc i) z (x ∷ xs)) more (l, h.1, h.2)) in
    omega arith

pub set_short : (m i : ℕ) (xs : List ℕ) → IsSet i (i + m) xs → length xs ≤ m
set_short m i [] h = omega arith
set_short zero i (x ∷ xs) h = let l = h.0 in let k = h.1 in absurd (omega arith)
set_short (suc m) i (x ∷ xs) h = set_short_case m i x xs h (set_short m (suc i) xs) (set_short m (suc i) (x ∷ xs)) (split_from i x h.0)

-- members of the list of lists have their length
of_map : (i : ℕ) (xss : List (List ℕ)) (k : ℕ) → ((xs : List ℕ) → In xs xss → length xs ≡ k) → (xs : List ℕ) → In xs (map (λ args. i ∷ args) xss) → length xs ≡ suc k
of_map i [] k f xs h = absurd h
of_map i (ys ∷ xss) k f xs (inl e) = let l = f ys (inl refl) in let m = ap length e in omega arith
of_map i (ys ∷ xss) k f xs (inr h) = of_map i xss k (λ zs g. f zs (inr g)) xs h

pub chosen_length : (k i m : ℕ) (xs : List ℕ) → In xs (chosen k i m) → length xs ≡ k
chosen_length zero i m xs (inl e) = let l = ap length e in omega arith
chosen_length zero i m xs (inr h) = absurd h
chosen_length (suc k) i zero xs h = absurd h
chosen_length (suc k) i (suc m) xs h = elim (of-append (map (λ args. i ∷ args) (chosen k (suc i) m)) (chosen (suc k) (suc i) m) xs h) [
  | inl g ↦ of_map i (chosen k (suc i) m) k (chosen_length k (suc i) m) xs g
  | inr g ↦ chosen_length (suc k) (suc i) m xs g
]

up_to_case : (n k : ℕ) (xs : List ℕ) → IsSet 1 (suc n) xs → (length xs ≤ k → In xs (chosen_up_to n k)) → (length xs ≤ k) ⊎ (length xs ≡ suc k) → In xs (chosen_up_to n k ++ chosen (suc k) 1 n)
up_to_case n k xs h rec (inl l) = in-left (chosen_up_to n k) (chosen (suc k) 1 n) xs (rec l)
up_to_case n k xs h rec (inr e) =
    let more : suc n ≡ 1 + n = omega arith in
    in-right (chosen_up_to n k) (chosen (suc k) 1 n) xs (subst (λ (z : ℕ). In xs (chosen z 1 n)) e (in_chosen n 1 xs (subst (λ (z : ℕ). IsSet 1 z xs) more h)))

split_below : (l k : ℕ) → l ≤ suc k → (l ≤ k) ⊎ (l ≡ suc k)
split_below l k h = grind arith

pub in_up_to : (n k : ℕ) (xs : List ℕ) → IsSet 1 (suc n) xs → length xs ≤ k → In xs (chosen_up_to n k)
in_up_to n zero [] h l = inl refl
in_up_to n zero (x ∷ xs) h l = absurd (omega arith)
in_up_to n (suc k) xs h l = up_to_case n k xs h (in_up_to n k xs h) (split_below (length xs) k l)

pub each_set_in : (n : ℕ) (xs : List ℕ) → IsSet 1 (suc n) xs → In xs (chosen_up_to n n)
each_set_in n xs h = let more : suc n ≡ 1 + n = omega arith in in_up_to n n xs h (set_short n 1 xs (subst (λ (z : ℕ). IsSet 1 z xs) more h))

-- ---- places
pub in_place : {X : Type 0} (xs : List X) (i : ℕ) (x : X) → slice_get xs i ≡ Some x → In x xs
in_place [] i x h = cc
in_place (y ∷ ys) zero x h = let e : y ≡ x = cc in inl e
in_place (y ∷ ys) (suc i) x h = inr (in_place ys i x h)

abbrev InFirst : {X : Type 0} → List X → List X → ℕ → X → Type 0
InFirst {X} xs ys i x = ((slice_get xs i ≡ Some x) × ((z : X) → In z (take i xs) → In z (take i (xs ++ ys)))) ⊎ (In x ys × ((z : X) → In z xs → In z (take i (xs ++ ys))))

keep_head : {X : Type 0} (y : X) (xs zs : List X) → ((z : X) → In z xs → In z zs) → (z : X) → In z (y ∷ xs) → In z (y ∷ zs)
keep_head y xs zs f z (inl e) = inl e
keep_head y xs zs f z (inr h) = inr (f z h)

first_case : {X : Type 0} (y : X) (xs ys : List X) (i : ℕ) (x : X) → InFirst xs ys i x → InFirst (y ∷ xs) ys (suc i) x
first_case y xs ys i x (inl h) = inl (h.0, keep_head y (take i xs) (take i (xs ++ ys)) h.1)
first_case y xs ys i x (inr h) = inr (h.0, keep_head y xs (take i (xs ++ ys)) h.1)

in_first : {X : Type 0} (xs ys : List X) (i : ℕ) (x : X) → slice_get (xs ++ ys) i ≡ Some x → InFirst xs ys i x
in_first [] ys i x h = inr (in_place ys i x h, λ z k. absurd k)
in_first (y ∷ xs) ys zero x h = inl (h, λ z k. absurd k)
in_first (y ∷ xs) ys (suc i) x h = first_case y xs ys i x (in_first xs ys i x h)

earlier_case : (n k i : ℕ) (s t : List ℕ) → IsSet 1 (suc n) t → length t < length s → (slice_get (chosen_up_to n k) i ≡ Some s → In t (take i (chosen_up_to n k)))
    → InFirst (chosen_up_to n k) (chosen (suc k) 1 n) i s → In t (take i (chosen_up_to n k ++ chosen (suc k) 1 n))
earlier_case n k i s t h l rec (inl g) = g.1 t (rec g.0)
earlier_case n k i s t h l rec (inr g) = let len = chosen_length (suc k) 1 n s g.0 in g.1 t (in_up_to n k t h (omega arith))

-- a shorter set stands at an earlier place
pub earlier : (n k i : ℕ) (s t : List ℕ) → slice_get (chosen_up_to n k) i ≡ Some s → IsSet 1 (suc n) t → length t < length s → In t (take i (chosen_up_to n k))
earlier n zero zero s t at h l = let e : [] ≡ s = cc in let m = ap length e in absurd (omega arith)
earlier n zero (suc i) s t at h l = cc
earlier n (suc k) i s t at h l = earlier_case n k i s t h l (λ g. earlier n k i s t g h l) (in_first (chosen_up_to n k) (chosen (suc k) 1 n) i s at)

-- the first elements, and one more
pub one_taken : {X : Type 0} (xs : List X) (i : ℕ) (x z : X) → slice_get xs i ≡ Some x → In z (take (suc i) xs) → In z (take i xs) ⊎ (z ≡ x)
one_taken [] i x z h k = cc
one_taken (y ∷ ys) zero x z h (inl e) = let same : y ≡ x = cc in inr (sym e ∙ same)
one_taken (y ∷ ys) zero x z h (inr k) = absurd k
one_taken (y ∷ ys) (suc i) x z h (inl e) = inl (inl e)
one_taken (y ∷ ys) (suc i) x z h (inr k) = elim (one_taken ys i x z h k) [ inl g ↦ inl (inr g) | inr g ↦ inr g ]

-- what is chosen is a set
pub chosen_set_map : (i hi : ℕ) (xss : List (List ℕ)) → i < hi → ((xs : List ℕ) → In xs xss → IsSet (suc i) hi xs) → (xs : List ℕ) → In xs (map (λ args. i ∷ args) xss) → IsSet i hi xs
chosen_set_map i hi [] l f xs h = absurd h
chosen_set_map i hi (ys ∷ xss) l f xs (inl e) = subst (IsSet i hi) e (omega arith, l, f ys (inl refl))
chosen_set_map i hi (ys ∷ xss) l f xs (inr h) = chosen_set_map i hi xss l (λ zs g. f zs (inr g)) xs h

pub set_lower : (lo hi : ℕ) (xs : List ℕ) → IsSet (suc lo) hi xs → IsSet lo hi xs
set_lower lo hi [] h = tt
set_lower lo hi (x ∷ xs) h = let l = h.0 in (omega arith, h.1, h.2)

pub chosen_set : (k i m : ℕ) (xs : List ℕ) → In xs (chosen k i m) → IsSet i (i + m) xs
chosen_set zero i m xs (inl e) = subst (IsSet i (i + m)) e tt
chosen_set zero i m xs (inr h) = absurd h
chosen_set (suc k) i zero xs h = absurd h
chosen_set (suc k) i (suc m) xs h =
    let more : suc i + m ≡ i + suc m = omega arith in
    elim (of-append (map (λ args. i ∷ args) (chosen k (suc i) m)) (chosen (suc k) (suc i) m) xs h) [
      | inl g ↦ chosen_set_map i (i + suc m) (chosen k (suc i) m) (omega arith) (λ zs f. subst (λ (z : ℕ). IsSet (suc i) z zs) more (chosen_set k (suc i) m zs f)) xs g
      | inr g ↦ set_lower i (i + suc m) xs (subst (λ (z : ℕ). IsSet (suc i) z xs) more (chosen_set (suc k) (suc i) m xs g))
    ]

pub up_to_set : (n k : ℕ) (xs : List ℕ) → In xs (chosen_up_to n k) → IsSet 1 (suc n) xs
up_to_set n zero xs h = let more : 1 + n ≡ suc n = omega arith in subst (λ (z : ℕ). IsSet 1 z xs) more (chosen_set zero 1 n xs h)
up_to_set n (suc k) xs h =
    let more : 1 + n ≡ suc n = omega arith in
    elim (of-append (chosen_up_to n k) (chosen (suc k) 1 n) xs h) [
      | inl g ↦ up_to_set n k xs g
      | inr g ↦ subst (λ (z : ℕ). IsSet 1 z xs) more (chosen_set (suc k) 1 n xs g)
    ]
