-- Predicates sorted by their numbers, and the numbers that are recursive.
use Rattle.std.proofs.Common.{◌≡◌, ℕ, zero, suc, ◌+◌, ◌<◌, ◌==◌, ◌⊎◌, ◌↔◌, inl, inr, Bool, true, false, if◌then◌else◌, List, [], ◌∷◌, ◌++◌, length, take, set, get_or, slice_get, Some, refl, ap, sym, subst, ◌∙◌, arith, add-one, append-nil, eqb-true, eq-eqb, ne_eqb, get_or-set_same, get_or-set_other}
use Rattle.std.specs.List.Sorted.{IsStrictlyIncreasing}
use Rattle.std.proofs.lemmas.Bool.{cases_eq, cases_lt}
use Rattle.std.proofs.lemmas.Option.{slice_get-get_or, get_or_from_slice_get}
use Rattle.call_components.specs.Members.{places_of, CallsWithin}
use Rattle.call_components.specs.Table.{Has, HasCall}
use Rattle.call_components.proofs.Lists.{slice_get-set_same, slice_get-set_other}

-- the places in one element more
pub places_more : (c n : ℕ) (xs : List ℕ) (i x : ℕ) → slice_get xs i ≡ Some x → places_of c n (take (suc i) xs) ≡ places_of c n (take i xs) ++ (if x == c then (n + i) ∷ [] else [])
places_more c n [] i x e = cc
places_more c n (y ∷ xs) zero x e =
    let it : y ≡ x = cc in
    ap (λ (z : ℕ). if z == c then n ∷ [] else []) it ∙ ap (λ (m : ℕ). if x == c then m ∷ [] else []) (omega arith)
places_more c n (y ∷ xs) (suc i) x e = go (y == c) (places_more c (n + 1) xs i x e ∙ ap (λ (m : ℕ). places_of c (n + 1) (take i xs) ++ (if x == c then m ∷ [] else [])) (omega arith))
  where
    go : (t : Bool) → places_of c (n + 1) (take (suc i) xs) ≡ places_of c (n + 1) (take i xs) ++ (if x == c then (n + suc i) ∷ [] else [])
        → (if t then n ∷ places_of c (n + 1) (take (suc i) xs) else places_of c (n + 1) (take (suc i) xs))
        ≡ (if t then n ∷ places_of c (n + 1) (take i xs) else places_of c (n + 1) (take i xs)) ++ (if x == c then (n + suc i) ∷ [] else [])
    go true h = λ j. n ∷ h j
    go false h = h

pub members_more : (rows new : List (List ℕ)) (xs : List ℕ) (i x count : ℕ) → slice_get xs i ≡ Some x → length rows ≡ count → x < count
    → new ≡ set rows x (get_or rows x [] ++ i ∷ []) → ((c : ℕ) → c < count → get_or rows c [] ≡ places_of c 0 (take i xs))
    → (c : ℕ) → c < count → get_or new c [] ≡ places_of c 0 (take (i + 1) xs)
members_more rows new xs i x count e each known is old c l =
    rw add-one (ap (λ (ys : List (List ℕ)). get_or ys c []) is ∙ go (cases_eq c x) ∙ sym (places_more c 0 xs i x e))
  where
    go : (c ≡ x) ⊎ (c ≡ x → ⊥) → get_or (set rows x (get_or rows x [] ++ i ∷ [])) c [] ≡ places_of c 0 (take i xs) ++ (if x == c then (0 + i) ∷ [] else [])
    go (inl it) =
        ap (λ (z : ℕ). get_or (set rows x (get_or rows x [] ++ i ∷ [])) z []) it
        ∙ get_or-set_same rows x (get_or rows x [] ++ i ∷ []) [] (omega (arith, each, known))
        ∙ ap (λ (ys : List ℕ). ys ++ i ∷ []) (ap (λ (z : ℕ). get_or rows z []) (sym it) ∙ old c l)
        ∙ ap (λ (m : ℕ). places_of c 0 (take i xs) ++ m ∷ []) (omega arith)
        ∙ ap (λ (t : Bool). places_of c 0 (take i xs) ++ (if t then (0 + i) ∷ [] else [])) (sym (eq-eqb x c (sym it)))
    go (inr ne) =
        get_or-set_other rows x c (get_or rows x [] ++ i ∷ []) [] ne ∙ old c l ∙ sym (append-nil (places_of c 0 (take i xs)))
        ∙ ap (λ (t : Bool). places_of c 0 (take i xs) ++ (if t then (0 + i) ∷ [] else [])) (sym (ne_eqb x c (λ it. ne (sym it))))

-- a place is among the places of what stands there, and of nothing else
pub placed : (c n : ℕ) (xs : List ℕ) (i : ℕ) → slice_get xs i ≡ Some c → Has (places_of c n xs) (n + i)
placed c n [] i e = cc
placed c n (y ∷ xs) zero e =
    subst (λ (t : Bool). Has (if t then n ∷ places_of c (n + 1) xs else places_of c (n + 1) xs) (n + 0)) (sym (eq-eqb y c cc)) (zero, ap Some (omega arith))
placed c n (y ∷ xs) (suc i) e =
    let later : Has (places_of c (n + 1) xs) (n + suc i) = subst (Has (places_of c (n + 1) xs)) (omega arith) (placed c (n + 1) xs i e) in
    go (y == c) later
  where
    go : (t : Bool) → Has (places_of c (n + 1) xs) (n + suc i) → Has (if t then n ∷ places_of c (n + 1) xs else places_of c (n + 1) xs) (n + suc i)
    go true h = (suc h.0, h.1)
    go false h = h

pub place_is : (c n : ℕ) (xs : List ℕ) (a : ℕ) → Has (places_of c n xs) a → (i : ℕ) × (a ≡ n + i) × (slice_get xs i ≡ Some c)
place_is c n [] a (k, e) = cc
place_is c n (y ∷ xs) a h = go (λ k. place_is c (n + 1) xs a k) (y == c) refl h
  where
    go : (Has (places_of c (n + 1) xs) a → (i : ℕ) × (a ≡ n + 1 + i) × (slice_get xs i ≡ Some c)) → (t : Bool) → (y == c) ≡ t → Has (if t then n ∷ places_of c (n + 1) xs else places_of c (n + 1) xs) a → (i : ℕ) × (a ≡ n + i) × (slice_get (y ∷ xs) i ≡ Some c)
    go later true is (zero, e) = (zero, (let it : n ≡ a = cc in omega arith), ap Some (eqb-true y c is))
    go later true is (suc k, e) = let p = later (k, e) in (suc p.0, (let e : a ≡ n + 1 + p.0 = p.1 in omega arith), p.2)
    go later false is h = let p = later h in (suc p.0, (let e : a ≡ n + 1 + p.0 = p.1 in omega arith), p.2)

increasing_more : (x : ℕ) (xs : List ℕ) → ((a : ℕ) → Has xs a → x < a) → IsStrictlyIncreasing xs → IsStrictlyIncreasing (x ∷ xs)
increasing_more x xs above h zero l = above (get_or xs 0 0) (zero, slice_get-get_or xs zero 0 (omega (arith, l)))
increasing_more x xs above h (suc k) l = rw add-one (rw add-one at (h k (omega (arith, l))))

pub places_increase : (c n : ℕ) (xs : List ℕ) → IsStrictlyIncreasing (places_of c n xs)
places_increase c n [] = λ k l. absurd (omega (arith, l))
places_increase c n (y ∷ xs) = go (y == c) (places_increase c (n + 1) xs)
  where
    go : (t : Bool) → IsStrictlyIncreasing (places_of c (n + 1) xs) → IsStrictlyIncreasing (if t then n ∷ places_of c (n + 1) xs else places_of c (n + 1) xs)
    go true h = increasing_more n (places_of c (n + 1) xs) (λ a k. (let p = place_is c (n + 1) xs a k in let e : a ≡ n + 1 + p.0 = p.1 in omega arith)) h
    go false h = h

-- the calls of one caller more
module _ (rows : List (List ℕ)) (numbers : List ℕ) (answers : List Bool) (k number : ℕ) (at : slice_get numbers k ≡ Some number)
    (old : (c : ℕ) → c < length answers → (slice_get answers c ≡ Some true) ↔ CallsWithin rows numbers c k) where
  wider : (c : ℕ) → CallsWithin rows numbers c k → CallsWithin rows numbers c (k + 1)
  wider c (a, b, l, ea, eb, call) = (a, b, omega arith, ea, eb, call)

  -- a call by an earlier one, or by this one
  split : (c : ℕ) → CallsWithin rows numbers c (k + 1) → CallsWithin rows numbers c k ⊎ ((c ≡ number) × ((b : ℕ) × Has (get_or rows k []) b × (slice_get numbers b ≡ Some number)))
  split c (a, b, l, ea, eb, call) =
      elim (cases_lt a k) [
        | inl less ↦ inl (a, b, less, ea, eb, call)
        | inr more ↦
            let here : a ≡ k = omega arith in
            let it : c ≡ number = (let both = sym ea ∙ ap (slice_get numbers) here ∙ at in cc) in
            inr (it, (b, subst (λ (x : ℕ). HasCall rows x b) here call, eb ∙ ap Some it))
      ]

  pub answers_yes : ((b : ℕ) × Has (get_or rows k []) b × (slice_get numbers b ≡ Some number)) → number < length answers
      → (c : ℕ) → c < length answers → (slice_get (set answers number true) c ≡ Some true) ↔ CallsWithin rows numbers c (k + 1)
  answers_yes (b, call, eb) known c l = go (cases_eq c number)
    where
      go : (c ≡ number) ⊎ (c ≡ number → ⊥) → (slice_get (set answers number true) c ≡ Some true) ↔ CallsWithin rows numbers c (k + 1)
      go (inl it) = (
        λ _. subst (λ (x : ℕ). CallsWithin rows numbers x (k + 1)) (sym it) (k, b, omega arith, at, eb, call),
        λ _. ap (slice_get (set answers number true)) it ∙ slice_get-set_same answers number true known,
      )
      go (inr ne) = (
        λ e. wider c ((old c l).0 (sym (slice_get-set_other answers number c true ne) ∙ e)),
        λ h. slice_get-set_other answers number c true ne ∙ elim (split c h) [
          | inl before ↦ (old c l).1 before
          | inr now ↦ absurd (ne now.0)
        ],
      )

  pub answers_no : (((b : ℕ) × Has (get_or rows k []) b × (slice_get numbers b ≡ Some number)) → ⊥)
      → (c : ℕ) → c < length answers → (slice_get answers c ≡ Some true) ↔ CallsWithin rows numbers c (k + 1)
  answers_no none c l = (
    λ e. wider c ((old c l).0 e),
    λ h. elim (split c h) [
      | inl before ↦ (old c l).1 before
      | inr now ↦ absurd (none now.1)
    ],
  )

-- what a row and the numbers say, by other names of them
pub found_there : (rows : List (List ℕ)) (k number : ℕ) (row of numbers : List ℕ) → slice_get rows k ≡ Some row → of ≡ numbers
    → ((b : ℕ) × Has row b × (slice_get of b ≡ Some number)) → (b : ℕ) × Has (get_or rows k []) b × (slice_get numbers b ≡ Some number)
found_there rows k number row of numbers er eo (b, h, e) =
    (b, subst (λ (xs : List ℕ). Has xs b) (sym (get_or_from_slice_get rows k row [] er)) h, ap (λ (xs : List ℕ). slice_get xs b) (sym eo) ∙ e)

pub found_here : (rows : List (List ℕ)) (k number : ℕ) (row of numbers : List ℕ) → slice_get rows k ≡ Some row → of ≡ numbers
    → ((b : ℕ) × Has (get_or rows k []) b × (slice_get numbers b ≡ Some number)) → (b : ℕ) × Has row b × (slice_get of b ≡ Some number)
found_here rows k number row of numbers er eo (b, h, e) =
    (b, subst (λ (xs : List ℕ). Has xs b) (get_or_from_slice_get rows k row [] er) h, ap (λ (xs : List ℕ). slice_get xs b) eo ∙ e)
