-- What is kept where one element is put into a list or taken out.
use Rattle.std.proofs.Common.{◌≡◌, ℕ, zero, suc, ◌+◌, ◌-◌, ◌<◌, ◌≤◌, ◌⊎◌, inl, inr, List, [], ◌∷◌, ◌++◌, length, slice_get, Option, None, Some, refl, ap, sym, ◌∙◌, subst, arith}
use Rattle.std.specs.List.{insert, remove}
use Rattle.std.proofs.lemmas.List.Edits.{length-insert, length-remove}
use Rattle.std.proofs.lemmas.Option.{slice_get_within}
use Rattle.kept_clauses.specs.KeptLists.{AreKeptList, IsIncreasing, IsOnto, IsTotal, kept_by_insertion, kept_by_removal, kept_from}

-- ---- elements of lists that are edited
insert_below : {X : Type 0} (xs : List X) (at : ℕ) (x : X) (i : ℕ) → i < at → at ≤ length xs → slice_get (insert xs at x) i ≡ slice_get xs i
insert_below [] at x i lt le = absurd (omega arith)
insert_below (y ∷ ys) zero x i lt le = absurd (omega arith)
insert_below (y ∷ ys) (suc at) x zero lt le = refl
insert_below (y ∷ ys) (suc at) x (suc i) lt le = insert_below ys at x i (omega (arith, lt)) (omega (arith, le))

insert_at : {X : Type 0} (xs : List X) (at : ℕ) (x : X) → at ≤ length xs → slice_get (insert xs at x) at ≡ Some x
insert_at xs zero x le = refl
insert_at [] (suc at) x le = absurd (omega arith)
insert_at (y ∷ ys) (suc at) x le = insert_at ys at x (omega (arith, le))

insert_above : {X : Type 0} (xs : List X) (at : ℕ) (x : X) (i : ℕ) → at ≤ i → slice_get (insert xs at x) (suc i) ≡ slice_get xs i
insert_above xs zero x i le = refl
insert_above [] (suc at) x i le = refl
insert_above (y ∷ ys) (suc at) x zero le = absurd (omega arith)
insert_above (y ∷ ys) (suc at) x (suc i) le = insert_above ys at x i (omega (arith, le))

remove_below : {X : Type 0} (xs : List X) (at i : ℕ) → i < at → slice_get (remove xs at) i ≡ slice_get xs i
remove_below xs zero i lt = absurd (omega arith)
remove_below [] (suc at) i lt = refl
remove_below (y ∷ ys) (suc at) zero lt = refl
remove_below (y ∷ ys) (suc at) (suc i) lt = remove_below ys at i (omega (arith, lt))

remove_above : {X : Type 0} (xs : List X) (at i : ℕ) → at ≤ i → slice_get (remove xs at) i ≡ slice_get xs (suc i)
remove_above [] zero i le = refl
remove_above (y ∷ ys) zero i le = refl
remove_above [] (suc at) i le = refl
remove_above (y ∷ ys) (suc at) zero le = absurd (omega arith)
remove_above (y ∷ ys) (suc at) (suc i) le = remove_above ys at i (omega (arith, le))

-- ---- numbers in a row
pub length_from : (first n : ℕ) → length (kept_from first n) ≡ n
length_from first zero = refl
length_from first (suc n) = ap suc (length_from (suc first) n)

pub from_at : (first n i : ℕ) → i < n → slice_get (kept_from first n) i ≡ Some (Some (first + i))
from_at first zero i lt = absurd (omega arith)
from_at first (suc n) zero lt = ap (λ (k : ℕ). Some (Some k)) (omega arith)
from_at first (suc n) (suc i) lt = from_at (suc first) n i (omega (arith, lt)) ∙ ap (λ (k : ℕ). Some (Some k)) (omega arith)

pub from_push : (first n : ℕ) → kept_from first n ++ Some (first + n) ∷ [] ≡ kept_from first (suc n)
from_push first zero = ap (λ (k : ℕ). Some k ∷ []) (omega arith)
from_push first (suc n) =
    ap (λ (k : ℕ). Some first ∷ (kept_from (suc first) n ++ Some k ∷ [])) (omega arith) ∙ ap (λ ks. Some first ∷ ks) (from_push (suc first) n)

pub from_more : (n : ℕ) → kept_from 1 n ++ Some (n + 1) ∷ [] ≡ kept_from 1 (n + 1)
from_more n =
    let next : n + 1 ≡ 1 + n = omega arith in
    let more : suc n ≡ n + 1 = omega arith in
    ap (λ (k : ℕ). kept_from 1 n ++ Some k ∷ []) next ∙ from_push 1 n ∙ ap (kept_from 1) more

within : {X : Type 0} (xs : List X) (i : ℕ) (x : X) → slice_get xs i ≡ Some x → i < length xs
within xs i x e = slice_get_within xs i x e

cases : (i n : ℕ) → (i < n) ⊎ ((i ≡ n) ⊎ ((j : ℕ) × (i ≡ suc j) × (n ≤ j)))
cases zero zero = inr (inl refl)
cases zero (suc n) = inl (omega arith)
cases (suc i) zero = inr (inr (i, refl, omega arith))
cases (suc i) (suc n) = elim (cases i n) [
  | inl lt ↦ inl (omega (arith, lt))
  | inr r ↦ elim r [
    | inl is ↦ inr (inl (ap suc is))
    | inr above ↦ inr (inr (i, refl, (let e = above.1 in let l = above.2 in omega arith)))
  ]
]

-- ---- one element is put in
-- the place of a number that was kept, and its place before
put_cases : (n at : ℕ) → at ≤ n → (i j : ℕ) → slice_get (kept_by_insertion n at) i ≡ Some (Some j) → ((i < at) × (j ≡ suc i)) ⊎ ((k : ℕ) × (i ≡ suc k) × (at ≤ k) × (j ≡ i))
put_cases n at le i j e = elim (cases i at) [
  | inl lt ↦
      let le' : at ≤ length (kept_from 1 n) = omega (arith, length_from 1 n) in
      let here = insert_below (kept_from 1 n) at None i lt le' in
      let is = from_at 1 n i (omega (arith, lt, le)) in
      inl (lt, let same : ◌≡◌ {A = Option (Option ℕ)} (Some (Some j)) (Some (Some (1 + i))) = sym e ∙ here ∙ is in let k : j ≡ 1 + i = cc in omega (arith, k))
  | inr r ↦ elim r [
    | inl is ↦
        let le' : at ≤ length (kept_from 1 n) = omega (arith, length_from 1 n) in
        let none : slice_get (kept_by_insertion n at) i ≡ Some None = ap (slice_get (kept_by_insertion n at)) is ∙ insert_at (kept_from 1 n) at None le' in
        absurd (cc)
    | inr above ↦
        let k = above.0 in
        let here : slice_get (kept_by_insertion n at) i ≡ slice_get (kept_from 1 n) k = ap (slice_get (kept_by_insertion n at)) above.1 ∙ insert_above (kept_from 1 n) at None k above.2 in
        let there : slice_get (kept_from 1 n) k ≡ Some (Some j) = sym here ∙ e in
        let lt : k < n = omega (arith, within (kept_from 1 n) k (Some j) there, length_from 1 n) in
        let is = from_at 1 n k lt in
        let same : j ≡ 1 + k = cc in
        inr (k, above.1, above.2, (let i_is = above.1 in omega arith))
  ]
]

pub put_list : {X : Type 0} (cs : List X) (at : ℕ) (c : X) → at ≤ length cs → AreKeptList cs (insert cs at c) (kept_by_insertion (length cs) at)
put_list cs at c le = record {
  each = omega (arith, length-insert cs at c le, length-insert (kept_from 1 (length cs)) at None (omega (arith, length_from 1 (length cs), le)), length_from 1 (length cs));
  same = λ i j e. elim (put_cases (length cs) at le i j e) [
    | inl below ↦
        let is = below.1 in
        let at_place : j - 1 ≡ i = omega arith in
        (omega arith, ap (slice_get cs) at_place ∙ sym (insert_below cs at c i below.0 le))
    | inr above ↦
        let is = above.3 in
        let i_is = above.1 in
        let at_place : j - 1 ≡ above.0 = omega arith in
        (omega arith, ap (slice_get cs) at_place ∙ sym (insert_above cs at c above.0 above.2) ∙ ap (slice_get (insert cs at c)) (sym above.1))
  ];
}

pub put_increasing : (n at : ℕ) → at ≤ n → IsIncreasing (kept_by_insertion n at)
put_increasing n at le i k j l lt e f = elim (put_cases n at le i j e) [
  | inl a ↦ elim (put_cases n at le k l f) [
    | inl b ↦ let x = a.1 in let y = b.1 in omega arith
    | inr b ↦ let x = a.1 in let y = b.3 in let z = b.1 in let w = b.2 in let v = a.0 in omega arith
  ]
  | inr a ↦ elim (put_cases n at le k l f) [
    | inl b ↦ let x = a.3 in let y = b.1 in omega arith
    | inr b ↦ let x = a.3 in let y = b.3 in omega arith
  ]
]

pub put_onto : (n at : ℕ) → at ≤ n → IsOnto n (kept_by_insertion n at)
put_onto n at le j lt = elim (cases j at) [
  | inl below ↦ (j, insert_below (kept_from 1 n) at None j below (omega (arith, length_from 1 n)) ∙ from_at 1 n j lt ∙ ap (λ (k : ℕ). Some (Some k)) (omega arith))
  | inr r ↦
      let ge : at ≤ j = elim r [ inl is ↦ omega (arith, is) | inr above ↦ (let e = above.1 in let l = above.2 in omega arith) ] in
      (suc j, insert_above (kept_from 1 n) at None j ge ∙ from_at 1 n j lt ∙ ap (λ (k : ℕ). Some (Some k)) (omega arith))
]

-- for a list that is known to be this one
module _ (n at : ℕ) (le : at ≤ n) (ks : List (Option ℕ)) (is : ks ≡ kept_by_insertion n at) where
  pub put_kept : {X : Type 0} (cs : List X) (c : X) → length cs ≡ n → AreKeptList cs (insert cs at c) ks
  put_kept cs c e =
      let exact : ks ≡ kept_by_insertion (length cs) at = is ∙ ap (λ (m : ℕ). kept_by_insertion m at) (sym e) in
      subst (λ (os : List (Option ℕ)). AreKeptList cs (insert cs at c) os) (sym exact) (put_list cs at c (omega (arith, e, le)))

  pub put_order : IsIncreasing ks
  put_order = subst (λ (os : List (Option ℕ)). IsIncreasing os) (sym is) (put_increasing n at le)

  pub put_all : IsOnto n ks
  put_all = subst (λ (os : List (Option ℕ)). IsOnto n os) (sym is) (put_onto n at le)

-- ---- one element is taken out
take_cases : (n at i j : ℕ) → slice_get (kept_by_removal n at) i ≡ Some (Some j) → ((i < at) × (j ≡ suc i)) ⊎ ((at ≤ i) × (j ≡ suc (suc i)))
take_cases n at i j e = elim (cases i at) [
  | inl lt ↦
      let there : slice_get (kept_from 1 n) i ≡ Some (Some j) = sym (remove_below (kept_from 1 n) at i lt) ∙ e in
      let is = from_at 1 n i (omega (arith, within (kept_from 1 n) i (Some j) there, length_from 1 n)) in
      let same : j ≡ 1 + i = cc in
      inl (lt, omega (arith, same))
  | inr r ↦
      let ge : at ≤ i = elim r [ inl is ↦ omega (arith, is) | inr above ↦ (let e = above.1 in let l = above.2 in omega arith) ] in
      let there : slice_get (kept_from 1 n) (suc i) ≡ Some (Some j) = sym (remove_above (kept_from 1 n) at i ge) ∙ e in
      let is = from_at 1 n (suc i) (omega (arith, within (kept_from 1 n) (suc i) (Some j) there, length_from 1 n)) in
      let same : j ≡ 1 + suc i = cc in
      inr (ge, omega (arith, same))
]

pub take_list : {X : Type 0} (cs : List X) (at : ℕ) → at < length cs → AreKeptList cs (remove cs at) (kept_by_removal (length cs) at)
take_list cs at lt = record {
  each = omega (arith, length-remove cs at lt, length-remove (kept_from 1 (length cs)) at (omega (arith, length_from 1 (length cs), lt)), length_from 1 (length cs));
  same = λ i j e. elim (take_cases (length cs) at i j e) [
    | inl below ↦
        let is = below.1 in
        let at_place : j - 1 ≡ i = omega arith in
        (omega arith, ap (slice_get cs) at_place ∙ sym (remove_below cs at i below.0))
    | inr above ↦
        let is = above.1 in
        let at_place : j - 1 ≡ suc i = omega arith in
        (omega arith, ap (slice_get cs) at_place ∙ sym (remove_above cs at i above.0))
  ];
}

pub take_increasing : (n at : ℕ) → IsIncreasing (kept_by_removal n at)
take_increasing n at i k j l lt e f = elim (take_cases n at i j e) [
  | inl a ↦ elim (take_cases n at k l f) [
    | inl b ↦ let x = a.1 in let y = b.1 in omega arith
    | inr b ↦ let x = a.1 in let y = b.1 in omega arith
  ]
  | inr a ↦ elim (take_cases n at k l f) [
    | inl b ↦ let x = a.0 in let y = b.0 in absurd (omega arith)
    | inr b ↦ let x = a.1 in let y = b.1 in omega arith
  ]
]

pub take_total : (n at : ℕ) → at < n → IsTotal (kept_by_removal n at)
take_total n at le i lt =
    let count : length (kept_by_removal n at) + 1 ≡ n = omega (arith, length-remove (kept_from 1 n) at (omega (arith, length_from 1 n)), length_from 1 n) in
    elim (cases i at) [
      | inl below ↦ (1 + i, remove_below (kept_from 1 n) at i below ∙ from_at 1 n i (omega arith))
      | inr r ↦
          let ge : at ≤ i = elim r [ inl is ↦ omega (arith, is) | inr above ↦ (let e = above.1 in let l = above.2 in omega arith) ] in
          (1 + suc i, remove_above (kept_from 1 n) at i ge ∙ from_at 1 n (suc i) (omega arith))
    ]

-- for a list that is known to be this one
module _ (n at : ℕ) (lt : at < n) (ks : List (Option ℕ)) (is : ks ≡ kept_by_removal n at) where
  pub take_kept : {X : Type 0} (cs : List X) → length cs ≡ n → AreKeptList cs (remove cs at) ks
  take_kept cs e =
      let exact : ks ≡ kept_by_removal (length cs) at = is ∙ ap (λ (m : ℕ). kept_by_removal m at) (sym e) in
      subst (λ (os : List (Option ℕ)). AreKeptList cs (remove cs at) os) (sym exact) (take_list cs at (omega (arith, e, lt)))

  pub take_order : IsIncreasing ks
  take_order = subst (λ (os : List (Option ℕ)). IsIncreasing os) (sym is) (take_increasing n at)

  pub take_all : IsTotal ks
  take_all = subst (λ (os : List (Option ℕ)). IsTotal os) (sym is) (take_total n at lt)
