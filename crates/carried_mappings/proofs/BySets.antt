-- Elements in the order of their sets.
use Rattle.std.proofs.Common.{◌≡◌, ℕ, zero, suc, ◌+◌, ◌<◌, ◌≤◌, ◌⊎◌, Bool, true, false, inl, inr, List, [], ◌∷◌, ◌++◌, map, take, length, slice_get, Some, refl, ap, sym, subst, ◌∙◌, arith}
use Rattle.std.specs.Prelude.{cond}
use Rattle.std.specs.List.{flat_map}
use Rattle.std.proofs.lemmas.Bool.{and_from, and_parts}
use Rattle.linear_rows.specs.Members.{In}
use Rattle.linear_rows.proofs.Members.{in-filter, in-flat_map, of-append, of-filter, of-flat_map, of-map}
use Rattle.termination_model.specs.grounds.Minimal.{IsSet}
use Rattle.termination_model.specs.grounds.Modes.{chosen, chosen_up_to, is_part}
use Rattle.termination_model.proofs.Lists.{append_assoc}
use Rattle.termination_model.proofs.Sets.{chosen_length, chosen_set, each_set_in, part_self, to_part, up_to_set, within}
use Rattle.level_systems.specs.Subsequences.{AreOnce, IsSubsequence}
use Rattle.level_dual.proofs.Subsequences.{in_whole}
use Rattle.carried_mappings.specs.Reordered.{by_sets, is_same_set, of_set}
use Rattle.carried_mappings.proofs.Renamed.{map_joined}
use Rattle.carried_mappings.proofs.Renumbering.{one_set}

-- ---- lists without repetition
pub once_map : {X Y : Type 0} (g : X → Y) (xs : List X) → ((x y : X) → In x xs → In y xs → g x ≡ g y → x ≡ y) → AreOnce xs → AreOnce (map g xs)
once_map g [] apart once = tt
once_map g (x ∷ xs) apart once = (
  (λ i. let y = of-map g xs (g x) i in once.0 (subst (λ z. In z xs) (apart y.0 x (inr y.1) (inl refl) y.2) y.1)),
  once_map g xs (λ y z i j. apart y z (inr i) (inr j)) once.1,
)

once_joined : {X : Type 0} (xs ys : List X) → AreOnce xs → AreOnce ys → ((x : X) → In x xs → In x ys → ⊥) → AreOnce (xs ++ ys)
once_joined [] ys a b out = b
once_joined (x ∷ xs) ys a b out = (
  (λ i. elim (of-append xs ys x i) [ inl j ↦ a.0 j | inr j ↦ out x (inl refl) j ]),
  once_joined xs ys a.1 b (λ z i j. out z (inr i) j),
)

once_of : {X : Type 0} (xs ys : List X) → IsSubsequence xs ys → AreOnce ys → AreOnce xs
once_of [] ys h once = tt
once_of (x ∷ xs) [] h once = absurd h
once_of (x ∷ xs) (y ∷ ys) (inl e) once = ((λ i. once.0 (subst (λ z. In z ys) e.0 (in_whole xs ys x e.1 i))), once_of xs ys e.1 once.1)
once_of (x ∷ xs) (y ∷ ys) (inr h) once = once_of (x ∷ xs) ys h once.1

-- all sets stand once
chosen_once : (k i m : ℕ) → AreOnce (chosen k i m)
chosen_once zero i m = ((λ j. j), tt)
chosen_once (suc k) i zero = tt
chosen_once (suc k) i (suc m) =
    once_joined (map (λ args. i ∷ args) (chosen k (suc i) m)) (chosen (suc k) (suc i) m)
    (once_map (λ args. i ∷ args) (chosen k (suc i) m) (λ x y a b e. cc) (chosen_once k (suc i) m)) (chosen_once (suc k) (suc i) m)
    (λ x a b.
    let y = of-map (λ args. i ∷ args) (chosen k (suc i) m) x a in
    let set = chosen_set (suc k) (suc i) m x b in
    let low = (within (suc i) (suc i + m) x set i (subst (In i) y.2 (inl refl))).0 in
    absurd (omega arith))

up_to_length : (n k : ℕ) (xs : List ℕ) → In xs (chosen_up_to n k) → length xs ≤ k
up_to_length n zero xs h = let l = chosen_length zero 1 n xs h in omega arith
up_to_length n (suc k) xs h = elim (of-append (chosen_up_to n k) (chosen (suc k) 1 n) xs h) [
  | inl g ↦ let l = up_to_length n k xs g in omega arith
  | inr g ↦ let l = chosen_length (suc k) 1 n xs g in omega arith
]

up_to_once : (n k : ℕ) → AreOnce (chosen_up_to n k)
up_to_once n zero = chosen_once zero 1 n
up_to_once n (suc k) =
    once_joined (chosen_up_to n k) (chosen (suc k) 1 n) (up_to_once n k) (chosen_once (suc k) 1 n)
    (λ x a b. let l = up_to_length n k x a in let g = chosen_length (suc k) 1 n x b in absurd (omega arith))

-- so do those of a part of them
pub once_part : (n : ℕ) (xs : List (List ℕ)) → IsSubsequence xs (chosen_up_to n n) → AreOnce xs
once_part n xs h = once_of xs (chosen_up_to n n) h (up_to_once n n)

-- ---- the same set
same_self : (s : List ℕ) → is_same_set s s ≡ true
same_self s = and_from (is_part s s) (is_part s s) (part_self s) (part_self s)

same_is : (n : ℕ) (s t : List ℕ) → IsSet 1 (suc n) s → IsSet 1 (suc n) t → is_same_set s t ≡ true → s ≡ t
same_is n s t a b e =
    let both = and_parts (is_part s t) (is_part t s) e in
    one_set 1 (suc n) 1 (suc n) s t a b (to_part s t both.0) (to_part t s both.1)

-- ---- one more list of elements
append_none : {X : Type 0} (xs : List X) → xs ++ [] ≡ xs
append_none [] = refl
append_none (x ∷ xs) = ap (λ zs. x ∷ zs) (append_none xs)

pub flat_more : {X Y Z : Type 0} (g : Y → Z) (k : X → List Y) (xs : List X) (i : ℕ) (x : X) → slice_get xs i ≡ Some x
    → map g (flat_map k (take (i + 1) xs)) ≡ map g (flat_map k (take i xs)) ++ map g (k x)
flat_more g k [] i x at = cc
flat_more g k (y ∷ xs) zero x at =
    let same : y ≡ x = cc in
    ap (map g) (append_none (k y)) ∙ ap (λ z. map g (k z)) same
flat_more g k (y ∷ xs) (suc i) x at =
    let next : suc i + 1 ≡ suc (i + 1) = omega arith in
    ap (λ n. map g (flat_map k (take n (y ∷ xs)))) next
    ∙ map_joined g (k y) (flat_map k (take (i + 1) xs))
    ∙ ap (λ z. map g (k y) ++ z) (flat_more g k xs i x at)
    ∙ sym (append_assoc (map g (k y)) (map g (flat_map k (take i xs))) (map g (k x)))
    ∙ ap (λ z. z ++ map g (k x)) (sym (map_joined g (k y) (flat_map k (take i xs))))

-- ---- elements by their sets
module _ {X : Type 0} (n : ℕ) (set : X → List ℕ) where
  pub in_by_sets : (xs : List X) → ((x : X) → In x xs → IsSet 1 (suc n) (set x)) → (x : X) → In x xs → In x (by_sets n set xs)
  in_by_sets [] sets x i = absurd i
  in_by_sets (y ∷ []) sets x i = i
  in_by_sets (y ∷ z ∷ xs) sets x i =
      in-flat_map (of_set set (y ∷ z ∷ xs)) (chosen_up_to n n) (set x) x (each_set_in n (set x) (sets x i))
      (in-filter (λ w. is_same_set (set w) (set x)) (y ∷ z ∷ xs) x (same_self (set x)) i)

  pub of_by_sets : (xs : List X) (x : X) → In x (by_sets n set xs) → In x xs
  of_by_sets [] x i = absurd i
  of_by_sets (y ∷ []) x i = i
  of_by_sets (y ∷ z ∷ xs) x i =
      let t = of-flat_map (of_set set (y ∷ z ∷ xs)) (chosen_up_to n n) x i in
      (of-filter (λ w. is_same_set (set w) t.0) (y ∷ z ∷ xs) x t.2).0

  pub by_sets_few : (xs : List X) → length xs ≤ 1 → by_sets n set xs ≡ xs
  by_sets_few [] l = refl
  by_sets_few (x ∷ []) l = refl
  by_sets_few (x ∷ y ∷ xs) l = absurd (omega arith)

  pub by_sets_many : (xs : List X) → 1 < length xs → by_sets n set xs ≡ flat_map (of_set set xs) (chosen_up_to n n)
  by_sets_many [] l = absurd (omega arith)
  by_sets_many (x ∷ []) l = absurd (omega arith)
  by_sets_many (x ∷ y ∷ xs) l = refl

  -- ---- their order
  -- at most one of them has a set
  none_of_set : (t : List ℕ) → IsSet 1 (suc n) t → (xs : List X) → ((x : X) → In x xs → IsSet 1 (suc n) (set x)) → (In t (map set xs) → ⊥) → of_set set xs t ≡ []
  none_of_set t is [] sets out = refl
  none_of_set t is (x ∷ xs) sets out = go (is_same_set (set x) t) refl (none_of_set t is xs (λ y i. sets y (inr i)) (λ i. out (inr i)))
    where
      go : (b : Bool) → is_same_set (set x) t ≡ b → of_set set xs t ≡ [] → cond b (x ∷ of_set set xs t) (of_set set xs t) ≡ []
      go true e more = absurd (out (inl (same_is n (set x) t (sets x (inl refl)) is e)))
      go false e more = more

  abbrev IsFew : List X → List ℕ → List X → Type 0
  IsFew xs t ys = (ys ≡ []) ⊎ ((x : X) × (ys ≡ x ∷ []) × (set x ≡ t))

  few_of_set : (t : List ℕ) → IsSet 1 (suc n) t → (xs : List X) → ((x : X) → In x xs → IsSet 1 (suc n) (set x)) → AreOnce (map set xs) → IsFew xs t (of_set set xs t)
  few_of_set t is [] sets once = inl refl
  few_of_set t is (x ∷ xs) sets once = go (is_same_set (set x) t) refl (few_of_set t is xs (λ y i. sets y (inr i)) once.1)
    where
      go : (b : Bool) → is_same_set (set x) t ≡ b → IsFew xs t (of_set set xs t) → IsFew (x ∷ xs) t (cond b (x ∷ of_set set xs t) (of_set set xs t))
      go true e few =
          let same : set x ≡ t = same_is n (set x) t (sets x (inl refl)) is e in
          let none = none_of_set t is xs (λ y i. sets y (inr i)) (λ i. once.0 (subst (λ (z : List ℕ). In z (map set xs)) (sym same) i)) in
          inr (x, ap (λ ys. x ∷ ys) none, same)
      go false e few = few

  skipped : {Y : Type 0} (xs ys : List Y) (y : Y) → IsSubsequence xs ys → IsSubsequence xs (y ∷ ys)
  skipped [] ys y h = tt
  skipped (x ∷ xs) ys y h = inr h

  alone : {Y : Type 0} (x : Y) (ys : List Y) → In x ys → IsSubsequence (x ∷ []) ys
  alone x [] i = absurd i
  alone x (y ∷ ys) (inl e) = inl (sym e, tt)
  alone x (y ∷ ys) (inr i) = inr (alone x ys i)

  walked_order : (xs : List X) → ((x : X) → In x xs → IsSet 1 (suc n) (set x)) → AreOnce (map set xs) → (ts : List (List ℕ)) → ((t : List ℕ) → In t ts → IsSet 1 (suc n) t)
      → IsSubsequence (map set (flat_map (of_set set xs) ts)) ts
  walked_order xs sets once [] all = tt
  walked_order xs sets once (t ∷ ts) all =
      let more = walked_order xs sets once ts (λ s i. all s (inr i)) in
      let rest : List X = flat_map (of_set set xs) ts in
      subst (λ (z : List (List ℕ)). IsSubsequence z (t ∷ ts)) (sym (map_joined set (of_set set xs t) rest)) (elim (few_of_set t (all t (inl refl)) xs sets once) [
        | inl none ↦ subst (λ (ys : List X). IsSubsequence (map set ys ++ map set rest) (t ∷ ts)) (sym none) (skipped (map set rest) ts t more)
        | inr one ↦ subst (λ (ys : List X). IsSubsequence (map set ys ++ map set rest) (t ∷ ts)) (sym one.1) (inl (one.2, more))
      ])

  pub by_sets_order : (xs : List X) → ((x : X) → In x xs → IsSet 1 (suc n) (set x)) → AreOnce (map set xs) → IsSubsequence (map set (by_sets n set xs)) (chosen_up_to n n)
  by_sets_order [] sets once = tt
  by_sets_order (x ∷ []) sets once = alone (set x) (chosen_up_to n n) (each_set_in n (set x) (sets x (inl refl)))
  by_sets_order (x ∷ y ∷ xs) sets once = walked_order (x ∷ y ∷ xs) sets once (chosen_up_to n n) (λ t i. up_to_set n n t i)
