-- Laws of the slots of variables.
use Rattle.std.proofs.Common.{◌≡◌, ◌≢◌, ℕ, zero, suc, ◌<◌, ◌≤◌, ◌+◌, ◌-◌, Bool, true, false, ◌==◌, ◌||◌, if◌then◌else◌, List, [], ◌∷◌, ◌++◌, map, length, set, replicate, get_or, None, Some, refl, ap, sym, ◌∙◌, subst, arith}
use Rattle.std.proofs.lemmas.Bool.Decides.{nat_tests}
use Rattle.std.proofs.lemmas.List.{length-set}
use Rattle.cti_terms.specs.Tree.{instance}
use Rattle.cti_terms.specs.Spell.{tree_of}
use Rattle.unifier.specs.declared.slot.Slot.{Slot}
use Rattle.unifier.specs.Raised.{raise}
use Rattle.unifier.specs.Slots.{free, slot, slot_tree, previous, linked, is_in, AreLinked}

-- ---- trees

eqb_false : (x y : ℕ) → (x == y) ≡ false → x ≢ y
eqb_false x y h = grind (arith, nat_tests)

eqb_free : (x : ℕ) → x < free → (x == free) ≡ false
eqb_free x h = grind (arith, nat_tests, h)

-- the tree of a bound variable
pub tree_bound : (s : Slot) → s.previous < free → slot_tree s ≡ Some (instance (raise s.base) (tree_of s.term.now))
tree_bound s h = ap (λ c. if c then None else Some (instance (raise s.base) (tree_of s.term.now))) (eqb_free s.previous h)

pub trees_set : (xs : List Slot) (i : ℕ) (x : Slot) → map slot_tree (set xs i x) ≡ set (map slot_tree xs) i (slot_tree x)
trees_set [] i x = refl
trees_set (y ∷ ys) zero x = refl
trees_set (y ∷ ys) (suc i) x = ap (λ ts. slot_tree y ∷ ts) (trees_set ys i x)

module _ (f : Slot) (nothing : slot_tree f ≡ None) where
  slot_none : (k j : ℕ) → slot (map slot_tree (replicate k f)) j ≡ None
  slot_none zero j = refl
  slot_none (suc k) zero = nothing
  slot_none (suc k) (suc j) = slot_none k j

  pub slot_grown : (xs : List Slot) (k j : ℕ) → slot (map slot_tree (xs ++ replicate k f)) j ≡ slot (map slot_tree xs) j
  slot_grown [] k j = slot_none k j
  slot_grown (x ∷ xs) k zero = refl
  slot_grown (x ∷ xs) k (suc j) = slot_grown xs k j

-- the slot of a variable
pub slot_here : (xs : List Slot) (i : ℕ) (x : Slot) → i < length xs → x ≡ get_or xs i x → slot_tree x ≡ slot (map slot_tree xs) i
slot_here [] i x h e = absurd (omega (arith, h))
slot_here (y ∷ ys) zero x h e = ap slot_tree e
slot_here (y ∷ ys) (suc i) x h e = slot_here ys i x (omega (arith, h)) e

-- ---- the variables that are bound

previous_same : (xs : List Slot) (i : ℕ) (s : Slot) → i < length xs → previous (set xs i s) i ≡ s.previous
previous_same [] i s h = absurd (omega (arith, h))
previous_same (x ∷ xs) zero s h = refl
previous_same (x ∷ xs) (suc i) s h = previous_same xs i s (omega (arith, h))

pub previous_here : (xs : List Slot) (i : ℕ) (d : Slot) → i < length xs → previous xs i ≡ (get_or xs i d).previous
previous_here [] i d h = absurd (omega (arith, h))
previous_here (x ∷ xs) zero d h = refl
previous_here (x ∷ xs) (suc i) d h = previous_here xs i d (omega (arith, h))

previous_other : (xs : List Slot) (i : ℕ) (s : Slot) (j : ℕ) → j ≢ i → previous (set xs i s) j ≡ previous xs j
previous_other [] i s j h = refl
previous_other (x ∷ xs) zero s zero h = absurd (h refl)
previous_other (x ∷ xs) zero s (suc j) h = refl
previous_other (x ∷ xs) (suc i) s zero h = refl
previous_other (x ∷ xs) (suc i) s (suc j) h = previous_other xs i s j (λ e. h (ap suc e))

pub previous_grown : (xs : List Slot) (k : ℕ) (f : Slot) → f.previous ≡ free → (j : ℕ) → previous (xs ++ replicate k f) j ≡ previous xs j
previous_grown [] zero f e j = refl
previous_grown [] (suc k) f e zero = e
previous_grown [] (suc k) f e (suc j) = previous_grown [] k f e j
previous_grown (x ∷ xs) k f e zero = refl
previous_grown (x ∷ xs) k f e (suc j) = previous_grown xs k f e j

or_false : (b c : Bool) → (b || c) ≡ false → (b ≡ false) × (c ≡ false)
or_false true c h = cc
or_false false c h = (refl, h)

-- no bound variable has this number
pub is_in_free : (xs : List Slot) (n x : ℕ) → AreLinked xs n x → is_in free (linked xs n x) ≡ false
is_in_free xs zero x h = refl
is_in_free xs (suc n) x h = ap (λ c. c || is_in free (linked xs n (previous xs x))) (eqb_free x h.0) ∙ is_in_free xs n (previous xs x) h.3

-- the last one is below it
pub last_below : (xs : List Slot) (n x : ℕ) → AreLinked xs n x → x < free
last_below xs zero x h = h
last_below xs (suc n) x h = h.0

-- a slot of a variable that is not among them says nothing of them
module _ (xs ys : List Slot) (v : ℕ) (longer : length xs ≤ length ys) (same : (j : ℕ) → j ≢ v → previous ys j ≡ previous xs j) where
  pub linked_same : (n x : ℕ) → is_in v (linked xs n x) ≡ false → linked ys n x ≡ linked xs n x
  linked_same zero x h = refl
  linked_same (suc n) x h =
      let parts = or_false (x == v) (is_in v (linked xs n (previous xs x))) h in
      ap (λ y. x ∷ linked ys n y) (same x (eqb_false x v parts.0))
      ∙ ap (λ l. x ∷ l) (linked_same n (previous xs x) parts.1)

  pub are_linked_same : (n x : ℕ) → is_in v (linked xs n x) ≡ false → AreLinked xs n x → AreLinked ys n x
  are_linked_same zero x h a = a
  are_linked_same (suc n) x h a =
      let parts = or_false (x == v) (is_in v (linked xs n (previous xs x))) h in
      let before = sym (same x (eqb_false x v parts.0)) in
      let rest = linked_same n (previous xs x) parts.1 in
      let within : x < length ys = (let h = a.1 in omega (arith, longer, h)) in (
        a.0,
        within,
        ap (λ y. is_in x (linked ys n y)) (sym before) ∙ ap (is_in x) rest ∙ a.2,
        subst (AreLinked ys n) before (are_linked_same n (previous xs x) parts.1 a.3),
      )

-- as many variables
pub length-linked : (xs : List Slot) (n x : ℕ) → length (linked xs n x) ≡ n
length-linked xs zero x = refl
length-linked xs (suc n) x = ap suc (length-linked xs n (previous xs x))

-- one more that is bound
module _ (xs : List Slot) (n x : ℕ) (a : AreLinked xs n x) (v : ℕ) (s : Slot) (within : v < length xs) (below : v < free) (new : is_in v (linked xs n x) ≡ false) (before : s.previous ≡ x) where
  longer : length xs ≤ length (set xs v s)
  longer = let same = length-set xs v s in omega (arith, same)

  link : previous (set xs v s) v ≡ x
  link = previous_same xs v s within ∙ before

  kept : linked (set xs v s) n x ≡ linked xs n x
  kept = linked_same xs (set xs v s) v longer (previous_other xs v s) n x new

  pub linked_more : linked (set xs v s) (suc n) v ≡ v ∷ linked xs n x
  linked_more = ap (λ y. v ∷ linked (set xs v s) n y) link ∙ ap (λ l. v ∷ l) kept

  pub are_linked_more : AreLinked (set xs v s) (suc n) v
  are_linked_more = (
    below,
    (let same = length-set xs v s in omega (arith, same, within)),
    ap (λ y. is_in v (linked (set xs v s) n y)) link ∙ ap (is_in v) kept ∙ new,
    subst (AreLinked (set xs v s) n) (sym link) (are_linked_same xs (set xs v s) v longer (previous_other xs v s) n x new a),
  )

-- the last one has a slot
pub last_within : (xs : List Slot) (x n : ℕ) → 0 < n → AreLinked xs n x → x < length xs
last_within xs x zero h a = absurd (omega (arith, h))
last_within xs x (suc n) h a = a.1

-- the last one is freed
module _ (xs : List Slot) (x : ℕ) (s : Slot) where
  as_long : length xs ≤ length (set xs x s)
  as_long = let same = length-set xs x s in omega (arith, same)

  pub linked_less : (n : ℕ) → 0 < n → AreLinked xs n x → linked xs n x ≡ x ∷ linked (set xs x s) (n - 1) (previous xs x)
  linked_less zero h a = absurd (omega (arith, h))
  linked_less (suc n) h a =
      let less : n ≡ suc n - 1 = omega arith in
      ap (λ l. x ∷ l) (sym (linked_same xs (set xs x s) x as_long (previous_other xs x s) n (previous xs x) a.2))
      ∙ ap (λ k. x ∷ linked (set xs x s) k (previous xs x)) less

  pub are_linked_less : (n : ℕ) → 0 < n → AreLinked xs n x → AreLinked (set xs x s) (n - 1) (previous xs x)
  are_linked_less zero h a = absurd (omega (arith, h))
  are_linked_less (suc n) h a =
      let less : n ≡ suc n - 1 = omega arith in
      subst (λ k. AreLinked (set xs x s) k (previous xs x)) less
      (are_linked_same xs (set xs x s) x as_long (previous_other xs x s) n (previous xs x) a.2 a.3)

-- ---- there are at most as many bound variables as slots

abbrev used : List Slot → ℕ
used [] = 0
used (s ∷ ss) = (if s.previous == free then 0 else 1) + used ss

used_within : (xs : List Slot) → used xs ≤ length xs
used_within [] = omega arith
used_within (s ∷ ss) = go (s.previous == free) (used_within ss)
  where
    go : (c : Bool) → used ss ≤ length ss → (if c then 0 else 1) + used ss ≤ suc (length ss)
    go true less = omega (arith, less)
    go false less = omega (arith, less)

used_less : (xs : List Slot) (i : ℕ) (f : Slot) → f.previous ≡ free → i < length xs → previous xs i < free → used xs ≡ used (set xs i f) + 1
used_less [] i f e h b = absurd (omega (arith, h))
used_less (x ∷ xs) zero f e h b =
    let old : used (x ∷ xs) ≡ 1 + used xs = ap (λ c. (if c then 0 else 1) + used xs) (eqb_free x.previous b) in
    let new : used (f ∷ xs) ≡ 0 + used xs = ap (λ p. (if p == free then 0 else 1) + used xs) e in
    omega (arith, old, new)
used_less (x ∷ xs) (suc i) f e h b =
    let rest = used_less xs i f e (omega (arith, h)) b in
    omega (arith, rest)

few : (n : ℕ) (xs : List Slot) (x : ℕ) (f : Slot) → f.previous ≡ free → AreLinked xs n x → n ≤ used xs
few zero xs x f e a = omega arith
few (suc n) xs x f e a =
    let less : suc n - 1 ≡ n = omega arith in
    let before = last_below xs n (previous xs x) a.3 in
    let rest = few n (set xs x f) (previous xs x) f e (subst (λ k. AreLinked (set xs x f) k (previous xs x)) less (are_linked_less xs x f (suc n) (omega arith) a)) in
    let one = used_less xs x f e a.1 before in
    omega (arith, rest, one)

-- the bound variables have slots of their own
pub count_within : (xs : List Slot) (n x : ℕ) (f : Slot) → f.previous ≡ free → AreLinked xs n x → n ≤ length xs
count_within xs n x f e a = let less = few n xs x f e a in let all = used_within xs in omega (arith, less, all)
