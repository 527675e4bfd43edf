-- Laws of stored bindings.
use Rattle.std.proofs.Common.{◌≡◌, ◌≢◌, ℕ, zero, suc, ◌<◌, Bool, true, false, ◌==◌, ◌||◌, if◌then◌else◌, List, [], ◌∷◌, ◌++◌, length, drop, set, Option, None, Some, IfSome, option_map, refl, ap, sym, ◌∙◌, subst, arith, eqb-true}
use Rattle.std.specs.Prelude.{unwrap_or}
use Rattle.std.proofs.lemmas.Bool.Decides.{nat_tests}
use Rattle.std.proofs.lemmas.List.{length-map}
use Rattle.cti_terms.specs.Tree.{Tree, Variable, Integer, Compound, instance}
use Rattle.cti_terms.specs.Unify.{Binding, occurs, only, applied}
use Rattle.cti_terms.proofs.Unifier.{absent, only_same}
use Rattle.unifier.specs.declared.raised_term.RaisedTerm.{RaisedTerm}
use Rattle.unifier.specs.Raised.{raised_tree}
use Rattle.unifier.specs.Slots.{slot, is_in}
use Rattle.unifier.specs.Store.{stored, made, full, IsOpen, MayBind, AreMade, one_more, chain, chain_of, binding_in, bindings_of, IsStore}

-- bindings in turn
pub applied-append : (bs cs : List Binding) (t : Tree) → applied (bs ++ cs) t ≡ applied cs (applied bs t)
applied-append [] cs t = refl
applied-append (b ∷ bs) cs t = applied-append bs cs (instance (only b.0 b.1) t)

-- one more binding
pub full_more : (s : List Binding) (b : Binding) (t : Tree) → full (b ∷ s) t ≡ instance (only b.0 (full s b.1)) (full s t)
full_more s b t = applied-append (made s) ((b.0, full s b.1) ∷ []) t

if_same : {A : Type 0} (b : Bool) (x y : A) → b ≡ true → (if b then x else y) ≡ x
if_same b x y h = ap (λ c. if c then x else y) h

if_other : {A : Type 0} (b : Bool) (x y : A) → b ≡ false → (if b then x else y) ≡ y
if_other b x y h = ap (λ c. if c then x else y) h

eqb_false : (x y : ℕ) → (x == y) ≡ false → x ≢ y
eqb_false x y h = grind (arith, nat_tests)

pub eqb_same : (x : ℕ) → (x == x) ≡ true
eqb_same x = grind (arith, nat_tests)

-- a free variable stays
pub full_free : (s : List Binding) (x : ℕ) → stored s x ≡ None → full s (Variable x) ≡ Variable x
full_free [] x h = refl
full_free (b ∷ s) x h = go (b.0 == x) refl h (full_free s x)
  where
    go : (c : Bool) → (b.0 == x) ≡ c → (if c then Some b.1 else stored s x) ≡ None → (stored s x ≡ None → full s (Variable x) ≡ Variable x) → full (b ∷ s) (Variable x) ≡ Variable x
    go true e k older = cc
    go false e k older =
        full_more s b (Variable x)
        ∙ ap (instance (only b.0 (full s b.1))) (older k)
        ∙ if_other (b.0 == x) (full s b.1) (Variable x) e

-- a bound variable is what its term is
pub full_bound : (s : List Binding) (x : ℕ) (t : Tree) → AreMade s → stored s x ≡ Some t → full s t ≡ full s (Variable x)
full_bound [] x t m h = cc
full_bound (b ∷ s) x t m h = go (b.0 == x) refl h (full_bound s x t m.1)
  where
    go : (c : Bool) → (b.0 == x) ≡ c → (if c then Some b.1 else stored s x) ≡ Some t → (stored s x ≡ Some t → full s t ≡ full s (Variable x)) → full (b ∷ s) t ≡ full (b ∷ s) (Variable x)
    go true e k older =
        let term : b.1 ≡ t = cc in
        let at : b.0 ≡ x = eqb-true b.0 x e in
        full_more s b t
        ∙ ap (λ u. instance (only b.0 (full s b.1)) (full s u)) (sym term)
        ∙ absent b.0 (full s b.1) (full s b.1) m.0.absent
        ∙ sym (only_same b.0 (full s b.1))
        ∙ ap (instance (only b.0 (full s b.1))) (sym (full_free s b.0 m.0.free))
        ∙ sym (full_more s b (Variable b.0))
        ∙ ap (λ y. full (b ∷ s) (Variable y)) at
    go false e k older =
        full_more s b t
        ∙ ap (instance (only b.0 (full s b.1))) (older k)
        ∙ sym (full_more s b (Variable x))

chain_free : (s : List Binding) (x : ℕ) → stored s x ≡ None → chain s x ≡ 0
chain_free [] x h = refl
chain_free (b ∷ s) x h = go (b.0 == x) h (chain_free s x)
  where
    go : (c : Bool) → (if c then Some b.1 else stored s x) ≡ None → (stored s x ≡ None → chain s x ≡ 0) → (if c then 1 else one_more (chain s x)) ≡ 0
    go true k older = cc
    go false k older = ap one_more (older k)

one_more_lt : (m n : ℕ) → m < n → one_more m < one_more n
one_more_lt zero zero h = absurd (omega (arith, h))
one_more_lt zero (suc n) h = omega arith
one_more_lt (suc m) zero h = absurd (omega (arith, h))
one_more_lt (suc m) (suc n) h = omega (arith, h)

one_more_big : (m n : ℕ) → m < n → 1 < one_more n
one_more_big m zero h = absurd (omega (arith, h))
one_more_big m (suc n) h = omega arith

-- the number falls from a variable to its term
pub chain_falls : (s : List Binding) (x : ℕ) (t : Tree) → AreMade s → stored s x ≡ Some t → chain_of s t < chain s x
chain_falls [] x t m h = cc
chain_falls (b ∷ s) x t m h = go (b.0 == x) h (chain_falls s x t m.1)
  where
    first : (u : Tree) → IsOpen s u → occurs b.0 (full s u) ≡ false → chain_of (b ∷ s) u < 1
    first (Variable y) unbound gone =
        let differs : (b.0 == y) ≡ false = sym (ap (occurs b.0) (full_free s y unbound)) ∙ gone in
        let zero_now : chain (b ∷ s) y ≡ 0 = if_other (b.0 == y) 1 (one_more (chain s y)) differs ∙ ap one_more (chain_free s y unbound) in
        omega (arith, zero_now)
    first (Integer n) unbound gone = omega arith
    first (Compound f ts) unbound gone = omega arith

    later : (u : Tree) → chain_of s u < chain s x → chain_of (b ∷ s) u < one_more (chain s x)
    later (Variable y) less = one (b.0 == y) refl
      where
        one : (c : Bool) → (b.0 == y) ≡ c → (if c then 1 else one_more (chain s y)) < one_more (chain s x)
        one true e = one_more_big (chain s y) (chain s x) less
        one false e = one_more_lt (chain s y) (chain s x) less
    later (Integer n) less = one_more_pos (chain s x) less
      where
        one_more_pos : (n : ℕ) → 0 < n → 0 < one_more n
        one_more_pos n h = let k = one_more_big 0 n h in omega (arith, k)
    later (Compound f ts) less = let k = one_more_big 0 (chain s x) less in omega (arith, k)

    go : (c : Bool) → (if c then Some b.1 else stored s x) ≡ Some t → (stored s x ≡ Some t → chain_of s t < chain s x) → chain_of (b ∷ s) t < (if c then 1 else one_more (chain s x))
    go true k older =
        let term : b.1 ≡ t = cc in
        subst (λ (v : Tree). chain_of (b ∷ s) v < 1) term (first b.1 m.0.followed m.0.absent)
    go false k older = later t (older k)

-- ---- slots

slot_set_same : (xs : List (Option Tree)) (i : ℕ) (v : Option Tree) → i < length xs → slot (set xs i v) i ≡ v
slot_set_same [] i v h = absurd (omega (arith, h))
slot_set_same (x ∷ xs) zero v h = refl
slot_set_same (x ∷ xs) (suc i) v h = slot_set_same xs i v (omega (arith, h))

slot_set_other : (xs : List (Option Tree)) (i j : ℕ) (v : Option Tree) → i ≢ j → slot (set xs i v) j ≡ slot xs j
slot_set_other [] i j v h = refl
slot_set_other (x ∷ xs) zero zero v h = absurd (h refl)
slot_set_other (x ∷ xs) zero (suc j) v h = refl
slot_set_other (x ∷ xs) (suc i) zero v h = refl
slot_set_other (x ∷ xs) (suc i) (suc j) v h = slot_set_other xs i j v (λ e. h (ap suc e))

-- as many bindings
pub length-bindings_of : (slots : List (Option Tree)) (xs : List ℕ) → length (bindings_of slots xs) ≡ length xs
length-bindings_of slots xs = length-map xs (binding_in slots)

-- a variable that is free with one more binding is free, and another one than the binding's
stored_first : (s : List Binding) (b : Binding) (x : ℕ) → stored (b ∷ s) x ≡ None → (stored s x ≡ None) × ((b.0 == x) ≡ false)
stored_first s b x h = go (b.0 == x) h
  where
    go : (c : Bool) → (if c then Some b.1 else stored s x) ≡ None → (stored s x ≡ None) × (c ≡ false)
    go true k = cc
    go false k = (k, refl)

-- a free variable is none of those that are bound
pub is_in_none : (slots : List (Option Tree)) (xs : List ℕ) (x : ℕ) → stored (bindings_of slots xs) x ≡ None → is_in x xs ≡ false
is_in_none slots [] x h = refl
is_in_none slots (y ∷ ys) x h =
    let parts = stored_first (bindings_of slots ys) (binding_in slots y) x h in
    ap (λ c. c || is_in x ys) parts.1 ∙ is_in_none slots ys x parts.0

-- the slot of a free variable says nothing of the bindings
bindings_kept : (slots more : List (Option Tree)) (x : ℕ) (xs : List ℕ) → ((y : ℕ) → (y == x) ≡ false → slot more y ≡ slot slots y) → stored (bindings_of slots xs) x ≡ None → bindings_of more xs ≡ bindings_of slots xs
bindings_kept slots more x [] same h = refl
bindings_kept slots more x (y ∷ ys) same h =
    let parts = stored_first (bindings_of slots ys) (binding_in slots y) x h in
    let term = same y parts.1 in
    let others = bindings_kept slots more x ys same parts.0 in
    λ i. (y, unwrap_or (term i) (Variable y)) ∷ others i

set_kept : (slots : List (Option Tree)) (x : ℕ) (v : Option Tree) (xs : List ℕ) → stored (bindings_of slots xs) x ≡ None → bindings_of (set slots x v) xs ≡ bindings_of slots xs
set_kept slots x v xs h = bindings_kept slots (set slots x v) x xs (λ y e. slot_set_other slots x y v (λ z. eqb_false y x e (sym z))) h

-- the same slots
pub bindings_same : (slots more : List (Option Tree)) (xs : List ℕ) → ((x : ℕ) → slot more x ≡ slot slots x) → bindings_of more xs ≡ bindings_of slots xs
bindings_same slots more [] same = refl
bindings_same slots more (x ∷ xs) same = λ i. (x, unwrap_or (same x i) (Variable x)) ∷ bindings_same slots more xs same i

pub store_same : (slots more : List (Option Tree)) (xs : List ℕ) → IsStore slots xs → ((x : ℕ) → slot more x ≡ slot slots x) → IsStore more xs
store_same slots more xs s same =
    let kept = bindings_same slots more xs same in
    record { agree = λ y. ap (λ l. stored l y) kept ∙ s.agree y ∙ sym (same y); made = subst AreMade (sym kept) s.made }

-- a binding is kept
module _ (slots : List (Option Tree)) (xs : List ℕ) (x : ℕ) (r : Tree) (s : IsStore slots xs) (within : x < length slots) (may : MayBind (bindings_of slots xs) x r) where
  pub bindings_more : bindings_of (set slots x (Some r)) (x ∷ xs) ≡ (x, r) ∷ bindings_of slots xs
  bindings_more =
      let term = slot_set_same slots x (Some r) within in
      let others = set_kept slots x (Some r) xs may.free in
      λ i. (x, unwrap_or (term i) (Variable x)) ∷ others i

  pub store_more : IsStore (set slots x (Some r)) (x ∷ xs)
  store_more = record {
    agree = λ y. ap (λ l. stored l y) bindings_more ∙ at y (x == y) refl;
    made = subst AreMade (sym bindings_more) (may, s.made);
  }
    where
      at : (y : ℕ) (c : Bool) → (x == y) ≡ c → (if x == y then Some r else stored (bindings_of slots xs) y) ≡ slot (set slots x (Some r)) y
      at y true e =
          if_same (x == y) (Some r) (stored (bindings_of slots xs) y) e
          ∙ sym (slot_set_same slots x (Some r) within)
          ∙ ap (slot (set slots x (Some r))) (eqb-true x y e)
      at y false e =
          if_other (x == y) (Some r) (stored (bindings_of slots xs) y) e
          ∙ s.agree y
          ∙ sym (slot_set_other slots x y (Some r) (eqb_false x y e))

-- the last binding is taken back
module _ (slots : List (Option Tree)) (xs : List ℕ) (x : ℕ) (s : IsStore slots (x ∷ xs)) (within : x < length slots) where
  abbrev term : Tree
  term = unwrap_or (slot slots x) (Variable x)

  old : (y : ℕ) → (if x == y then Some term else stored (bindings_of slots xs) y) ≡ slot slots y
  old y = s.agree y

  kept : bindings_of (set slots x None) xs ≡ bindings_of slots xs
  kept = set_kept slots x None xs s.made.0.free

  pub bindings_less : bindings_of (set slots x None) xs ≡ drop 1 (bindings_of slots (x ∷ xs))
  bindings_less = kept

  pub store_less : IsStore (set slots x None) xs
  store_less = record { agree = λ y. ap (λ l. stored l y) kept ∙ at y (x == y) refl; made = subst AreMade (sym kept) s.made.1 }
    where
      at : (y : ℕ) (c : Bool) → (x == y) ≡ c → stored (bindings_of slots xs) y ≡ slot (set slots x None) y
      at y true e =
          ap (stored (bindings_of slots xs)) (sym (eqb-true x y e))
          ∙ s.made.0.free
          ∙ sym (slot_set_same slots x None within)
          ∙ ap (slot (set slots x None)) (eqb-true x y e)
      at y false e =
          sym (if_other (x == y) (Some term) (stored (bindings_of slots xs) y) e)
          ∙ old y
          ∙ sym (slot_set_other slots x y None (eqb_false x y e))

-- what the term of a variable is
pub value_same : (s : List Binding) (x : ℕ) (o : Option RaisedTerm) → AreMade s → option_map raised_tree o ≡ stored s x → IfSome o (λ t. full s (raised_tree t) ≡ full s (Variable x))
value_same s x None m h = tt
value_same s x (Some r) m h = full_bound s x (raised_tree r) m (sym h)

pub value_falls : (s : List Binding) (x : ℕ) (o : Option RaisedTerm) → AreMade s → option_map raised_tree o ≡ stored s x → IfSome o (λ t. chain_of s (raised_tree t) < chain s x)
value_falls s x None m h = tt
value_falls s x (Some r) m h = chain_falls s x (raised_tree r) m (sym h)
