-- The first nodes of a goal come before all its other derivations, however long these are.
use Rattle.std.proofs.Common.{◌≡◌, ◌≢◌, ℕ, zero, suc, ◌<◌, ◌≤◌, List, [], ◌∷◌, ◌++◌, map, flat_map, take, drop, length, Option, None, Some, ◌⊎◌, inl, inr, refl, ap, ◌∙◌, subst, arith}
use Rattle.std.specs.List.{AllByRecursion, range_with_len}
use Rattle.cti_terms.specs.declared.derivation.Goal.{Goal}
use Rattle.cti_terms.specs.Listing.{Listing}
use Rattle.cti_terms.specs.Unify.{Binding}
use Rattle.cti_terms.specs.Resolve.{resolve}
use Rattle.cti_terms.specs.Derive.{IsDerivation}
use Rattle.cti_terms.specs.Nodes.{under, nodes, first_nodes, HasMoreNodes}
use Rattle.ld_resolver.specs.Order.{Before, AreAscending, IsIn}
use Rattle.ld_resolver.proofs.OrderLaws.{each_node, in_order}

taken_or_dropped : {X : Type 0} (x : X) (n : ℕ) (xs : List X) → IsIn x xs → IsIn x (take n xs) ⊎ IsIn x (drop n xs)
taken_or_dropped x zero xs h = inr h
taken_or_dropped x (suc n) [] h = absurd h
taken_or_dropped x (suc n) (y ∷ ys) (inl e) = inl (inl e)
taken_or_dropped x (suc n) (y ∷ ys) (inr h) = elim (taken_or_dropped x n ys h) [ inl l ↦ inl (inr l) | inr r ↦ inr r ]

from_taken : {X : Type 0} (x : X) (n : ℕ) (xs : List X) → IsIn x (take n xs) → IsIn x xs
from_taken x zero xs h = absurd h
from_taken x (suc n) [] h = absurd h
from_taken x (suc n) (y ∷ ys) (inl e) = inl e
from_taken x (suc n) (y ∷ ys) (inr h) = inr (from_taken x n ys h)

from_dropped : {X : Type 0} (x : X) (n : ℕ) (xs : List X) → IsIn x (drop n xs) → IsIn x xs
from_dropped x zero xs h = h
from_dropped x (suc n) [] h = absurd h
from_dropped x (suc n) (y ∷ ys) h = inr (from_dropped x n ys h)

holds_of : {X : Type 0} (P : X → Type 0) (x : X) (xs : List X) → AllByRecursion P xs → IsIn x xs → P x
holds_of P x [] a h = absurd h
holds_of P x (y ∷ ys) a (inl e) = subst P e a.0
holds_of P x (y ∷ ys) a (inr h) = holds_of P x ys a.1 h

some_there : {X : Type 0} (x : X) (xs : List X) → IsIn x xs → 0 < length xs
some_there x [] h = absurd h
some_there x (y ∷ ys) h = omega arith

-- what comes after the first n elements comes after each of them
after_taken : (ks : List ℕ) (n : ℕ) (ns : List (List ℕ)) → AreAscending ns → IsIn ks (drop n ns) → (n < length ns) × ((length (take n ns) ≡ n) × AllByRecursion (λ (ls : List ℕ). Before ls ks) (take n ns))
after_taken ks zero ns a h = (some_there ks ns h, (refl, tt))
after_taken ks (suc n) [] a h = absurd h
after_taken ks (suc n) (ls ∷ ns) a h =
    let r = after_taken ks n ns a.1 h in
    (omega (arith, r.0), (ap suc r.1.0, (holds_of (Before ls) ks ns a.0 (from_dropped ks n ns h), r.1.1)))

taken_more : {X : Type 0} (x : X) (n : ℕ) (xs : List X) → IsIn x (take n xs) → IsIn x (take (suc n) xs)
taken_more x zero xs h = absurd h
taken_more x (suc n) [] h = absurd h
taken_more x (suc n) (y ∷ ys) (inl e) = inl e
taken_more x (suc n) (y ∷ ys) (inr h) = inr (taken_more x n ys h)

taken_append : {X : Type 0} (x : X) (n : ℕ) (xs ys : List X) → IsIn x (take n (xs ++ ys)) → IsIn x (take n xs) ⊎ IsIn x (take n ys)
taken_append x n [] ys h = inr h
taken_append x zero (z ∷ xs) ys h = absurd h
taken_append x (suc n) (z ∷ xs) ys (inl e) = inl (inl e)
taken_append x (suc n) (z ∷ xs) ys (inr h) = elim (taken_append x n xs ys h) [ inl l ↦ inl (inr l) | inr r ↦ inr (taken_more x n ys r) ]

taken_map : {X Y : Type 0} (f : X → Y) (y : Y) (n : ℕ) (xs : List X) → IsIn y (take n (map f xs)) → (x : X) × IsIn x (take n xs) × (f x ≡ y)
taken_map f y zero xs h = absurd h
taken_map f y (suc n) [] h = absurd h
taken_map f y (suc n) (x ∷ xs) (inl e) = (x, inl refl, e)
taken_map f y (suc n) (x ∷ xs) (inr h) = let r = taken_map f y n xs h in (r.0, inr r.1, r.2)

module _ (p : Listing) where
  -- each of the first n nodes has at most n clauses
  pub shallow : (d n : ℕ) (g : Goal) (ks : List ℕ) → IsIn ks (take n (nodes p d g)) → length ks ≤ n
  shallow zero n g ks h = absurd (from_taken ks n [] h)
  shallow (suc d) n g ks h = gathered n (range_with_len 0 (suc (length p.clauses))) h (shallow d)
    where
      under_shallow : (n k : ℕ) (o : Option (List Binding × Goal)) → IsIn ks (take n (under k (nodes p d) o)) → ((n : ℕ) (h : Goal) (js : List ℕ) → IsIn js (take n (nodes p d h)) → length js ≤ n) → length ks ≤ n
      under_shallow zero k o i rec = absurd i
      under_shallow (suc n) k None i rec = absurd i
      under_shallow (suc n) k (Some r) (inl e) rec = subst (λ (l : List ℕ). length l ≤ suc n) e (omega arith)
      under_shallow (suc n) k (Some r) (inr i) rec =
          let m = taken_map (λ js. k ∷ js) ks n (nodes p d r.1) i in
          let l = rec n r.1 m.0 m.1 in
          subst (λ (l : List ℕ). length l ≤ suc n) m.2 (omega (arith, l))

      gathered : (n : ℕ) (js : List ℕ) → IsIn ks (take n (flat_map (λ k. under k (nodes p d) (resolve p g k)) js)) → ((n : ℕ) (h : Goal) (js : List ℕ) → IsIn js (take n (nodes p d h)) → length js ≤ n) → length ks ≤ n
      gathered n [] i rec = absurd (from_taken ks n [] i)
      gathered n (j ∷ js) i rec =
          elim (taken_append ks n (under j (nodes p d) (resolve p g j)) (flat_map (λ k. under k (nodes p d) (resolve p g k)) js) i) [
            | inl l ↦ under_shallow n j (resolve p g j) l rec
            | inr r ↦ gathered n js r rec
          ]

  beginning : (n : ℕ) (g : Goal) (ks : List ℕ) → IsDerivation p g ks → IsDerivation p g (take n ks)
  beginning zero g ks h = tt
  beginning (suc n) g [] h = tt
  beginning (suc n) g (k ∷ ks) (bs, h, r, rest) = (bs, h, r, beginning n h ks rest)

beginning_before : (n : ℕ) (ks : List ℕ) → n < length ks → Before (take n ks) ks
beginning_before n [] l = absurd (omega (arith, l))
beginning_before zero (k ∷ ks) l = tt
beginning_before (suc n) (k ∷ ks) l = inr (refl, beginning_before n ks (omega (arith, l)))

beginning_length : (n : ℕ) (ks : List ℕ) → n < length ks → length (take n ks) ≡ n
beginning_length zero ks l = refl
beginning_length (suc n) [] l = absurd (omega (arith, l))
beginning_length (suc n) (k ∷ ks) l = ap suc (beginning_length n ks (omega (arith, l)))

before_later : (ks js ls : List ℕ) → Before ks js → Before js ls → Before ks ls
before_later ks js [] a b = absurd b
before_later ks [] (l ∷ ls) a b = absurd a
before_later [] (j ∷ js) (l ∷ ls) a b = tt
before_later (k ∷ ks) (j ∷ js) (l ∷ ls) (inl a) (inl b) = inl (omega (arith, a, b))
before_later (k ∷ ks) (j ∷ js) (l ∷ ls) (inl a) (inr b) = inl (omega (arith, a, b.0))
before_later (k ∷ ks) (j ∷ js) (l ∷ ls) (inr a) (inl b) = inl (omega (arith, a.0, b))
before_later (k ∷ ks) (j ∷ js) (l ∷ ls) (inr a) (inr b) = inr (a.0 ∙ b.0, before_later ks js ls a.1 b.1)

before_itself : (ks : List ℕ) → Before ks ks → ⊥
before_itself [] h = h
before_itself (k ∷ ks) (inl l) = absurd (omega (arith, l))
before_itself (k ∷ ks) (inr h) = before_itself ks h.1

all_later : (js ks : List ℕ) (ns : List (List ℕ)) → Before js ks → AllByRecursion (λ (ls : List ℕ). Before ls js) ns → AllByRecursion (λ (ls : List ℕ). Before ls ks) ns
all_later js ks [] b h = tt
all_later js ks (ls ∷ ns) b h = (before_later ls js ks h.0 b, all_later js ks ns b h.1)

pub short_or_long : (a b : ℕ) → (a ≤ b) ⊎ (b < a)
short_or_long zero b = inl (omega arith)
short_or_long (suc a) zero = inr (omega arith)
short_or_long (suc a) (suc b) = elim (short_or_long a b) [ inl l ↦ inl (omega (arith, l)) | inr r ↦ inr (omega (arith, r)) ]

first_of : {X : Type 0} (n : ℕ) (xs : List X) → n < length xs → (x : X) × IsIn x (drop n xs)
first_of n [] l = absurd (omega (arith, l))
first_of zero (x ∷ xs) l = (x, inl refl)
first_of (suc n) (x ∷ xs) l = first_of n xs (omega (arith, l))

ascending_taken : (n : ℕ) (ns : List (List ℕ)) → AreAscending ns → AreAscending (take n ns)
ascending_taken zero ns h = tt
ascending_taken (suc n) [] h = tt
ascending_taken (suc n) (ks ∷ ns) h = (all_taken n ns h.0, ascending_taken n ns h.1)
  where
    all_taken : (n : ℕ) (ns : List (List ℕ)) → AllByRecursion (Before ks) ns → AllByRecursion (Before ks) (take n ns)
    all_taken zero ns h = tt
    all_taken (suc n) [] h = tt
    all_taken (suc n) (ls ∷ ns) h = (h.0, all_taken n ns h.1)

module _ (p : Listing) (g : Goal) (n : ℕ) where
  pub first_are : (ks : List ℕ) → IsIn ks (first_nodes p g n) → (ks ≢ []) × IsDerivation p g ks
  first_are ks h = let e = (each_node p g (suc n) ks).0 (from_taken ks n (nodes p (suc n) g) h) in (e.0, e.2)

  pub first_ascend : AreAscending (first_nodes p g n)
  first_ascend = ascending_taken n (nodes p (suc n) g) (in_order p g (suc n))

  pub others_later : (ks : List ℕ) → ks ≢ [] → IsDerivation p g ks
      → IsIn ks (first_nodes p g n) ⊎ (HasMoreNodes p g n × ((length (first_nodes p g n) ≡ n) × AllByRecursion (λ (ls : List ℕ). Before ls ks) (first_nodes p g n)))
  others_later ks some is = elim (short_or_long (length ks) (suc n)) [ inl l ↦ short l | inr r ↦ long r ]
    where
      short : length ks ≤ suc n → IsIn ks (first_nodes p g n) ⊎ (HasMoreNodes p g n × ((length (first_nodes p g n) ≡ n) × AllByRecursion (λ (ls : List ℕ). Before ls ks) (first_nodes p g n)))
      short l =
          elim (taken_or_dropped ks n (nodes p (suc n) g) ((each_node p g (suc n) ks).1 (some, l, is))) [
            | inl i ↦ inl i
            | inr i ↦ inr (after_taken ks n (nodes p (suc n) g) (in_order p g (suc n)) i)
          ]

      long : suc n < length ks → IsIn ks (first_nodes p g n) ⊎ (HasMoreNodes p g n × ((length (first_nodes p g n) ≡ n) × AllByRecursion (λ (ls : List ℕ). Before ls ks) (first_nodes p g n)))
      long l =
          let long_one = beginning_length (suc n) ks l in
          let there = (each_node p g (suc n) (take (suc n) ks)).1 ((λ e. let z = ap length e in omega (arith, z, long_one)), omega (arith, long_one), beginning p (suc n) g ks is) in
          elim (taken_or_dropped (take (suc n) ks) n (nodes p (suc n) g) there) [
            | inl i ↦ absurd (let few = shallow p (suc n) n g (take (suc n) ks) i in omega (arith, few, long_one))
            | inr i ↦ let r = after_taken (take (suc n) ks) n (nodes p (suc n) g) (in_order p g (suc n)) i in
                inr (r.0, (r.1.0, all_later (take (suc n) ks) ks (first_nodes p g n) (beginning_before (suc n) ks l) r.1.1))
          ]

  pub one_more : HasMoreNodes p g n → (ks : List ℕ) × (ks ≢ []) × IsDerivation p g ks × (IsIn ks (first_nodes p g n) → ⊥)
  one_more more =
      let f = first_of n (nodes p (suc n) g) more in
      let e = (each_node p g (suc n) f.0).0 (from_dropped f.0 n (nodes p (suc n) g) f.1) in
      let a = after_taken f.0 n (nodes p (suc n) g) (in_order p g (suc n)) f.1 in
      (f.0, e.0, e.2, λ i. before_itself f.0 (holds_of (λ (ls : List ℕ). Before ls f.0) f.0 (first_nodes p g n) a.1.1 i))

-- with a budget of at least their number there are no more
pub no_more_than : (p : Listing) (g : Goal) (n : ℕ) → ((d : ℕ) → length (nodes p d g) ≤ n) → (budget : ℕ) → n ≤ budget → HasMoreNodes p g budget → ⊥
no_more_than p g n few budget l more = let k = few (suc budget) in omega (arith, k, l, more)
