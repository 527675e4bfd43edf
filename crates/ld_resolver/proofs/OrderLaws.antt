-- The list of nodes has each node, nothing else, and in lexicographic order.
use Rattle.std.proofs.Common.{◌≡◌, ◌≢◌, ◌↔◌, ℕ, zero, suc, ◌+◌, ◌<◌, ◌≤◌, List, [], ◌∷◌, ◌++◌, map, flat_map, length, slice_get, Option, None, Some, option_and_then, ◌⊎◌, inl, inr, refl, ap, sym, ◌∙◌, subst, arith, length-append}
use Rattle.std.proofs.lemmas.List.{length-map}
use Rattle.std.proofs.lemmas.Option.{slice_get_within}
use Rattle.std.specs.List.{AllByRecursion, range_with_len}
use Rattle.cti_terms.specs.declared.clauses.Clause.{Clause}
use Rattle.cti_terms.specs.declared.derivation.Goal.{Goal}
use Rattle.cti_terms.specs.Listing.{Listing}
use Rattle.cti_terms.specs.Unify.{Binding}
use Rattle.cti_terms.specs.Resolve.{resolve_by, resolve}
use Rattle.cti_terms.specs.Derive.{IsDerivation, Bounded}
use Rattle.cti_terms.specs.Nodes.{under, nodes, HasMoreNodes}
use Rattle.ld_resolver.specs.Order.{Before, AreAscending, IsIn}

in_left : {X : Type 0} (x : X) (xs ys : List X) → IsIn x xs → IsIn x (xs ++ ys)
in_left x [] ys h = absurd h
in_left x (z ∷ xs) ys (inl e) = inl e
in_left x (z ∷ xs) ys (inr h) = inr (in_left x xs ys h)

in_right : {X : Type 0} (x : X) (xs ys : List X) → IsIn x ys → IsIn x (xs ++ ys)
in_right x [] ys h = h
in_right x (z ∷ xs) ys h = inr (in_right x xs ys h)

in_either : {X : Type 0} (x : X) (xs ys : List X) → IsIn x (xs ++ ys) → IsIn x xs ⊎ IsIn x ys
in_either x [] ys h = inr h
in_either x (z ∷ xs) ys (inl e) = inl (inl e)
in_either x (z ∷ xs) ys (inr h) = elim (in_either x xs ys h) [ inl l ↦ inl (inr l) | inr r ↦ inr r ]

in_map : {X Y : Type 0} (f : X → Y) (x : X) (xs : List X) → IsIn x xs → IsIn (f x) (map f xs)
in_map f x [] h = absurd h
in_map f x (z ∷ xs) (inl e) = inl (ap f e)
in_map f x (z ∷ xs) (inr h) = inr (in_map f x xs h)

from_map : {X Y : Type 0} (f : X → Y) (y : Y) (xs : List X) → IsIn y (map f xs) → (x : X) × IsIn x xs × (f x ≡ y)
from_map f y [] h = absurd h
from_map f y (z ∷ xs) (inl e) = (z, inl refl, e)
from_map f y (z ∷ xs) (inr h) = let r = from_map f y xs h in (r.0, inr r.1, r.2)

less_or_same : (a k : ℕ) → a ≤ k → (a ≡ k) ⊎ (a + 1 ≤ k)
less_or_same zero zero l = inl refl
less_or_same zero (suc k) l = inr (omega arith)
less_or_same (suc a) zero l = absurd (omega (arith, l))
less_or_same (suc a) (suc k) l = elim (less_or_same a k (omega (arith, l))) [ inl e ↦ inl (ap suc e) | inr m ↦ inr (omega (arith, m)) ]

in_gathered : (f : ℕ → List (List ℕ)) (a n k : ℕ) (ks : List ℕ) → a ≤ k → k < a + n → IsIn ks (f k) → IsIn ks (flat_map f (range_with_len a n))
in_gathered f a zero k ks l h i = absurd (omega (arith, l, h))
in_gathered f a (suc n) k ks l h i =
    elim (less_or_same a k l) [
      | inl e ↦ in_left ks (f a) (flat_map f (range_with_len (a + 1) n)) (subst (λ (j : ℕ). IsIn ks (f j)) (sym e) i)
      | inr m ↦ in_right ks (f a) (flat_map f (range_with_len (a + 1) n)) (in_gathered f (a + 1) n k ks m (omega (arith, h)) i)
    ]

from_gathered : (f : ℕ → List (List ℕ)) (ks : List ℕ) (js : List ℕ) → IsIn ks (flat_map f js) → (k : ℕ) × IsIn ks (f k)
from_gathered f ks [] h = absurd h
from_gathered f ks (j ∷ js) h = elim (in_either ks (f j) (flat_map f js) h) [ inl l ↦ (j, l) | inr r ↦ from_gathered f ks js r ]

module _ (p : Listing) where
  -- a clause that resolves is one of the program's
  bounds : (g : Goal) (k : ℕ) (r : List Binding × Goal) → resolve p g k ≡ Some r → (0 ≤ k) × (k < 0 + suc (length p.clauses))
  bounds g zero r h = (omega arith, omega arith)
  bounds g (suc i) r h = go (slice_get p.clauses i) refl h
    where
      go : (o : Option Clause) → slice_get p.clauses i ≡ o → option_and_then (resolve_by g.atoms g.fresh) o ≡ Some r → (0 ≤ suc i) × (suc i < 0 + suc (length p.clauses))
      go None e h = cc
      go (Some c) e h = let l = slice_get_within p.clauses i c e in (omega arith, omega (arith, l))

  there : (d : ℕ) (g : Goal) (ks : List ℕ) → ks ≢ [] → length ks ≤ d → IsDerivation p g ks → IsIn ks (nodes p d g)
  there d g [] n l h = absurd (n refl)
  there zero g (k ∷ ks) n l h = absurd (omega (arith, l))
  there (suc d) g (k ∷ ks) n l (bs, h, r, rest) =
      let b = bounds g k (bs, h) r in
      in_gathered (λ j. under j (nodes p d) (resolve p g j)) 0 (suc (length p.clauses)) k (k ∷ ks) b.0 b.1
      (subst (λ (o : Option (List Binding × Goal)). IsIn (k ∷ ks) (under k (nodes p d) o)) (sym r) (here ks rest (λ m. there d h ks m (omega (arith, l)))))
    where
      here : (ks : List ℕ) → IsDerivation p h ks → (ks ≢ [] → IsDerivation p h ks → IsIn ks (nodes p d h)) → IsIn (k ∷ ks) ((k ∷ []) ∷ map (λ js. k ∷ js) (nodes p d h))
      here [] e f = inl refl
      here (j ∷ js) e f = inr (in_map (λ is. k ∷ is) (j ∷ js) (nodes p d h) (f (λ e. cc) e))

  only_nodes : (d : ℕ) (g : Goal) (ks : List ℕ) → IsIn ks (nodes p d g) → (ks ≢ []) × (length ks ≤ d) × IsDerivation p g ks
  only_nodes zero g ks h = absurd h
  only_nodes (suc d) g ks h =
      let f = from_gathered (λ j. under j (nodes p d) (resolve p g j)) ks (range_with_len 0 (suc (length p.clauses))) h in
      go f.0 (resolve p g f.0) refl f.1 (only_nodes d)
    where
      go : (k : ℕ) (o : Option (List Binding × Goal)) → resolve p g k ≡ o → IsIn ks (under k (nodes p d) o) → ((h : Goal) (js : List ℕ) → IsIn js (nodes p d h) → (js ≢ []) × (length js ≤ d) × IsDerivation p h js) → (ks ≢ []) × (length ks ≤ suc d) × IsDerivation p g ks
      go k None e i rec = absurd i
      go k (Some (bs, h)) e (inl same) rec = subst (λ (l : List ℕ). (l ≢ []) × (length l ≤ suc d) × IsDerivation p g l) same ((λ e. cc), omega arith, (bs, h, e, tt))
      go k (Some (bs, h)) e (inr i) rec =
          let m = from_map (λ js. k ∷ js) ks (nodes p d h) i in
          let r = rec h m.0 m.1 in
          subst (λ (l : List ℕ). (l ≢ []) × (length l ≤ suc d) × IsDerivation p g l) m.2 ((λ e. cc), omega (arith, r.1), (bs, h, e, r.2))

  pub each_node : (g : Goal) (d : ℕ) (ks : List ℕ) → IsIn ks (nodes p d g) ↔ ((ks ≢ []) × (length ks ≤ d) × IsDerivation p g ks)
  each_node g d ks = (only_nodes d g ks, λ h. there d g ks h.0 h.1 h.2)

-- ---- order

all_append : {X : Type 0} (P : X → Type 0) (xs ys : List X) → AllByRecursion P xs → AllByRecursion P ys → AllByRecursion P (xs ++ ys)
all_append P [] ys h k = k
all_append P (x ∷ xs) ys h k = (h.0, all_append P xs ys h.1 k)

-- all that begin with k
abbrev Begin : ℕ → List ℕ → Type 0
Begin k [] = ⊥
Begin k (j ∷ js) = k ≡ j

-- all that begin with a number from a on
abbrev BeginFrom : ℕ → List ℕ → Type 0
BeginFrom a [] = ⊥
BeginFrom a (j ∷ js) = a ≤ j

behind_alone : (k : ℕ) (ns : List (List ℕ)) → AllByRecursion (λ (ks : List ℕ). ks ≢ []) ns → AllByRecursion (Before (k ∷ [])) (map (λ ks. k ∷ ks) ns)
behind_alone k [] h = tt
behind_alone k ([] ∷ ns) h = absurd (h.0 refl)
behind_alone k ((j ∷ js) ∷ ns) h = (inr (refl, tt), behind_alone k ns h.1)

before_map : (k : ℕ) (ks : List ℕ) (ns : List (List ℕ)) → AllByRecursion (Before ks) ns → AllByRecursion (Before (k ∷ ks)) (map (λ js. k ∷ js) ns)
before_map k ks [] h = tt
before_map k ks (js ∷ ns) h = (inr (refl, h.0), before_map k ks ns h.1)

ascending_map : (k : ℕ) (ns : List (List ℕ)) → AreAscending ns → AreAscending (map (λ js. k ∷ js) ns)
ascending_map k [] h = tt
ascending_map k (ks ∷ ns) h = (before_map k ks ns h.0, ascending_map k ns h.1)

begin_map : (k : ℕ) (ns : List (List ℕ)) → AllByRecursion (Begin k) (map (λ js. k ∷ js) ns)
begin_map k [] = tt
begin_map k (ks ∷ ns) = (refl, begin_map k ns)

all_before : (k : ℕ) (ks : List ℕ) (ns : List (List ℕ)) → Begin k ks → AllByRecursion (BeginFrom (k + 1)) ns → AllByRecursion (Before ks) ns
all_before k ks [] b h = tt
all_before k [] (js ∷ ns) b h = absurd b
all_before k (i ∷ is) ([] ∷ ns) b h = absurd h.0
all_before k (i ∷ is) ((j ∷ js) ∷ ns) b h = (inl (omega (arith, b, h.0)), all_before k (i ∷ is) ns b h.1)

ascending_append : (k : ℕ) (xs ys : List (List ℕ)) → AreAscending xs → AllByRecursion (Begin k) xs → AllByRecursion (BeginFrom (k + 1)) ys → AreAscending ys → AreAscending (xs ++ ys)
ascending_append k [] ys a b c d = d
ascending_append k (x ∷ xs) ys a b c d = (all_append (Before x) xs ys a.0 (all_before k x ys b.0 c), ascending_append k xs ys a.1 b.1 c d)

from_begin : (a k : ℕ) (xs : List (List ℕ)) → a ≤ k → AllByRecursion (Begin k) xs → AllByRecursion (BeginFrom a) xs
from_begin a k [] l h = tt
from_begin a k ([] ∷ xs) l h = absurd h.0
from_begin a k ((j ∷ js) ∷ xs) l h = (omega (arith, l, h.0), from_begin a k xs l h.1)

from_later : (a : ℕ) (xs : List (List ℕ)) → AllByRecursion (BeginFrom (a + 1)) xs → AllByRecursion (BeginFrom a) xs
from_later a [] h = tt
from_later a ([] ∷ xs) h = absurd h.0
from_later a ((j ∷ js) ∷ xs) h = (omega (arith, h.0), from_later a xs h.1)

module _ (p : Listing) (d : ℕ) (g : Goal) (order : (h : Goal) → AreAscending (nodes p d h)) (full : (h : Goal) → AllByRecursion (λ (ks : List ℕ). ks ≢ []) (nodes p d h)) where
  under_begin : (k : ℕ) (o : Option (List Binding × Goal)) → AllByRecursion (Begin k) (under k (nodes p d) o)
  under_begin k None = tt
  under_begin k (Some r) = (refl, begin_map k (nodes p d r.1))

  under_order : (k : ℕ) (o : Option (List Binding × Goal)) → AreAscending (under k (nodes p d) o)
  under_order k None = tt
  under_order k (Some r) = (behind_alone k (nodes p d r.1) (full r.1), ascending_map k (nodes p d r.1) (order r.1))

  gathered_from : (a n : ℕ) → AllByRecursion (BeginFrom a) (flat_map (λ k. under k (nodes p d) (resolve p g k)) (range_with_len a n))
  gathered_from a zero = tt
  gathered_from a (suc n) =
      all_append (BeginFrom a) (under a (nodes p d) (resolve p g a)) (flat_map (λ k. under k (nodes p d) (resolve p g k)) (range_with_len (a + 1) n))
      (from_begin a a (under a (nodes p d) (resolve p g a)) (omega arith) (under_begin a (resolve p g a)))
      (from_later a (flat_map (λ k. under k (nodes p d) (resolve p g k)) (range_with_len (a + 1) n)) (gathered_from (a + 1) n))

  gathered_order : (a n : ℕ) → AreAscending (flat_map (λ k. under k (nodes p d) (resolve p g k)) (range_with_len a n))
  gathered_order a zero = tt
  gathered_order a (suc n) =
      ascending_append a (under a (nodes p d) (resolve p g a)) (flat_map (λ k. under k (nodes p d) (resolve p g k)) (range_with_len (a + 1) n))
      (under_order a (resolve p g a)) (under_begin a (resolve p g a)) (gathered_from (a + 1) n) (gathered_order (a + 1) n)

begin_full : (a : ℕ) (xs : List (List ℕ)) → AllByRecursion (BeginFrom a) xs → AllByRecursion (λ (ks : List ℕ). ks ≢ []) xs
begin_full a [] h = tt
begin_full a ([] ∷ xs) h = absurd h.0
begin_full a ((j ∷ js) ∷ xs) h = ((λ e. cc), begin_full a xs h.1)

both : (p : Listing) (d : ℕ) → ((g : Goal) → AreAscending (nodes p d g)) × ((g : Goal) → AllByRecursion (λ (ks : List ℕ). ks ≢ []) (nodes p d g))
both p zero = ((λ g. tt), λ g. tt)
both p (suc d) =
    let b = both p d in
    ((λ g. gathered_order p d g b.0 b.1 0 (suc (length p.clauses))), λ g. begin_full 0 (nodes p (suc d) g) (gathered_from p d g b.0 b.1 0 (suc (length p.clauses))))

pub in_order : (p : Listing) (g : Goal) (d : ℕ) → AreAscending (nodes p d g)
in_order p g d = (both p d).0 g

-- ---- finitely many

-- deeper lists have no fewer nodes
module _ (p : Listing) where
  under_more : (k m d : ℕ) (o : Option (List Binding × Goal)) → ((h : Goal) → length (nodes p m h) ≤ length (nodes p d h)) → length (under k (nodes p m) o) ≤ length (under k (nodes p d) o)
  under_more k m d None h = omega arith
  under_more k m d (Some r) h = omega (arith, h r.1, length-map (nodes p m r.1) (λ (ks : List ℕ). k ∷ ks), length-map (nodes p d r.1) (λ (ks : List ℕ). k ∷ ks))

  gathered_more : (g : Goal) (m d : ℕ) (ks : List ℕ) → ((h : Goal) → length (nodes p m h) ≤ length (nodes p d h)) → length (flat_map (λ k. under k (nodes p m) (resolve p g k)) ks) ≤ length (flat_map (λ k. under k (nodes p d) (resolve p g k)) ks)
  gathered_more g m d [] h = omega arith
  gathered_more g m d (k ∷ ks) h =
      let a = under_more k m d (resolve p g k) h in
      let b = gathered_more g m d ks h in
      omega (
        arith,
        a,
        b,
        length-append (under k (nodes p m) (resolve p g k)) (flat_map (λ k. under k (nodes p m) (resolve p g k)) ks),
        length-append (under k (nodes p d) (resolve p g k)) (flat_map (λ k. under k (nodes p d) (resolve p g k)) ks),
      )

  deeper : (d : ℕ) (g : Goal) → length (nodes p d g) ≤ length (nodes p (suc d) g)
  deeper zero g = omega arith
  deeper (suc d) g = gathered_more g d (suc d) (range_with_len 0 (suc (length p.clauses))) (deeper d)

  pub much_deeper : (m e : ℕ) (g : Goal) → length (nodes p m g) ≤ length (nodes p (m + e) g)
  much_deeper m zero g = let s : m + 0 ≡ m = omega arith in subst (λ (n : ℕ). length (nodes p m g) ≤ length (nodes p n g)) (sym s) (omega arith)
  much_deeper m (suc e) g =
      let s : suc (m + e) ≡ m + suc e = omega arith in
      let l = much_deeper m e g in
      let k = deeper (m + e) g in
      subst (λ (n : ℕ). length (nodes p m g) ≤ length (nodes p n g)) s (omega (arith, l, k))

  -- where no derivation from a goal has d steps, deeper lists are the same
  same_under : (k d : ℕ) (g : Goal) (o : Option (List Binding × Goal)) → resolve p g k ≡ o → ((ks : List ℕ) → IsDerivation p g ks → length ks ≤ d) → ((h : Goal) → ((ks : List ℕ) → IsDerivation p h ks → suc (length ks) ≤ d) → nodes p (suc d) h ≡ nodes p d h) → under k (nodes p (suc d)) o ≡ under k (nodes p d) o
  same_under k d g None e short f = refl
  same_under k d g (Some r) e short f = ap (λ (ns : List (List ℕ)). (k ∷ []) ∷ map (λ ks. k ∷ ks) ns) (f r.1 (λ ks h. short (k ∷ ks) (r.0, r.1, e, h)))

  same_gathered : (d : ℕ) (g : Goal) (js : List ℕ) → ((ks : List ℕ) → IsDerivation p g ks → length ks ≤ d) → ((h : Goal) → ((ks : List ℕ) → IsDerivation p h ks → suc (length ks) ≤ d) → nodes p (suc d) h ≡ nodes p d h) → flat_map (λ k. under k (nodes p (suc d)) (resolve p g k)) js ≡ flat_map (λ k. under k (nodes p d) (resolve p g k)) js
  same_gathered d g [] short f = refl
  same_gathered d g (k ∷ js) short f = λ i. same_under k d g (resolve p g k) refl short f i ++ same_gathered d g js short f i

  -- no derivation has d steps or more
  settled : (d : ℕ) (g : Goal) → ((ks : List ℕ) → IsDerivation p g ks → suc (length ks) ≤ d) → nodes p (suc d) g ≡ nodes p d g
  settled zero g short = absurd (let h = short [] tt in omega (arith, h))
  settled (suc d) g short = same_gathered d g (range_with_len 0 (suc (length p.clauses))) (λ ks h. let k = short ks h in omega (arith, k)) (λ h s. settled d h s)

  pub settled_from : (d e : ℕ) (g : Goal) → ((ks : List ℕ) → IsDerivation p g ks → suc (length ks) ≤ d) → nodes p (d + e) g ≡ nodes p d g
  settled_from d zero g short = ap (λ n. nodes p n g) (let s : d + 0 ≡ d = omega arith in s)
  settled_from d (suc e) g short =
      ap (λ n. nodes p n g) (let s : d + suc e ≡ suc (d + e) = omega arith in s)
      ∙ settled (d + e) g (λ ks h. let k = short ks h in omega (arith, k))
      ∙ settled_from d e g short

  pub finitely_many : (g : Goal) → Bounded p g → (n : ℕ) × ((d : ℕ) → length (nodes p d g) ≤ n)
  finitely_many g b = (length (nodes p b.0 g), all)
    where
      short : (ks : List ℕ) → IsDerivation p g ks → suc (length ks) ≤ b.0
      short ks h = let k = b.1 ks h in omega (arith, k)

      all : (d : ℕ) → length (nodes p d g) ≤ length (nodes p b.0 g)
      all d =
          let same = ap (λ (n : ℕ). length (nodes p n g)) (let s : d + b.0 ≡ b.0 + d = omega arith in s) ∙ ap length (settled_from b.0 d g short) in
          let more = much_deeper d b.0 g in
          omega (arith, same, more)

  pub no_more : (g : Goal) → Bounded p g → (n : ℕ) × ((budget : ℕ) → n ≤ budget → HasMoreNodes p g budget → ⊥)
  no_more g b = let f = finitely_many g b in (f.0, λ budget l more. let k = f.1 (suc budget) in omega (arith, k, l, more))
