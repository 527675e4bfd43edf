-- All clauses of an untouched set's predicates are kept.
use Rattle.std.proofs.Common.{◌≡◌, ℕ, zero, suc, ◌+◌, ◌-◌, ◌<◌, ◌≤◌, ◌⊎◌, inl, inr, Bool, true, false, cond, List, [], ◌∷◌, map, length, slice_get, slice_index_or, Option, Some, refl, ap, sym, ◌∙◌, subst, arith}
use Rattle.std.specs.Prelude.{filter}
use Rattle.cti_terms.specs.Listing.{Listing}
use Rattle.cti_terms.specs.declared.clauses.Clause.{Clause}
use Rattle.cti_terms.specs.declared.predicates.Pred.{Pred}
use Rattle.linear_rows.specs.Members.{In}
use Rattle.linear_rows.proofs.Members.{in-filter, of-filter}
use Rattle.termination_model.specs.chains.Chain.{counted}
use Rattle.termination_model.proofs.Lists.{place_below, there}
use Rattle.numeric_model.proofs.Chaining.{at_number, in_counted_at}
use Rattle.component_laws.specs.Untouched.{AreUntouched, NamedClause, clauses_in, is_in, named}
use Rattle.solved_program.specs.Kept.{AreKept}
use Rattle.kept_clauses.specs.KeptLists.{IsIncreasing}
use Rattle.kept_clauses.specs.AllKept.{AllKept, ArePairs, NoneIsLost, NoneIsNew, OneEditKeepsUntouched, UntouchedAreKept, numbered_in}

abbrev pub Numbered : Type 0
Numbered = ℕ × Clause

-- ---- lists in the order of their numbers
abbrev AreAbove : ℕ → List Numbered → Type 0
AreAbove n xs = (x : Numbered) → In x xs → n < x.0

abbrev AreOrdered : List Numbered → Type 0
AreOrdered [] = Unit {0}
AreOrdered (x ∷ xs) = AreAbove x.0 xs × AreOrdered xs

number_of : (x y : Numbered) → x ≡ y → x.0 ≡ y.0
number_of x y e = ap (λ (k : Numbered). k.0) e

-- some elements of a list, in order, are all of it, or fewer
some_of : (xs ys : List Numbered) → AreOrdered xs → AreOrdered ys → ((x : Numbered) → In x xs → In x ys) → (xs ≡ ys) ⊎ (length xs < length ys)
some_of [] [] a b h = inl refl
some_of [] (y ∷ ys) a b h = inr (omega arith)
some_of (x ∷ xs) [] a b h = absurd (h x (inl refl))
some_of (x ∷ xs) (y ∷ ys) a b h = elim (h x (inl refl)) [
  | inl is ↦ elim (some_of xs ys a.1 b.1 (λ z i. rest is z i (h z (inr i)))) [
    | inl e ↦ inl (λ i. sym is i ∷ e i)
    | inr l ↦ inr (omega (arith, l))
  ]
  | inr later ↦ elim (some_of (x ∷ xs) ys a b.1 (λ z i. below later z i (h z i))) [
    | inl e ↦ inr (omega (arith, ap length e))
    | inr l ↦ inr (omega (arith, l))
  ]
]
  where
    rest : y ≡ x → (z : Numbered) → In z xs → (y ≡ z) ⊎ In z ys → In z ys
    rest is z i (inl same) = let lt = a.0 z i in let e = number_of y x is in let f = number_of y z same in absurd (omega arith)
    rest is z i (inr j) = j

    below : In x ys → (z : Numbered) → In z (x ∷ xs) → (y ≡ z) ⊎ In z ys → In z ys
    below later z i (inr j) = j
    below later z (inl here) (inl same) = let lt = b.0 x later in let e = number_of x z here in let f = number_of y z same in absurd (omega arith)
    below later z (inr i) (inl same) = let lt = b.0 x later in let more = a.0 z i in let f = number_of y z same in absurd (omega arith)

-- ---- elements that belong together
module _ (R : Numbered → Numbered → Type 0) (steady : (x y z w : Numbered) → R x y → R z w → x.0 < z.0 → y.0 < w.0) where
  abbrev Paired : List Numbered → List Numbered → Type 0
  Paired [] [] = Unit {0}
  Paired [] (y ∷ ys) = ⊥
  Paired (x ∷ xs) [] = ⊥
  Paired (x ∷ xs) (y ∷ ys) = R x y × Paired xs ys

  of_paired : (xs ys : List Numbered) → Paired xs ys → (y : Numbered) → In y ys → (x : Numbered) × In x xs × R x y
  of_paired [] [] h y i = absurd i
  of_paired [] (z ∷ ys) h y i = absurd h
  of_paired (x ∷ xs) [] h y i = absurd i
  of_paired (x ∷ xs) (z ∷ ys) h y (inl is) = (x, inl refl, subst (λ (w : Numbered). R x w) is h.0)
  of_paired (x ∷ xs) (z ∷ ys) h y (inr i) = let r = of_paired xs ys h.1 y i in (r.0, inr r.1, r.2)

  abbrev Chosen : List Numbered → List Numbered → Type 0
  Chosen xs ys = (zs : List Numbered) × Paired xs zs × AreOrdered zs × ((z : Numbered) → In z zs → In z ys) × (length zs ≡ length xs)

  choose : (xs ys : List Numbered) → AreOrdered xs → ((x : Numbered) → In x xs → (y : Numbered) × In y ys × R x y) → Chosen xs ys
  choose [] ys o h = ([], tt, tt, (λ z i. absurd i), refl)
  choose (x ∷ xs) ys o h =
      let y = h x (inl refl) in
      let more = choose xs ys o.1 (λ z i. h z (inr i)) in
      (y.0 ∷ more.0, (y.2, more.1), (above y.0 y.2 more.0 more.1, more.2), all y.0 y.1 more.0 more.3, ap suc more.4)
    where
      above : (y : Numbered) → R x y → (zs : List Numbered) → Paired xs zs → AreAbove y.0 zs
      above y r zs p z i = let u = of_paired xs zs p z i in steady x y u.0 z r u.2 (o.0 u.0 u.1)

      all : (y : Numbered) → In y ys → (zs : List Numbered) → ((z : Numbered) → In z zs → In z ys) → (z : Numbered) → In z (y ∷ zs) → In z ys
      all y i zs g z (inl is) = subst (λ (w : Numbered). In w ys) is i
      all y i zs g z (inr j) = g z j

  matched : (xs ys : List Numbered) → AreOrdered xs → AreOrdered ys → ((x : Numbered) → In x xs → (y : Numbered) × In y ys × R x y) → length ys ≡ length xs → Paired xs ys
  matched xs ys a b h l =
      let c = choose xs ys a h in
      elim (some_of c.0 ys c.2 b c.3) [
        | inl e ↦ subst (λ (zs : List Numbered). Paired xs zs) e c.1
        | inr less ↦ absurd (let m = c.4 in omega (arith, less))
      ]

-- ---- the clauses of a set
counted_from : (n : ℕ) (ks : List Clause) (k : Numbered) → In k (counted n ks) → n ≤ k.0
counted_from n [] k i = absurd i
counted_from n (x ∷ ks) k (inl is) = let e = number_of (n, x) k is in omega (arith, e)
counted_from n (x ∷ ks) k (inr i) = let l = counted_from (suc n) ks k i in omega arith

counted_ordered : (n : ℕ) (ks : List Clause) → AreOrdered (counted n ks)
counted_ordered n [] = tt
counted_ordered n (k ∷ ks) = ((λ x i. let l = counted_from (suc n) ks x i in omega arith), counted_ordered (suc n) ks)

filter_ordered : (t : Numbered → Bool) (xs : List Numbered) → AreOrdered xs → AreOrdered (filter t xs)
filter_ordered t [] o = tt
filter_ordered t (x ∷ xs) o = go (t x) (filter_ordered t xs o.1)
  where
    go : (b : Bool) → AreOrdered (filter t xs) → AreOrdered (cond b (x ∷ filter t xs) (filter t xs))
    go true more = ((λ z i. o.0 z (of-filter t xs z i).0), more)
    go false more = more

module _ (set : Pred → Bool) (p : Listing) where
  abbrev among : Numbered → Bool
  among k = is_in set (slice_get p.preds k.1.head.pred.0)

  in_order : AreOrdered (numbered_in set p)
  in_order = filter_ordered among (counted 1 p.clauses) (counted_ordered 1 p.clauses)

  count_from : (n : ℕ) (ks : List Clause) → length (filter among (counted n ks)) ≡ length (filter (λ (k : NamedClause). is_in set k.head.pred) (map (named p) ks))
  count_from n [] = refl
  count_from n (k ∷ ks) = go (is_in set (slice_get p.preds k.head.pred.0)) (count_from (suc n) ks)
    where
      go : (b : Bool) → length (filter among (counted (suc n) ks)) ≡ length (filter (λ (k : NamedClause). is_in set k.head.pred) (map (named p) ks))
          → length (cond b ((n, k) ∷ filter among (counted (suc n) ks)) (filter among (counted (suc n) ks)))
          ≡ length (cond b (named p k ∷ filter (λ (k : NamedClause). is_in set k.head.pred) (map (named p) ks)) (filter (λ (k : NamedClause). is_in set k.head.pred) (map (named p) ks)))
      go true more = ap suc more
      go false more = more

  pub how_many : length (numbered_in set p) ≡ length (clauses_in set p)
  how_many = count_from 1 p.clauses

  pub own_counted : (k : Numbered) → In k (numbered_in set p) → In k (counted 1 p.clauses)
  own_counted k i = (of-filter among (counted 1 p.clauses) k i).0

  pub own_first : (k : Numbered) → In k (numbered_in set p) → 1 ≤ k.0
  own_first k i = counted_from 1 p.clauses k (of-filter among (counted 1 p.clauses) k i).0

  pub own_place : (k : Numbered) → In k (numbered_in set p) → slice_get p.clauses (k.0 - 1) ≡ Some k.1
  own_place k i = at_number p.clauses k (of-filter among (counted 1 p.clauses) k i).0

  pub own_among : (k : Numbered) → In k (numbered_in set p) → among k ≡ true
  own_among k i = (of-filter among (counted 1 p.clauses) k i).1

  pub own_in : (n : ℕ) (k : Clause) → slice_get p.clauses n ≡ Some k → is_in set (slice_get p.preds k.head.pred.0) ≡ true → In (1 + n, k) (numbered_in set p)
  own_in n k e a = in-filter among (counted 1 p.clauses) (1 + n, k) a (in_counted_at 1 p.clauses n k e)

-- ---- all are kept
module _ (p new : Listing) (set : Pred → Bool) (kept : List (Option ℕ)) (are : AreKept p new kept) (order : IsIncreasing kept) (un : AreUntouched p new set) where
  -- a clause that was kept: the new one and the old one
  abbrev IsPair : Numbered → Numbered → Type 0
  IsPair l k = (1 ≤ l.0) × (1 ≤ k.0) × (slice_get kept (l.0 - 1) ≡ Some (Some k.0))

  as_many : length (numbered_in set new) ≡ length (numbered_in set p)
  as_many = how_many set new ∙ ap length un.same ∙ sym (how_many set p)

  same_head : (x y : Clause) → named p x ≡ named new y → slice_get p.preds x.head.pred.0 ≡ slice_get new.preds y.head.pred.0
  same_head x y e = ap (λ (z : NamedClause). z.head.pred) e

  -- forwards
  steady_new : (l k m n : Numbered) → IsPair l k → IsPair m n → l.0 < m.0 → k.0 < n.0
  steady_new l k m n a b lt = order (l.0 - 1) (m.0 - 1) k.0 n.0 (let u = a.0 in let v = b.0 in omega arith) a.2 b.2

  pair_of_new : NoneIsNew new set kept → (l : Numbered) → In l (numbered_in set new) → (k : Numbered) × In k (numbered_in set p) × IsPair l k
  pair_of_new none l i =
      let first = own_first set new l i in
      let at = own_place set new l i in
      let among = own_among set new l i in
      let j = none (l.0 - 1) l.1 at among in
      let was = are.same (l.0 - 1) j.0 l.1 j.1 at in
      let old_first = was.first in
      let old_among : is_in set (slice_get p.preds was.clause.head.pred.0) ≡ true = ap (is_in set) (same_head was.clause l.1 was.same) ∙ among in
      let number : 1 + (j.0 - 1) ≡ j.0 = omega arith in
      let here : In (j.0, was.clause) (numbered_in set p) = subst (λ (n : ℕ). In (n, was.clause) (numbered_in set p)) number (own_in set p (j.0 - 1) was.clause was.at old_among) in
      ((j.0, was.clause), here, (first, old_first, j.1))

  flipped : (ls ks : List Numbered) → Paired IsPair steady_new ls ks → ArePairs kept ks ls
  flipped [] [] h = tt
  flipped [] (k ∷ ks) h = absurd h
  flipped (l ∷ ls) [] h = absurd h
  flipped (l ∷ ls) (k ∷ ks) h = (h.0.2, flipped ls ks h.1)

  kept_if_none_is_new : NoneIsNew new set kept → AllKept p new set kept
  kept_if_none_is_new none =
      flipped (numbered_in set new) (numbered_in set p) (matched IsPair steady_new (numbered_in set new) (numbered_in set p) (in_order set new) (in_order set p) (pair_of_new none) (sym as_many))

  -- backwards
  abbrev IsPairBack : Numbered → Numbered → Type 0
  IsPairBack k l = IsPair l k

  steady_old : (k l n m : Numbered) → IsPairBack k l → IsPairBack n m → k.0 < n.0 → l.0 < m.0
  steady_old k l n m a b lt = go (cases_lt l.0 m.0)
    where
      cases_lt : (a b : ℕ) → (a < b) ⊎ ((a ≡ b) ⊎ (b < a))
      cases_lt zero zero = inr (inl refl)
      cases_lt zero (suc b) = inl (omega arith)
      cases_lt (suc a) zero = inr (inr (omega arith))
      cases_lt (suc a) (suc b) = elim (cases_lt a b) [
        | inl l ↦ inl (omega (arith, l))
        | inr r ↦ elim r [ inl e ↦ inr (inl (ap suc e)) | inr g ↦ inr (inr (omega (arith, g))) ]
      ]

      go : (l.0 < m.0) ⊎ ((l.0 ≡ m.0) ⊎ (m.0 < l.0)) → l.0 < m.0
      go (inl less) = less
      go (inr (inl same)) =
          let e : slice_get kept (l.0 - 1) ≡ Some (Some n.0) = ap (λ (i : ℕ). slice_get kept (i - 1)) same ∙ b.2 in
          let f = a.2 in
          let is : k.0 ≡ n.0 = cc in
          absurd (omega arith)
      go (inr (inr more)) =
          let less = order (m.0 - 1) (l.0 - 1) n.0 k.0 (let u = a.0 in let v = b.0 in omega arith) b.2 a.2 in
          absurd (omega arith)

  pair_of_old : NoneIsLost p set kept → (k : Numbered) → In k (numbered_in set p) → (l : Numbered) × In l (numbered_in set new) × IsPairBack k l
  pair_of_old none k i =
      let first = own_first set p k i in
      let at = own_place set p k i in
      let among = own_among set p k i in
      let n = none (k.0 - 1) k.1 at among in
      let number : suc (k.0 - 1) ≡ k.0 = omega arith in
      let kept_as : slice_get kept n.0 ≡ Some (Some k.0) = n.1 ∙ ap (λ (m : ℕ). Some (Some m)) number in
      let lt : n.0 < length new.clauses = (let l = place_below kept n.0 (Some k.0) kept_as in let each = are.each in omega arith) in
      let y = slice_index_or new.clauses n.0 k.1 in
      let new_at : slice_get new.clauses n.0 ≡ Some y = there new.clauses n.0 k.1 lt in
      let was = are.same n.0 k.0 y kept_as new_at in
      let old_at = was.at in
      let clause : was.clause ≡ k.1 = cc in
      let new_among : is_in set (slice_get new.preds y.head.pred.0) ≡ true =
      ap (is_in set) (sym (same_head was.clause y was.same)) ∙ ap (λ (x : Clause). is_in set (slice_get p.preds x.head.pred.0)) clause ∙ among in
      let back : 1 + n.0 - 1 ≡ n.0 = omega arith in
      ((1 + n.0, y), own_in set new n.0 y new_at new_among, (omega arith, first, ap (slice_get kept) back ∙ kept_as))

  as_pairs : (ks ls : List Numbered) → Paired IsPairBack steady_old ks ls → ArePairs kept ks ls
  as_pairs [] [] h = tt
  as_pairs [] (l ∷ ls) h = absurd h
  as_pairs (k ∷ ks) [] h = absurd h
  as_pairs (k ∷ ks) (l ∷ ls) h = (h.0.2, as_pairs ks ls h.1)

  kept_if_none_is_lost : NoneIsLost p set kept → AllKept p new set kept
  kept_if_none_is_lost none =
      as_pairs (numbered_in set p) (numbered_in set new) (matched IsPairBack steady_old (numbered_in set p) (numbered_in set new) (in_order set p) (in_order set new) (pair_of_old none) as_many)

pub untouched_are_kept : UntouchedAreKept
untouched_are_kept p new set kept are order un (inl none) = kept_if_none_is_new p new set kept are order un none
untouched_are_kept p new set kept are order un (inr none) = kept_if_none_is_lost p new set kept are order un none

pub one_edit_keeps_untouched : OneEditKeepsUntouched
one_edit_keeps_untouched p new set kept are order un (inl total) =
    kept_if_none_is_new p new set kept are order un (λ i y e among. total i (let l = place_below new.clauses i y e in let each = are.each in omega arith))
one_edit_keeps_untouched p new set kept are order un (inr onto) =
    kept_if_none_is_lost p new set kept are order un (λ j x e among. onto j (place_below p.clauses j x e))
