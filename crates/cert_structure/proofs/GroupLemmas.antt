-- Points that a fact begins, where facts of either kind of certificate list them so: what is read is listed so, and
-- what is listed so is read.
use Rattle.std.proofs.Common.{◌≡◌, ℕ, zero, suc, ◌≤◌, Bool, true, false, ◌&&◌, ◌==◌, if◌then◌else◌, List, [], ◌∷◌, ◌++◌, length, Option, Some, None, Ok, refl, ap, sym, ◌∙◌, arith, eqb-true, eq-eqb, append_assoc}
use Rattle.std.proofs.lemmas.Bool.{and_parts}
use Rattle.std.specs.List.{AllByRecursion}
use Rattle.call_components.specs.Partition.{Partition}
use Rattle.certificate.specs.declared.pred_text.PredText.{PredText}
use Rattle.cti_terms.specs.Listing.{Listing}
use Rattle.number_tests.specs.declared.pair_point.PairPoint.{PairPoint}
use Rattle.number_tests.specs.declared.refutation.Refutation.{Refutation}
use Rattle.fact_reading.specs.Numbered.{facts_from}
use Rattle.cert_structure.specs.Order.{pred_text, counted_points}
use Rattle.cert_structure.specs.Shape.{items_of, first_of, is_recursive, IsBefore, place_of_pair, PairsAscend, HasPoints, IsOpen}
use Rattle.cert_structure.specs.SharedFacts.{Shared}
use Rattle.cert_structure.specs.Walk.{ReadsPoint, read_points, points_read, is_open, shared_refuted, group_by, refutation_by}
use Rattle.fact_reading.specs.Walk.{Taken, result_map, with_first}
use Rattle.fact_reading.proofs.SectionLemmas.{same_ok, err_ok, bound, mapped, IsTaken, IsBack}

pub open_is : {A : Type 0} (comps : Partition) (levels : List (List A)) (a : ℕ) → is_open comps levels a ≡ true → IsOpen comps levels a
open_is comps levels a e =
    let (one, more) = and_parts (is_recursive comps a) ((first_of comps a == a) && (length (items_of levels a) == 0)) e in
    let (two, three) = and_parts (first_of comps a == a) (length (items_of levels a) == 0) more in
    record { recursive = one; first = eqb-true (first_of comps a) a two; none = eqb-true (length (items_of levels a)) 0 three }

pub open_back : {A : Type 0} (comps : Partition) (levels : List (List A)) (a : ℕ) → IsOpen comps levels a → is_open comps levels a ≡ true
open_back comps levels a h = rw (h.recursive, eq-eqb (first_of comps a) a h.first, eq-eqb (length (items_of levels a)) 0 h.none) refl

-- points as they stand, whatever the component
abbrev IsGroup : (PairPoint → Type 0) → Option Refutation → Type 0
IsGroup IsRight None = Unit {0}
IsGroup IsRight (Some r) = (1 ≤ length r.points) × PairsAscend (0, 0) r.points × AllByRecursion IsRight r.points

module _ {F : Type 0} (look : F → Shared) (count : PredText → ℕ → F) (facts : PairPoint → List F) (IsRight : PairPoint → Type 0) (point : ReadsPoint F) where
  abbrev as_refutation : List PairPoint × List F → Option Refutation × List F
  as_refutation x = (Some (record { points = x.0 }), x.1)

  module _ (taken : (pred : PredText) → IsTaken (λ i f. shared_refuted pred i (look f)) (λ _ n. count pred n) (λ n. 1 ≤ n))
      (sound : (last : ℕ × ℕ) (s t : List F) (y : PairPoint) → point last s ≡ Ok (y, t) → (s ≡ facts y ++ t) × IsBefore last (place_of_pair y) × IsRight y) where
    points_sound : (n : ℕ) (last : ℕ × ℕ) (i : ℕ) (s t : List F) (xs : List PairPoint) → read_points point last n s ≡ Ok (xs, t)
        → (s ≡ facts_from i (λ _ x. facts x) xs ++ t) × (length xs ≡ n) × PairsAscend last xs × AllByRecursion IsRight xs
    unfolding read_points
    points_sound zero last i s t xs e =
        let both : ([], s) ≡ (xs, t) = same_ok _ _ e in
        let first : [] ≡ xs = ap (λ q. q.0) both in
        let rest : s ≡ t = ap (λ q. q.1) both in
        rw (← first, ← rest) (refl, refl, tt, tt)
    points_sound (suc n) last i s t xs e =
        bound (λ x. result_map (with_first x.0) (read_points point (x.0.clause, x.0.call) n x.1)) (point last s) (xs, t) e λ q read more.
        mapped (with_first q.0) (read_points point (q.0.clause, q.0.call) n q.1) (xs, t) more λ r here both.
        let (one, before, right) = sound last s q.1 q.0 read in
        let (others, count, ascend, all) = points_sound n (q.0.clause, q.0.call) (suc i) q.1 r.1 r.0 here in
        let first : q.0 ∷ r.0 ≡ xs = ap (λ z. z.0) both in
        let rest : r.1 ≡ t = ap (λ z. z.1) both in
        rw (← first, ← rest)
        (one ∙ ap (λ u. facts q.0 ++ u) others ∙ sym (append_assoc (facts q.0) (facts_from (suc i) (λ _ x. facts x) r.0) r.1), ap suc count, (before, ascend), (right, all))

    group_sound : (pred : PredText) (s t : List F) (o : Option Refutation) → group_by look point pred s ≡ Ok (o, t)
        → (s ≡ counted_points (count pred) (λ _ x. facts x) o ++ t) × IsGroup IsRight o
    unfolding group_by
    group_sound pred [] t o e =
        let both : (None, []) ≡ (o, t) = same_ok _ _ e in
        let first : None ≡ o = ap (λ q. q.0) both in
        let rest : [] ≡ t = ap (λ q. q.1) both in
        rw (← first, ← rest) (refl, tt)
    group_sound pred (f ∷ s) t o e = go (shared_refuted pred 0 (look f)) refl e
      where
        go : (c : Taken ℕ) → shared_refuted pred 0 (look f) ≡ c → points_read (λ n. read_points point (0, 0) n s) f s c ≡ Ok (o, t)
            → (f ∷ s ≡ counted_points (count pred) (λ _ x. facts x) o ++ t) × IsGroup IsRight o
        go None is read = err_ok _ (o, t) read
        go (Some None) is read =
            let both : (None, f ∷ s) ≡ (o, t) = same_ok _ _ read in
            let first : None ≡ o = ap (λ q. q.0) both in
            let rest : f ∷ s ≡ t = ap (λ q. q.1) both in
            rw (← first, ← rest) (refl, tt)
        go (Some (Some n)) is read =
            mapped as_refutation (read_points point (0, 0) n s) (o, t) read λ q here both.
            let (begins, some) = taken pred 0 f n is in
            let (others, many, ascend, all) = points_sound n (0, 0) 0 s q.1 q.0 here in
            let first : Some (record { points = q.0 }) ≡ o = ap (λ z. z.0) both in
            let rest : q.1 ≡ t = ap (λ z. z.1) both in
            rw (← first, ← rest) (rw (begins, others, ← many) refl, (rw (← many) at some, ascend, all))

    module _ {A : Type 0} (p : Listing) (names : List (List ℕ)) (comps : Partition) (levels : List (List A)) (a : ℕ) where
      pub refutation_sound : (s t : List F) (o : Option Refutation) → refutation_by look point p names comps levels a s ≡ Ok (o, t)
          → (s ≡ counted_points (count (pred_text p names a)) (λ _ x. facts x) o ++ t) × HasPoints IsRight comps levels a o
      unfolding refutation_by
      refutation_sound s t o e = go (is_open comps levels a) refl e
        where
          shaped : (o : Option Refutation) → is_open comps levels a ≡ true → IsGroup IsRight o → HasPoints IsRight comps levels a o
          shaped None opened h = tt
          shaped (Some r) opened h = (open_is comps levels a opened, h.0, h.1, h.2)

          go : (b : Bool) → is_open comps levels a ≡ b → (if b then group_by look point (pred_text p names a) s else Ok (None, s)) ≡ Ok (o, t)
              → (s ≡ counted_points (count (pred_text p names a)) (λ _ x. facts x) o ++ t) × HasPoints IsRight comps levels a o
          go true opened read = let (whole, right) = group_sound (pred_text p names a) s t o read in (whole, shaped o opened right)
          go false opened read =
              let both : (None, s) ≡ (o, t) = same_ok _ _ read in
              let first : None ≡ o = ap (λ q. q.0) both in
              let rest : s ≡ t = ap (λ q. q.1) both in
              rw (← first, ← rest) (refl, tt)

  module _ (given : (pred : PredText) → IsBack (λ i f. shared_refuted pred i (look f)) (λ _ n. count pred n) (λ n. 1 ≤ n))
      (back : (last : ℕ × ℕ) (y : PairPoint) (t : List F) → IsBefore last (place_of_pair y) → IsRight y → point last (facts y ++ t) ≡ Ok (y, t)) where
    points_given : (n : ℕ) (last : ℕ × ℕ) (i : ℕ) (xs : List PairPoint) (t : List F) → length xs ≡ n → PairsAscend last xs → AllByRecursion IsRight xs
        → read_points point last n (facts_from i (λ _ x. facts x) xs ++ t) ≡ Ok (xs, t)
    unfolding read_points
    points_given zero last i [] t many ascend all = refl
    points_given zero last i (x ∷ xs) t many ascend all = absurd (omega (arith, many))
    points_given (suc n) last i [] t many ascend all = absurd (omega (arith, many))
    points_given (suc n) last i (x ∷ xs) t many ascend all =
        rw (
          append_assoc (facts x) (facts_from (suc i) (λ _ x. facts x) xs) t,
          back last x (facts_from (suc i) (λ _ x. facts x) xs ++ t) ascend.0 all.0,
          points_given n (place_of_pair x) (suc i) xs t (omega (arith, many)) ascend.1 all.1,
        ) refl

    group_given : (pred : PredText) (t : List F) (o : Option Refutation) → IsGroup IsRight o → AllByRecursion (λ f. shared_refuted pred 0 (look f) ≡ Some None) t
        → group_by look point pred (counted_points (count pred) (λ _ x. facts x) o ++ t) ≡ Ok (o, t)
    unfolding group_by
    group_given pred [] None h others = refl
    group_given pred (f ∷ t) None h others = rw others.0 refl
    group_given pred t (Some r) h others =
        rw (given pred 0 (length r.points) h.0, points_given (length r.points) (0, 0) 0 r.points t refl h.1 h.2) refl

    module _ {A : Type 0} (p : Listing) (names : List (List ℕ)) (comps : Partition) (levels : List (List A)) (a : ℕ) where
      pub refutation_given : (t : List F) (o : Option Refutation) → HasPoints IsRight comps levels a o
          → AllByRecursion (λ f. shared_refuted (pred_text p names a) 0 (look f) ≡ Some None) t
          → refutation_by look point p names comps levels a (counted_points (count (pred_text p names a)) (λ _ x. facts x) o ++ t) ≡ Ok (o, t)
      unfolding refutation_by
      refutation_given t None h others = go (is_open comps levels a)
        where
          go : (b : Bool) → (if b then group_by look point (pred_text p names a) t else Ok (None, t)) ≡ Ok (None, t)
          go true = group_given (pred_text p names a) t None tt others
          go false = refl
      refutation_given t (Some r) h others = rw (open_back comps levels a h.0, group_given (pred_text p names a) t (Some r) (h.1, h.2, h.3) others) refl
