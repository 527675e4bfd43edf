-- Supports of a large component without one position after another.
use Rattle.std.proofs.Common.{◌≡◌, ◌↔◌, ◌⊎◌, inl, inr, ℕ, zero, suc, ◌+◌, ◌<◌, ◌≤◌, ℤ, Bool, true, false, not, if◌then◌else◌, IsTrue, List, [], ◌∷◌, ◌++◌, take, slice_get, length, None, Some, refl, ap, sym, subst, ◌∙◌, arith, eq-eqb, eqb-true}
use Rattle.std.specs.Prelude.{nat_eq}
use Rattle.cti_terms.specs.Listing.{Listing}
use Rattle.cti_terms.specs.Tree.{Tree}
use Rattle.call_components.specs.Partition.{Partition}
use Rattle.linear_rows.specs.Members.{In}
use Rattle.linear_rows.proofs.Members.{in-left, in-right, of-append}
use Rattle.termination_model.specs.mappings.ComponentViews.{HasSupportIn, positions_in}
use Rattle.termination_model.specs.grounds.Minimal.{IsExcluded, IsSet}
use Rattle.termination_model.specs.grounds.Modes.{is_part}
use Rattle.termination_model.proofs.Lists.{taken_more}
use Rattle.termination_model.proofs.Sets.{to_part}
use Rattle.level_systems.specs.Found.{IsBlownSet, IsFound, count, without_number}
use Rattle.level_dual.specs.Large.{AreTried, IsHadMapping, IsLeftOut}
use Rattle.level_systems.specs.Mappings.{support_of}
use Rattle.level_systems.specs.Subsequences.{AreOnce}
use Rattle.level_dual.specs.declared.large.LeftOut.TheVariants.{None as NoneLeft}
use Rattle.level_systems.specs.declared.mapping.Mapping.{Mapping}
use Rattle.level_dual.proofs.Subsequences.{once_push}

pub without_not : (i : ℕ) (s : List ℕ) → In i (without_number i s) → ⊥
without_not i [] h = h
without_not i (y ∷ s) h = go (nat_eq i y) refl h (without_not i s)
  where
    go : (b : Bool) → nat_eq i y ≡ b → In i (if not b then y ∷ without_number i s else without_number i s) → (In i (without_number i s) → ⊥) → ⊥
    go true e k rec = rec k
    go false e (inl q) rec = let yes : nat_eq i y ≡ true = eq-eqb i y (sym q) in cc
    go false e (inr k) rec = rec k

pub without_in : (i : ℕ) (s : List ℕ) (x : ℕ) → In x s → (i ≡ x → ⊥) → In x (without_number i s)
without_in i [] x h n = h
without_in i (y ∷ s) x h n = go (nat_eq i y) refl h (λ k. without_in i s x k n)
  where
    go : (b : Bool) → nat_eq i y ≡ b → (y ≡ x) ⊎ In x s → (In x s → In x (without_number i s)) → In x (if not b then y ∷ without_number i s else without_number i s)
    go true e (inl q) rec = absurd (n (eqb-true i y e ∙ q))
    go true e (inr k) rec = rec k
    go false e (inl q) rec = inl q
    go false e (inr k) rec = inr (rec k)

-- ---- a list that has each element once is no longer than one that has them all
without_short : (i : ℕ) (s : List ℕ) → length (without_number i s) ≤ length s
without_short i [] = omega arith
without_short i (y ∷ s) = go (nat_eq i y) (without_short i s)
  where
    go : (b : Bool) → length (without_number i s) ≤ length s → length (if not b then y ∷ without_number i s else without_number i s) ≤ suc (length s)
    go true l = omega (arith, l)
    go false l = omega (arith, l)

without_shorter : (i : ℕ) (s : List ℕ) → In i s → length (without_number i s) < length s
without_shorter i [] h = absurd h
without_shorter i (y ∷ s) h = go (nat_eq i y) refl h (without_short i s) (without_shorter i s)
  where
    go : (b : Bool) → nat_eq i y ≡ b → (y ≡ i) ⊎ In i s → length (without_number i s) ≤ length s → (In i s → length (without_number i s) < length s) → length (if not b then y ∷ without_number i s else without_number i s) < suc (length s)
    go true e k l rec = omega (arith, l)
    go false e (inl q) l rec = let yes : nat_eq i y ≡ true = eq-eqb i y (sym q) in cc
    go false e (inr k) l rec = let r = rec k in omega (arith, r)

once_short : (xs ys : List ℕ) → AreOnce xs → ((z : ℕ) → In z xs → In z ys) → length xs ≤ length ys
once_short [] ys once sub = omega arith
once_short (x ∷ xs) ys once sub =
    let rest = once_short xs (without_number x ys) once.1 (λ z i. without_in x ys z (sub z (inr i)) (λ e. once.0 (subst (λ k. In k xs) (sym e) i))) in
    let less = without_shorter x ys (sub x (inl refl)) in
    omega (arith, rest, less)

-- what is part of a set without one number is shorter
pub part_without : (i : ℕ) (s u : List ℕ) → In i s → AreOnce u → is_part u (without_number i s) ≡ true → length u < length s
part_without i s u there once part =
    let short = once_short u (without_number i s) once (to_part u (without_number i s) part) in
    let less = without_shorter i s there in
    omega (arith, short, less)

pub place_in : {X : Type 0} (xs : List X) (k : ℕ) (x : X) → slice_get xs k ≡ Some x → In x xs
place_in [] k x e = cc
place_in (y ∷ xs) zero x e = inl cc
place_in (y ∷ xs) (suc k) x e = inr (place_in xs k x e)

pub taken_in : {X : Type 0} (xs : List X) (k : ℕ) (x : X) → In x (take k xs) → In x xs
taken_in xs zero x i = absurd i
taken_in [] (suc k) x i = absurd i
taken_in (y ∷ xs) (suc k) x (inl e) = inl e
taken_in (y ∷ xs) (suc k) x (inr i) = inr (taken_in xs k x i)

pub not_before : {X : Type 0} (xs : List X) (k : ℕ) (x : X) → AreOnce xs → slice_get xs k ≡ Some x → In x (take k xs) → ⊥
not_before xs zero x o e i = i
not_before [] (suc k) x o e i = i
not_before (y ∷ xs) (suc k) x o e (inl s) = o.0 (subst (λ z. In z xs) (sym s) (place_in xs k x e))
not_before (y ∷ xs) (suc k) x o e (inr i) = not_before xs k x o.1 e i

pub take_whole : {X : Type 0} (xs : List X) (n : ℕ) → length xs ≤ n → take n xs ≡ xs
take_whole [] zero h = refl
take_whole [] (suc n) h = refl
take_whole (x ∷ xs) zero h = absurd (omega arith)
take_whole (x ∷ xs) (suc n) h = ap (λ l. x ∷ l) (take_whole xs n (omega arith))

at_least : (lo hi : ℕ) (s : List ℕ) → IsSet lo hi s → (x : ℕ) → In x s → lo ≤ x
at_least lo hi [] h x i = absurd i
at_least lo hi (y ∷ s) h x (inl e) = let a = h.0 in omega (arith, a, e)
at_least lo hi (y ∷ s) h x (inr i) = let r = at_least (suc y) hi s h.2 x i in let a = h.0 in omega (arith, a, r)

pub set_once : (lo hi : ℕ) (s : List ℕ) → IsSet lo hi s → AreOnce s
set_once lo hi [] h = tt
set_once lo hi (y ∷ s) h = ((λ i. let r = at_least (suc y) hi s h.2 y i in omega (arith, r)), set_once (suc y) hi s h.2)

set_lower : (lo low hi : ℕ) (s : List ℕ) → low ≤ lo → IsSet lo hi s → IsSet low hi s
set_lower lo low hi [] l h = tt
set_lower lo low hi (y ∷ s) l h = let a = h.0 in (omega (arith, a, l), h.1, h.2)

-- a set is no part of itself without one of its numbers
pub not_within : (i : ℕ) (s : List ℕ) → In i s → is_part s (without_number i s) ≡ true → ⊥
not_within i s h part = without_not i s (to_part s (without_number i s) part i h)

-- a set without a number is one
pub without_set : (lo hi i : ℕ) (s : List ℕ) → IsSet lo hi s → IsSet lo hi (without_number i s)
without_set lo hi i [] h = tt
without_set lo hi i (y ∷ s) h = let a = h.0 in go (nat_eq i y) (without_set (suc y) hi i s h.2)
  where
    go : (b : Bool) → IsSet (suc y) hi (without_number i s) → IsSet lo hi (if not b then y ∷ without_number i s else without_number i s)
    go true rec = let a = h.0 in set_lower (suc y) lo hi (without_number i s) (omega (arith, a)) rec
    go false rec = (h.0, h.1, rec)

module _ (expression : ℕ → Tree → List ℤ) (p : Listing) (comps : Partition) (rows : ℕ → List (List ℤ)) (c : ℕ) where
  abbrev has : List ℕ → Type 0
  has = HasSupportIn expression p comps rows c

  pub none_tried : (s : List ℕ) → AreTried expression p comps rows c s 0 []
  none_tried s = record { tried = λ i k. absurd k; tested = λ t k. absurd k; given_up = λ t k. absurd k; once = tt }

  module _ (s : List ℕ) (k i : ℕ) (at : slice_get s k ≡ Some i) (blown : List (List ℕ)) (h : AreTried expression p comps rows c s k blown) where
    one_more : (j : ℕ) → In j (take (k + 1) s) → In j (take k s) ⊎ (i ≡ j)
    one_more j m = elim (of-append (take k s) (i ∷ []) j (subst (In j) (taken_more s k i at) m)) [
      | inl old ↦ inl old
      | inr new ↦ elim new [ inl e ↦ inr e | inr none ↦ absurd none ]
    ]

    old_more : (j : ℕ) → In j (take k s) → In j (take (k + 1) s)
    old_more j m = subst (In j) (sym (taken_more s k i at)) (in-left (take k s) (i ∷ []) j m)

    new_more : In i (take (k + 1) s)
    new_more = subst (In i) (sym (taken_more s k i at)) (in-right (take k s) (i ∷ []) i (inl refl))

    pub excluded_too : IsExcluded has (without_number i s) → AreTried expression p comps rows c s (k + 1) blown
    excluded_too e = record {
      tried = λ j m. elim (one_more j m) [
        | inl old ↦ h.tried j old
        | inr same ↦ inr (subst (λ n. IsExcluded has (without_number n s)) same e)
      ];
      tested = λ t m. let w = h.tested t m in (w.0, old_more w.0 w.1, w.2);
      given_up = h.given_up;
      once = h.once;
    }

    not_yet : AreOnce s → In (without_number i s) blown → ⊥
    not_yet once m =
        let w = h.tested (without_number i s) m in
        let differ : w.0 ≡ i → ⊥ = λ e. not_before s k i once at (subst (λ n. In n (take k s)) e w.1) in
        without_not i s (subst (In i) (sym w.2) (without_in w.0 s i (place_in s k i at) differ))

    pub given_up_too : AreOnce s → IsBlownSet expression p comps rows c (without_number i s) → AreTried expression p comps rows c s (k + 1) (blown ++ without_number i s ∷ [])
    given_up_too once here = record {
      tried = λ j m. elim (one_more j m) [
        | inl old ↦ elim (h.tried j old) [ inl b ↦ inl (in-left blown (without_number i s ∷ []) (without_number j s) b) | inr e ↦ inr e ]
        | inr same ↦ inl (in-right blown (without_number i s ∷ []) (without_number j s) (inl (ap (λ n. without_number n s) same)))
      ];
      tested = λ t m. elim (of-append blown (without_number i s ∷ []) t m) [
        | inl old ↦ let w = h.tested t old in (w.0, old_more w.0 w.1, w.2)
        | inr new ↦ elim new [ inl e ↦ (i, new_more, sym e) | inr none ↦ absurd none ]
      ];
      given_up = λ t m. elim (of-append blown (without_number i s ∷ []) t m) [
        | inl old ↦ h.given_up t old
        | inr (inl e) ↦ subst (IsBlownSet expression p comps rows c) e here
        | inr (inr none) ↦ absurd none
      ];
      once = once_push blown (without_number i s) h.once (not_yet once);
    }

  pub all_tried : (s : List ℕ) (k : ℕ) (blown : List (List ℕ)) → length s ≤ k → AreTried expression p comps rows c s k blown → IsLeftOut expression p comps rows c s (NoneLeft blown)
  all_tried s k blown l h = ((λ i m. h.tried i (subst (In i) (sym (take_whole s k l)) m)), h.given_up, h.once, λ t m. let w = h.tested t m in (w.0, w.2, taken_in s k w.0 w.1))

  -- what is found where no position can be left out
  pub large_found : IsTrue true ↔ (12 < count expression p comps rows c) → (m : Mapping) → IsHadMapping expression p comps rows c m → (blown : List (List ℕ))
      → IsLeftOut expression p comps rows c (support_of (positions_in p comps c) m) (NoneLeft blown)
      → IsSet 1 (suc (count expression p comps rows c)) (support_of (positions_in p comps c) m)
      → IsFound expression p comps rows c (record { mappings = m ∷ []; refutation = None; blown = blown; large = true })
  large_found large m had blown left set = record {
    large = large;
    mappings = (had.0.mapping, tt);
    at = (had.0.at, tt);
    falling = (had.0.falling, tt);
    small = λ e. cc;
    more = λ _. record {
      few = omega arith;
      decreases = λ s i. elim i [ inl e ↦ subst has e had.1 | inr none ↦ absurd none ];
      needed = λ s i j k. elim i [
        | inl e ↦ subst (λ t. In (without_number j t) blown ⊎ IsExcluded has (without_number j t)) e (left.0 j (subst (In j) (sym e) k))
        | inr none ↦ absurd none
      ];
      left_out = λ s i t j. elim i [
        | inl e ↦ subst (λ (u : List ℕ). (k : ℕ) × In k u × (t ≡ without_number k u)) e (let w = left.3 t j in (w.0, w.2, w.1))
        | inr none ↦ absurd none
      ];
      decided = inl (omega arith);
    };
    refuted = ((λ k. absurd (k refl)), λ k. absurd (k.0 (support_of (positions_in p comps c) m) had.1));
    shown = λ r e. cc;
    sets = λ t i. let w = left.3 t i in subst (IsSet 1 (suc (count expression p comps rows c))) (sym w.1) (without_set 1 (suc (count expression p comps rows c)) w.0 (support_of (positions_in p comps c) m) set);
    given_up = left.1;
    once = left.2;
    apart = λ t i above. elim above.1 [
      | inl e ↦ let w = left.3 t i in not_within w.0 (support_of (positions_in p comps c) m) (w.2) (subst (λ (u : List ℕ). is_part (support_of (positions_in p comps c) m) u ≡ true) w.1 (subst (λ (u : List ℕ). is_part u t ≡ true) (sym e) above.2))
      | inr none ↦ absurd none
    ];
  }
