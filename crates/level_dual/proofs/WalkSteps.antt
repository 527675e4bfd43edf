-- The walk finds each minimal set.
use Rattle.std.proofs.Common.{◌≡◌, ℕ, zero, suc, ◌<◌, ◌≤◌, ◌⊎◌, inl, inr, true, List, [], ◌∷◌, ◌++◌, length, take, slice_get, Some, refl, ap, sym, subst, arith}
use Rattle.linear_rows.specs.Members.{In}
use Rattle.linear_rows.proofs.Members.{in-left, in-right, of-append}
use Rattle.level_systems.specs.Subsequences.{IsSubsequence}
use Rattle.termination_model.specs.grounds.Modes.{is_part, chosen_up_to}
use Rattle.termination_model.specs.grounds.Minimal.{IsSet, IsAbove, IsExcluded, IsMinimal, FindsMinimal}
use Rattle.level_dual.specs.Walk.{IsSettled, IsWalked, WalkSteps}
use Rattle.level_dual.proofs.Subsequences.{in_whole}
use Rattle.termination_model.proofs.Sets.{part_self, part_trans, to_part, part_same, each_set_in, earlier, in_place, one_taken, up_to_set}

above_part : (list : List (List ℕ)) (t s : List ℕ) → is_part t s ≡ true → IsAbove list t → IsAbove list s
above_part list t s p (f, i, q) = (f, i, part_trans f t s q p)

above_more : (list : List (List ℕ)) (x s : List ℕ) → IsAbove list s → IsAbove (list ++ x ∷ []) s
above_more list x s (f, i, q) = (f, in-left list (x ∷ []) f i, q)

above_new : (list : List (List ℕ)) (s : List ℕ) → IsAbove (list ++ s ∷ []) s
above_new list s = (s, in-right list (s ∷ []) s (inl refl), part_self s)

-- ---- what was taken
a_place : {X : Type 0} (xs : List X) (x : X) → In x xs → (j : ℕ) × (slice_get xs j ≡ Some x)
a_place [] x h = absurd h
a_place (y ∷ xs) x (inl e) = (0, ap Some e)
a_place (y ∷ xs) x (inr h) = let r = a_place xs x h in (suc r.0, r.1)

taken_before : {X : Type 0} (xs : List X) (i j : ℕ) (x : X) → slice_get (take i xs) j ≡ Some x → (j < i) × (slice_get xs j ≡ Some x)
taken_before xs zero j x e = cc
taken_before [] (suc i) j x e = cc
taken_before (y ∷ xs) (suc i) zero x e = (omega arith, e)
taken_before (y ∷ xs) (suc i) (suc j) x e = let r = taken_before xs i j x e in let less = r.0 in (omega arith, r.1)

taken_less : {X : Type 0} (xs : List X) (j i : ℕ) (x : X) → j < i → In x (take j xs) → In x (take i xs)
taken_less xs zero i x l h = absurd h
taken_less [] (suc j) i x l h = absurd h
taken_less (y ∷ xs) (suc j) zero x l h = absurd (omega arith)
taken_less (y ∷ xs) (suc j) (suc i) x l (inl e) = inl e
taken_less (y ∷ xs) (suc j) (suc i) x l (inr h) = inr (taken_less xs j i x (omega arith) h)

module _ (n : ℕ) (Has : List ℕ → Type 0) (sets : (s : List ℕ) → Has s → IsSet 1 (suc n) s) where
  abbrev order : List (List ℕ)
  order = chosen_up_to n n

  -- one more set is settled
  more_settled : (i : ℕ) (s : List ℕ) (found blown more less : List (List ℕ)) → slice_get order i ≡ Some s
      → ((t : List ℕ) → IsSettled Has found blown t → IsSettled Has more less t) → IsWalked Has (take i order) found blown → IsSettled Has more less s
      → (t : List ℕ) → In t (take (suc i) order) → IsSettled Has more less t
  more_settled i s found blown more less at grow w here t h = elim (one_taken order i s t at h) [
    | inl k ↦ grow t (w.settled t k)
    | inr e ↦ subst (IsSettled Has more less) (sym e) here
  ]

  skipped_set : (s : List ℕ) (found blown : List (List ℕ)) → IsAbove found s ⊎ IsAbove blown s → IsSettled Has found blown s
  skipped_set s found blown h = inr h

  skip : (i : ℕ) (s : List ℕ) (found blown : List (List ℕ)) → slice_get order i ≡ Some s
      → IsWalked Has (take i order) found blown → IsAbove found s ⊎ IsAbove blown s → IsWalked Has (take (suc i) order) found blown
  skip i s found blown at w h = record { settled = more_settled i s found blown found blown at (λ t k. k) w (inr h); minimal = w.minimal }

  refute : (i : ℕ) (s : List ℕ) (found blown : List (List ℕ)) → slice_get order i ≡ Some s
      → IsWalked Has (take i order) found blown → IsExcluded Has s → IsWalked Has (take (suc i) order) found blown
  refute i s found blown at w h = record { settled = more_settled i s found blown found blown at (λ t k. k) w (inl h); minimal = w.minimal }

  grow_blown : (s : List ℕ) (found blown : List (List ℕ)) (t : List ℕ) → IsSettled Has found blown t → IsSettled Has found (blown ++ s ∷ []) t
  grow_blown s found blown t (inl e) = inl e
  grow_blown s found blown t (inr (inl a)) = inr (inl a)
  grow_blown s found blown t (inr (inr a)) = inr (inr (above_more blown s t a))

  grow_found : (s : List ℕ) (found blown : List (List ℕ)) (t : List ℕ) → IsSettled Has found blown t → IsSettled Has (found ++ s ∷ []) blown t
  grow_found s found blown t (inl e) = inl e
  grow_found s found blown t (inr (inl a)) = inr (inl (above_more found s t a))
  grow_found s found blown t (inr (inr a)) = inr (inr a)

  give_up : (i : ℕ) (s : List ℕ) (found blown : List (List ℕ)) → slice_get order i ≡ Some s
      → IsWalked Has (take i order) found blown → IsWalked Has (take (suc i) order) found (blown ++ s ∷ [])
  give_up i s found blown at w = record {
    settled = more_settled i s found blown found (blown ++ s ∷ []) at (grow_blown s found blown) w (inr (inr (above_new blown s)));
    minimal = w.minimal;
  }

  -- a smaller part that is had was passed, and so was settled
  no_smaller : (i : ℕ) (s u : List ℕ) (found blown : List (List ℕ)) → slice_get order i ≡ Some s
      → IsWalked Has (take i order) found blown → (IsAbove found s → ⊥) → (IsAbove blown s → ⊥) → is_part u s ≡ true → Has u → length u < length s → ⊥
  no_smaller i s u found blown at w nf nb p h l = elim (w.settled u (earlier n n i s u at (sets u h) l)) [
    | inl ex ↦ ex u (part_self u) h
    | inr a ↦ elim a [ inl f ↦ nf (above_part found u s p f) | inr b ↦ nb (above_part blown u s p b) ]
  ]

  the_set : (i : ℕ) (s u : List ℕ) (found blown : List (List ℕ)) → slice_get order i ≡ Some s
      → IsWalked Has (take i order) found blown → (IsAbove found s → ⊥) → (IsAbove blown s → ⊥) → is_part u s ≡ true → Has u → u ≡ s
  the_set i s u found blown at w nf nb p h =
      elim (either (length u) (length s)) [
        | inl l ↦ absurd (no_smaller i s u found blown at w nf nb p h l)
        | inr l ↦ part_same 1 (suc n) 1 (suc n) u s (sets u h) (up_to_set n n s (in_place order i s at)) (to_part u s p) l
      ]
    where
      either : (a b : ℕ) → (a < b) ⊎ (b ≤ a)
      either a b = grind arith

  minimal_or : (s : List ℕ) (found : List (List ℕ)) → ((t : List ℕ) → In t found → IsMinimal Has t) → IsMinimal Has s → (t : List ℕ) → In t (found ++ s ∷ []) → IsMinimal Has t
  minimal_or s found f m t h = elim (of-append found (s ∷ []) t h) [
    | inl k ↦ f t k
    | inr k ↦ elim k [ inl e ↦ subst (IsMinimal Has) e m | inr z ↦ absurd z ]
  ]

  map_set : (i : ℕ) (s u : List ℕ) (found blown : List (List ℕ)) → slice_get order i ≡ Some s
      → IsWalked Has (take i order) found blown → (IsAbove found s → ⊥) → (IsAbove blown s → ⊥) → is_part u s ≡ true → Has u
      → (u ≡ s) × IsWalked Has (take (suc i) order) (found ++ s ∷ []) blown
  map_set i s u found blown at w nf nb p h =
      let same = the_set i s u found blown at w nf nb p h in (
        same,
        record {
          settled = more_settled i s found blown (found ++ s ∷ []) blown at (grow_found s found blown) w (inr (inl (above_new found s)));
          minimal = minimal_or s found w.minimal (record { had = subst Has same h; least = λ v q g. the_set i s v found blown at w nf nb q g });
        },
      )

  has_below : (found blown : List (List ℕ)) → IsWalked Has order found blown → (s : List ℕ) → Has s → IsAbove found s ⊎ IsAbove blown s
  has_below found blown w s h = elim (w.settled s (each_set_in n s (sets s h))) [
    | inl ex ↦ absurd (ex s (part_self s) h)
    | inr a ↦ a
  ]

  found_one : (found : List (List ℕ)) → ((t : List ℕ) → In t found → IsMinimal Has t) → (s : List ℕ) → IsMinimal Has s → IsAbove found s → In s found
  found_one found f s m (t, i, p) = subst (λ (v : List ℕ). In v found) (m.least t p (f t i).had) i

  all_found : (found blown : List (List ℕ)) → IsWalked Has order found blown → FindsMinimal Has found blown
  all_found found blown w s m = elim (has_below found blown w s m.had) [
    | inl a ↦ inl (found_one found w.minimal s m a)
    | inr a ↦ inr a
  ]

  -- a set that is searched is no part of one that was passed: it would be settled
  not_passed : (i j : ℕ) (s t u : List ℕ) (found blown : List (List ℕ)) → slice_get order i ≡ Some s
      → IsWalked Has (take i order) found blown → (IsAbove found s → ⊥) → (IsAbove blown s → ⊥) → is_part u s ≡ true → Has u
      → slice_get (take i order) j ≡ Some t → length s < length t → ⊥
  not_passed i j s t u found blown at w nf nb p h there less =
      let before = taken_before order i j t there in
      let set = up_to_set n n s (in_place order i s at) in
      let early = earlier n n j t s before.1 set less in
      elim (w.settled s (taken_less order j i s before.0 early)) [
        | inl ex ↦ ex u p h
        | inr (inl f) ↦ nf f
        | inr (inr b) ↦ nb b
      ]

  -- so no set that was given up is above one that is found later
  pub apart_still : (i : ℕ) (s u : List ℕ) (found blown : List (List ℕ)) → slice_get order i ≡ Some s
      → IsWalked Has (take i order) found blown → (IsAbove found s → ⊥) → (IsAbove blown s → ⊥) → is_part u s ≡ true → Has u
      → IsSubsequence blown (take i order) → ((t : List ℕ) → In t blown → IsAbove found t → ⊥) → (t : List ℕ) → In t blown → IsAbove (found ++ s ∷ []) t → ⊥
  apart_still i s u found blown at w nf nb p h passed apart t k (f, m, q) = elim (of-append found (s ∷ []) f m) [
    | inl old ↦ apart t k (f, old, q)
    | inr (inl same) ↦ by_length (subst (λ (v : List ℕ). is_part v t ≡ true) (sym same) q)
    | inr (inr none) ↦ absurd none
  ]
    where
      either : (a b : ℕ) → (a < b) ⊎ (b ≤ a)
      either a b = grind arith

      by_length : is_part s t ≡ true → ⊥
      by_length part =
          let there = a_place (take i order) t (in_whole blown (take i order) t passed k) in
          let before = taken_before order i there.0 t there.1 in
          elim (either (length s) (length t)) [
            | inl less ↦ not_passed i there.0 s t u found blown at w nf nb p h there.1 less
            | inr le ↦
                let same = part_same 1 (suc n) 1 (suc n) s t (up_to_set n n s (in_place order i s at)) (up_to_set n n t (in_place order there.0 t before.1)) (to_part s t part) le in
                nb (t, k, subst (λ (v : List ℕ). is_part t v ≡ true) (sym same) (part_self t))
          ]

  pub walk_steps : WalkSteps n Has
  walk_steps = record { skipped = skip; refuted = refute; given_up = give_up; mapped = map_set; complete = all_found; within = has_below }
