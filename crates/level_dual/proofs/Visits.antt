-- The steps of the walk, as the code makes them.
use Rattle.std.proofs.Common.{◌≡◌, ℕ, suc, ◌+◌, ◌||◌, ◌⊎◌, inl, inr, Bool, true, false, List, [], ◌∷◌, ◌++◌, take, slice_get, length, Some, refl, ap, sym, subst, ◌∙◌, arith}
use Rattle.std.specs.List.{list_any}
use Rattle.std.proofs.lemmas.Bool.{or_cases}
use Rattle.termination_model.specs.grounds.Modes.{is_part, chosen_up_to}
use Rattle.termination_model.specs.grounds.Minimal.{FindsMinimal, IsAbove, IsExcluded, IsSet}
use Rattle.level_dual.specs.Walk.{IsWalked}
use Rattle.level_dual.proofs.WalkSteps.{walk_steps}

pub none_left : (a b : Bool) → (a || b) ≡ false → a ≡ false
none_left true b h = cc
none_left false b h = refl

pub none_right : (a b : Bool) → (a || b) ≡ false → b ≡ false
none_right true b h = cc
none_right false b h = h

is_above_of : (s : List ℕ) (list : List (List ℕ)) → list_any (λ t. is_part t s) list ≡ true → IsAbove list s
is_above_of s [] h = cc
is_above_of s (t ∷ list) h = elim (or_cases (is_part t s) (list_any (λ t. is_part t s) list) h) [
  | inl e ↦ (t, inl refl, e)
  | inr k ↦ let r = is_above_of s list k in (r.0, inr r.1, r.2)
]

pub not_above_of : (s : List ℕ) (list : List (List ℕ)) → list_any (λ t. is_part t s) list ≡ false → IsAbove list s → ⊥
not_above_of s [] h a = absurd a.1
not_above_of s (t ∷ list) h (u, inl e, p) = let no = none_left (is_part t s) (list_any (λ t. is_part t s) list) h in let yes : is_part t s ≡ true = subst (λ (v : List ℕ). is_part v s ≡ true) (sym e) p in cc
not_above_of s (t ∷ list) h (u, inr i, p) = not_above_of s list (none_right (is_part t s) (list_any (λ t. is_part t s) list) h) (u, i, p)

module _ (n : ℕ) (Has : List ℕ → Type 0) (sets : (s : List ℕ) → Has s → IsSet 1 (suc n) s) (i : ℕ) (s : List ℕ) (found blown : List (List ℕ)) (at : slice_get (chosen_up_to n n) i ≡ Some s)
    (w : IsWalked Has (take i (chosen_up_to n n)) found blown) where
  abbrev passed : Bool
  passed = list_any (λ t. is_part t s) found || list_any (λ t. is_part t s) blown

  pub pass_set : passed ≡ true → IsWalked Has (take (suc i) (chosen_up_to n n)) found blown
  pass_set h = (walk_steps n Has sets).skipped i s found blown at w (elim (or_cases (list_any (λ t. is_part t s) found) (list_any (λ t. is_part t s) blown) h) [
    | inl a ↦ inl (is_above_of s found a)
    | inr b ↦ inr (is_above_of s blown b)
  ])

  pub refute_set : IsExcluded Has s → IsWalked Has (take (suc i) (chosen_up_to n n)) found blown
  refute_set h = (walk_steps n Has sets).refuted i s found blown at w h

  pub give_up_set : IsWalked Has (take (suc i) (chosen_up_to n n)) found (blown ++ s ∷ [])
  give_up_set = (walk_steps n Has sets).given_up i s found blown at w

  pub map_set : passed ≡ false → (u : List ℕ) × (is_part u s ≡ true) × Has u → IsWalked Has (take (suc i) (chosen_up_to n n)) (found ++ s ∷ []) blown
  map_set h m = ((walk_steps n Has sets).mapped i s m.0 found blown at w
      (not_above_of s found (none_left (list_any (λ t. is_part t s) found) (list_any (λ t. is_part t s) blown) h))
      (not_above_of s blown (none_right (list_any (λ t. is_part t s) found) (list_any (λ t. is_part t s) blown) h)) m.1 m.2).1

pub nothing_walked : (Has : List ℕ → Type 0) → IsWalked Has [] [] []
nothing_walked Has = record { settled = λ s h. absurd h; minimal = λ s h. absurd h }

pub one_more : (n : ℕ) (Has : List ℕ → Type 0) (order : List (List ℕ)) (i : ℕ) (s : List ℕ) (f b more less : List (List ℕ)) → order ≡ chosen_up_to n n → slice_get order i ≡ Some s
    → IsWalked Has (take i order) f b
    → ((j : ℕ) → slice_get (chosen_up_to n n) j ≡ Some s → IsWalked Has (take j (chosen_up_to n n)) f b → IsWalked Has (take (suc j) (chosen_up_to n n)) more less)
    → IsWalked Has (take (i + 1) order) more less
one_more n Has order i s f b more less e at w step =
    let here = subst (λ (o : List (List ℕ)). slice_get o i ≡ Some s) e at in
    let before = subst (λ (o : List (List ℕ)). IsWalked Has (take i o) f b) e w in
    let next : suc i ≡ i + 1 = omega arith in
    subst (λ (k : ℕ). IsWalked Has (take k order) more less) next (subst (λ (o : List (List ℕ)). IsWalked Has (take (suc i) o) more less) (sym e) (step i here before))

take_whole : {X : Type 0} (xs : List X) (k : ℕ) → k ≡ length xs → take k xs ≡ xs
take_whole [] k e = ap (λ n. take n []) e
take_whole (x ∷ xs) k e = ap (λ n. take n (x ∷ xs)) e ∙ ap (λ s. x ∷ s) (take_whole xs (length xs) refl)

pub all_walked : (n : ℕ) (Has : List ℕ → Type 0) (order : List (List ℕ)) (i : ℕ) (f b : List (List ℕ)) → order ≡ chosen_up_to n n → i ≡ length order → IsWalked Has (take i order) f b → IsWalked Has (chosen_up_to n n) f b
all_walked n Has order i f b e l w = subst (λ (o : List (List ℕ)). IsWalked Has o f b) (take_whole order i l ∙ e) w

pub whole_complete : (n : ℕ) (Has : List ℕ → Type 0) → ((s : List ℕ) → Has s → IsSet 1 (suc n) s) → (order : List (List ℕ)) (i : ℕ) (f b : List (List ℕ)) → order ≡ chosen_up_to n n → i ≡ length order
    → IsWalked Has (take i order) f b → FindsMinimal Has f b
whole_complete n Has sets order i f b e l w = (walk_steps n Has sets).complete f b (all_walked n Has order i f b e l w)

pub whole_within : (n : ℕ) (Has : List ℕ → Type 0) → ((s : List ℕ) → Has s → IsSet 1 (suc n) s) → (order : List (List ℕ)) (i : ℕ) (f b : List (List ℕ)) → order ≡ chosen_up_to n n → i ≡ length order
    → IsWalked Has (take i order) f b → (s : List ℕ) → Has s → IsAbove f s ⊎ IsAbove b s
whole_within n Has sets order i f b e l w = (walk_steps n Has sets).within f b (all_walked n Has order i f b e l w)
