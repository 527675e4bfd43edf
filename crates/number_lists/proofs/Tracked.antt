-- The places of transitions after one turn more.
use Rattle.std.proofs.Common.{◌≡◌, ◌+◌, ◌<◌, get_or, slice_get, slice_set, ℕ, zero, suc, ℤ, Bool, true, false, List, [], ◌∷◌, ◌++◌, map, drop, take, length, replicate, Some, inl, inr, refl, ap, sym, subst, ◌∙◌, arith}
use Rattle.std.specs.List.{AllByRecursion}
use Rattle.linear_rows.specs.Members.{In}
use Rattle.termination_model.proofs.Lists.{there}
use Rattle.transitions.specs.Transitions.{Transition}
use Rattle.transitions.specs.Turns.{unmarked}
use Rattle.number_turns.specs.declared.transition.Transition.{Transition as Held}
use Rattle.number_lists.specs.Coursing.{others_at}
use Rattle.number_lists.specs.Tracking.{after_turn, after_turns, no_places, staying, with_turn}
use Rattle.number_lists.specs.declared.place.Place.{Place}

-- ---- those that are left
pub all_unmarked : {X : Type 0} (P : X → Type 0) (xs : List X) (bs : List Bool) → AllByRecursion P xs → AllByRecursion P (unmarked xs bs)
all_unmarked P [] bs h = tt
all_unmarked P (x ∷ xs) [] h = h
all_unmarked P (x ∷ xs) (true ∷ bs) h = all_unmarked P xs bs h.1
all_unmarked P (x ∷ xs) (false ∷ bs) h = (h.0, all_unmarked P xs bs h.1)

pub in_unmarked : {X : Type 0} (xs : List X) (bs : List Bool) (x : X) → In x (unmarked xs bs) → In x xs
in_unmarked [] bs x h = h
in_unmarked (y ∷ xs) [] x h = h
in_unmarked (y ∷ xs) (true ∷ bs) x h = inr (in_unmarked xs bs x h)
in_unmarked (y ∷ xs) (false ∷ bs) x (inl e) = inl e
in_unmarked (y ∷ xs) (false ∷ bs) x (inr h) = inr (in_unmarked xs bs x h)

pub unmarked_none : {X : Type 0} (xs : List X) → unmarked xs [] ≡ xs
unmarked_none [] = refl
unmarked_none (x ∷ xs) = refl

pub unmarked_all : {X : Type 0} (xs : List X) (n : ℕ) → length xs ≡ n → unmarked xs (replicate n true) ≡ []
unmarked_all [] n e = refl
unmarked_all (x ∷ xs) zero e = absurd (omega (arith, e))
unmarked_all (x ∷ xs) (suc n) e = unmarked_all xs n (omega (arith, e))

pub unmarked_first : {X : Type 0} (xs : List X) (n : ℕ) → unmarked xs (replicate n false) ≡ xs
unmarked_first [] n = refl
unmarked_first (x ∷ xs) zero = refl
unmarked_first (x ∷ xs) (suc n) = ap (λ s. x ∷ s) (unmarked_first xs n)

pub unmarked_count : {X : Type 0} (xs : List X) (gs : List Bool) → length gs ≡ length xs → length (unmarked xs gs) ≡ staying gs
unmarked_count [] [] e = refl
unmarked_count [] (g ∷ gs) e = absurd (omega (arith, e))
unmarked_count (x ∷ xs) [] e = absurd (omega (arith, e))
unmarked_count (x ∷ xs) (true ∷ gs) e = unmarked_count xs gs (omega (arith, e))
unmarked_count (x ∷ xs) (false ∷ gs) e = ap suc (unmarked_count xs gs (omega (arith, e)))

pub all_gone : (n : ℕ) → staying (replicate n true) ≡ 0
all_gone zero = refl
all_gone (suc n) = all_gone n

pub one_less : (gs : List Bool) (i : ℕ) → slice_get gs i ≡ Some false → suc (staying (slice_set gs i true)) ≡ staying gs
one_less [] i e = cc
one_less (true ∷ gs) zero e = cc
one_less (false ∷ gs) zero e = refl
one_less (true ∷ gs) (suc i) e = one_less gs i e
one_less (false ∷ gs) (suc i) e = ap suc (one_less gs i e)

-- ---- one transition after another
pub gone_at : (gs : List Bool) (i : ℕ) (g : Bool) → i < length gs → get_or gs i false ≡ g → slice_get gs i ≡ Some g
gone_at gs i g lt e = there gs i false lt ∙ ap Some e

pub left_gone : {X : Type 0} (xs : List X) (gs : List Bool) (i : ℕ) → i < length xs → slice_get gs i ≡ Some true → unmarked (drop i xs) (drop i gs) ≡ unmarked (drop (i + 1) xs) (drop (i + 1) gs)
left_gone [] gs i lt h = absurd (omega (arith, lt))
left_gone (x ∷ xs) [] i lt h = cc
left_gone (x ∷ xs) (true ∷ gs) zero lt h = refl
left_gone (x ∷ xs) (false ∷ gs) zero lt h = cc
left_gone (x ∷ xs) (g ∷ gs) (suc i) lt h = let more : suc i + 1 ≡ suc (i + 1) = omega arith in rw more (left_gone xs gs i (omega (arith, lt)) h)

pub left_here : {X : Type 0} (xs : List X) (gs : List Bool) (i : ℕ) (x : X) → slice_get xs i ≡ Some x → slice_get gs i ≡ Some false → unmarked (drop i xs) (drop i gs) ≡ x ∷ unmarked (drop (i + 1) xs) (drop (i + 1) gs)
left_here [] gs i x at h = cc
left_here (y ∷ xs) [] i x at h = cc
left_here (y ∷ xs) (true ∷ gs) zero x at h = cc
left_here (y ∷ xs) (false ∷ gs) zero x at h = let same : y ≡ x = cc in ap (λ z. z ∷ unmarked xs gs) same
left_here (y ∷ xs) (g ∷ gs) (suc i) x at h = let more : suc i + 1 ≡ suc (i + 1) = omega arith in rw more (left_here xs gs i x at h)

pub skipped : (b : Bool) (τs : List Held) (gs : List Bool) (zs : List ℤ) (ps : List Place) (i : ℕ) → i < length τs → length gs ≡ length τs → length ps ≡ length τs → slice_get gs i ≡ Some true
    → take (i + 1) ps ++ after_turns b (drop (i + 1) τs) (drop (i + 1) gs) zs (drop (i + 1) ps) ≡ take i ps ++ after_turns b (drop i τs) (drop i gs) zs (drop i ps)
skipped b [] gs zs ps i lt e f h = absurd (omega (arith, lt))
skipped b (τ ∷ τs) [] zs ps i lt e f h = absurd (omega (arith, e))
skipped b (τ ∷ τs) (g ∷ gs) zs [] i lt e f h = absurd (omega (arith, f))
skipped b (τ ∷ τs) (true ∷ gs) zs (p ∷ ps) zero lt e f h = refl
skipped b (τ ∷ τs) (false ∷ gs) zs (p ∷ ps) zero lt e f h = cc
skipped b (τ ∷ τs) (g ∷ gs) zs (p ∷ ps) (suc i) lt e f h =
    let more : suc i + 1 ≡ suc (i + 1) = omega arith in
    rw more (ap (λ s. p ∷ s) (skipped b τs gs zs ps i (omega (arith, lt)) (omega (arith, e)) (omega (arith, f)) h))

-- the transition of a place that is not gone takes its multipliers
pub moved : (b : Bool) (τs : List Held) (gs : List Bool) (zs : List ℤ) (ps : List Place) (i : ℕ) (τ : Held) (p : Place) → slice_get τs i ≡ Some τ → slice_get ps i ≡ Some p → slice_get gs i ≡ Some false
    → take (i + 1) (slice_set ps i (with_turn b (length τ.rows.list) zs p)) ++ after_turns b (drop (i + 1) τs) (drop (i + 1) gs) (after_turn b (length τ.rows.list) zs) (drop (i + 1) (slice_set ps i (with_turn b (length τ.rows.list) zs p)))
    ≡ take i ps ++ after_turns b (drop i τs) (drop i gs) zs (drop i ps)
moved b [] gs zs ps i τ p at own h = cc
moved b (σ ∷ τs) [] zs ps i τ p at own h = cc
moved b (σ ∷ τs) (g ∷ gs) zs [] i τ p at own h = cc
moved b (σ ∷ τs) (true ∷ gs) zs (q ∷ ps) zero τ p at own h = cc
moved b (σ ∷ τs) (false ∷ gs) zs (q ∷ ps) zero τ p at own h =
    let same : σ ≡ τ = cc in
    let here : q ≡ p = cc in
    λ j. with_turn b (length (sym same j).rows.list) zs (sym here j) ∷ after_turns b τs gs (after_turn b (length (sym same j).rows.list) zs) ps
moved b (σ ∷ τs) (g ∷ gs) zs (q ∷ ps) (suc i) τ p at own h =
    let more : suc i + 1 ≡ suc (i + 1) = omega arith in
    rw more (ap (λ s. q ∷ s) (moved b τs gs zs ps i τ p at own h))

pub no_places_more : (n : ℕ) → no_places (n + 1) ≡ no_places n ++ record { multipliers = []; floor = [] } ∷ []
no_places_more zero = refl
no_places_more (suc n) = let more : suc n + 1 ≡ suc (n + 1) = omega arith in rw more (ap (λ (ps : List Place). record { multipliers = []; floor = [] } ∷ ps) (no_places_more n))

pub unmarked_map : {X Y : Type 0} (f : X → Y) (xs : List X) (gs : List Bool) → map f (unmarked xs gs) ≡ unmarked (map f xs) gs
unmarked_map f [] gs = refl
unmarked_map f (x ∷ xs) [] = refl
unmarked_map f (x ∷ xs) (true ∷ gs) = unmarked_map f xs gs
unmarked_map f (x ∷ xs) (false ∷ gs) = ap (λ s. f x ∷ s) (unmarked_map f xs gs)

pub element : {X : Type 0} (xs : List X) (i : ℕ) → i < length xs → (x : X) × (slice_get xs i ≡ Some x)
element [] i lt = absurd (omega (arith, lt))
element (x ∷ xs) zero lt = (x, refl)
element (x ∷ xs) (suc i) lt = element xs i (omega (arith, lt))

-- a transition that is not gone stands among those that are left, and the others are left without it
pub place_in : (xs : List Transition) (gs : List Bool) (i : ℕ) (x : Transition) → slice_get xs i ≡ Some x → slice_get gs i ≡ Some false
    → (k : ℕ) × (slice_get (unmarked xs gs) k ≡ Some x) × (unmarked xs (slice_set gs i true) ≡ others_at (unmarked xs gs) k)
place_in [] gs i x at h = cc
place_in (y ∷ xs) [] i x at h = cc
place_in (y ∷ xs) (true ∷ gs) zero x at h = cc
place_in (y ∷ xs) (false ∷ gs) zero x at h = (0, at, refl)
place_in (y ∷ xs) (true ∷ gs) (suc i) x at h = place_in xs gs i x at h
place_in (y ∷ xs) (false ∷ gs) (suc i) x at h = let r = place_in xs gs i x at h in (suc r.0, r.1, ap (λ s. y ∷ s) r.2)

pub in_place : {X : Type 0} (xs : List X) (i : ℕ) (x : X) → slice_get xs i ≡ Some x → In x xs
in_place [] i x at = cc
in_place (y ∷ xs) zero x at = inl (cc)
in_place (y ∷ xs) (suc i) x at = inr (in_place xs i x at)

pub in_less : {X : Type 0} (xs : List X) (gs : List Bool) (i : ℕ) (x : X) → In x (unmarked xs (slice_set gs i true)) → In x (unmarked xs gs)
in_less [] gs i x h = h
in_less (y ∷ xs) [] i x h = h
in_less (y ∷ xs) (true ∷ gs) zero x h = h
in_less (y ∷ xs) (false ∷ gs) zero x h = inr h
in_less (y ∷ xs) (true ∷ gs) (suc i) x h = in_less xs gs i x h
in_less (y ∷ xs) (false ∷ gs) (suc i) x (inl e) = inl e
in_less (y ∷ xs) (false ∷ gs) (suc i) x (inr h) = inr (in_less xs gs i x h)

pub here_left : {X : Type 0} (xs : List X) (gs : List Bool) (i : ℕ) (x : X) → slice_get xs i ≡ Some x → slice_get gs i ≡ Some false → In x (unmarked xs gs)
here_left [] gs i x at h = cc
here_left (y ∷ xs) [] i x at h = cc
here_left (y ∷ xs) (true ∷ gs) zero x at h = cc
here_left (y ∷ xs) (false ∷ gs) zero x at h = inl (cc)
here_left (y ∷ xs) (true ∷ gs) (suc i) x at h = here_left xs gs i x at h
here_left (y ∷ xs) (false ∷ gs) (suc i) x at h = inr (here_left xs gs i x at h)

pub by_in : {X : Type 0} (P : X → Type 0) (xs : List X) → ((x : X) → In x xs → P x) → AllByRecursion P xs
by_in P [] f = tt
by_in P (x ∷ xs) f = (f x (inl refl), by_in P xs (λ y h. f y (inr h)))

pub of_all : {X : Type 0} (P : X → Type 0) (xs : List X) (x : X) → AllByRecursion P xs → In x xs → P x
of_all P [] x a h = absurd h
of_all P (y ∷ xs) x a (inl e) = subst P e a.0
of_all P (y ∷ xs) x a (inr h) = of_all P xs x a.1 h

pub set_long : {X : Type 0} (xs : List X) (i : ℕ) (x : X) → length (slice_set xs i x) ≡ length xs
set_long [] i x = refl
set_long (y ∷ xs) zero x = refl
set_long (y ∷ xs) (suc i) x = ap suc (set_long xs i x)

pub by_places_map : {X Y : Type 0} (P : Y → Type 0) (f : X → Y) (xs : List X) (i : ℕ) (x : X) → AllByRecursion P (map f xs) → slice_get xs i ≡ Some x → P (f x)
by_places_map P f [] i x h at = cc
by_places_map P f (y ∷ xs) zero x h at = let same : y ≡ x = cc in subst (λ z. P (f z)) same h.0
by_places_map P f (y ∷ xs) (suc i) x h at = by_places_map P f xs i x h.1 at
