-- Steps of finding places and numbers.
use Rattle.std.proofs.Common.{◌≡◌, ℕ, zero, suc, ◌+◌, ◌<◌, ◌⊎◌, inl, inr, List, [], ◌∷◌, ◌++◌, map, take, length, slice_get, slice_index_or, Some, refl, ap, sym, subst, ◌∙◌, arith}
use Rattle.call_components.specs.Numbers.{number_of}
use Rattle.cti_terms.specs.Listing.{Listing}
use Rattle.cti_terms.specs.declared.predicates.PredId.{PredId}
use Rattle.level_systems.specs.declared.measure.Measure.{Measure}
use Rattle.termination_model.specs.mappings.OwnCalls.{Position}
use Rattle.component_laws.specs.Supported.{IsNumber}
use Rattle.carried_mappings.specs.Reordered.{AreOldNumbers, ArePlaces, IsOldNumber, IsPlace, no_measure, placed}

-- ---- no element so far
same_or_below : (k i : ℕ) → k < i + 1 → (k ≡ i) ⊎ (k < i)
same_or_below k i l = grind arith

pub none_more : {X : Type 0} (P : X → Type 0) (xs : List X) (i : ℕ) (x : X) → slice_get xs i ≡ Some x → ((k : ℕ) (y : X) → k < i → slice_get xs k ≡ Some y → P y → ⊥) → (P x → ⊥)
    → (k : ℕ) (y : X) → k < i + 1 → slice_get xs k ≡ Some y → P y → ⊥
none_more P xs i x at none here k y l there_at p = elim (same_or_below k i l) [
  | inl e ↦
      let there_i : slice_get xs i ≡ Some y = ap (slice_get xs) (sym e) ∙ there_at in
      let same : y ≡ x = cc in
      here (subst P same p)
  | inr below ↦ none k y below there_at p
]

-- ---- numbers and places of positions
pub number_at : (i : ℕ) (ps : List Position) (k : ℕ) (x : Position) → slice_get ps k ≡ Some x → IsNumber i ps (i + k) x
number_at i [] k x e = cc
number_at i (p ∷ ps) zero x e = let same : p ≡ x = cc in inl (omega arith, same)
number_at i (p ∷ ps) (suc k) x e = let next : suc i + k ≡ i + suc k = omega arith in inr (subst (λ (n : ℕ). IsNumber (suc i) ps n x) next (number_at (suc i) ps k x e))

pub place_of_number : (i : ℕ) (ps : List Position) (n : ℕ) (x : Position) → IsNumber i ps n x → (k : ℕ) × (slice_get ps k ≡ Some x)
place_of_number i [] n x h = absurd h
place_of_number i (p ∷ ps) n x (inl e) = (0, ap Some e.1)
place_of_number i (p ∷ ps) n x (inr h) = let more = place_of_number (suc i) ps n x h in (suc more.0, more.1)

-- ---- one more
module _ (p new : Listing) where
  pub place_more : (before rs js : List ℕ) (r j : ℕ) → ArePlaces p new before rs js → IsPlace p new before r j → ArePlaces p new before (rs ++ r ∷ []) (js ++ j ∷ [])
  place_more before [] [] r j a is = (is, tt)
  place_more before [] (k ∷ js) r j a is = absurd a
  place_more before (q ∷ rs) [] r j a is = absurd a
  place_more before (q ∷ rs) (k ∷ js) r j a is = (a.0, place_more before rs js r j a.1 is)

  pub number_more : (before xs : List Position) (ns : List ℕ) (x : Position) (n : ℕ) → AreOldNumbers p new before xs ns → IsOldNumber p new before x n → AreOldNumbers p new before (xs ++ x ∷ []) (ns ++ n ∷ [])
  number_more before [] [] x n a is = (is, tt)
  number_more before [] (m ∷ ns) x n a is = absurd a
  number_more before (y ∷ xs) [] x n a is = absurd a
  number_more before (y ∷ xs) (m ∷ ns) x n a is = (a.0, number_more before xs ns x n a.1 is)

  pub places_long : (before rs js : List ℕ) → ArePlaces p new before rs js → length js ≡ length rs
  places_long before [] [] a = refl
  places_long before [] (k ∷ js) a = absurd a
  places_long before (q ∷ rs) [] a = absurd a
  places_long before (q ∷ rs) (k ∷ js) a = ap suc (places_long before rs js a.1)

  pub numbers_long : (before xs : List Position) (ns : List ℕ) → AreOldNumbers p new before xs ns → length ns ≡ length xs
  numbers_long before [] [] a = refl
  numbers_long before [] (m ∷ ns) a = absurd a
  numbers_long before (y ∷ xs) [] a = absurd a
  numbers_long before (y ∷ xs) (m ∷ ns) a = ap suc (numbers_long before xs ns a.1)

pub placed_more : (rs : List PredId) (js : List ℕ) (ms : List Measure) (i : ℕ) (q : PredId) (j : ℕ) → slice_get rs i ≡ Some q → slice_get js i ≡ Some j
    → placed (map number_of (take (i + 1) rs)) (take (i + 1) js) ms
    ≡ placed (map number_of (take i rs)) (take i js) ms ++ record { pred = q; part = (slice_index_or ms j no_measure).part } ∷ []
placed_more [] js ms i q j at there = cc
placed_more (r ∷ rs) [] ms i q j at there = cc
placed_more (r ∷ rs) (k ∷ js) ms zero q j at there =
    let a : r ≡ q = cc in
    let b : k ≡ j = cc in
    λ i. record { pred = a i; part = (slice_index_or ms (b i) no_measure).part } ∷ []
placed_more (r ∷ rs) (k ∷ js) ms (suc i) q j at there =
    let more : suc i + 1 ≡ suc (i + 1) = omega arith in
    ap (λ (n : ℕ). placed (map number_of (take n (r ∷ rs))) (take n (k ∷ js)) ms) more
    ∙ ap (λ z. record { pred = r; part = (slice_index_or ms k no_measure).part } ∷ z) (placed_more rs js ms i q j at there)
