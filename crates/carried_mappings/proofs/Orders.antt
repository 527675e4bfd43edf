-- Members in one order, and their parts.
use Rattle.std.proofs.Common.{◌≡◌, ℕ, zero, suc, ◌+◌, List, [], ◌∷◌, ◌++◌, map, take, length, slice_get, Some, refl, ap, sym, ◌∙◌, arith}
use Rattle.call_components.specs.Numbers.{number_of}
use Rattle.cti_terms.specs.Listing.{Listing}
use Rattle.cti_terms.specs.declared.predicates.PredId.{PredId}
use Rattle.level_systems.specs.declared.measure.Measure.{Measure}
use Rattle.solved_program.proofs.Comparisons.{SameTo}
use Rattle.carried_mappings.specs.Moved.{with_members}
use Rattle.carried_mappings.specs.Order.{named_by}

-- two predicates have one name and arity, each in its program
abbrev pub AreNamesakes : Listing → Listing → PredId → PredId → Type 0
AreNamesakes p new q r = slice_get p.preds q.0 ≡ slice_get new.preds r.0

module _ (p new : Listing) where
  pub named_of_places : (xs ys : List PredId) → length xs ≡ length ys → SameTo (AreNamesakes p new) (length xs) xs ys → named_by p (map number_of xs) ≡ named_by new (map number_of ys)
  named_of_places [] [] l h = refl
  named_of_places [] (y ∷ ys) l h = absurd (omega arith)
  named_of_places (x ∷ xs) [] l h = absurd (omega arith)
  named_of_places (x ∷ xs) (y ∷ ys) l h =
      let here = h 0 x y (omega arith) refl refl in
      let more = named_of_places xs ys (omega arith) (λ i u v lt at there. h (suc i) u v (omega arith) at there) in
      λ i. here i ∷ more i

  pub named_at : (xs ys : List PredId) → named_by p (map number_of xs) ≡ named_by new (map number_of ys) → (i : ℕ) (x y : PredId) → slice_get xs i ≡ Some x → slice_get ys i ≡ Some y → AreNamesakes p new x y
  named_at [] ys e i x y at there = cc
  named_at (u ∷ xs) [] e i x y at there = cc
  named_at (u ∷ xs) (v ∷ ys) e zero x y at there =
      let a : u ≡ x = cc in
      let b : v ≡ y = cc in
      let first : slice_get p.preds u.0 ≡ slice_get new.preds v.0 = cc in
      ap (λ (z : PredId). slice_get p.preds z.0) (sym a) ∙ first ∙ ap (λ (z : PredId). slice_get new.preds z.0) b
  named_at (u ∷ xs) (v ∷ ys) e (suc i) x y at there =
      let rest : named_by p (map number_of xs) ≡ named_by new (map number_of ys) = cc in
      named_at xs ys rest i x y at there

  pub named_length : (xs ys : List PredId) → named_by p (map number_of xs) ≡ named_by new (map number_of ys) → length xs ≡ length ys
  named_length [] [] e = refl
  named_length [] (y ∷ ys) e = cc
  named_length (x ∷ xs) [] e = cc
  named_length (x ∷ xs) (y ∷ ys) e = let rest : named_by p (map number_of xs) ≡ named_by new (map number_of ys) = cc in ap suc (named_length xs ys rest)

pub with_more : (qs : List PredId) (ms : List Measure) (i : ℕ) (q : PredId) (x : Measure) → slice_get qs i ≡ Some q → slice_get ms i ≡ Some x
    → with_members (map number_of (take (i + 1) qs)) (take (i + 1) ms) ≡ with_members (map number_of (take i qs)) (take i ms) ++ record { pred = q; part = x.part } ∷ []
with_more [] ms i q x at there = cc
with_more (r ∷ qs) [] i q x at there = cc
with_more (r ∷ qs) (y ∷ ms) zero q x at there =
    let a : r ≡ q = cc in
    let b : y ≡ x = cc in
    λ i. record { pred = a i; part = (b i).part } ∷ []
with_more (r ∷ qs) (y ∷ ms) (suc i) q x at there =
    let more : suc i + 1 ≡ suc (i + 1) = omega arith in
    ap (λ (n : ℕ). with_members (map number_of (take n (r ∷ qs))) (take n (y ∷ ms))) more ∙ ap (λ z. record { pred = r; part = y.part } ∷ z) (with_more qs ms i q x at there)

pub take_whole : {X : Type 0} (xs : List X) (n : ℕ) → n ≡ length xs → take n xs ≡ xs
take_whole [] zero e = refl
take_whole [] (suc n) e = refl
take_whole (x ∷ xs) zero e = absurd (omega arith)
take_whole (x ∷ xs) (suc n) e = ap (λ z. x ∷ z) (take_whole xs n (omega arith))
