-- The points of calls, one call after another.
use Rattle.std.proofs.Common.{◌≡◌, ℕ, zero, suc, ◌+◌, ◌-◌, ◌≤◌, ℤ, true, List, [], ◌∷◌, ◌++◌, drop, take, length, slice_get, get_or, pos, Option, None, Some, inl, inr, refl, ap, sym, subst, ◌∙◌, arith}
use Rattle.std.specs.Prelude.{is_some}
use Rattle.linear_rows.specs.declared.multipliers.Multipliers.{Multipliers}
use Rattle.number_tests.specs.declared.pair_point.PairPoint.{PairPoint}
use Rattle.termination_model.proofs.Lists.{append_assoc}
use Rattle.level_systems.specs.Held.{live_of, with_live}
use Rattle.level_systems.specs.Refuted.{ArePoints, AreSpelled, IsAdded}
use Rattle.level_systems.specs.declared.own_call.OwnCall.{OwnCall}
use Rattle.level_systems.proofs.PairLists.{drop_all, drop_at}

-- ---- lists
pub take_all : {X : Type 0} (xs : List X) (n : ℕ) → length xs ≤ n → take n xs ≡ xs
take_all [] zero le = refl
take_all [] (suc n) le = refl
take_all (x ∷ xs) zero le = absurd (omega (arith, le))
take_all (x ∷ xs) (suc n) le = ap (λ s. x ∷ s) (take_all xs n (omega (arith, le)))

length_dropped : {X : Type 0} (n : ℕ) (xs : List X) → length (drop n xs) ≤ length xs - n
length_dropped zero xs = omega arith
length_dropped (suc n) [] = omega arith
length_dropped (suc n) (x ∷ xs) = let h = length_dropped n xs in omega (arith, h)

pub rest_whole : {X : Type 0} (n : ℕ) (xs : List X) → take (length xs - n) (drop n xs) ≡ drop n xs
rest_whole n xs = take_all (drop n xs) (length xs - n) (length_dropped n xs)

pub first_rest : (xs : List ℤ) (n : ℕ) → length xs ≡ n + 1 → get_or xs 0 (pos 0) ∷ drop 1 xs ≡ xs
first_rest [] n e = absurd (omega (arith, e))
first_rest (x ∷ xs) n e = refl

append_none : {X : Type 0} (xs : List X) → xs ++ [] ≡ xs
append_none [] = refl
append_none (x ∷ xs) = ap (λ s. x ∷ s) (append_none xs)

-- ---- the calls that can be reached
pub live_here : (calls : List OwnCall) (i : ℕ) (own : OwnCall) → slice_get calls i ≡ Some own → own.empty ≡ None → live_of (drop i calls) ≡ own ∷ live_of (drop (i + 1) calls)
live_here calls i own at none = ap live_of (drop_at calls i own at) ∙ ap (λ m. with_live m own (live_of (drop (i + 1) calls))) none

skipped_case : (m : Option Multipliers) (own : OwnCall) (rest : List OwnCall) → is_some m ≡ true → with_live m own rest ≡ rest
skipped_case None own rest e = cc
skipped_case (Some by) own rest e = refl

pub live_skipped : (calls : List OwnCall) (i : ℕ) (own : OwnCall) → slice_get calls i ≡ Some own → is_some own.empty ≡ true → live_of (drop i calls) ≡ live_of (drop (i + 1) calls)
live_skipped calls i own at some = ap live_of (drop_at calls i own at) ∙ skipped_case own.empty own (live_of (drop (i + 1) calls)) some

-- ---- one call
-- where a call's point was added, the points of the calls after it are those from this call on
pub points_more : (P : List PairPoint → Type 0) (own : OwnCall) (rest : List OwnCall) (numbers : List ℤ) (n : ℕ) (old new : List PairPoint) → n ≡ suc own.rows.width → IsAdded own (take n numbers) old new true
    → ((ys : List PairPoint) → ArePoints (own ∷ rest) numbers ys → P (old ++ ys)) → (xs : List PairPoint) → ArePoints rest (drop n numbers) xs → P (new ++ xs)
points_more P own rest numbers n old new long added f xs points =
    let points' : ArePoints rest (drop (suc own.rows.width) numbers) xs = subst (λ (k : ℕ). ArePoints rest (drop k numbers) xs) long points in
    elim (subst (λ (k : ℕ). IsAdded own (take k numbers) old new true) long added) [
      | inl (nought, same) ↦ subst (λ (zs : List PairPoint). P (zs ++ xs)) (sym same) (f xs (inl (nought, points')))
      | inr (x, more, spelled) ↦
          subst (λ (zs : List PairPoint). P (zs ++ xs)) (sym more) (subst P (sym (append_assoc old (x ∷ []) xs)) (f (x ∷ xs) (inr (x, xs, refl, spelled, points'))))
    ]

-- the numbers after those of a call are those of the calls after it
pub spelled_more : (own : OwnCall) (rest : List OwnCall) (numbers : List ℤ) (n : ℕ) → n ≡ suc own.rows.width → AreSpelled (own ∷ rest) numbers → AreSpelled rest (drop n numbers)
spelled_more own rest numbers n long h = subst (λ (k : ℕ). AreSpelled rest (drop k numbers)) (sym long) h.2

-- at the end
pub points_end : (P : List PairPoint → Type 0) (calls : List OwnCall) (i : ℕ) (numbers : List ℤ) (points : List PairPoint) → length calls ≤ i
    → ((xs : List PairPoint) → ArePoints (live_of (drop i calls)) numbers xs → P (points ++ xs)) → P points
points_end P calls i numbers points le f =
    subst P (append_none points) (f [] (subst (λ (owns : List OwnCall). ArePoints (live_of owns) numbers []) (sym (drop_all calls i le)) refl))
