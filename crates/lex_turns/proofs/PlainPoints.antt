-- The points that multipliers against a turn's system spell are those of the calls that remain.
use Rattle.std.proofs.Common.{◌≡◌, ℕ, zero, suc, ◌+◌, ◌≤◌, ℤ, pos, List, [], ◌∷◌, ◌++◌, map, take, drop, length, slice_get, None, Some, inl, inr, refl, ap, sym, subst, ◌∙◌, arith, get_or}
use Rattle.std.specs.Borrow.{Bor}
use Rattle.std.specs.Prelude.{IfSome}
use Rattle.std.specs.List.{AllByRecursion}
use Rattle.call_components.specs.Partition.{Partition}
use Rattle.cti_terms.specs.Listing.{Listing}
use Rattle.cti_terms.specs.Tree.{Tree}
use Rattle.linear_rows.specs.declared.point.Point.{Point}
use Rattle.number_tests.specs.declared.pair_point.PairPoint.{PairPoint}
use Rattle.termination_model.proofs.Lists.{append_assoc}
use Rattle.termination_model.specs.mappings.Excluding.{number_count, pairs_at}
use Rattle.termination_model.specs.mappings.OwnCalls.{OwnCall as Recalled}
use Rattle.termination_model.specs.mappings.Refutation.{Pair}
use Rattle.level_systems.proofs.PairLists.{drop_at}
use Rattle.level_systems.specs.Held.{IsHeld}
use Rattle.level_systems.specs.Refuted.{IsOfCalls}
use Rattle.level_systems.specs.Turned.{held_of}
use Rattle.level_systems.specs.declared.own_call.OwnCall.{OwnCall}
use Rattle.level_systems.proofs.HeldCalls.{re}
use Rattle.level_dual.proofs.RefuteLaws.{none_left}
use Rattle.level_dual.proofs.SearchLaws.{drop_mapped, length_drop, take_mapped}
use Rattle.level_dual.proofs.SpelledPoints.{Stand, point_at, vars_of}
use Rattle.lex_turns.specs.Sticking.{AreLong, ArePlain, IsPlain}

-- ---- lists
take_front : {X : Type 0} (n : ℕ) (xs ys : List X) → n ≤ length xs → take n (xs ++ ys) ≡ take n xs
take_front zero xs ys l = refl
take_front (suc n) [] ys l = absurd (omega (arith, l))
take_front (suc n) (x ∷ xs) ys l = ap (λ zs. x ∷ zs) (take_front n xs ys (omega (arith, l)))

drop_front : {X : Type 0} (n : ℕ) (xs ys : List X) → n ≤ length xs → drop n (xs ++ ys) ≡ drop n xs ++ ys
drop_front zero xs ys l = refl
drop_front (suc n) [] ys l = absurd (omega (arith, l))
drop_front (suc n) (x ∷ xs) ys l = drop_front n xs ys (omega (arith, l))

-- ---- the points of calls
at_none : (x : PairPoint) (n : ℕ) → x.at ≡ None → IfSome x.at (λ (y : Point). length y.w ≡ n)
at_none x n e = subst (λ o. IfSome o (λ (y : Point). length y.w ≡ n)) (sym e) tt

more_calls : (own : OwnCall) (owns : List OwnCall) (xs : List PairPoint) → AllByRecursion (IsOfCalls owns) xs → AllByRecursion (IsOfCalls (own ∷ owns)) xs
more_calls own owns [] h = tt
more_calls own owns (x ∷ xs) h = let w = h.0 in ((w.0, inr w.1, w.2), more_calls own owns xs h.1)

pub plain_calls : (owns : List OwnCall) (numbers : List ℤ) (xs : List PairPoint) → ArePlain owns numbers xs → AllByRecursion (IsOfCalls owns) xs
plain_calls [] numbers xs h = subst (AllByRecursion (IsOfCalls [])) (sym h) tt
plain_calls (own ∷ owns) numbers xs (x, ys, is, plain, rest) =
    subst (AllByRecursion (IsOfCalls (own ∷ owns))) (sym is) (
      (own, inl refl, record { clause = plain.clause; call = plain.call; point = plain.long; at = at_none x own.rows.width plain.single }),
      more_calls own owns ys (plain_calls owns (drop (suc own.rows.width) numbers) ys rest),
    )

pub plain_count : (owns : List OwnCall) (numbers : List ℤ) (xs : List PairPoint) → ArePlain owns numbers xs → length xs ≡ length owns
plain_count [] numbers xs h = ap length h
plain_count (own ∷ owns) numbers xs (x, ys, is, plain, rest) = ap length is ∙ ap suc (plain_count owns (drop (suc own.rows.width) numbers) ys rest)

pub plain_single : (owns : List OwnCall) (numbers : List ℤ) (xs : List PairPoint) → ArePlain owns numbers xs → AllByRecursion (λ (x : PairPoint). x.at ≡ None) xs
plain_single [] numbers xs h = subst (AllByRecursion (λ (x : PairPoint). x.at ≡ None)) (sym h) tt
plain_single (own ∷ owns) numbers xs (x, ys, is, plain, rest) =
    subst (AllByRecursion (λ (y : PairPoint). y.at ≡ None)) (sym is) (plain.single, plain_single owns (drop (suc own.rows.width) numbers) ys rest)

module _ (expression : ℕ → Tree → List ℤ) (p : Listing) (comps : Partition) (rows : ℕ → List (List ℤ)) (c : ℕ) where
  abbrev own_of : OwnCall → Recalled
  own_of own = re expression p comps rows c own

  -- there are numbers for each call where there are as many as columns
  pub enough_numbers : (owns : List OwnCall) → AllByRecursion (IsHeld expression p rows) owns → (numbers : List ℤ) → number_count (map own_of owns) ≤ length numbers → AreLong owns numbers
  enough_numbers [] held numbers l = tt
  enough_numbers (own ∷ owns) held numbers l =
      let first = held.0 in
      let width = first.width in
      let n = own.rows.width in
      let dropped : length numbers ≡ suc n + length (drop (suc n) numbers) = dropped_long (suc n) numbers (omega (arith, l, width)) in
      (omega (arith, l, width), enough_numbers owns held.1 (drop (suc n) numbers) (omega (arith, l, width, dropped)))
    where
      dropped_long : (k : ℕ) (zs : List ℤ) → k ≤ length zs → length zs ≡ k + length (drop k zs)
      dropped_long zero zs m = omega arith
      dropped_long (suc k) [] m = absurd (omega (arith, m))
      dropped_long (suc k) (z ∷ zs) m = omega (arith, dropped_long k zs (omega (arith, m)))

  -- they stand for the pairs that the multipliers spell
  pub plain_stand : (owns : List OwnCall) → AllByRecursion (IsHeld expression p rows) owns → (vs es : List ℕ) → length vs ≡ number_count (map own_of owns)
      → AllByRecursion (λ (y : Pair). 1 ≤ y.t) (pairs_at (map own_of owns) vs) → (xs : List PairPoint) → ArePlain owns (map pos (vs ++ es)) xs → Stand expression p comps rows c owns vs xs
  plain_stand [] held vs es e times xs h = h
  plain_stand (own ∷ owns) held [] es e times xs h = absurd (omega (arith, e))
  plain_stand (own ∷ owns) held (t ∷ vs) es e times xs (x, ys, is, plain, more) =
      let first = held.0 in
      let n = vars_of expression p comps rows c own in
      let width : own.rows.width ≡ n = first.width in
      let long : length vs ≡ n + number_count (map own_of owns) = omega (arith, e) in
      let rest : length (drop n vs) ≡ number_count (map own_of owns) = length_drop n vs (number_count (map own_of owns)) long in
      let taken : take own.rows.width (map pos (vs ++ es)) ≡ map pos (take n vs) =
      ap (λ k. take k (map pos (vs ++ es))) width ∙ take_mapped (λ k. pos k) n (vs ++ es) ∙ ap (map pos) (take_front n vs es (omega (arith, long))) in
      let dropped : drop own.rows.width (map pos (vs ++ es)) ≡ map pos (drop n vs ++ es) =
      ap (λ k. drop k (map pos (vs ++ es))) width ∙ drop_mapped (λ k. pos k) n (vs ++ es) ∙ ap (map pos) (drop_front n vs es (omega (arith, long))) in
      let numbers : x.point.t ∷ x.point.w ≡ pos t ∷ map pos (take n vs) = plain.spelled ∙ ap (λ (zs : List ℤ). pos t ∷ zs) taken in
      let t_is : x.point.t ≡ pos t = ap (λ (zs : List ℤ). get_or zs 0 (pos 0)) numbers in
      let w_is : x.point.w ≡ map pos (take n vs) = ap (λ (zs : List ℤ). drop 1 zs) numbers in
      let same : x ≡ point_at expression p comps rows c own t (take n vs) None =
      λ i. record { clause = plain.clause i; call = plain.call i; point = record { t = t_is i; w = w_is i }; at = plain.single i } in
      let some : 1 ≤ t = times.0 in
      inr (
        None,
        ys,
        is ∙ ap (λ (y : PairPoint). y ∷ ys) same,
        (λ z. absurd (omega (arith, some, z))),
        plain_stand owns held.1 (drop n vs) es rest times.1 ys (subst (λ (zs : List ℤ). ArePlain owns zs ys) dropped more),
      )

-- ---- the points one after the other
append_nil : {X : Type 0} (xs : List X) → xs ++ [] ≡ xs
append_nil [] = refl
append_nil (x ∷ xs) = ap (λ s. x ∷ s) (append_nil xs)

pub held_here : (rest : List (Bor OwnCall)) (i : ℕ) (own : Bor OwnCall) → slice_get rest i ≡ Some own → held_of (drop i rest) ≡ own.now ∷ held_of (drop (i + 1) rest)
held_here rest i own at = ap held_of (drop_at rest i own at)

pub plain_first : (own : OwnCall) (owns : List OwnCall) (numbers : List ℤ) (n : ℕ) (x : PairPoint) (old new ys : List PairPoint) → n ≡ suc own.rows.width → IsPlain own (take n numbers) x → ArePlain owns (drop n numbers) ys
    → new ≡ old ++ x ∷ [] → (P : List PairPoint → Type 0) → ((zs : List PairPoint) → ArePlain (own ∷ owns) numbers zs → P (old ++ zs)) → P (new ++ ys)
plain_first own owns numbers n x old new ys e plain rest is P f =
    let whole : old ++ x ∷ ys ≡ new ++ ys = sym (append_assoc old (x ∷ []) ys) ∙ ap (λ zs. zs ++ ys) (sym is) in
    subst P whole (f (x ∷ ys) (x, ys, refl, subst (λ k. IsPlain own (take k numbers) x) e plain, subst (λ k. ArePlain owns (drop k numbers) ys) e rest))

pub long_rest : (own : OwnCall) (owns : List OwnCall) (numbers : List ℤ) (n : ℕ) → n ≡ suc own.rows.width → AreLong (own ∷ owns) numbers → AreLong owns (drop n numbers)
long_rest own owns numbers n e h = subst (λ k. AreLong owns (drop k numbers)) (sym e) h.1

pub plain_end : (rest : List (Bor OwnCall)) (i : ℕ) (numbers : List ℤ) (points : List PairPoint) → length rest ≤ i → (P : List PairPoint → Type 0) → ((ys : List PairPoint) → ArePlain (held_of (drop i rest)) numbers ys → P (points ++ ys)) → P points
plain_end rest i numbers points l P f =
    let none : drop i rest ≡ [] = none_left rest i l in
    subst P (append_nil points) (f [] (subst (λ (bs : List (Bor OwnCall)). ArePlain (held_of bs) numbers []) (sym none) refl))
