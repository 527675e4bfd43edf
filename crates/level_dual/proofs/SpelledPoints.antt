-- The points that natural multipliers spell, beside the pairs of these multipliers.
use Rattle.std.proofs.Common.{◌≡◌, ◌⊎◌, ℕ, zero, suc, ◌+◌, ◌≤◌, ℤ, pos, ◌≤ℤ◌, List, [], ◌∷◌, map, take, drop, length, get_or, Option, None, Some, inl, inr, ap, sym, subst, ◌∙◌, arith}
use Rattle.std.specs.Prelude.{All}
use Rattle.std.specs.List.{AllByRecursion}
use Rattle.std.proofs.lemmas.Int.{ints}
use Rattle.std.proofs.lemmas.List.{length-map}
use Rattle.call_components.specs.Partition.{Partition}
use Rattle.cti_terms.specs.Listing.{Listing}
use Rattle.cti_terms.specs.Tree.{Tree}
use Rattle.exact128.specs.Sums.{entry}
use Rattle.linear_rows.proofs.Founds.{found_holds}
use Rattle.linear_rows.specs.Plain.{plain_rows}
use Rattle.linear_rows.specs.Showing.{bottom_row}
use Rattle.linear_rows.specs.Solving.{Solution, solution}
use Rattle.linear_rows.specs.Solving.Solution.{Found}
use Rattle.linear_rows.specs.Systems.{test_rows}
use Rattle.linear_rows.specs.declared.point.Point.{Point}
use Rattle.number_tests.specs.Refuting.{call_loads, call_of, head_loads, values_of}
use Rattle.number_tests.specs.Shape.{PairsAscend}
use Rattle.number_tests.specs.declared.pair_point.PairPoint.{PairPoint}
use Rattle.simplex.proofs.RowLists.{length-zeros}
use Rattle.simplex.proofs.TestLaws.{Failing, point_fails}
use Rattle.termination_model.specs.claims.Claims.{SomeOf}
use Rattle.termination_model.specs.mappings.Excluding.{number_count, pairs_at}
use Rattle.termination_model.specs.mappings.OwnCalls.{OwnCall as Recalled, rows_before}
use Rattle.termination_model.specs.mappings.Refutation.{Pair, call_load, head_load, values_at}
use Rattle.level_systems.specs.Found.{HasSecondPoint}
use Rattle.level_systems.specs.Held.{IsHeld, numbers_of_call}
use Rattle.level_systems.specs.Pairs.{clause_at}
use Rattle.level_systems.specs.Refuted.{ArePoints, AreSpelled, HasFoundPoint, HasPoints, IsNought}
use Rattle.level_systems.specs.declared.own_call.OwnCall.{OwnCall}
use Rattle.level_dual.proofs.Ascending.{AscendFrom, ascend_lower}
use Rattle.level_systems.proofs.HeldCalls.{re, rows_are}
use Rattle.level_dual.proofs.LiveCalls.{test_wide, wide_rows}
use Rattle.level_dual.proofs.Loads.{AreLeft, dot_nought, nought_head}
use Rattle.level_dual.proofs.PartLaws.{all_natural}
use Rattle.level_dual.proofs.SearchLaws.{drop_mapped, length_drop, length_take, take_mapped}

module _ (expression : ℕ → Tree → List ℤ) (p : Listing) (comps : Partition) (rows : ℕ → List (List ℤ)) (c : ℕ) where
  abbrev own_of : OwnCall → Recalled
  own_of own = re expression p comps rows c own

  -- how many variables the clause of a call has
  abbrev pub vars_of : OwnCall → ℕ
  vars_of own = (clause_at p own.clause).vars

  -- what elimination says of the rows before a call
  abbrev pub tested : OwnCall → Solution
  tested own = solution (vars_of own + 1) (test_rows (vars_of own) (rows_before expression (own_of own)) (bottom_row (vars_of own)))

  -- the second point of a call
  abbrev pub IsSecond : OwnCall → ℕ → Option Point → Type 0
  IsSecond own t None = t ≡ 0 → ⊥
  IsSecond own t (Some y) = (t ≡ 0) × (s : ℤ) × (w : List ℤ) × (tested own ≡ Found s w) × (y.t ≡ entry w (vars_of own)) × (y.w ≡ take (vars_of own) w)

  abbrev pub point_at : OwnCall → ℕ → List ℕ → Option Point → PairPoint
  point_at own t w at = record { clause = own.clause; call = own.call; point = record { t = pos t; w = map pos w }; at = at }

  -- the points of calls, but for those whose numbers are all 0
  abbrev pub Stand : List OwnCall → List ℕ → List PairPoint → Type 0
  Stand [] vs xs = xs ≡ []
  Stand (own ∷ owns) [] xs = ⊥
  Stand (own ∷ owns) (t ∷ vs) xs =
      (IsNought (map pos (t ∷ take (vars_of own) vs)) × Stand owns (drop (vars_of own) vs) xs)
      ⊎ ((at : Option Point) × (ys : List PairPoint) × (xs ≡ point_at own t (take (vars_of own) vs) at ∷ ys) × IsSecond own t at × Stand owns (drop (vars_of own) vs) ys)

  -- ---- what the code spells
  tests_same : (own : OwnCall) → IsHeld expression p rows own → solution (own.rows.width + 1) (test_rows own.rows.width (plain_rows own.rows.list) (bottom_row own.rows.width)) ≡ tested own
  tests_same own held =
      let width = held.width in
      let before = rows_are expression p comps rows c own held in
      λ i. solution (width i + 1) (test_rows (width i) (before i) (bottom_row (width i)))

  second_is : (own : OwnCall) → IsHeld expression p rows own → (t : ℕ) (z : ℤ) → z ≡ pos t → (at : Option Point) → HasFoundPoint own z at → IsSecond own t at
  second_is own held t z e None h = λ n. h (e ∙ ap (λ (k : ℕ). pos k) n)
  second_is own held t z e (Some y) h =
      let width = held.width in
      let test = h.1.1 in
      let w = h.1.0 in
      let none : pos t ≡ pos 0 = sym e ∙ h.0 in
      (omega (arith, ints, none), test.0, w, sym (tests_same own held) ∙ test.1, h.1.2 ∙ ap (entry w) width, h.1.3 ∙ ap (λ k. take k w) width)

  pub points_stand : (owns : List OwnCall) → AllByRecursion (IsHeld expression p rows) owns → (vs : List ℕ) → length vs ≡ number_count (map own_of owns) → (xs : List PairPoint) → ArePoints owns (map pos vs) xs → Stand owns vs xs
  points_stand [] held vs e xs h = h
  points_stand (own ∷ owns) held [] e xs h = absurd (omega (arith, e))
  points_stand (own ∷ owns) held (t ∷ vs) e xs h =
      let first = held.0 in
      let n = vars_of own in
      let width : own.rows.width ≡ n = first.width in
      let long : length vs ≡ n + number_count (map own_of owns) = omega (arith, e) in
      let rest : length (drop n vs) ≡ number_count (map own_of owns) = length_drop n vs (number_count (map own_of owns)) long in
      let taken : take own.rows.width (map pos vs) ≡ map pos (take n vs) = ap (λ k. take k (map pos vs)) width ∙ take_mapped (λ k. pos k) n vs in
      let dropped : drop own.rows.width (map pos vs) ≡ map pos (drop n vs) = ap (λ k. drop k (map pos vs)) width ∙ drop_mapped (λ k. pos k) n vs in
      elim h [
        | inl (nought, more) ↦
            inl (
              subst (λ (zs : List ℤ). IsNought (pos t ∷ zs)) taken nought,
              points_stand owns held.1 (drop n vs) rest xs (subst (λ (zs : List ℤ). ArePoints owns zs xs) dropped more),
            )
        | inr (x, ys, is, spelled, more) ↦
            let numbers : x.point.t ∷ x.point.w ≡ pos t ∷ map pos (take n vs) = spelled.numbers ∙ ap (λ (zs : List ℤ). pos t ∷ zs) taken in
            let t_is : x.point.t ≡ pos t = ap (λ (zs : List ℤ). get_or zs 0 (pos 0)) numbers in
            let w_is : x.point.w ≡ map pos (take n vs) = ap (λ (zs : List ℤ). drop 1 zs) numbers in
            let same : x ≡ point_at own t (take n vs) x.at = λ i. record { clause = spelled.clause i; call = spelled.call i; point = record { t = t_is i; w = w_is i }; at = x.at } in
            inr (
              x.at,
              ys,
              is ∙ ap (λ (y : PairPoint). y ∷ ys) same,
              second_is own first t x.point.t t_is x.at spelled.second,
              points_stand owns held.1 (drop n vs) rest ys (subst (λ (zs : List ℤ). ArePoints owns zs ys) dropped more),
            )
      ]

  -- there are numbers and second points for all of them
  pub all_spelled : (owns : List OwnCall) → AllByRecursion (IsHeld expression p rows) owns → AllByRecursion (λ (own : OwnCall). (s : ℤ) × (w : List ℤ) × (tested own ≡ Found s w)) owns
      → (vs : List ℕ) → length vs ≡ number_count (map own_of owns) → AreSpelled owns (map pos vs)
  all_spelled [] held found vs e = tt
  all_spelled (own ∷ owns) held found [] e = absurd (omega (arith, e))
  all_spelled (own ∷ owns) held found (t ∷ vs) e =
      let first = held.0 in
      let n = vars_of own in
      let width : own.rows.width ≡ n = first.width in
      let long : length vs ≡ n + number_count (map own_of owns) = omega (arith, e) in
      let rest : length (drop n vs) ≡ number_count (map own_of owns) = length_drop n vs (number_count (map own_of owns)) long in
      let dropped : drop own.rows.width (map pos vs) ≡ map pos (drop n vs) = ap (λ k. drop k (map pos vs)) width ∙ drop_mapped (λ k. pos k) n vs in
      let many : length (map pos vs) ≡ length vs = length-map vs (λ k. pos k) in
      let (s, w, is) = found.0 in
      (omega (arith, width, long, many), (w, (s, tests_same own first ∙ is)), subst (AreSpelled owns) (sym dropped) (all_spelled owns held.1 found.1 (drop n vs) rest))

  -- ---- they ascend
  pub stand_ascend : (last : ℕ × ℕ) (owns : List OwnCall) (vs : List ℕ) (xs : List PairPoint) → Stand owns vs xs → AscendFrom last (map numbers_of_call owns) → PairsAscend last xs
  stand_ascend last [] vs xs h k = subst (PairsAscend last) (sym h) tt
  stand_ascend last (own ∷ owns) [] xs h k = absurd h
  stand_ascend last (own ∷ owns) (t ∷ vs) xs (inl h) k = stand_ascend last owns (drop (vars_of own) vs) xs h.1 (ascend_lower last (numbers_of_call own) (map numbers_of_call owns) k.0 k.1)
  stand_ascend last (own ∷ owns) (t ∷ vs) xs (inr h) k = subst (PairsAscend last) (sym h.2) (k.0, stand_ascend (numbers_of_call own) owns (drop (vars_of own) vs) h.1 h.4 k.1)

  -- ---- a second point
  long_bottom : (n : ℕ) → length (bottom_row n) ≡ suc n
  long_bottom n = ap suc (length-zeros n)

  -- a found point of the test is one of the rows
  pub tested_point : (own : OwnCall) → IsHeld expression p rows own → (s : ℤ) (w : List ℤ) → tested own ≡ Found s w → Failing (vars_of own) (rows_before expression (own_of own)) (bottom_row (vars_of own)) w
  tested_point own held s w e =
      let n = vars_of own in
      let before = rows_before expression (own_of own) in
      let wide : All (λ (r : List ℤ). length r ≡ suc n) before = subst (λ (rs : List (List ℤ)). All (λ (r : List ℤ). length r ≡ suc n) rs) (rows_are expression p comps rows c own held) (wide_rows n own.rows.list held.widths) in
      point_fails n before (bottom_row n) s w wide (long_bottom n) (found_holds (n + 1) (test_rows n before (bottom_row n)) s w (test_wide n before wide) e)

  second_points : (own : OwnCall) → IsHeld expression p rows own → (t : ℕ) (at : Option Point) → IsSecond own t at → HasSecondPoint (pos t) at
  second_points own held t None h = λ e. h (omega (arith, ints, e))
  second_points own held t (Some y) h =
      let f = tested_point own held h.1 h.2 h.3 in
      let t_is : y.t ≡ pos f.t = h.4 ∙ f.t_is in
      let some = f.some in
      let none = h.0 in (
        ap (λ (k : ℕ). pos k) none,
        (subst (λ (z : ℤ). pos 0 ≤ℤ z) (sym t_is) (omega (arith, ints)), subst (λ (zs : List ℤ). All (λ z. pos 0 ≤ℤ z) zs) (sym (h.5 ∙ f.w_is)) (all_natural f.values)),
        λ e. let zero_is : pos f.t ≡ pos 0 = sym t_is ∙ e in omega (arith, ints, zero_is, some),
      )

  pub stand_points : (owns : List OwnCall) → AllByRecursion (IsHeld expression p rows) owns → (vs : List ℕ) (xs : List PairPoint) → Stand owns vs xs → AllByRecursion HasPoints xs
  stand_points [] held vs xs h = subst (AllByRecursion HasPoints) (sym h) tt
  stand_points (own ∷ owns) held [] xs h = absurd h
  stand_points (own ∷ owns) held (t ∷ vs) xs (inl h) = stand_points owns held.1 (drop (vars_of own) vs) xs h.1
  stand_points (own ∷ owns) held (t ∷ vs) xs (inr h) =
      subst (AllByRecursion HasPoints) (sym h.2) (
        ((omega (arith, ints), all_natural (take (vars_of own) vs)), second_points own held.0 t h.0 h.3),
        stand_points owns held.1 (drop (vars_of own) vs) h.1 h.4,
      )

  -- ---- they have the same loads
  values_nought : (ts : List Tree) (n t : ℕ) (w : List ℕ) → IsNought (map pos (t ∷ w)) → IsNought (values_at expression n w t ts)
  values_nought ts n t w h zero d lt = nought_head (pos t) (map pos w) h
  values_nought [] n t w h (suc k) d lt = absurd (omega (arith, lt))
  values_nought (x ∷ ts) n t w h (suc zero) d lt = dot_nought (expression n x) (pos t ∷ map pos w) h
  values_nought (x ∷ ts) n t w h (suc (suc k)) d lt = values_nought ts n t w h (suc k) d (omega (arith, lt))

  pub stand_heads : (owns : List OwnCall) (vs : List ℕ) → length vs ≡ number_count (map own_of owns) → (xs : List PairPoint) → Stand owns vs xs → AreLeft (map (head_load expression) (pairs_at (map own_of owns) vs)) (head_loads expression p xs)
  stand_heads [] vs e xs h = ap (head_loads expression p) h
  stand_heads (own ∷ owns) [] e xs h = absurd h
  stand_heads (own ∷ owns) (t ∷ vs) e xs (inl h) =
      let n = vars_of own in
      let rest = length_drop n vs (number_count (map own_of owns)) (omega (arith, e)) in
      inl (values_nought (clause_at p own.clause).head.args n t (take n vs) h.0, stand_heads owns (drop n vs) rest xs h.1)
  stand_heads (own ∷ owns) (t ∷ vs) e xs (inr h) =
      let n = vars_of own in
      let rest = length_drop n vs (number_count (map own_of owns)) (omega (arith, e)) in
      let long : length (map pos (take n vs)) ≡ n = length-map (take n vs) (λ k. pos k) ∙ length_take n vs (omega (arith, e)) in
      inr (
        head_loads expression p h.1,
        ap (head_loads expression p) h.2
            ∙ ap (λ (k : ℕ). ((clause_at p own.clause).head.pred.0, values_of (map (expression k) (clause_at p own.clause).head.args) (point_at own t (take n vs) h.0).point) ∷ head_loads expression p h.1) long,
        stand_heads owns (drop n vs) rest h.1 h.4,
      )

  pub stand_calls : (owns : List OwnCall) (vs : List ℕ) → length vs ≡ number_count (map own_of owns) → (xs : List PairPoint) → Stand owns vs xs → AreLeft (map (call_load expression) (pairs_at (map own_of owns) vs)) (call_loads expression p xs)
  stand_calls [] vs e xs h = ap (call_loads expression p) h
  stand_calls (own ∷ owns) [] e xs h = absurd h
  stand_calls (own ∷ owns) (t ∷ vs) e xs (inl h) =
      let n = vars_of own in
      let rest = length_drop n vs (number_count (map own_of owns)) (omega (arith, e)) in
      inl (values_nought (call_of p (point_at own t [] None)).args n t (take n vs) h.0, stand_calls owns (drop n vs) rest xs h.1)
  stand_calls (own ∷ owns) (t ∷ vs) e xs (inr h) =
      let n = vars_of own in
      let rest = length_drop n vs (number_count (map own_of owns)) (omega (arith, e)) in
      let long : length (map pos (take n vs)) ≡ n = length-map (take n vs) (λ k. pos k) ∙ length_take n vs (omega (arith, e)) in
      let x = point_at own t (take n vs) h.0 in
      inr (
        call_loads expression p h.1,
        ap (call_loads expression p) h.2
            ∙ ap (λ (k : ℕ). ((call_of p x).pred.0, values_of (map (expression k) (call_of p x).args) x.point) ∷ call_loads expression p h.1) long,
        stand_calls owns (drop n vs) rest h.1 h.4,
      )

  -- some t is positive
  pub stand_positive : (owns : List OwnCall) (vs : List ℕ) (xs : List PairPoint) → Stand owns vs xs → SomeOf (λ (y : Pair). 1 ≤ y.t) (pairs_at (map own_of owns) vs) → SomeOf (λ (x : PairPoint). pos 1 ≤ℤ x.point.t) xs
  stand_positive [] vs xs h s = absurd s
  stand_positive (own ∷ owns) [] xs h s = absurd h
  stand_positive (own ∷ owns) (t ∷ vs) xs (inl h) (inl s) = let none = nought_head (pos t) (map pos (take (vars_of own) vs)) h.0 in absurd (omega (arith, ints, none, s))
  stand_positive (own ∷ owns) (t ∷ vs) xs (inl h) (inr s) = stand_positive owns (drop (vars_of own) vs) xs h.1 s
  stand_positive (own ∷ owns) (t ∷ vs) xs (inr h) (inl s) = subst (SomeOf (λ (x : PairPoint). pos 1 ≤ℤ x.point.t)) (sym h.2) (inl (omega (arith, ints, s)))
  stand_positive (own ∷ owns) (t ∷ vs) xs (inr h) (inr s) = subst (SomeOf (λ (x : PairPoint). pos 1 ≤ℤ x.point.t)) (sym h.2) (inr (stand_positive owns (drop (vars_of own) vs) h.1 h.4 s))
