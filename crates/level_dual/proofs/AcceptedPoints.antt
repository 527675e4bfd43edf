-- The check of a certificate accepts the points that elimination's multipliers spell, where its numbers fit.
use Rattle.std.proofs.Common.{◌≡◌, ℕ, ◌-◌, ℤ, pos, ◌≤ℤ◌, Bool, true, List, [], ◌∷◌, ◌++◌, map, take, drop, length, Option, None, Some, inl, inr, refl, ap, sym, subst, ◌∙◌, arith}
use Rattle.std.specs.Prelude.{IfSome}
use Rattle.std.specs.List.{AllByRecursion}
use Rattle.std.proofs.lemmas.List.{length-map}
use Rattle.call_components.proofs.Lists.{all_map}
use Rattle.call_components.specs.Partition.{Partition}
use Rattle.cti_terms.specs.Listing.{Listing}
use Rattle.cti_terms.specs.Tree.{Tree}
use Rattle.exact128.specs.Sums.{DotFits, dot, entry}
use Rattle.linear_rows.proofs.Members.{from_All, in-map, of-filter}
use Rattle.linear_rows.proofs.Refutes.{refuted_refutes}
use Rattle.linear_rows.specs.Members.{In}
use Rattle.linear_rows.specs.Proves.{Refutes}
use Rattle.linear_rows.specs.Replacing.{row_fits}
use Rattle.linear_rows.specs.Rows.{Holds}
use Rattle.linear_rows.specs.Solving.{Solution}
use Rattle.linear_rows.specs.Solving.Solution.{Blown, Found, Refuted}
use Rattle.linear_rows.specs.declared.multipliers.Multipliers.{Multipliers}
use Rattle.linear_rows.specs.declared.point.Point.{Point}
use Rattle.number_tests.specs.Refuting.{PairFits, PointHolds, RowHolds, SumsRefute, ValueFits, call_loads, call_of, head_loads, numbers_of}
use Rattle.number_tests.specs.Shape.{PairsAscend}
use Rattle.number_tests.specs.declared.pair_point.PairPoint.{PairPoint}
use Rattle.termination_model.proofs.AllPositionsLaws.{positions_cover_pairs}
use Rattle.termination_model.proofs.Excludes.{all_refute}
use Rattle.termination_model.proofs.Readiness.{views_have_few}
use Rattle.termination_model.proofs.Refuting.{multipliers_refute}
use Rattle.termination_model.specs.mappings.AllPositions.{IsCoveredBy}
use Rattle.termination_model.specs.mappings.BlownSupports.{emptiness, is_found}
use Rattle.termination_model.specs.mappings.ComponentViews.{component_view, members_in, size_claims}
use Rattle.termination_model.specs.mappings.Excluding.{IsRefutationAt, number_count, pairs_at}
use Rattle.termination_model.specs.mappings.OwnCalls.{OwnCall as Recalled, Position, own_calls, rows_before}
use Rattle.termination_model.specs.mappings.Ready.{arity_in}
use Rattle.termination_model.specs.mappings.Refutation.{IsPair, IsRefutation, Load, Pair, call_load, gather, head_load}
use Rattle.termination_model.specs.mappings.SupportSystem.{support_rows, unknowns}
use Rattle.termination_model.specs.sizes.Systems.{system}
use Rattle.termination_model.specs.mappings.View.{Rule, system_of}
use Rattle.level_systems.specs.Held.{IsHeld, live_of, numbers_of_call, spelled, with_live}
use Rattle.level_systems.specs.Pairs.{clause_at}
use Rattle.level_systems.specs.Refuted.{ArePoints, AreSpelled, HasPoints, IsInFit, RefuteIf, lives_of, solution_of}
use Rattle.level_systems.specs.Searched.{IsComponent}
use Rattle.level_systems.specs.declared.component.Component.{Component}
use Rattle.level_systems.specs.declared.own_call.OwnCall.{OwnCall}
use Rattle.level_dual.specs.Accepted.{AreAccepted}
use Rattle.level_dual.proofs.Ascending.{AscendFrom, live_ascend, pairs_ascend}
use Rattle.level_dual.proofs.Excluded.{callees, callers, of_members, rows_number}
use Rattle.level_systems.proofs.HeldCalls.{all_in, all_live, in_calls, lives_in, lives_own, re, rows_are}
use Rattle.level_dual.proofs.Loads.{gathers_same, sums_fit}
use Rattle.level_dual.proofs.SearchLaws.{lives, mine, take_mapped}
use Rattle.level_dual.proofs.SolvedSystems.{one_refutation}
use Rattle.level_dual.proofs.SpelledPoints.{IsSecond, Stand, all_spelled, point_at, points_stand, stand_ascend, stand_calls, stand_heads, stand_points, stand_positive, tested, tested_point, vars_of}
use Rattle.level_dual.proofs.SystemWidths.{support_wide}

-- ---- lists
all_left : {X : Type 0} (P : X → Type 0) (xs ys : List X) → AllByRecursion P (xs ++ ys) → AllByRecursion P xs
all_left P [] ys h = tt
all_left P (x ∷ xs) ys h = (h.0, all_left P xs ys h.1)

all_right : {X : Type 0} (P : X → Type 0) (xs ys : List X) → AllByRecursion P (xs ++ ys) → AllByRecursion P ys
all_right P [] ys h = h
all_right P (x ∷ xs) ys h = all_right P xs ys h.1

live_case : (P : OwnCall → Type 0) (m : Option Multipliers) (own : OwnCall) (rest : List OwnCall) → P own → AllByRecursion P rest → AllByRecursion P (with_live m own rest)
live_case P None own rest h k = (h, k)
live_case P (Some by) own rest h k = k

all_lives : (P : OwnCall → Type 0) (owns : List OwnCall) → AllByRecursion P owns → AllByRecursion P (live_of owns)
all_lives P [] h = tt
all_lives P (own ∷ owns) h = live_case P own.empty own (live_of owns) h.0 (all_lives P owns h.1)

-- rows hold at a point in numbers that fit
rows_hold : (lines : List (List ℤ)) (at : Point) → ((r : List ℤ) → In r lines → row_fits r ≡ true) → AllByRecursion (λ r. DotFits (length r) r (numbers_of at)) lines → ((r : List ℤ) → In r lines → pos 0 ≤ℤ dot r (numbers_of at))
    → AllByRecursion (RowHolds at) lines
rows_hold [] at fit values holds = tt
rows_hold (r ∷ lines) at fit values holds =
    (record { numbers_fit = fit r (inl refl); value_fits = values.0; holds = holds r (inl refl) }, rows_hold lines at (λ s i. fit s (inr i)) values.1 (λ s i. holds s (inr i)))

is_some_point : (s : Solution) → is_found s ≡ true → (t : ℤ) × (w : List ℤ) × (s ≡ Found t w)
is_some_point (Blown step wide) e = cc
is_some_point (Found t w) e = (t, w, refl)
is_some_point (Refuted ms) e = cc

module _ (expression : ℕ → Tree → List ℤ) (p : Listing) (comps : Partition) (rows : ℕ → List (List ℤ)) (c : ℕ) where
  abbrev view : List Rule
  view = component_view expression p comps rows c

  abbrev own_of : OwnCall → Recalled
  own_of own = re expression p comps rows c own

  abbrev pair_at : OwnCall → ℕ → List ℕ → Pair
  pair_at own t w = record { rule = (own_of own).rule; place = (own_of own).place; call = (own_of own).call; member = (own_of own).member; w = w; t = t }

  abbrev lines_of : Pair → List (List ℤ)
  lines_of y = system_of expression y.rule.vars (take y.place y.rule.body)

  -- the numbers of the check of a pair fit
  abbrev ValuesFit : Pair → Type 0
  ValuesFit y = AllByRecursion (λ e. DotFits (length e) e (pos y.t ∷ map pos y.w)) (lines_of y ++ (map (expression y.rule.vars) y.rule.args ++ map (expression y.rule.vars) y.call.args))

  abbrev SecondsFit : Pair → Type 0
  SecondsFit y =
      (o : Recalled) (t : ℤ) (w : List ℤ) → y.t ≡ 0 → In o (own_calls view) → o.rule ≡ y.rule → o.place ≡ y.place → emptiness expression view (arity_in p) o ≡ Found t w
      → AllByRecursion (λ e. DotFits (length e) e (entry w o.rule.vars ∷ take o.rule.vars w)) (lines_of y)

  abbrev IsGood : PairPoint → Type 0
  IsGood x = PairFits expression p x × PointHolds expression p rows x

  module _ (own : OwnCall) (held : IsHeld expression p rows own) (inside : In (own_of own) (own_calls view)) (t : ℕ) (w : List ℕ) where
    lines_same : system expression rows (vars_of expression p comps rows c own) (take (own.call - 1) (clause_at p own.clause).body) ≡ rows_before expression (own_of own)
    lines_same = sym held.before ∙ rows_are expression p comps rows c own held

    line_fits : (r : List ℤ) → In r (rows_before expression (own_of own)) → row_fits r ≡ true
    line_fits r i = held.fit r (subst (In r) (sym (rows_are expression p comps rows c own held)) i)

    second_holds : SecondsFit (pair_at own t w) → (y : Point) → IsSecond expression p comps rows c own t (Some y) → AllByRecursion (RowHolds y) (rows_before expression (own_of own))
    second_holds fit y h =
        let n = vars_of expression p comps rows c own in
        let f = tested_point expression p comps rows c own held h.1 h.2 h.3 in
        let numbers : y.t ∷ y.w ≡ entry h.2 n ∷ take n h.2 = λ i. h.4 i ∷ h.5 i in
        let point : y.t ∷ y.w ≡ pos f.t ∷ map pos f.values = λ i. (h.4 ∙ f.t_is) i ∷ (h.5 ∙ f.w_is) i in
        rows_hold (rows_before expression (own_of own)) y line_fits
        (subst (λ (zs : List ℤ). AllByRecursion (λ e. DotFits (length e) e zs) (rows_before expression (own_of own))) (sym numbers) (fit (own_of own) h.1 h.2 h.0 inside refl refl h.3))
        (λ r i. subst (λ (zs : List ℤ). pos 0 ≤ℤ dot r zs) (sym point) (from_All (λ s. Holds s f.t f.values) (rows_before expression (own_of own)) r f.hold i))

    at_holds : SecondsFit (pair_at own t w) → (at : Option Point) → IsSecond expression p comps rows c own t at
        → IfSome at (λ (y : Point). AllByRecursion (RowHolds y) (system expression rows (vars_of expression p comps rows c own) (take (own.call - 1) (clause_at p own.clause).body)))
    at_holds fit None h = tt
    at_holds fit (Some y) h = subst (AllByRecursion (RowHolds y)) (sym lines_same) (second_holds fit y h)

    point_good : ValuesFit (pair_at own t w) → SecondsFit (pair_at own t w) → IsPair expression view (pair_at own t w) → (at : Option Point) → IsSecond expression p comps rows c own t at
        → IsGood (point_at expression p comps rows c own t w at)
    point_good values seconds pair at h =
        let n = vars_of expression p comps rows c own in
        let k = clause_at p own.clause in
        let x = point_at expression p comps rows c own t w at in
        let heads = map (expression n) k.head.args in
        let calls = map (expression n) (call_of p x).args in
        let lines = rows_before expression (own_of own) in
        let long : n ≡ length (map pos w) = sym (length-map w (λ (m : ℕ). pos m) ∙ pair.width) in
        let sizes = all_right (ValueFits x.point) lines (heads ++ calls) values in (
          (
            subst (λ (m : ℕ). AllByRecursion (ValueFits x.point) (map (expression m) k.head.args)) long (all_left (ValueFits x.point) heads calls sizes),
            subst (λ (m : ℕ). AllByRecursion (ValueFits x.point) (map (expression m) (call_of p x).args)) long (all_right (ValueFits x.point) heads calls sizes),
          ),
          (
            subst (AllByRecursion (RowHolds x.point)) (sym lines_same)
                (rows_hold lines x.point line_fits (all_left (ValueFits x.point) lines (heads ++ calls) values) (λ r i. from_All (λ s. Holds s t w) lines r pair.holds i)),
            at_holds seconds at h,
          ),
        )

  pub stand_good : (owns : List OwnCall) → AllByRecursion (IsHeld expression p rows) owns → AllByRecursion (λ (own : OwnCall). In (own_of own) (own_calls view)) owns → (vs : List ℕ) (xs : List PairPoint) → Stand expression p comps rows c owns vs xs
      → AllByRecursion ValuesFit (pairs_at (map own_of owns) vs) → AllByRecursion SecondsFit (pairs_at (map own_of owns) vs) → AllByRecursion (IsPair expression view) (pairs_at (map own_of owns) vs) → AllByRecursion IsGood xs
  stand_good [] held inside vs xs h values seconds pairs = subst (AllByRecursion IsGood) (sym h) tt
  stand_good (own ∷ owns) held inside [] xs h values seconds pairs = absurd h
  stand_good (own ∷ owns) held inside (t ∷ vs) xs (inl h) values seconds pairs =
      stand_good owns held.1 inside.1 (drop (vars_of expression p comps rows c own) vs) xs h.1 values.1 seconds.1 pairs.1
  stand_good (own ∷ owns) held inside (t ∷ vs) xs (inr h) values seconds pairs =
      subst (AllByRecursion IsGood) (sym h.2) (
        point_good own held.0 inside.0 t (take (vars_of expression p comps rows c own) vs) values.0 seconds.0 pairs.0 h.0 h.3,
        stand_good owns held.1 inside.1 (drop (vars_of expression p comps rows c own) vs) h.1 h.4 values.1 seconds.1 pairs.1,
      )

module _ (size : (ℕ → ℕ) → Tree → ℕ) (truth : (ℕ → Bool) → Tree → Bool) (expression : ℕ → Tree → List ℤ) (p : Listing) (comps : Partition) (rows : ℕ → List (List ℤ)) (c : ℕ) (x : Component)
    (h : IsComponent size truth expression p comps rows c x) (fit : IsInFit expression p comps rows c x) where
  abbrev owns : List OwnCall
  owns = live_of x.calls.items

  abbrev ls : List Recalled
  ls = lives size truth expression p comps rows c x h

  abbrev ps : List Position
  ps = map spelled x.order.items

  abbrev ms : List ℕ
  ms = mine size truth expression p comps rows c x h

  abbrev pairs : List Pair
  pairs = pairs_at ls fit.numbers

  held_lives : AllByRecursion (IsHeld expression p rows) owns
  held_lives = all_lives (IsHeld expression p rows) x.calls.items h.held

  in_view : (o : Recalled) → In o ls → In o (own_calls (view expression p comps rows c))
  in_view o i = in_calls expression p comps rows c x.calls.items h.pairs h.held o i

  inside_lives : AllByRecursion (λ (own : OwnCall). In (own_of expression p comps rows c own) (own_calls (view expression p comps rows c))) owns
  inside_lives = all_in _ owns (λ own i. in_view (own_of expression p comps rows c own) (in-map (own_of expression p comps rows c) owns own i))

  found_lives : AllByRecursion (λ (own : OwnCall). (s : ℤ) × (w : List ℤ) × (tested expression p comps rows c own ≡ Found s w)) owns
  found_lives = all_in _ owns (λ own i.
      let o = own_of expression p comps rows c own in
      let live = of-filter (λ (y : Recalled). is_found (emptiness expression (view expression p comps rows c) (arity_in p) y)) (own_calls (view expression p comps rows c)) o
      (subst (In o) (sym fit.live) (in-map (own_of expression p comps rows c) owns own i)) in
      is_some_point (tested expression p comps rows c own) live.1)

  refuted : Refutes (unknowns expression ps ms ls) (support_rows expression ps ms ls) (map pos fit.numbers)
  refuted = refuted_refutes (unknowns expression ps ms ls) (support_rows expression ps ms ls) (map pos fit.numbers) (support_wide expression ps ms ls) fit.refuted

  long : length fit.numbers ≡ number_count ls
  long = sym (length-map fit.numbers (λ (m : ℕ). pos m)) ∙ refuted.long ∙ rows_number expression ps ms 0 ls

  of_mine : (o : Recalled) → In o ls → In o.rule.member ms × In o.member ms
  of_mine o i = (
    callers size truth expression p comps rows c x h o (in_view o i),
    callees size truth expression p comps rows c x h x.calls.items h.inside h.held o (lives_in expression p comps rows c x.calls.items o i),
  )

  excludes : IsRefutationAt expression ps ms (view expression p comps rows c) pairs
  excludes =
      multipliers_refute expression (view expression p comps rows c) ps ms ls fit.numbers (λ k t. h.norm.width k t) (lives_own expression p comps rows c x.calls.items h.pairs h.held)
      (all_live expression p comps rows c x.calls.items h.held) long refuted

  refutation : IsRefutation expression (view expression p comps rows c) pairs
  refutation =
      all_refute expression (view expression p comps rows c) ps ms pairs (of_members ms ls fit.numbers of_mine)
      (subst (λ (qs : List Position). AllByRecursion (IsCoveredBy qs) pairs) (sym h.order) (positions_cover_pairs (arity_in p) ms ls fit.numbers (λ o i.
      let there = of_mine o i in
      (views_have_few p (size_claims expression p comps rows) c h.program o (in_view o i), there.0, there.1)))) excludes

  pub spelled_accepted : AreSpelled owns (map pos fit.numbers)
  spelled_accepted = all_spelled expression p comps rows c owns held_lives found_lives fit.numbers long

  module _ (xs : List PairPoint) (given : RefuteIf owns (solution_of expression x (lives_of expression p comps rows c x)) (Some xs)) where
    are : ArePoints owns (map pos fit.numbers) xs
    are = subst (λ (zs : List ℤ). ArePoints owns zs xs) (one_refutation (solution_of expression x (lives_of expression p comps rows c x)) given.0 (map pos fit.numbers) given.1 fit.refuted) given.2

    stand : Stand expression p comps rows c owns fit.numbers xs
    stand = points_stand expression p comps rows c owns held_lives fit.numbers long xs are

    good : AllByRecursion (IsGood expression p comps rows c) xs
    good = stand_good expression p comps rows c owns held_lives inside_lives fit.numbers xs stand fit.fits.values fit.fits.seconds refutation.pairs

    formed_accepted : PairsAscend (0, 0) xs × AllByRecursion HasPoints xs
    formed_accepted =
        let all : AscendFrom (0, 0) (map numbers_of_call x.calls.items) = subst (AscendFrom (0, 0)) (sym h.pairs) (pairs_ascend comps c (0, 0) 0 p.clauses (omega arith)) in
        (stand_ascend expression p comps rows c (0, 0) owns fit.numbers xs stand (live_ascend (0, 0) x.calls.items all), stand_points expression p comps rows c owns held_lives fit.numbers xs stand)

    sums_accepted : SumsRefute expression p (members_in comps c) xs
    sums_accepted =
        let heads = stand_heads expression p comps rows c owns fit.numbers long xs stand in
        let calls = stand_calls expression p comps rows c owns fit.numbers long xs stand in
        record {
          positive = stand_positive expression p comps rows c owns fit.numbers xs stand refutation.positive;
          fit = record {
            values = all_map (IsGood expression p comps rows c) (PairFits expression p) (λ y g. g.0) xs good;
            heads = sums_fit (map (head_load expression) pairs) (head_loads expression p xs) heads (λ k q. ap (λ (hs : List Load). row_fits (gather q hs)) (take_mapped (head_load expression) k pairs) ∙ fit.fits.head_sums k q);
            calls = sums_fit (map (call_load expression) pairs) (call_loads expression p xs) calls (λ k q. ap (λ (hs : List Load). row_fits (gather q hs)) (take_mapped (call_load expression) k pairs) ∙ fit.fits.call_sums k q);
          };
          columns = λ q _ i.
              let a = gathers_same (map (head_load expression) pairs) (head_loads expression p xs) heads q i in
              let b = gathers_same (map (call_load expression) pairs) (call_loads expression p xs) calls q i in
              subst (λ (z : ℤ). z ≤ℤ entry (gather q (call_loads expression p xs)) i) (sym a)
              (subst (λ (z : ℤ). entry (gather q (map (head_load expression) pairs)) i ≤ℤ z) (sym b) (refutation.columns q i));
        }

    pub points_accepted : AreAccepted expression p rows (members_in comps c) xs
    points_accepted = record {
      ascend = formed_accepted.0;
      points = formed_accepted.1;
      sums = sums_accepted;
      hold = all_map (IsGood expression p comps rows c) (PointHolds expression p rows) (λ y g. g.1) xs good;
    }
