-- The course of a search: its start, one turn more, and its ends.
use Rattle.std.proofs.Common.{◌≡◌, ◌==◌, ◌<◌, ◌≤◌, ℕ, zero, suc, ℤ, Bool, true, false, List, [], ◌∷◌, ◌++◌, map, drop, length, Option, None, Some, inl, inr, refl, ap, sym, subst, ◌∙◌, arith}
use Rattle.std.specs.List.{AllByRecursion}
use Rattle.std.proofs.lemmas.List.{length-append, length-map}
use Rattle.call_components.specs.Numbers.{number_of}
use Rattle.call_components.specs.Partition.{Partition}
use Rattle.cti_terms.specs.Listing.{Listing}
use Rattle.cti_terms.specs.Tree.{Tree}
use Rattle.linear_rows.specs.Rows.{AreEmpty}
use Rattle.linear_rows.specs.Plain.{plain_rows}
use Rattle.linear_rows.specs.declared.multipliers.Multipliers.{Multipliers}
use Rattle.termination_model.specs.mappings.ComponentViews.{component_view, members_in}
use Rattle.termination_model.specs.mappings.OwnCalls.{OwnCall as Recalled, Position as Place, members_of, own_calls, rows_before}
use Rattle.termination_model.specs.mappings.Ready.{arity_in}
use Rattle.termination_model.specs.lists.TurnSystem.{left}
use Rattle.termination_model.specs.lists.Turns.{AreTurns, IsTurn, Turn, remaining}
use Rattle.termination_model.specs.mappings.View.{Rule, fall_over}
use Rattle.level_systems.specs.Falling.{IsReady}
use Rattle.level_systems.specs.Held.{HasPoint, IsHeld, IsReach, live_of, spelled, with_live}
use Rattle.level_systems.specs.Mappings.{HasMeasures, level_in}
use Rattle.level_systems.specs.Pairs.{clause_at}
use Rattle.number_tests.specs.declared.level_part.LevelPart.{LevelPart}
use Rattle.termination_model.proofs.Readiness.{from_in}
use Rattle.level_systems.specs.Searched.{IsComponent}
use Rattle.level_systems.specs.Turned.{all_rows}
use Rattle.level_systems.specs.declared.component.Component.{Component}
use Rattle.level_systems.specs.declared.measure.Measure.{Measure}
use Rattle.level_systems.specs.declared.own_call.OwnCall.{OwnCall}
use Rattle.level_systems.specs.declared.position.Position.{Position}
use Rattle.level_systems.proofs.HeldCalls.{all_in, calls_are, re, rows_are, shown_empty}
use Rattle.level_dual.proofs.FoundLaws.{wide_heads}
use Rattle.lex_turns.specs.Coursing.{IsAdvanced, IsCourse, KeepReached, SomeLeft, is_none, remaining_of}
use Rattle.lex_turns.specs.FoundLists.{AreNeeded}
use Rattle.lex_turns.proofs.Leaving.{first_reached, left_needed, more_left, more_reached}
use Rattle.lex_turns.specs.Descending.{AreMeasuresOf, AreReached, HasPlace, IsGivenUp, IsListAt, IsMeasureOf, IsTurnBlown, is_first}
use Rattle.lex_turns.specs.Descending.IsGivenUp.{turned}
use Rattle.lex_turns.specs.Descending.AreMeasuresAt.{turned as measured_turned, zero as measured_zero}
use Rattle.number_tests.specs.Drops.{fall_number}
use Rattle.lex_turns.specs.Testing.{EmptyFall, SomeFalls}
use Rattle.lex_turns.specs.Zeros.{AreZeros}
use Rattle.lex_turns.proofs.DropsShown.{all_dead}
use Rattle.call_components.proofs.Lists.{all_map}
use Rattle.level_dual.proofs.PartLaws.{part_shape}
use Rattle.level_systems.specs.Valued.{IsPartOf}
use Rattle.number_tests.specs.Shape.{IsLevelPart}
use Rattle.termination_model.specs.mappings.SupportSystem.{mapping_at}
use Rattle.termination_model.specs.sizes.Systems.{row_fits}
use Rattle.lex_turns.specs.Tracking.{AreTracked, HasTurns, after_drops, after_falls, drops_first, gone_first, kept, recalled, staying}
use Rattle.lex_turns.specs.Turning.{IsMade, IsTurnOf}
use Rattle.lex_turns.specs.declared.call_drops.CallDrops.{CallDrops}
use Rattle.lex_turns.specs.declared.course.Course.{Course}
use Rattle.lex_turns.specs.declared.measure_list.MeasureList.{MeasureList}
use Rattle.lex_turns.specs.declared.turn.Made.{Made}
use Rattle.lex_turns.proofs.Places.{pairs_are, places_are}
use Rattle.lex_turns.proofs.TrackedCalls.{after_long, first_kept, first_tracked, kept_count, kept_left, tracked_more, zero_tracked}
use Rattle.lex_turns.proofs.TurnMaking.{drops_long}
use Rattle.lex_turns.proofs.ZeroTargets.{zero_fits}

pub both : (b : Bool) → b ≡ true → b ≡ false → ⊥
both b e f = cc

pub not_zero : (n : ℕ) (b : Bool) → b ≡ (n == 0) → b ≡ false → 1 ≤ n
not_zero zero b e f = cc
not_zero (suc n) b e f = omega arith

pub none_is : {X : Type 0} (xs : List X) (b : Bool) → (b ≡ true → xs ≡ []) → (xs ≡ [] → b ≡ true) → b ≡ is_none xs
none_is [] b f g = g refl
none_is (x ∷ xs) true f g = let e = f refl in cc
none_is (x ∷ xs) false f g = refl

-- a list that is not empty has a first element
pub record HasFirst {X : Type 0} (xs : List X) : Type 0 where
  pub first : X
  pub others : List X
  pub is : xs ≡ first ∷ others

pub not_empty : {X : Type 0} (xs : List X) → (xs ≡ [] → ⊥) → HasFirst xs
not_empty [] some = absurd (some refl)
not_empty (x ∷ xs) some = record { first = x; others = xs; is = refl }

-- ---- lists of turns
left_mapped : (f : OwnCall → Recalled) (os : List OwnCall) (ds : List ℕ) → left (map f os) ds ≡ map f (left os ds)
left_mapped f [] ds = refl
left_mapped f (o ∷ os) [] = refl
left_mapped f (o ∷ os) (zero ∷ ds) = ap (λ rest. f o ∷ rest) (left_mapped f os ds)
left_mapped f (o ∷ os) (suc d ∷ ds) = left_mapped f os ds

turns_more : (expression : ℕ → Tree → List ℤ) (ps : List Place) (qs : List ℕ) (rest : List Recalled) (us : List Turn) (u : Turn) → AreTurns expression ps qs rest us → IsTurn expression ps qs (remaining rest us) u
    → AreTurns expression ps qs rest (us ++ u ∷ [])
turns_more expression ps qs rest [] u are is = (is, tt)
turns_more expression ps qs rest (v ∷ us) u are is = (are.0, turns_more expression ps qs (left rest v.drops) us u are.1 is)

remaining_more : (rest : List Recalled) (us : List Turn) (u : Turn) → remaining rest (us ++ u ∷ []) ≡ left (remaining rest us) u.drops
remaining_more rest [] u = refl
remaining_more rest (v ∷ us) u = remaining_more (left rest v.drops) us u

measures_more : (p : Listing) (names : List ℕ) (ps : List Place) (qs : List ℕ) (us : List Turn) (mss : List (List Measure)) (u : Turn) (ms : List Measure) → AreMeasuresOf p names ps qs us mss → IsMeasureOf p names ps qs u ms
    → AreMeasuresOf p names ps qs (us ++ u ∷ []) (mss ++ ms ∷ [])
measures_more p names ps qs [] [] u ms are is = (is, tt)
measures_more p names ps qs [] (ns ∷ mss) u ms are is = absurd are
measures_more p names ps qs (v ∷ us) [] u ms are is = absurd are
measures_more p names ps qs (v ∷ us) (ns ∷ mss) u ms are is = (are.0, measures_more p names ps qs us mss u ms are.1 is)

pub drops_kept : (owns : List OwnCall) (gs : List Bool) (values : List ℤ) (ds : List CallDrops) → length (after_drops owns gs values ds) ≡ length ds
drops_kept [] gs values ds = refl
drops_kept (own ∷ owns) [] values ds = refl
drops_kept (own ∷ owns) (g ∷ gs) values [] = refl
drops_kept (own ∷ owns) (true ∷ gs) values (d ∷ ds) = ap suc (drops_kept owns gs values ds)
drops_kept (own ∷ owns) (false ∷ gs) values (d ∷ ds) = ap suc (drops_kept owns gs (drop (length own.rows.list) values) ds)

-- ---- the start
pub start_course : (p : Listing) (x : Component) (at : List Position) (course : Course) → course.gone.items ≡ map gone_first x.calls.items → course.drops.items ≡ map drops_first x.calls.items → course.measures ≡ [] → IsCourse p x at course
start_course p x at course eg ed em =
    let owns = x.calls.items in
    record {
      gone = ap length eg ∙ length-map owns gone_first;
      drops = ap length ed ∙ length-map owns drops_first;
      tracked = subst (λ (mss : List (List Measure)). AreTracked mss owns course.gone.items course.drops.items) (sym em)
          (subst (λ (gs : List Bool). AreTracked [] owns gs course.drops.items) (sym eg) (subst (λ (ds : List CallDrops). AreTracked [] owns (map gone_first owns) ds) (sym ed) (first_tracked owns)));
      turns = λ size truth expression comps rows c h. record {
        turns = [];
        are = tt;
        left = ap (recalled expression p comps rows c x at) (sym (first_kept owns) ∙ ap (kept owns) (sym eg));
        measures = subst (λ (mss : List (List Measure)). AreMeasuresOf p (members_in comps c) (map spelled at) (map number_of x.by_clauses.items) [] mss) (sym em) tt;
      };
      reached = subst (KeepReached owns) (sym eg) (first_reached owns);
      leave = λ i less. let none = ap length em in absurd (omega (arith, less, none));
    }

-- ---- one turn more
pub more_course : (p : Listing) (x : Component) (at : List Position) (old new : Course) (m : Made) (first : Bool) → AllByRecursion IsReady x.calls.items → IsCourse p x at old → IsAdvanced x m old new
    → (old.measures ≡ [] → first ≡ true) → IsMade x (remaining_of x old) first m
    → ((size : (ℕ → ℕ) → Tree → ℕ) (truth : (ℕ → Bool) → Tree → Bool) (expression : ℕ → Tree → List ℤ) (comps : Partition) (rows : ℕ → List (List ℤ)) (c : ℕ) → IsComponent size truth expression p comps rows c x
    → IsTurnOf expression p comps rows c x at (remaining_of x old) m)
    → IsCourse p x at new
more_course p x at old new m first ready course moved firsts made turn =
    let owns = x.calls.items in
    let gs = old.gone.items in
    let rest = kept owns gs in
    let long : length m.falls ≡ staying gs = drops_long m.measures rest m.values m.falls made.drops ∙ kept_count owns gs course.gone in
    let room : all_rows rest ≤ length m.values = let e = made.long in omega (arith, e) in
    let tracked = tracked_more old.measures m.measures owns gs m.falls m.values old.drops.items ready course.tracked made.drops made.naturals room (λ e. made.empty (firsts e)) in
    record {
      gone = ap length moved.gone ∙ after_long gs m.falls ∙ course.gone;
      drops = ap length moved.drops ∙ drops_kept owns gs m.values old.drops.items ∙ course.drops;
      tracked = subst (λ (mss : List (List Measure)). AreTracked mss owns new.gone.items new.drops.items) (sym moved.measures)
          (subst (λ (fs : List Bool). AreTracked (old.measures ++ m.measures ∷ []) owns fs new.drops.items) (sym moved.gone)
          (subst (λ (ds : List CallDrops). AreTracked (old.measures ++ m.measures ∷ []) owns (after_falls gs m.falls) ds) (sym moved.drops) tracked));
      turns = λ size truth expression comps rows c h.
          let before = course.turns size truth expression comps rows c h in
          let now = turn size truth expression comps rows c h in
          let ps = map spelled at in
          let qs = map number_of x.by_clauses.items in
          let lives = recalled expression p comps rows c x at (live_of owns) in
          let told = recalled expression p comps rows c x at in
          record {
            turns = before.turns ++ now.turn ∷ [];
            are = turns_more expression ps qs lives before.turns now.turn before.are (subst (λ (os : List Recalled). IsTurn expression ps qs os now.turn) (sym before.left) now.is);
            left = remaining_more lives before.turns now.turn ∙ (λ i. left (before.left i) (now.drops i)) ∙ left_mapped (re expression p comps rows c) rest (map fall_number m.falls)
                ∙ ap told (sym (kept_left owns gs m.falls course.gone long) ∙ ap (kept owns) (sym moved.gone));
            measures = subst (λ (mss : List (List Measure)). AreMeasuresOf p (members_in comps c) ps qs (before.turns ++ now.turn ∷ []) mss) (sym moved.measures)
                (measures_more p (members_in comps c) ps qs before.turns old.measures now.turn m.measures before.measures now.measures);
          };
      reached = subst (KeepReached owns) (sym moved.gone) (more_reached owns gs m.falls course.reached);
      leave = λ i less.
          let many = ap length moved.measures ∙ length-append old.measures (m.measures ∷ []) in
          subst (λ (fs : List Bool). SomeLeft i owns fs new.drops.items) (sym moved.gone) (subst (λ (ds : List CallDrops). SomeLeft i owns (after_falls gs m.falls) ds) (sym moved.drops)
          (more_left old.measures owns gs m.falls m.values old.drops.items course.tracked course.reached long made.some course.leave i (omega (arith, less, many))));
    }

pub fewer_stay : (gs fs : List Bool) → length fs ≡ staying gs → SomeFalls fs → staying (after_falls gs fs) < staying gs
fewer_stay [] [] e s = absurd s
fewer_stay [] (f ∷ fs) e s = absurd (omega (arith, e))
fewer_stay (true ∷ gs) fs e s = fewer_stay gs fs e s
fewer_stay (false ∷ gs) [] e s = absurd s
fewer_stay (false ∷ gs) (true ∷ fs) e s = let most = at_most gs fs (omega (arith, e)) in omega (arith, most)
  where
    at_most : (gs fs : List Bool) → length fs ≡ staying gs → staying (after_falls gs fs) ≤ staying gs
    at_most [] fs e = omega arith
    at_most (true ∷ gs) fs e = at_most gs fs e
    at_most (false ∷ gs) [] e = absurd (omega (arith, e))
    at_most (false ∷ gs) (true ∷ fs) e = let rest = at_most gs fs (omega (arith, e)) in omega (arith, rest)
    at_most (false ∷ gs) (false ∷ fs) e = let rest = at_most gs fs (omega (arith, e)) in omega (arith, rest)
fewer_stay (false ∷ gs) (false ∷ fs) e (inl s) = cc
fewer_stay (false ∷ gs) (false ∷ fs) e (inr s) = let rest = fewer_stay gs fs (omega (arith, e)) s in omega (arith, rest)

-- the mapping that is 0 has a part for each of these predicates
pub zero_shaped : (p : Listing) (names : List ℕ) (ms : List Measure) → AreZeros p names ms → HasMeasures p names ms
zero_shaped p names ms zeros = record {
  each = zeros.each;
  parts = all_map (λ (m : Measure). IsPartOf (mapping_at (arity_in p) [] [] [] []) m.pred.0 m.part) (λ (m : Measure). IsLevelPart (arity_in p m.pred.0) m.part)
      (λ m part. part_shape (arity_in p) [] [] [] [] m.pred.0 m.part part) ms zeros.parts;
}

-- ---- the ends
module _ (size : (ℕ → ℕ) → Tree → ℕ) (truth : (ℕ → Bool) → Tree → Bool) (expression : ℕ → Tree → List ℤ) (p : Listing) (comps : Partition) (rows : ℕ → List (List ℤ)) (c : ℕ) (x : Component)
    (h : IsComponent size truth expression p comps rows c x) where
  abbrev view : List Rule
  view = component_view expression p comps rows c

  abbrev own : OwnCall → Recalled
  own y = re expression p comps rows c y

  reach_case : (y : OwnCall) (owns : List OwnCall) → IsHeld expression p rows y → (m : Option Multipliers) → IsReach (clause_at p y.clause).vars (plain_rows y.rows.list) m → AreReached expression (map own owns) (map own (live_of owns))
      → AreReached expression (map own (y ∷ owns)) (map own (with_live m y (live_of owns)))
  reach_case y owns held None r rest =
      let point : HasPoint (clause_at p y.clause).vars (rows_before expression (own y)) = subst (HasPoint (clause_at p y.clause).vars) (rows_are expression p comps rows c y held) r in
      inr (map own (live_of owns), refl, record { t = point.t; w = point.w; some = point.some; long = point.long; hold = point.hold }, rest)
  reach_case y owns held (Some by) r rest =
      let n = (clause_at p y.clause).vars in
      inl (subst (AreEmpty (suc n)) (rows_are expression p comps rows c y held) (shown_empty n (plain_rows y.rows.list) by r.0 r.1), rest)

  reached_of : (owns : List OwnCall) → AllByRecursion (IsHeld expression p rows) owns → AreReached expression (map own owns) (map own (live_of owns))
  reached_of [] held = refl
  reached_of (y ∷ owns) held = let first = held.0 in reach_case y owns first y.empty first.reach (reached_of owns held.1)

  -- the calls that the code takes as live are those that can be reached
  pub reached : AreReached expression (own_calls view) (map own (live_of x.calls.items))
  reached = subst (λ (os : List Recalled). AreReached expression os (map own (live_of x.calls.items))) (sym (calls_are expression p comps rows c x.calls.items h.pairs h.held)) (reached_of x.calls.items h.held)

  first_same : (ps : List Place) (qs : List ℕ) (names : List ℕ) (qqs : List Place) (us : List Turn) (mss : List (List Measure)) → AreMeasuresOf p names ps qs us mss → is_none mss ≡ is_first expression view (arity_in p) qqs us
  first_same ps qs names qqs [] [] are = refl
  first_same ps qs names qqs [] (ms ∷ mss) are = absurd are
  first_same ps qs names qqs (u ∷ us) [] are = absurd are
  first_same ps qs names qqs (u ∷ us) (ms ∷ mss) are = refl

  -- a call that is never reached falls where the mapping is 0
  pub zeros_fall : (ms : List Measure) → AreZeros p (map number_of x.members.items) ms → EmptyFall ms x.calls.items
  zeros_fall ms zeros =
      let l = mapping_at (arity_in p) [] [] [] [] in
      all_dead size truth expression h.norm p comps rows c ms l zeros.parts x.calls.items h.held (wide_heads size truth expression p comps rows c x h ms (zero_shaped p (map number_of x.members.items) ms zeros) x.calls.items h.held)
      (subst (λ (os : List Recalled). AllByRecursion (λ (o : Recalled). row_fits (fall_over expression o.rule o.member o.call.args 1 l) ≡ true) os) (calls_are expression p comps rows c x.calls.items h.pairs h.held) (zero_fits expression (arity_in p) view))

  module _ (at : List Position) where
    abbrev turns_at : List Recalled → List Turn → Type 0
    turns_at lives us = AreTurns expression (map spelled at) (members_of view) lives us

    told_at : (us : List Turn) → AreTurns expression (map spelled at) (map number_of x.by_clauses.items) (map own (live_of x.calls.items)) us → turns_at (map own (live_of x.calls.items)) us
    told_at us are = subst (λ (qs : List ℕ). AreTurns expression (map spelled at) qs (map own (live_of x.calls.items)) us) h.by_clauses are

    pub blown_given_up : (mss : List (List Measure)) (rest : List OwnCall) → HasTurns expression p comps rows c x at mss rest → 1 ≤ length rest
        → IsTurnBlown expression view (arity_in p) (map spelled at) (is_none mss) (map own rest) → IsGivenUp expression view (arity_in p) (map spelled at)
    blown_given_up mss rest told some blown =
        let us = told.turns in
        let lives = map own (live_of x.calls.items) in
        let ps = map spelled at in
        turned lives us reached (told_at us told.are) (let e = ap length told.left in let n = length-map rest own in omega (arith, some, e, n))
        (subst (λ (os : List Recalled). IsTurnBlown expression view (arity_in p) ps (is_first expression view (arity_in p) ps us) os) (sym told.left)
        (subst (λ (f : Bool). IsTurnBlown expression view (arity_in p) ps f (map own rest)) (first_same ps (map number_of x.by_clauses.items) (members_in comps c) ps us mss told.measures) blown))

    some_turns : (ps : List Place) (qs names : List ℕ) (us : List Turn) (ms : List Measure) (mss : List (List Measure)) → AreMeasuresOf p names ps qs us (ms ∷ mss) → 1 ≤ length us
    some_turns ps qs names [] ms mss are = absurd are
    some_turns ps qs names (u ∷ us) ms mss are = omega arith

    wide_at : (ps : List Place) (qs : List ℕ) (us : List Turn) (mss : List (List Measure)) → AreMeasuresOf p (members_in comps c) ps qs us mss → (y : OwnCall) → IsHeld expression p rows y
        → AllByRecursion (λ (ms : List Measure). (head : LevelPart) → level_in ms (clause_at p y.clause).head.pred.0 ≡ Some head → length head.coeffs ≡ length (clause_at p y.clause).head.args) mss
    wide_at ps qs [] [] are y held = tt
    wide_at ps qs [] (ms ∷ mss) are y held = absurd are
    wide_at ps qs (u ∷ us) [] are y held = absurd are
    wide_at ps qs (u ∷ us) (ms ∷ mss) are y held =
        let first = are.0 in
        let named : HasMeasures p (map number_of x.members.items) ms = subst (λ (names : List ℕ). HasMeasures p names ms) (sym h.members) first.measures in (
          (wide_heads size truth expression p comps rows c x h ms named (y ∷ []) (held, tt)).0,
          wide_at ps qs us mss are.1 y held,
        )

    pub list_at : (course : Course) (l : MeasureList) → IsCourse p x at course → remaining_of x course ≡ [] → (ms : List Measure) (mss : List (List Measure)) → course.measures ≡ ms ∷ mss → l.measures ≡ course.measures → l.drops ≡ course.drops.items
        → IsListAt expression p comps rows c (map spelled at) l × AreNeeded expression p comps rows c l
    list_at course l is_course none ms mss em el ed =
        let told = is_course.turns size truth expression comps rows c h in
        let us = told.turns in
        let owns = x.calls.items in
        let gs = course.gone.items in
        let lives = map own (live_of owns) in
        let whole : l.measures ≡ ms ∷ mss = el ∙ em in
        let measures : AreMeasuresOf p (members_in comps c) (map spelled at) (map number_of x.by_clauses.items) us (ms ∷ mss) =
        subst (AreMeasuresOf p (members_in comps c) (map spelled at) (map number_of x.by_clauses.items) us) em told.measures in
        let tracked : AreTracked (ms ∷ mss) owns gs l.drops =
        subst (λ (ds : List CallDrops). AreTracked (ms ∷ mss) owns gs ds) (sym ed) (subst (λ (ns : List (List Measure)). AreTracked ns owns gs course.drops.items) em is_course.tracked) in
        let held = h.held in (
          record {
            measures = measured_turned lives us reached (told_at us told.are) (told.left ∙ ap (map own) none) (some_turns (map spelled at) (map number_of x.by_clauses.items) (members_in comps c) us ms mss measures)
                (subst (λ (ns : List (List Measure)). AreMeasuresOf p (members_in comps c) (map spelled at) (members_of view) us ns) (sym whole)
                (subst (λ (qs : List ℕ). AreMeasuresOf p (members_in comps c) (map spelled at) qs us (ms ∷ mss)) h.by_clauses measures));
            pairs = pairs_are ms mss owns gs l.drops tracked none ∙ h.pairs;
            places = subst (λ (ns : List (List Measure)). AllByRecursion (λ (d : CallDrops). HasPlace expression p rows ns (d.clause, d.call) d.by) l.drops) (sym whole)
                (places_are size truth expression h.norm p rows ms mss owns gs l.drops held
                (all_in _ owns (λ y i. wide_at (map spelled at) (map number_of x.by_clauses.items) us (ms ∷ mss) measures y (from_in (IsHeld expression p rows) owns held y i))) tracked none);
          },
          (λ long i less.
              left_needed size truth expression h.norm p comps rows c (ms ∷ mss) i owns gs l.drops held tracked
              (subst (SomeLeft i owns gs) (sym ed) (is_course.leave i (subst (λ (ns : List (List Measure)). i < length ns) el less)))),
        )

    no_turns : (ps : List Place) (qs names : List ℕ) (us : List Turn) → AreMeasuresOf p names ps qs us [] → us ≡ []
    no_turns ps qs names [] are = refl
    no_turns ps qs names (u ∷ us) are = absurd are

    -- no call is ever reached where none remains before the first turn
    zero_reached : (course : Course) → IsCourse p x at course → course.measures ≡ [] → remaining_of x course ≡ [] → AreReached expression (own_calls view) []
    zero_reached course is_course em none =
        let told = is_course.turns size truth expression comps rows c h in
        let ps = map spelled at in
        let qs = map number_of x.by_clauses.items in
        let lives = map own (live_of x.calls.items) in
        let us : told.turns ≡ [] = no_turns ps qs (members_in comps c) told.turns (subst (AreMeasuresOf p (members_in comps c) ps qs told.turns) em told.measures) in
        let lives_none : lives ≡ [] = ap (remaining lives) (sym us) ∙ told.left ∙ ap (map own) none in
        subst (AreReached expression (own_calls view)) lives_none reached

    pub zero_list_at : (course : Course) (l : MeasureList) → IsCourse p x at course → course.measures ≡ [] → remaining_of x course ≡ [] → AllByRecursion IsReady x.calls.items → (ms : List Measure) → AreZeros p (map number_of x.members.items) ms
        → EmptyFall ms x.calls.items → l.measures ≡ ms ∷ [] → l.drops ≡ course.drops.items → IsListAt expression p comps rows c (map spelled at) l × AreNeeded expression p comps rows c l
    zero_list_at course l is_course em none ready ms zeros falls el ed =
        let owns = x.calls.items in
        let gs = course.gone.items in
        let first : AreTracked [] owns gs l.drops = subst (λ (ds : List CallDrops). AreTracked [] owns gs ds) (sym ed) (subst (λ (ns : List (List Measure)). AreTracked ns owns gs course.drops.items) em is_course.tracked) in
        let tracked = zero_tracked ms owns gs l.drops ready first none falls in
        let shaped = zero_shaped p (map number_of x.members.items) ms zeros in
        let wide = wide_heads size truth expression p comps rows c x h ms shaped owns h.held in (
          record {
            measures = measured_zero ms (zero_reached course is_course em none) el (subst (λ (names : List ℕ). HasMeasures p names ms) h.members shaped) zeros.parts;
            pairs = pairs_are ms [] owns gs l.drops tracked none ∙ h.pairs;
            places = subst (λ (ns : List (List Measure)). AllByRecursion (λ (d : CallDrops). HasPlace expression p rows ns (d.clause, d.call) d.by) l.drops) (sym el)
                (places_are size truth expression h.norm p rows ms [] owns gs l.drops h.held (all_map _ _ (λ y w. (w, tt)) owns wide) tracked none);
          },
          (λ long i less. let one = ap length el in absurd (omega (arith, long, one))),
        )
