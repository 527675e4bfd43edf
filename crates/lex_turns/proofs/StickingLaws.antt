-- The check of a certificate accepts the points that elimination's multipliers spell, where its numbers fit. So where
-- it accepts none, a number does not fit.
use Rattle.std.proofs.Common.{◌≡◌, ℕ, ◌+◌, ◌≤◌, ℤ, pos, ◌≤ℤ◌, Bool, true, false, List, [], ◌∷◌, ◌++◌, map, length, Option, None, Some, inl, ap, sym, subst, ◌∙◌, arith}
use Rattle.std.specs.Prelude.{IfSome, unsigned_abs}
use Rattle.std.specs.List.{AllByRecursion}
use Rattle.std.proofs.lemmas.List.{length-append, length-map}
use Rattle.call_components.proofs.Lists.{all_map}
use Rattle.call_components.specs.Numbers.{number_of}
use Rattle.call_components.specs.Partition.{IsIn, Partition}
use Rattle.cti_terms.specs.Listing.{Listing}
use Rattle.cti_terms.specs.Tree.{Tree}
use Rattle.exact128.specs.Sums.{entry}
use Rattle.linear_rows.proofs.Members.{in-map, of-map}
use Rattle.linear_rows.specs.Members.{In}
use Rattle.linear_rows.specs.Proves.{Refutes}
use Rattle.linear_rows.specs.Replacing.{row_fits}
use Rattle.linear_rows.specs.Rows.{IsPoint}
use Rattle.linear_rows.specs.Showing.{bottom_row}
use Rattle.linear_rows.specs.Solving.{solution}
use Rattle.linear_rows.specs.Solving.Solution.{Refuted}
use Rattle.simplex.proofs.RowLists.{length-zeros}
use Rattle.number_tests.specs.Refuting.{PairFits, PointHolds, SumsRefute, call_loads, head_loads}
use Rattle.number_tests.specs.declared.pair_point.PairPoint.{PairPoint}
use Rattle.number_tests.specs.declared.refutation.Refutation.{Refutation}
use Rattle.termination_model.proofs.AllPositionsLaws.{positions_cover_pairs}
use Rattle.termination_model.proofs.Excludes.{all_refute}
use Rattle.termination_model.proofs.Readiness.{from_in, views_have_few}
use Rattle.termination_model.specs.mappings.AllPositions.{IsCoveredBy}
use Rattle.termination_model.specs.mappings.BlownSupports.{CheckFits}
use Rattle.termination_model.specs.claims.Claims.{SomeOf}
use Rattle.termination_model.specs.mappings.ComponentViews.{component_view, members_in, size_claims}
use Rattle.termination_model.specs.mappings.Excluding.{number_count, pairs_at}
use Rattle.termination_model.specs.mappings.OwnCalls.{OwnCall as Recalled, Position as Place, members_of, own_calls}
use Rattle.termination_model.specs.mappings.Ready.{arity_in, positions_by}
use Rattle.termination_model.specs.mappings.Refutation.{IsRefutation, Load, Pair, call_load, gather, head_load}
use Rattle.termination_model.specs.lists.TurnSystem.{sum_row, turn_rows, turn_rows_from, turn_unknowns}
use Rattle.termination_model.specs.mappings.View.{Rule}
use Rattle.level_systems.specs.Found.{PairsAscend}
use Rattle.level_systems.specs.Held.{IsHeld, numbers_of_call, spelled}
use Rattle.level_systems.specs.Searched.{IsComponent}
use Rattle.level_systems.specs.declared.component.Component.{Component}
use Rattle.level_systems.specs.declared.own_call.OwnCall.{OwnCall}
use Rattle.level_systems.specs.declared.position.Position.{Position}
use Rattle.level_systems.proofs.HeldCalls.{all_in, re}
use Rattle.level_dual.specs.Accepted.{AreAccepted}
use Rattle.level_dual.proofs.AcceptedPoints.{stand_good}
use Rattle.level_dual.proofs.Ascending.{AscendFrom, ascend_lower, pairs_ascend}
use Rattle.level_dual.proofs.Loads.{gathers_same, sums_fit}
use Rattle.level_dual.proofs.PartLaws.{are_naturals}
use Rattle.level_dual.proofs.RefuteLaws.{is_refutation}
use Rattle.level_dual.proofs.SearchLaws.{take_mapped}
use Rattle.level_dual.proofs.SpelledPoints.{Stand, stand_ascend, stand_calls, stand_heads, stand_points, stand_positive}
use Rattle.linear_rows.proofs.Soundness.{law_empty}
use Rattle.lex_turns.specs.Coursing.{IsStopped}
use Rattle.lex_turns.specs.Descending.{IsTurnBlown, turn_solution}
use Rattle.lex_turns.specs.Descending.IsTurnBlown.{solving, sticking}
use Rattle.lex_turns.specs.FoundLists.{IsStuckSetOf}
use Rattle.lex_turns.specs.Sticking.{AreAt, ArePlain, ArePlainIf, ArePlainOf, AreRefuting, AreRefutingIf, IsBlownWhereStopped, IsUnrefuted, lines_of, unknowns_of}
use Rattle.lex_turns.specs.Sticking.IsUnrefuted.{blown, found, short}
use Rattle.lex_turns.specs.Testing.{AreAmong}
use Rattle.lex_turns.specs.Tracking.{kept}
use Rattle.lex_turns.proofs.NoneWithin.{of_mine, pairs_mine, pairs_positive, pairs_refute, split_last, told_view}
use Rattle.lex_turns.proofs.PlainPoints.{enough_numbers, plain_calls, plain_count, plain_single, plain_stand}
use Rattle.lex_turns.proofs.TrackedCalls.{kept_among}
use Rattle.lex_turns.proofs.TurnMaking.{pick}
use Rattle.termination_model.proofs.TurnRefutes.{rows_long, some_pair}

bottom_long : (n : ℕ) → length (bottom_row n) ≡ n + 1
bottom_long n = omega (arith, length-zeros n)

-- the points of multipliers that refute, or why there are none
pub refuting_if : (owns : List OwnCall) (n : ℕ) (lines : List (List ℤ)) (ms : List ℤ) → solution n lines ≡ Refuted ms → Refutes n lines ms → (o : Option (List PairPoint)) → ArePlainIf owns ms o → AreRefutingIf owns n lines o
refuting_if owns n lines ms e refutes None h = short ms refutes h
refuting_if owns n lines ms e refutes (Some xs) h = record { multipliers = ms; solved = e; refutes = refutes; plain = h }

-- ---- the calls that are kept ascend
kept_ascend : (last : ℕ × ℕ) (owns : List OwnCall) (gs : List Bool) → AscendFrom last (map numbers_of_call owns) → AscendFrom last (map numbers_of_call (kept owns gs))
kept_ascend last [] gs h = tt
kept_ascend last (own ∷ owns) [] h = tt
kept_ascend last (own ∷ owns) (false ∷ gs) h = (h.0, kept_ascend (numbers_of_call own) owns gs h.1)
kept_ascend last (own ∷ owns) (true ∷ gs) h = ascend_lower last (numbers_of_call own) (map numbers_of_call (kept owns gs)) h.0 (kept_ascend (numbers_of_call own) owns gs h.1)

first_pair : (ps : List Pair) → 1 ≤ length ps → AllByRecursion (λ (y : Pair). 1 ≤ y.t) ps → SomeOf (λ (y : Pair). 1 ≤ y.t) ps
first_pair [] l h = absurd (omega (arith, l))
first_pair (y ∷ ps) l h = inl h.0

in_places : (ps : List Place) (some : List Position) → AllByRecursion (λ (r : Position). In (spelled r) ps) some → (z : Place) → In z (map spelled some) → In z ps
in_places ps some all z i =
    let (r, there, same) = of-map spelled some z i in
    subst (λ (y : Place). In y ps) same (from_in (λ (y : Position). In (spelled y) ps) some all r there)

cover_more : (few many : List Place) → ((z : Place) → In z few → In z many) → (ps : List Pair) → AllByRecursion (IsCoveredBy few) ps → AllByRecursion (IsCoveredBy many) ps
cover_more few many f [] h = tt
cover_more few many f (y ∷ ps) h = let one = h.0 in ((λ a l. f (y.rule.member, a) (one.0 a l), λ a l. f (y.member, a) (one.1 a l)), cover_more few many f ps h.1)

module _ (size : (ℕ → ℕ) → Tree → ℕ) (truth : (ℕ → Bool) → Tree → Bool) (expression : ℕ → Tree → List ℤ) (p : Listing) (comps : Partition) (rows : ℕ → List (List ℤ)) (c : ℕ) (x : Component)
    (h : IsComponent size truth expression p comps rows c x) where
  abbrev view : List Rule
  view = component_view expression p comps rows c

  abbrev own : OwnCall → Recalled
  own y = re expression p comps rows c y

  abbrev mine : List ℕ
  mine = map number_of x.by_clauses.items

  -- points that the check accepts are a stuck set
  pub stuck_set : (rest : List OwnCall) → AreAmong x.calls.items rest → 1 ≤ length rest → (r : Refutation) → ArePlainOf rest r.points → AreAccepted expression p rows (members_in comps c) r.points
      → IsStuckSetOf expression p comps rows c r
  stuck_set rest among some r plain accepted =
      let held = pick (IsHeld expression p rows) x.calls.items h.held rest among in
      let callers = pick (λ (y : OwnCall). IsIn comps c y.caller.0) x.calls.items h.callers rest among in
      let callees = pick (λ (y : OwnCall). IsIn comps c y.callee.0) x.calls.items h.inside rest among in
      let calls = plain_calls rest plain.0 r.points plain.1 in
      let count = plain_count rest plain.0 r.points plain.1 in
      record {
        some = omega (arith, some, count);
        refutes = is_refutation expression p comps rows c rest held callers callees r calls accepted;
        single = plain_single rest plain.0 r.points plain.1;
      }

  -- the same of what the code accepts, if it accepts something
  pub stuck_if : (rest : List OwnCall) → AreAmong x.calls.items rest → 1 ≤ length rest → (xs : List PairPoint) → ArePlainOf rest xs → (o : Option Refutation)
      → IfSome o (λ r. (r.points ≡ xs) × AreAccepted expression p rows (members_in comps c) xs) → IfSome o (IsStuckSetOf expression p comps rows c)
  stuck_if rest among some xs plain None given = tt
  stuck_if rest among some xs plain (Some r) given =
      stuck_set rest among some r (subst (ArePlainOf rest) (sym given.0) plain) (subst (AreAccepted expression p rows (members_in comps c)) (sym given.0) given.1)

  module _ (at : List Position) (gone : List Bool) (stopped : IsStopped expression p comps rows c x at gone) (covers : AreAt x.order.items at) where
    abbrev ps : List Place
    ps = map spelled at

    abbrev owns : List OwnCall
    owns = kept x.calls.items gone

    abbrev told : List Recalled
    told = map own owns

    among : AreAmong x.calls.items owns
    among = kept_among x.calls.items x.calls.items gone (λ y i. i)

    held : AllByRecursion (IsHeld expression p rows) owns
    held = pick (IsHeld expression p rows) x.calls.items h.held owns among

    some : 1 ≤ length told
    some = let n = length-map owns own in let e = stopped.some in omega (arith, n, e)

    in_view : (o : Recalled) → In o told → In o (own_calls view)
    in_view o i = told_view size truth expression p comps rows c x h at gone stopped o i

    inside : AllByRecursion (λ (y : OwnCall). In (own y) (own_calls view)) owns
    inside = all_in _ owns (λ y i. in_view (own y) (in-map own owns y i))

    all_covered : (z : Place) → In z (positions_by (arity_in p) mine) → In z ps
    all_covered z i = in_places ps x.order.items covers z (subst (λ (zs : List Place). In z zs) (sym h.order) i)

    pub view_covered : (z : Place) → In z (positions_by (arity_in p) (members_of view)) → In z ps
    view_covered z i = all_covered z (subst (λ (qs : List ℕ). In z (positions_by (arity_in p) qs)) (sym h.by_clauses) i)

    turn_is : turn_solution expression view (arity_in p) ps told ≡ solution (unknowns_of expression p comps rows c x at owns) (lines_of expression p comps rows c x at owns)
    turn_is = λ j. solution (turn_unknowns expression ps (sym h.by_clauses j) told) (turn_rows expression ps (sym h.by_clauses j) told)

    count_is : (ms : List ℤ) → Refutes (unknowns_of expression p comps rows c x at owns) (lines_of expression p comps rows c x at owns) ms → length ms ≡ number_count told + 1
    count_is ms refutes =
        refutes.long ∙ length-append (turn_rows_from expression ps mine 0 0 told) (sum_row expression ps mine told ∷ []) ∙ ap (λ n. n + 1) (rows_long expression view ps mine 0 0 told)

    -- nothing holds at a point where multipliers refute
    no_point : (t : ℤ) (w : List ℤ) → IsPoint (unknowns_of expression p comps rows c x at owns) (lines_of expression p comps rows c x at owns) t w → ⊥
    no_point t w point =
        let refuted = stopped.refuted in
        let n = unknowns_of expression p comps rows c x at owns in
        let long : length point.values + 1 ≡ n + 1 = ap (λ k. k + 1) point.long in
        let wide : length (bottom_row n) ≡ n + 1 = bottom_long n in
        law_empty (lines_of expression p comps rows c x at owns) refuted.0 (bottom_row n) refuted.1.natural (refuted.1.proves (bottom_row n) wide) point.scale point.values point.some (long ∙ sym wide) point.hold

    module _ (vs : List ℕ) (s : ℕ) (long : length vs ≡ number_count told)
        (refutes : Refutes (turn_unknowns expression ps mine told) (turn_rows expression ps mine told) (map pos (vs ++ s ∷ []))) where
      abbrev pairs : List Pair
      pairs = pairs_at told vs

      refutation : IsRefutation expression view pairs
      refutation =
          all_refute expression view ps mine pairs (pairs_mine size truth expression p comps rows c x h at gone stopped vs s long refutes)
          (cover_more (positions_by (arity_in p) mine) ps all_covered pairs (positions_cover_pairs (arity_in p) mine told vs (λ o i.
          let there = of_mine size truth expression p comps rows c x h at gone stopped o i in
          (views_have_few p (size_claims expression p comps rows) c h.program o (in_view o i), there.0, there.1))))
          (pairs_refute size truth expression p comps rows c x h at gone stopped vs s long refutes)

      times : AllByRecursion (λ (y : Pair). 1 ≤ y.t) pairs
      times = pairs_positive size truth expression p comps rows c x h at gone stopped vs s long refutes

      module _ (xs : List PairPoint) (plain : ArePlain owns (map pos (vs ++ s ∷ [])) xs) (fits : CheckFits expression view (arity_in p) pairs) where
        stand : Stand expression p comps rows c owns vs xs
        stand = plain_stand expression p comps rows c owns held vs (s ∷ []) long times xs plain

        abbrev IsGood : PairPoint → Type 0
        IsGood y = PairFits expression p y × PointHolds expression p rows y

        good : AllByRecursion IsGood xs
        good = stand_good expression p comps rows c owns held inside vs xs stand fits.values fits.seconds refutation.pairs

        ascend : PairsAscend (0, 0) xs
        ascend =
            let all : AscendFrom (0, 0) (map numbers_of_call x.calls.items) = subst (AscendFrom (0, 0)) (sym h.pairs) (pairs_ascend comps c (0, 0) 0 p.clauses (omega arith)) in
            stand_ascend expression p comps rows c (0, 0) owns vs xs stand (kept_ascend (0, 0) x.calls.items gone all)

        sums : SumsRefute expression p (members_in comps c) xs
        sums =
            let heads = stand_heads expression p comps rows c owns vs long xs stand in
            let calls = stand_calls expression p comps rows c owns vs long xs stand in
            record {
              positive = stand_positive expression p comps rows c owns vs xs stand (first_pair pairs (some_pair told vs some long) times);
              fit = record {
                values = all_map IsGood (PairFits expression p) (λ y g. g.0) xs good;
                heads = sums_fit (map (head_load expression) pairs) (head_loads expression p xs) heads (λ k q. ap (λ (hs : List Load). row_fits (gather q hs)) (take_mapped (head_load expression) k pairs) ∙ fits.head_sums k q);
                calls = sums_fit (map (call_load expression) pairs) (call_loads expression p xs) calls (λ k q. ap (λ (hs : List Load). row_fits (gather q hs)) (take_mapped (call_load expression) k pairs) ∙ fits.call_sums k q);
              };
              columns = λ q _ i.
                  let a = gathers_same (map (head_load expression) pairs) (head_loads expression p xs) heads q i in
                  let b = gathers_same (map (call_load expression) pairs) (call_loads expression p xs) calls q i in
                  subst (λ (z : ℤ). z ≤ℤ entry (gather q (call_loads expression p xs)) i) (sym a)
                  (subst (λ (z : ℤ). entry (gather q (map (head_load expression) pairs)) i ≤ℤ z) (sym b) (refutation.columns q i));
            }

        pub accepted : AreAccepted expression p rows (members_in comps c) xs
        accepted = record {
          ascend = ascend;
          points = stand_points expression p comps rows c owns held vs xs stand;
          sums = sums;
          hold = all_map IsGood (PointHolds expression p rows) (λ y g. g.1) xs good;
        }

    -- where no multipliers refute the system, its solving is blown
    unrefuted_blown : IsUnrefuted owns (unknowns_of expression p comps rows c x at owns) (lines_of expression p comps rows c x at owns) → (first : Bool) → IsTurnBlown expression view (arity_in p) ps first told
    unrefuted_blown (blown step wide e) first = solving step wide (turn_is ∙ e)
    unrefuted_blown (found t w point) first = absurd (no_point t w point)
    unrefuted_blown (short ms refutes none) first = let count = count_is ms refutes in absurd (none (enough_numbers expression p comps rows c owns held ms (omega (arith, count))))

    -- where the check does not accept their points, a number does not fit
    flawed_blown : (xs : List PairPoint) → AreRefuting owns (unknowns_of expression p comps rows c x at owns) (lines_of expression p comps rows c x at owns) xs
        → (AreAccepted expression p rows (members_in comps c) xs → ⊥) → (first : Bool) → IsTurnBlown expression view (arity_in p) ps first told
    flawed_blown xs refuting fails first =
        let ms = refuting.multipliers in
        let refutes = refuting.refutes in
        let naturals = are_naturals ms refutes.natural in
        let last = split_last (number_count told) (map unsigned_abs ms) (length-map ms unsigned_abs ∙ count_is ms refutes) in
        let same : ms ≡ map pos (last.front ++ last.last ∷ []) = naturals ∙ ap (map pos) last.is in
        sticking last.front last.last view_covered (turn_is ∙ refuting.solved ∙ ap Refuted same) (λ fit. fails
        (accepted last.front last.last last.long (subst (Refutes (turn_unknowns expression ps mine told) (turn_rows expression ps mine told)) same refutes) xs (subst (λ (zs : List ℤ). ArePlain owns zs xs) same refuting.plain) fit))

  -- the same, where the calls that remain are those at which a search stops
  module _ (at : List Position) (rest : List OwnCall) where
    pub unrefuted_stopped : IsUnrefuted rest (unknowns_of expression p comps rows c x at rest) (lines_of expression p comps rows c x at rest) → IsBlownWhereStopped expression p comps rows c x at rest
    unrefuted_stopped given gone is covers stopped first = rw (← is) (unrefuted_blown at gone stopped covers (rw is given) first)

    pub flawed_stopped : (xs : List PairPoint) → AreRefuting rest (unknowns_of expression p comps rows c x at rest) (lines_of expression p comps rows c x at rest) xs
        → (AreAccepted expression p rows (members_in comps c) xs → ⊥) → IsBlownWhereStopped expression p comps rows c x at rest
    flawed_stopped xs given fails gone is covers stopped first = rw (← is) (flawed_blown at gone stopped covers xs (rw is given) fails first)
