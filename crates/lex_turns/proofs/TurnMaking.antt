-- What the code makes of a point of a turn's system is a turn, or the turn is blown.
use Rattle.std.proofs.Common.{◌≡◌, ◌≤◌, ◌≤ℤ◌, ◌+◌, ℕ, suc, ℤ, pos, Bool, true, List, [], ◌∷◌, ◌++◌, All, map, drop, take, length, refl, ap, sym, subst, ◌∙◌, arith}
use Rattle.std.specs.Borrow.{Bor}
use Rattle.std.specs.Prelude.{unsigned_abs}
use Rattle.std.specs.List.{AllByRecursion}
use Rattle.std.proofs.lemmas.List.{length-map}
use Rattle.call_components.specs.Numbers.{number_of}
use Rattle.call_components.specs.Partition.{Partition}
use Rattle.cti_terms.specs.Listing.{Listing}
use Rattle.cti_terms.specs.Tree.{Tree}
use Rattle.linear_rows.proofs.Members.{in-map, of-map}
use Rattle.linear_rows.specs.Members.{In}
use Rattle.linear_rows.specs.Plain.{plain_row}
use Rattle.linear_rows.specs.Rows.{AllHold, IsPoint}
use Rattle.linear_rows.specs.Solving.{solution}
use Rattle.linear_rows.specs.Solving.Solution.{Blown, Found}
use Rattle.termination_model.proofs.Readiness.{from_in, views_have_few}
use Rattle.termination_model.proofs.TurnMakes.{drops_make_turns}
use Rattle.termination_model.proofs.TurnPoints.{points_drop}
use Rattle.termination_model.specs.mappings.ComponentViews.{component_view, size_claims}
use Rattle.termination_model.specs.mappings.OwnCalls.{OwnCall as Recalled, Position as Place, own_calls, rows_before}
use Rattle.termination_model.specs.mappings.Ready.{arity_in}
use Rattle.termination_model.specs.mappings.SupportLaws.{HasFew}
use Rattle.termination_model.specs.mappings.SupportSystem.{mapping_at, row_count}
use Rattle.termination_model.specs.sizes.Systems.{row_fits}
use Rattle.termination_model.specs.lists.TurnSystem.{turn_rows, turn_unknowns}
use Rattle.termination_model.specs.lists.Turns.{DropsFit, EmptyFit, Turn, mapping_by}
use Rattle.termination_model.specs.mappings.View.{Rule, fall_over}
use Rattle.level_systems.specs.Falling.{HasParts, IsReady}
use Rattle.level_systems.specs.Held.{IsHeld, spelled}
use Rattle.level_systems.specs.Mappings.{HasMeasures}
use Rattle.level_systems.specs.Searched.{AreMeasuresAt, IsComponent, IsSound, IsSoundCall}
use Rattle.level_systems.specs.Turned.{all_rows, held_of}
use Rattle.level_systems.specs.declared.component.Component.{Component}
use Rattle.level_systems.specs.declared.measure.Measure.{Measure}
use Rattle.level_systems.specs.declared.own_call.OwnCall.{OwnCall}
use Rattle.level_systems.specs.declared.position.Position.{Position}
use Rattle.level_systems.proofs.HeldCalls.{all_in, calls_are, re, rows_are}
use Rattle.level_dual.proofs.FoundLaws.{wide_heads}
use Rattle.level_dual.proofs.PartLaws.{all_dropped, all_natural, all_taken, are_naturals}
use Rattle.level_dual.proofs.SearchLaws.{drop_mapped, length_drop, length_take, split_values, take_mapped}
use Rattle.level_dual.proofs.SupportLaws.{has_parts}
use Rattle.lex_turns.specs.Descending.{IsTurnBlown, turn_solution}
use Rattle.lex_turns.specs.Descending.IsTurnBlown.{mapping, solving}
use Rattle.number_tests.specs.Drops.{fall_number}
use Rattle.lex_turns.specs.Testing.{AreAmong, EmptyFall, ShowDrops, SomeFalls}
use Rattle.lex_turns.specs.Turning.{IsMade, IsTurnOf, multipliers_in}
use Rattle.lex_turns.specs.declared.turn.Made.{Made}
use Rattle.lex_turns.proofs.DropsShown.{all_dead, all_proved, all_shown, falls_of, some_falls, some_numbers}

pub pick : (P : OwnCall → Type 0) (owns : List OwnCall) → AllByRecursion P owns → (rest : List OwnCall) → AreAmong owns rest → AllByRecursion P rest
pick P owns all [] among = tt
pick P owns all (y ∷ rest) among = (from_in P owns all y among.0, pick P owns all rest among.1)

-- those that remain have parts, and can be tested
pub parts_among : (p : Listing) (x : Component) → IsSound p x → (rest : List OwnCall) → AreAmong x.calls.items rest → (ms : List Measure) → HasMeasures p (map number_of x.members.items) ms → AllByRecursion (HasParts ms) rest
parts_among p x sound rest among ms m =
    let calls = pick (IsSoundCall p (map number_of x.members.items)) x.calls.items sound.calls rest among in
    all_in (HasParts ms) rest (λ y i. has_parts p (map number_of x.members.items) ms m y (from_in (IsSoundCall p (map number_of x.members.items)) rest calls y i))

pub ready_among : (p : Listing) (x : Component) → IsSound p x → (rest : List OwnCall) → AreAmong x.calls.items rest → AllByRecursion IsReady rest
ready_among p x sound rest among =
    let calls = pick (IsSoundCall p (map number_of x.members.items)) x.calls.items sound.calls rest among in
    all_in IsReady rest (λ y i. let call = from_in (IsSoundCall p (map number_of x.members.items)) rest calls y i in call.ready)

pub all_among : (owns : List OwnCall) → AreAmong owns owns
all_among owns = all_in _ owns (λ y i. i)

pub drops_long : (ms : List Measure) (owns : List OwnCall) (values : List ℤ) (fs : List Bool) → ShowDrops ms owns values fs → length fs ≡ length owns
drops_long ms [] values [] h = refl
drops_long ms [] values (f ∷ fs) h = absurd h
drops_long ms (y ∷ owns) values [] h = absurd h
drops_long ms (y ∷ owns) values (f ∷ fs) h = ap suc (drops_long ms owns (drop (length y.rows.list) values) fs h.1)

-- as many calls are held as remain, so that the unknowns of a turn's system are as many by either count
pub count_held : (calls : List (Bor OwnCall)) (a b n : ℕ) → n ≡ a + (b + (length calls + all_rows (held_of calls))) → n ≡ a + (b + (length (held_of calls) + all_rows (held_of calls)))
count_held calls a b n e = omega (arith, e, length-map calls (λ (y : Bor OwnCall). y.now))

-- the values of a point are naturals, as many as there are unknowns
module _ {n : ℕ} {lines : List (List ℤ)} {t : ℤ} {w : List ℤ} (point : IsPoint n lines t w) where
  pub point_naturals : All (λ z. pos 0 ≤ℤ z) w
  point_naturals = subst (λ (zs : List ℤ). All (λ z. pos 0 ≤ℤ z) zs) (sym point.w_is) (all_natural point.values)

  pub point_long : length w ≡ n
  point_long = ap length point.w_is ∙ length-map point.values (λ k. pos k) ∙ point.long

module _ (size : (ℕ → ℕ) → Tree → ℕ) (truth : (ℕ → Bool) → Tree → Bool) (expression : ℕ → Tree → List ℤ) (p : Listing) (comps : Partition) (rows : ℕ → List (List ℤ)) (c : ℕ) (x : Component)
    (h : IsComponent size truth expression p comps rows c x) where
  abbrev own : OwnCall → Recalled
  own y = re expression p comps rows c y

  abbrev view : List Rule
  view = component_view expression p comps rows c

  abbrev mine : List ℕ
  mine = map number_of x.by_clauses.items

  -- the calls that remain are calls of the view
  pub in_view : (rest : List OwnCall) → AreAmong x.calls.items rest → (o : Recalled) → In o (map own rest) → In o (own_calls view)
  in_view rest among o i =
      let (y, there, same) = of-map own rest o i in
      subst (In o) (sym (calls_are expression p comps rows c x.calls.items h.pairs h.held))
      (subst (λ (z : Recalled). In z (map own x.calls.items)) same (in-map own x.calls.items y (from_in (λ (z : OwnCall). In z x.calls.items) rest among y there)))

  pub few : (rest : List OwnCall) → AreAmong x.calls.items rest → AllByRecursion (HasFew (arity_in p)) (map own rest)
  few rest among = all_in _ (map own rest) (λ o i. views_have_few p (size_claims expression p comps rows) c h.program o (in_view rest among o i))

  counts : (ps : List Place) (qs : List ℕ) (rest : List OwnCall) → AllByRecursion (IsHeld expression p rows) rest → row_count expression ps qs (map own rest) ≡ all_rows rest
  counts ps qs [] held = refl
  counts ps qs (y ∷ rest) held =
      let here : length (rows_before expression (own y)) ≡ length y.rows.list = ap length (sym (rows_are expression p comps rows c y held.0)) ∙ length-map y.rows.list plain_row in
      let others = counts ps qs rest held.1 in
      λ i. here i + others i

  module _ (sound : IsSound p x) (at : List Position) (rest : List OwnCall) (among : AreAmong x.calls.items rest) where
    abbrev a : ℕ
    a = length at

    abbrev b : ℕ
    b = length x.by_clauses.items

    abbrev r : ℕ
    r = length rest

    held : AllByRecursion (IsHeld expression p rows) rest
    held = pick (IsHeld expression p rows) x.calls.items h.held rest among

    parted : (ms : List Measure) → HasMeasures p (map number_of x.members.items) ms → AllByRecursion (HasParts ms) rest
    parted ms m =
        let calls = pick (IsSoundCall p (map number_of x.members.items)) x.calls.items sound.calls rest among in
        all_in (HasParts ms) rest (λ y i. has_parts p (map number_of x.members.items) ms m y (from_in (IsSoundCall p (map number_of x.members.items)) rest calls y i))

    -- what is made is a turn
    pub made_turn : 1 ≤ r → (w : List ℤ) → All (λ z. pos 0 ≤ℤ z) w → length w ≡ a + (b + (r + all_rows rest)) → (first : Bool) (m : Made) → AreMeasuresAt p x at w m.measures → IsMade x rest first m
        → IsTurnOf expression p comps rows c x at rest m
    made_turn some w naturals long first m measures made =
        let cs = map unsigned_abs (take a w) in
        let os = map unsigned_abs (take b (drop a w)) in
        let vs = map unsigned_abs m.values in
        let ds = map fall_number m.falls in
        let values : m.values ≡ map pos vs = are_naturals m.values made.naturals in
        let rest_long : length (drop a w) ≡ b + (r + all_rows rest) = length_drop a w (b + (r + all_rows rest)) long in
        let lc : length cs ≡ a = length-map (take a w) unsigned_abs ∙ length_take a w (omega (arith, long)) in
        let lo : length os ≡ b = length-map (take b (drop a w)) unsigned_abs ∙ length_take b (drop a w) (omega (arith, rest_long)) in
        let tc : take a w ≡ map pos cs = are_naturals (take a w) (all_taken a w naturals) in
        let to : take b (drop a w) ≡ map pos os = are_naturals (take b (drop a w)) (all_taken b (drop a w) (all_dropped a w naturals)) in
        let l = mapping_at (arity_in p) (map spelled at) mine cs os in
        let parts = measures.parts cs os lc lo tc to in
        let shows : ShowDrops m.measures rest (map pos vs) m.falls = subst (λ (zs : List ℤ). ShowDrops m.measures rest zs m.falls) values made.drops in
        let shown = all_proved size truth expression h.norm p comps rows c m.measures l parts rest vs m.falls held (wide_heads size truth expression p comps rows c x h m.measures measures.measures rest held) (parted m.measures measures.measures) shows in
        let sc : length cs ≡ length (map spelled at) = lc ∙ sym (length-map at spelled) in
        let so : length os ≡ length mine = lo ∙ sym (length-map x.by_clauses.items number_of) in
        let sd : length ds ≡ length (map own rest) = length-map m.falls fall_number ∙ drops_long m.measures rest m.values m.falls made.drops ∙ sym (length-map rest own) in
        let sv : length vs ≡ row_count expression (map spelled at) mine (map own rest) = length-map m.values unsigned_abs ∙ made.long ∙ sym (counts (map spelled at) mine rest held) in
        record {
          turn = record { t = 1; coefficients = cs; offsets = os; drops = ds; multipliers = vs };
          is = record {
            calls = omega (arith, some, length-map rest own);
            some = omega arith;
            coefficients = sc;
            offsets = so;
            drops = sd;
            multipliers = sv;
            hold = drops_make_turns expression (map spelled at) mine (arity_in p) (map own rest) cs os ds vs (λ n t. h.norm.width n t) (few rest among) sc so sd sv shown (some_numbers m.falls made.some);
          };
          drops = refl;
          measures = record { measures = subst (λ (qs : List ℕ). HasMeasures p qs m.measures) h.members measures.measures; parts = parts };
        }

    module _ (n : ℕ) (lines : List (List ℤ)) (en : n ≡ a + (b + (r + all_rows rest))) (es : lines ≡ turn_rows expression (map spelled at) mine (map own rest)) where
      pub width_is : n ≡ turn_unknowns expression (map spelled at) mine (map own rest)
      width_is =
          en ∙ (λ j. sym (length-map at spelled) j + (sym (length-map x.by_clauses.items number_of) j + (sym (length-map rest own) j + sym (counts (map spelled at) mine rest held) j)))

      solution_is : turn_solution expression view (arity_in p) (map spelled at) (map own rest) ≡ solution n lines
      solution_is =
          sym ((λ j. solution (width_is j) (es j))
          ∙ (λ j. solution (turn_unknowns expression (map spelled at) (h.by_clauses j) (map own rest)) (turn_rows expression (map spelled at) (h.by_clauses j) (map own rest))))

      pub solving_blown : (first : Bool) (step : ℕ) (wide : Bool) → solution n lines ≡ Blown step wide → IsTurnBlown expression view (arity_in p) (map spelled at) first (map own rest)
      solving_blown first step wide e = solving step wide (solution_is ∙ e)

      -- and so is one whose mapping has drops that are not shown
      pub mapping_blown : (t : ℤ) (w : List ℤ) → solution n lines ≡ Found t w → IsPoint n lines t w → (first : Bool) (ms : List Measure) → AreMeasuresAt p x at w ms
          → ((fs : List Bool) → ShowDrops ms rest (multipliers_in a b r w) fs → SomeFalls fs → (first ≡ true → EmptyFall ms x.calls.items) → ⊥)
          → IsTurnBlown expression view (arity_in p) (map spelled at) first (map own rest)
      mapping_blown t w found point first ms measures none =
          let values = point.values in
          let cs = take a values in
          let os = take b (drop a values) in
          let ds = take r (drop b (drop a values)) in
          let vs = drop r (drop b (drop a values)) in
          let long : length values ≡ a + (b + (r + all_rows rest)) = point.long ∙ en in
          let after_a : length (drop a values) ≡ b + (r + all_rows rest) = length_drop a values (b + (r + all_rows rest)) long in
          let after_b : length (drop b (drop a values)) ≡ r + all_rows rest = length_drop b (drop a values) (r + all_rows rest) after_a in
          let lc : length cs ≡ a = length_take a values (omega (arith, long)) in
          let lo : length os ≡ b = length_take b (drop a values) (omega (arith, after_a)) in
          let ld : length ds ≡ r = length_take r (drop b (drop a values)) (omega (arith, after_b)) in
          let lv : length vs ≡ all_rows rest = length_drop r (drop b (drop a values)) (all_rows rest) after_b in
          let whole : cs ++ (os ++ (ds ++ vs)) ≡ values =
          ap (λ (z : List ℕ). cs ++ (os ++ z)) (split_values r (drop b (drop a values))) ∙ ap (λ (z : List ℕ). cs ++ z) (split_values b (drop a values)) ∙ split_values a values in
          let hold : AllHold (turn_rows expression (map spelled at) mine (map own rest)) point.scale (cs ++ (os ++ (ds ++ vs))) =
          subst (λ (z : List ℕ). AllHold (turn_rows expression (map spelled at) mine (map own rest)) point.scale z) (sym whole) (subst (λ (rs : List (List ℤ)). AllHold rs point.scale values) es point.hold) in
          let tc : take a w ≡ map pos cs = ap (take a) point.w_is ∙ take_mapped (λ k. pos k) a values in
          let after : drop a w ≡ map pos (drop a values) = ap (drop a) point.w_is ∙ drop_mapped (λ k. pos k) a values in
          let to : take b (drop a w) ≡ map pos os = ap (take b) after ∙ take_mapped (λ k. pos k) b (drop a values) in
          let tv : multipliers_in a b r w ≡ map pos vs =
          ap (λ (z : List ℤ). drop r (drop b z)) after ∙ ap (drop r) (drop_mapped (λ k. pos k) b (drop a values)) ∙ drop_mapped (λ k. pos k) r (drop b (drop a values)) in
          let sc : length cs ≡ length (map spelled at) = lc ∙ sym (length-map at spelled) in
          let so : length os ≡ length mine = lo ∙ sym (length-map x.by_clauses.items number_of) in
          let sd : length ds ≡ length (map own rest) = ld ∙ sym (length-map rest own) in
          let sv : length vs ≡ row_count expression (map spelled at) mine (map own rest) = lv ∙ sym (counts (map spelled at) mine rest held) in
          let u : Turn = record { t = point.scale; coefficients = cs; offsets = os; drops = ds; multipliers = vs } in
          let l = mapping_at (arity_in p) (map spelled at) mine cs os in
          let drops = points_drop expression (map spelled at) mine (arity_in p) (map own rest) point.scale cs os ds vs (λ k z. h.norm.width k z) (few rest among) point.some sc so sd sv hold in
          let parts = measures.parts cs os lc lo tc to in
          mapping t u (solution_is ∙ found ∙ ap (λ (z : List ℤ). Found t z) (point.w_is ∙ ap (map pos) (sym whole))) sc (so ∙ ap length h.by_clauses) sd (λ fit empty.
          let fit_here : DropsFit expression view (arity_in p) l (map own rest) ds vs =
          subst (λ (qs : List ℕ). DropsFit expression view (arity_in p) (mapping_by (arity_in p) (map spelled at) qs u) (map own rest) ds vs) (sym h.by_clauses) fit in
          none (map falls_of ds)
          (subst (λ (zs : List ℤ). ShowDrops ms rest zs (map falls_of ds)) (sym tv)
          (all_shown size truth expression h.norm p comps rows c ms l parts rest vs ds held (wide_heads size truth expression p comps rows c x h ms measures.measures rest held) ld fit_here drops.0))
          (some_falls ds drops.1) (λ e.
          let empty_here : EmptyFit expression view (arity_in p) l =
          subst (λ (qs : List ℕ). EmptyFit expression view (arity_in p) (mapping_by (arity_in p) (map spelled at) qs u)) (sym h.by_clauses) (empty e) in
          all_dead size truth expression h.norm p comps rows c ms l parts x.calls.items h.held (wide_heads size truth expression p comps rows c x h ms measures.measures x.calls.items h.held)
          (subst (λ (os : List Recalled). AllByRecursion (λ (o : Recalled). row_fits (fall_over expression o.rule o.member o.call.args 1 l) ≡ true) os) (calls_are expression p comps rows c x.calls.items h.pairs h.held) empty_here)))
