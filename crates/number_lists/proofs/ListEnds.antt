-- The list of the mappings of turns that leave no transition.
use Rattle.std.proofs.Common.{◌≡◌, ◌≤◌, ℕ, suc, ℤ, Bool, true, false, List, [], ◌∷◌, map, length, inl, inr, refl, ap, sym, subst, ◌∙◌, arith}
use Rattle.std.specs.List.{AllByRecursion}
use Rattle.termination_model.specs.claims.Claims.{SomeOf}
use Rattle.termination_model.specs.columns.ColumnClaims.{Mapping}
use Rattle.transitions.specs.StuckSets.{Feature}
use Rattle.transitions.specs.Transitions.{Descends, FallsAt, Transition}
use Rattle.transitions.specs.Turns.{HasWidths}
use Rattle.number_turns.specs.Recalled.{recalled}
use Rattle.number_turns.specs.declared.transition.Transition.{Transition as Held}
use Rattle.number_lists.specs.Coursing.{CannotLeave, HasBegun, IsCourse, IsListOver, IsMappingOver, free, rest_of}
use Rattle.number_lists.specs.Lists.{HasPlace, HavePlaces, recalled_mapping}
use Rattle.number_lists.specs.Tracking.{AreTracked, SomeLeft}
use Rattle.number_lists.specs.declared.course.Course.{Course}
use Rattle.number_lists.specs.declared.mapping.Mapping.{Mapping as HeldMapping}
use Rattle.number_lists.specs.declared.measure_list.MeasureList.{MeasureList}
use Rattle.number_lists.specs.declared.place.Place.{Place}
use Rattle.number_lists.proofs.Courses.{falls_there, stays_there}

all_placed : (ls : List Mapping) (τs : List Held) (gs : List Bool) (ps : List Place) → AreTracked ls τs gs ps → rest_of τs gs ≡ [] → HavePlaces ls (map recalled τs) ps
all_placed ls [] [] [] h e = tt
all_placed ls [] [] (p ∷ ps) h e = absurd h
all_placed ls [] (g ∷ gs) ps h e = absurd h
all_placed ls (τ ∷ τs) [] ps h e = absurd h
all_placed ls (τ ∷ τs) (g ∷ gs) [] h e = absurd h
all_placed ls (τ ∷ τs) (true ∷ gs) (p ∷ ps) h e = (h.0, all_placed ls τs gs ps h.1 e)
all_placed ls (τ ∷ τs) (false ∷ gs) (p ∷ ps) h e = cc

-- where no turn was made and no transition remains, there was none
none_placed : (ls : List Mapping) (τs : List Held) (gs : List Bool) (ps : List Place) → AreTracked [] τs gs ps → rest_of τs gs ≡ [] → HavePlaces ls (map recalled τs) ps
none_placed ls [] [] [] h e = tt
none_placed ls [] [] (p ∷ ps) h e = absurd h
none_placed ls [] (g ∷ gs) ps h e = absurd h
none_placed ls (τ ∷ τs) [] ps h e = absurd h
none_placed ls (τ ∷ τs) (g ∷ gs) [] h e = absurd h
none_placed ls (τ ∷ τs) (true ∷ gs) (p ∷ ps) h e = no_place (recalled τ) p.multipliers p.floor h.0
  where
    no_place : (σ : Transition) (bys : List (List ℤ)) (floor : List ℤ) → HasPlace [] σ bys floor → HavePlaces ls (map recalled (τ ∷ τs)) (p ∷ ps)
    no_place σ [] floor k = absurd k
    no_place σ (by ∷ bys) floor k = absurd k
none_placed ls (τ ∷ τs) (false ∷ gs) (p ∷ ps) h e = cc

some_left : (k : ℕ) (gs : List Bool) (ps : List Place) → SomeLeft k gs ps → SomeOf (λ (p : Place). length p.multipliers ≡ suc k) ps
some_left k [] ps h = absurd h
some_left k (g ∷ gs) [] h = absurd h
some_left k (true ∷ gs) (p ∷ ps) (inl e) = inl e
some_left k (true ∷ gs) (p ∷ ps) (inr h) = inr (some_left k gs ps h)
some_left k (false ∷ gs) (p ∷ ps) h = inr (some_left k gs ps h)

module _ (width : ℕ → ℕ) where
  one_falls : (ls : List Mapping) (τ : Transition) (bys : List (List ℤ)) (floor : List ℤ) → HasWidths width τ → HasPlace ls τ bys floor → (i : ℕ) × FallsAt τ i ls
  one_falls ls τ [] floor has h = absurd h
  one_falls [] τ (by ∷ bys) floor has h = absurd h
  one_falls (l ∷ ls) τ (by ∷ []) floor has h = (0, falls_there width l τ by floor has h.0 h.1)
  one_falls (l ∷ ls) τ (by ∷ (next ∷ bys)) floor has h =
      let rest = one_falls ls τ (next ∷ bys) floor has h.1 in
      (suc rest.0, (stays_there width l τ by has h.0, rest.1))

  pub all_fall : (ls : List Mapping) (τs : List Transition) (ps : List Place) → AllByRecursion (HasWidths width) τs → HavePlaces ls τs ps → Descends τs ls
  all_fall ls [] [] has h = tt
  all_fall ls [] (p ∷ ps) has h = absurd h
  all_fall ls (τ ∷ τs) [] has h = absurd h
  all_fall ls (τ ∷ τs) (p ∷ ps) has h = (one_falls ls τ p.multipliers p.floor has.0 h.0, all_fall ls τs ps has.1 h.1)

module _ (cs : List Feature) (τs : List Held) (course : Course) (is : IsCourse cs τs course) (none : rest_of τs course.gone.items ≡ []) (l : MeasureList) (places : l.places ≡ course.places.items) where
  abbrev all : List Transition
  all = map recalled τs

  pub zero_list : (plain : HeldMapping) → course.mappings ≡ [] → plain ≡ record { features = []; numbers = [] } → l.mappings ≡ plain ∷ [] → IsListOver cs τs l
  zero_list plain empty zeros same =
      let is_zero : l.mappings ≡ record { features = []; numbers = [] } ∷ [] = same ∙ ap (λ (m : HeldMapping). m ∷ []) zeros in
      let count : length l.mappings ≡ 1 = ap length is_zero in
      record {
        some = omega (arith, count);
        mappings = subst (AllByRecursion (IsMappingOver cs)) (sym is_zero) (record { among = λ f i. absurd i; long = refl; fit = refl; once = λ h. tt; sole = λ h. tt }, tt);
        chosen = λ long. absurd (omega (arith, count, long));
        for = λ width has.
            let tracked = subst (λ (ms : List HeldMapping). AreTracked (map (recalled_mapping width) ms) τs course.gone.items course.places.items) empty (is.for width has).tracked in
            let ls = map (recalled_mapping width) l.mappings in
            let placed = subst (HavePlaces ls all) (sym places) (none_placed ls τs course.gone.items course.places.items tracked none) in
            record {
              places = placed;
              needed = λ long. absurd (omega (arith, count, long));
              descends = all_fall width ls all l.places has placed;
            };
      }

  pub turns_list : 1 ≤ length course.mappings → l.mappings ≡ course.mappings → IsListOver cs τs l
  turns_list some same =
      let count : length l.mappings ≡ length course.mappings = ap length same in
      record {
        some = omega (arith, count, some);
        mappings = subst (AllByRecursion (IsMappingOver cs)) (sym same) is.mappings;
        chosen = λ long. chosen (omega (arith, count, long)) is.begun;
        for = λ width has.
            let here = is.for width has in
            let ls = map (recalled_mapping width) l.mappings in
            let tracked = subst (λ (ms : List HeldMapping). AreTracked (map (recalled_mapping width) ms) τs course.gone.items course.places.items) (sym same) here.tracked in
            let placed = subst (HavePlaces ls all) (sym places) (all_placed ls τs course.gone.items course.places.items tracked none) in
            record {
              places = placed;
              needed = λ long i lt. subst (SomeOf (λ (p : Place). length p.multipliers ≡ suc i)) (sym places) (some_left i course.gone.items course.places.items (here.leave i (omega (arith, count, lt))));
              descends = all_fall width ls all l.places has placed;
            };
      }
    where
      chosen : 2 ≤ length course.mappings → HasBegun cs τs course → CannotLeave (free cs all) all
      chosen long (inl h) = let zero : length course.mappings ≡ 0 = ap length h.0 in absurd (omega (arith, zero, long))
      chosen long (inr (inl h)) = absurd (omega (arith, h.0, long))
      chosen long (inr (inr h)) = h
