-- The course of a search after one turn more.
use Rattle.std.proofs.Common.{◌≡◌, ◌⊎◌, ◌<◌, ◌≤◌, ◌==◌, nat_lt, slice_get, slice_set, ℕ, zero, suc, ℤ, Bool, true, false, List, [], ◌∷◌, ◌++◌, map, drop, take, length, replicate, Some, inl, inr, refl, ap, sym, subst, ◌∙◌, arith}
use Rattle.std.specs.List.{AllByRecursion}
use Rattle.std.proofs.lemmas.List.{length-map}
use Rattle.termination_model.specs.columns.ColumnClaims.{Mapping}
use Rattle.termination_model.proofs.Lists.{map_push, mapped_place, place_below}
use Rattle.transitions.specs.StuckSets.{Feature}
use Rattle.transitions.specs.Transitions.{HoldsThere, Transition, fall, head_level}
use Rattle.transitions.specs.Turns.{HasWidths, IsTurn, RowProved, Turn, unmarked}
use Rattle.transitions.proofs.TurnLaws.{turns_give_lists}
use Rattle.std.specs.Borrow.{Bor}
use Rattle.number_turns.specs.Recalled.{held_of, recalled, recalled_of}
use Rattle.number_turns.specs.declared.transition.Transition.{Transition as Held}
use Rattle.number_lists.specs.Coursing.{CannotLeave, FailsBefore, HasBegun, HasTurns, HaveLeft, IsAdvanced, IsCourse, IsHere, IsLeaving, IsMade, IsMadeAt, IsMappingOver, IsOver, free, rest_of}
use Rattle.number_lists.specs.FoundLists.{Leave, all_marks}
use Rattle.number_lists.specs.Lists.{HasPlace, IsProvedBy, recalled_mapping}
use Rattle.number_lists.specs.Tracking.{AreShownBy, AreTracked, IsTracked, ShowStays, ShownBy, SomeLeft, after_turn, after_turns, no_places, staying, with_turn}
use Rattle.number_lists.specs.declared.course.Course.{Course}
use Rattle.number_lists.specs.declared.course.Leaving.{Leaving}
use Rattle.number_lists.specs.declared.course.Leaving.TheVariants.{All as LeaveAll, One as LeaveOne}
use Rattle.number_lists.specs.declared.course.Made.{Made}
use Rattle.number_lists.specs.declared.mapping.Mapping.{Mapping as HeldMapping}
use Rattle.number_lists.specs.declared.place.Place.{Place}
use Rattle.number_lists.proofs.Numbers.{mapping_over}
use Rattle.number_lists.proofs.Tracked.{all_gone, all_unmarked, by_places_map, element, one_less, set_long, unmarked_all, unmarked_count, unmarked_first, unmarked_none}

-- ---- one mapping more
pub stays_more : (ls : List Mapping) (l : Mapping) (τ : Transition) (bys : List (List ℤ)) (by : List ℤ) → ShowStays ls τ bys → IsProvedBy τ.rows by (fall τ 0 l) → ShowStays (ls ++ l ∷ []) τ (bys ++ by ∷ [])
stays_more [] l τ [] by h s = (s, tt)
stays_more [] l τ (b ∷ bys) by h s = absurd h
stays_more (m ∷ ls) l τ [] by h s = absurd h
stays_more (m ∷ ls) l τ (b ∷ bys) by h s = (h.0, stays_more ls l τ bys by h.1 s)

pub place_made : (ls : List Mapping) (l : Mapping) (τ : Transition) (bys : List (List ℤ)) (by floor : List ℤ) → ShowStays ls τ bys → IsProvedBy τ.rows by (fall τ 1 l) → IsProvedBy τ.rows floor (head_level τ l)
    → HasPlace (ls ++ l ∷ []) τ (bys ++ by ∷ []) floor
place_made [] l τ [] by floor h s f = (s, f)
place_made [] l τ (b ∷ bys) by floor h s f = absurd h
place_made (m ∷ ls) l τ [] by floor h s f = absurd h
place_made (m ∷ ls) l τ (b ∷ []) by floor h s f = (h.0, place_made ls l τ [] by floor h.1 s f)
place_made (m ∷ ls) l τ (b ∷ (d ∷ bys)) by floor h s f = (h.0, place_made ls l τ (d ∷ bys) by floor h.1 s f)

place_more : (ls more : List Mapping) (τ : Transition) (bys : List (List ℤ)) (floor : List ℤ) → HasPlace ls τ bys floor → HasPlace (ls ++ more) τ bys floor
place_more ls more τ [] floor h = absurd h
place_more [] more τ (by ∷ bys) floor h = absurd h
place_more (l ∷ ls) more τ (by ∷ []) floor h = h
place_more (l ∷ ls) more τ (by ∷ (next ∷ bys)) floor h = (h.0, place_more ls more τ (next ∷ bys) floor h.1)

stays_long : (ls : List Mapping) (τ : Transition) (bys : List (List ℤ)) → ShowStays ls τ bys → length bys ≡ length ls
stays_long [] τ [] h = refl
stays_long [] τ (b ∷ bys) h = absurd h
stays_long (m ∷ ls) τ [] h = absurd h
stays_long (m ∷ ls) τ (b ∷ bys) h = ap suc (stays_long ls τ bys h.1)

same_rows : (τ : Held) → length (recalled τ).rows ≡ length τ.rows.list
same_rows τ = length-map τ.rows.list _

-- ---- the places after a turn
one_placed : (ls : List Mapping) (l : Mapping) (τ : Held) (zs : List ℤ) (p : Place) → IsTracked ls (recalled τ) false p → ShownBy true l (recalled τ) zs → IsTracked (ls ++ l ∷ []) (recalled τ) true (with_turn true (length τ.rows.list) zs p)
one_placed ls l τ zs p h s =
    let n = length τ.rows.list in
    let both = subst (λ (k : ℕ). IsProvedBy (recalled τ).rows (take k zs) (fall (recalled τ) 1 l) × IsProvedBy (recalled τ).rows (take k (drop k zs)) (head_level (recalled τ) l)) (same_rows τ) s in
    place_made ls l (recalled τ) p.multipliers (take n zs) (take n (drop n zs)) h both.0 both.1

one_stays : (ls : List Mapping) (l : Mapping) (τ : Held) (zs : List ℤ) (p : Place) → IsTracked ls (recalled τ) false p → ShownBy false l (recalled τ) zs → IsTracked (ls ++ l ∷ []) (recalled τ) false (with_turn false (length τ.rows.list) zs p)
one_stays ls l τ zs p h s =
    stays_more ls l (recalled τ) p.multipliers (take (length τ.rows.list) zs) h (subst (λ (k : ℕ). IsProvedBy (recalled τ).rows (take k zs) (fall (recalled τ) 0 l)) (same_rows τ) s)

all_tracked : (ls : List Mapping) (l : Mapping) (τs : List Held) (gs : List Bool) (zs : List ℤ) (ps : List Place) → AreTracked ls τs gs ps → AreShownBy true l (rest_of τs gs) zs
    → AreTracked (ls ++ l ∷ []) τs (replicate (length τs) true) (after_turns true τs gs zs ps)
all_tracked ls l [] [] zs [] h s = tt
all_tracked ls l [] [] zs (p ∷ ps) h s = absurd h
all_tracked ls l [] (g ∷ gs) zs ps h s = absurd h
all_tracked ls l (τ ∷ τs) [] zs ps h s = absurd h
all_tracked ls l (τ ∷ τs) (g ∷ gs) zs [] h s = absurd h
all_tracked ls l (τ ∷ τs) (true ∷ gs) zs (p ∷ ps) h s = (place_more ls (l ∷ []) (recalled τ) p.multipliers p.floor h.0, all_tracked ls l τs gs zs ps h.1 s)
all_tracked ls l (τ ∷ τs) (false ∷ gs) zs (p ∷ ps) h s =
    (one_placed ls l τ zs p h.0 s.0, all_tracked ls l τs gs (after_turn true (length τ.rows.list) zs) ps h.1 (subst (λ (k : ℕ). AreShownBy true l (rest_of τs gs) (after_turn true k zs)) (same_rows τ) s.1))

kept_tracked : (ls : List Mapping) (l : Mapping) (τs : List Held) (gs : List Bool) (zs : List ℤ) (ps : List Place) → AreTracked ls τs gs ps → AreShownBy false l (rest_of τs gs) zs
    → AreTracked (ls ++ l ∷ []) τs gs (after_turns false τs gs zs ps)
kept_tracked ls l [] [] zs [] h s = tt
kept_tracked ls l [] [] zs (p ∷ ps) h s = absurd h
kept_tracked ls l [] (g ∷ gs) zs ps h s = absurd h
kept_tracked ls l (τ ∷ τs) [] zs ps h s = absurd h
kept_tracked ls l (τ ∷ τs) (g ∷ gs) zs [] h s = absurd h
kept_tracked ls l (τ ∷ τs) (true ∷ gs) zs (p ∷ ps) h s = (place_more ls (l ∷ []) (recalled τ) p.multipliers p.floor h.0, kept_tracked ls l τs gs zs ps h.1 s)
kept_tracked ls l (τ ∷ τs) (false ∷ gs) zs (p ∷ ps) h s =
    (one_stays ls l τ zs p h.0 s.0, kept_tracked ls l τs gs (after_turn false (length τ.rows.list) zs) ps h.1 (subst (λ (k : ℕ). AreShownBy false l (rest_of τs gs) (after_turn false k zs)) (same_rows τ) s.1))

one_tracked : (ls : List Mapping) (l : Mapping) (τs : List Held) (gs : List Bool) (zs ws : List ℤ) (ps : List Place) (i : ℕ) (τ : Held) (p : Place) → slice_get τs i ≡ Some τ → slice_get ps i ≡ Some p → slice_get gs i ≡ Some false
    → AreTracked ls τs gs ps → ShownBy true l (recalled τ) zs → AreShownBy false l (rest_of τs (slice_set gs i true)) ws
    → AreTracked (ls ++ l ∷ []) τs (slice_set gs i true) (after_turns false τs (slice_set gs i true) ws (slice_set ps i (with_turn true (length τ.rows.list) zs p)))
one_tracked ls l [] gs zs ws ps i τ p at own here h s r = cc
one_tracked ls l (σ ∷ τs) [] zs ws ps i τ p at own here h s r = cc
one_tracked ls l (σ ∷ τs) (g ∷ gs) zs ws [] i τ p at own here h s r = cc
one_tracked ls l (σ ∷ τs) (true ∷ gs) zs ws (q ∷ ps) zero τ p at own here h s r = cc
one_tracked ls l (σ ∷ τs) (false ∷ gs) zs ws (q ∷ ps) zero τ p at own here h s r =
    let same : σ ≡ τ = cc in
    let mine : q ≡ p = cc in
    let before : IsTracked ls (recalled τ) false p = subst (λ (ρ : Held). IsTracked ls (recalled ρ) false p) same (subst (λ (o : Place). IsTracked ls (recalled σ) false o) mine h.0) in
    let now = one_placed ls l τ zs p before s in
    (subst (λ (ρ : Held). IsTracked (ls ++ l ∷ []) (recalled ρ) true (with_turn true (length τ.rows.list) zs p)) (sym same) now, kept_tracked ls l τs gs ws ps h.1 r)
one_tracked ls l (σ ∷ τs) (true ∷ gs) zs ws (q ∷ ps) (suc i) τ p at own here h s r = (place_more ls (l ∷ []) (recalled σ) q.multipliers q.floor h.0, one_tracked ls l τs gs zs ws ps i τ p at own here h.1 s r)
one_tracked ls l (σ ∷ τs) (false ∷ gs) zs ws (q ∷ ps) (suc i) τ p at own here h s r = (
  one_stays ls l σ ws q h.0 r.0,
  one_tracked ls l τs gs zs (after_turn false (length σ.rows.list) ws) ps i τ p at own here h.1 s (subst (λ (k : ℕ). AreShownBy false l (rest_of τs (slice_set gs i true)) (after_turn false k ws)) (same_rows σ) r.1),
)

first_tracked : (τs : List Held) → AreTracked [] τs (replicate (length τs) false) (no_places (length τs))
first_tracked [] = tt
first_tracked (τ ∷ τs) = (tt, first_tracked τs)

-- ---- how many places there are
places_long : (b : Bool) (τs : List Held) (gs : List Bool) (zs : List ℤ) (ps : List Place) → length gs ≡ length τs → length (after_turns b τs gs zs ps) ≡ length ps
places_long b [] gs zs ps e = refl
places_long b (τ ∷ τs) [] zs ps e = refl
places_long b (τ ∷ τs) (g ∷ gs) zs [] e = refl
places_long b (τ ∷ τs) (true ∷ gs) zs (p ∷ ps) e = ap suc (places_long b τs gs zs ps (omega (arith, e)))
places_long b (τ ∷ τs) (false ∷ gs) zs (p ∷ ps) e = ap suc (places_long b τs gs (after_turn b (length τ.rows.list) zs) ps (omega (arith, e)))

none_long : (n : ℕ) → length (no_places n) ≡ n
none_long zero = refl
none_long (suc n) = ap suc (none_long n)

marks_long : (n : ℕ) (b : Bool) → length (replicate n b) ≡ n
marks_long zero b = refl
marks_long (suc n) b = ap suc (marks_long n b)

-- ---- in which turn transitions left
left_all : (k : ℕ) (τs : List Held) (gs : List Bool) (zs : List ℤ) (ps : List Place) → length gs ≡ length τs → SomeLeft k gs ps → SomeLeft k (replicate (length τs) true) (after_turns true τs gs zs ps)
left_all k [] [] zs ps e h = absurd h
left_all k [] (g ∷ gs) zs ps e h = absurd (omega (arith, e))
left_all k (τ ∷ τs) [] zs ps e h = absurd h
left_all k (τ ∷ τs) (g ∷ gs) zs [] e h = absurd h
left_all k (τ ∷ τs) (true ∷ gs) zs (p ∷ ps) e (inl is) = inl is
left_all k (τ ∷ τs) (true ∷ gs) zs (p ∷ ps) e (inr h) = inr (left_all k τs gs zs ps (omega (arith, e)) h)
left_all k (τ ∷ τs) (false ∷ gs) zs (p ∷ ps) e h = inr (left_all k τs gs (after_turn true (length τ.rows.list) zs) ps (omega (arith, e)) h)

pushed_long : {X : Type 0} (xs : List X) (x : X) → length (xs ++ x ∷ []) ≡ suc (length xs)
pushed_long [] x = refl
pushed_long (y ∷ xs) x = ap suc (pushed_long xs x)

left_now : (ls : List Mapping) (τs : List Held) (gs : List Bool) (zs : List ℤ) (ps : List Place) → AreTracked ls τs gs ps → 1 ≤ staying gs → SomeLeft (length ls) (replicate (length τs) true) (after_turns true τs gs zs ps)
left_now ls [] [] zs [] h some = absurd (omega (arith, some))
left_now ls [] [] zs (p ∷ ps) h some = absurd h
left_now ls [] (g ∷ gs) zs ps h some = absurd h
left_now ls (τ ∷ τs) [] zs ps h some = absurd h
left_now ls (τ ∷ τs) (g ∷ gs) zs [] h some = absurd h
left_now ls (τ ∷ τs) (true ∷ gs) zs (p ∷ ps) h some = inr (left_now ls τs gs zs ps h.1 some)
left_now ls (τ ∷ τs) (false ∷ gs) zs (p ∷ ps) h some = inl (pushed_long p.multipliers (take (length τ.rows.list) zs) ∙ ap suc (stays_long ls (recalled τ) p.multipliers h.0))

left_kept : (k : ℕ) (τs : List Held) (gs : List Bool) (zs : List ℤ) (ps : List Place) → SomeLeft k gs ps → SomeLeft k gs (after_turns false τs gs zs ps)
left_kept k [] gs zs ps h = h
left_kept k (τ ∷ τs) [] zs ps h = absurd h
left_kept k (τ ∷ τs) (g ∷ gs) zs [] h = absurd h
left_kept k (τ ∷ τs) (true ∷ gs) zs (p ∷ ps) (inl is) = inl is
left_kept k (τ ∷ τs) (true ∷ gs) zs (p ∷ ps) (inr h) = inr (left_kept k τs gs zs ps h)
left_kept k (τ ∷ τs) (false ∷ gs) zs (p ∷ ps) h = left_kept k τs gs (after_turn false (length τ.rows.list) zs) ps h

left_set : (k : ℕ) (gs : List Bool) (ps : List Place) (i : ℕ) (q : Place) → slice_get gs i ≡ Some false → SomeLeft k gs ps → SomeLeft k (slice_set gs i true) (slice_set ps i q)
left_set k [] ps i q here h = absurd h
left_set k (g ∷ gs) [] i q here h = absurd h
left_set k (true ∷ gs) (p ∷ ps) zero q here h = cc
left_set k (false ∷ gs) (p ∷ ps) zero q here h = inr h
left_set k (true ∷ gs) (p ∷ ps) (suc i) q here (inl is) = inl is
left_set k (true ∷ gs) (p ∷ ps) (suc i) q here (inr h) = inr (left_set k gs ps i q here h)
left_set k (false ∷ gs) (p ∷ ps) (suc i) q here h = left_set k gs ps i q here h

left_here : (k : ℕ) (gs : List Bool) (ps : List Place) (i : ℕ) (q : Place) → slice_get gs i ≡ Some false → i < length ps → length q.multipliers ≡ suc k → SomeLeft k (slice_set gs i true) (slice_set ps i q)
left_here k [] ps i q here lt long = cc
left_here k (g ∷ gs) [] i q here lt long = absurd (omega (arith, lt))
left_here k (g ∷ gs) (p ∷ ps) zero q here lt long = inl long
left_here k (true ∷ gs) (p ∷ ps) (suc i) q here lt long = inr (left_here k gs ps i q here (omega (arith, lt)) long)
left_here k (false ∷ gs) (p ∷ ps) (suc i) q here lt long = left_here k gs ps i q here (omega (arith, lt)) long

stay_at : (ls : List Mapping) (τs : List Held) (gs : List Bool) (ps : List Place) (i : ℕ) (p : Place) → AreTracked ls τs gs ps → slice_get ps i ≡ Some p → slice_get gs i ≡ Some false → length p.multipliers ≡ length ls
stay_at ls [] [] [] i p h own here = cc
stay_at ls [] [] (q ∷ ps) i p h own here = absurd h
stay_at ls [] (g ∷ gs) ps i p h own here = absurd h
stay_at ls (τ ∷ τs) [] ps i p h own here = absurd h
stay_at ls (τ ∷ τs) (g ∷ gs) [] i p h own here = absurd h
stay_at ls (τ ∷ τs) (true ∷ gs) (q ∷ ps) zero p h own here = cc
stay_at ls (τ ∷ τs) (false ∷ gs) (q ∷ ps) zero p h own here = let same : q ≡ p = cc in sym (ap (λ (o : Place). length o.multipliers) same) ∙ stays_long ls (recalled τ) q.multipliers h.0
stay_at ls (τ ∷ τs) (g ∷ gs) (q ∷ ps) (suc i) p h own here = stay_at ls τs gs ps i p h.1 own here

-- ---- what is proved holds
take_whole : {X : Type 0} (xs : List X) (n : ℕ) → length xs ≡ n → take n xs ≡ xs
take_whole [] zero e = refl
take_whole [] (suc n) e = refl
take_whole (x ∷ xs) zero e = absurd (omega (arith, e))
take_whole (x ∷ xs) (suc n) e = ap (λ s. x ∷ s) (take_whole xs n (omega (arith, e)))

take_left : {X : Type 0} (xs ys : List X) (n : ℕ) → length xs ≡ n → take n (xs ++ ys) ≡ xs
take_left [] ys zero e = refl
take_left [] ys (suc n) e = absurd (omega (arith, e))
take_left (x ∷ xs) ys zero e = absurd (omega (arith, e))
take_left (x ∷ xs) ys (suc n) e = ap (λ s. x ∷ s) (take_left xs ys n (omega (arith, e)))

drop_left : {X : Type 0} (xs ys : List X) (n : ℕ) → length xs ≡ n → drop n (xs ++ ys) ≡ ys
drop_left [] ys zero e = refl
drop_left [] ys (suc n) e = absurd (omega (arith, e))
drop_left (x ∷ xs) ys zero e = absurd (omega (arith, e))
drop_left (x ∷ xs) ys (suc n) e = drop_left xs ys n (omega (arith, e))

module _ (width : ℕ → ℕ) (l : Mapping) where
  abbrev Stays : Transition → Type 0
  Stays τ = HoldsThere τ (fall τ 0 l)

  abbrev Falls : Transition → Type 0
  Falls τ = HoldsThere τ (fall τ 1 l) × HoldsThere τ (head_level τ l)

  pub stays_there : (τ : Transition) (by : List ℤ) → HasWidths width τ → IsProvedBy τ.rows by (fall τ 0 l) → HoldsThere τ (fall τ 0 l)
  stays_there τ by has (ms, is, long, p) =
      let n = length τ.rows in
      let shown : RowProved τ.rows (take n ms) (fall τ 0 l) = subst (λ (s : List ℕ). RowProved τ.rows s (fall τ 0 l)) (sym (take_whole ms n long)) p in
      let turn = turns_give_lists.shown width l (τ ∷ []) [] ms (has, tt) (shown, tt) in
      turn.0

  pub falls_there : (τ : Transition) (by floor : List ℤ) → HasWidths width τ → IsProvedBy τ.rows by (fall τ 1 l) → IsProvedBy τ.rows floor (head_level τ l) → HoldsThere τ (fall τ 1 l) × HoldsThere τ (head_level τ l)
  falls_there τ by floor has (ms, is, long, p) (ns, also, wide, q) =
      let n = length τ.rows in
      let all = ms ++ ns in
      let first : RowProved τ.rows (take n all) (fall τ 1 l) = subst (λ (s : List ℕ). RowProved τ.rows s (fall τ 1 l)) (sym (take_left ms ns n long)) p in
      let second : RowProved τ.rows (take n (drop n all)) (head_level τ l) = subst (λ (s : List ℕ). RowProved τ.rows s (head_level τ l)) (sym (ap (take n) (drop_left ms ns n long) ∙ take_whole ns n wide)) q in
      let turn = turns_give_lists.shown width l (τ ∷ []) (true ∷ []) all (has, tt) (first, (second, tt)) in
      (turn.0, turn.1)

  all_turn : (τs : List Transition) (zs : List ℤ) → AllByRecursion (HasWidths width) τs → AreShownBy true l τs zs → IsTurn τs l (all_marks τs)
  all_turn [] zs has h = tt
  all_turn (τ ∷ τs) zs has h =
      let n = length τ.rows in
      let here = falls_there τ (take n zs) (take n (drop n zs)) has.0 h.0.0 h.0.1 in
      (here.0, here.1, all_turn τs (after_turn true n zs) has.1 h.1)

  all_stay : (τs : List Transition) (zs : List ℤ) → AllByRecursion (HasWidths width) τs → AreShownBy false l τs zs → AllByRecursion (λ (τ : Transition). HoldsThere τ (fall τ 0 l)) τs
  all_stay [] zs has h = tt
  all_stay (τ ∷ τs) zs has h = (stays_there τ (take (length τ.rows) zs) has.0 h.0, all_stay τs (after_turn false (length τ.rows) zs) has.1 h.1)

  kept_turn : (τs : List Transition) → AllByRecursion (λ (τ : Transition). HoldsThere τ (fall τ 0 l)) τs → IsTurn τs l []
  kept_turn [] h = tt
  kept_turn (τ ∷ τs) h = (h.0, kept_turn τs h.1)

  -- back from the one that was put first to marks over all that remain
  one_turn : (xs : List Transition) (gs : List Bool) (i : ℕ) (x : Transition) → slice_get xs i ≡ Some x → slice_get gs i ≡ Some false → HoldsThere x (fall x 1 l) × HoldsThere x (head_level x l)
      → AllByRecursion (λ (τ : Transition). HoldsThere τ (fall τ 0 l)) (unmarked xs (slice_set gs i true))
      → (marks : List Bool) × IsTurn (unmarked xs gs) l marks × (unmarked (unmarked xs gs) marks ≡ unmarked xs (slice_set gs i true))
  one_turn [] gs i x at here f h = cc
  one_turn (y ∷ xs) [] i x at here f h = cc
  one_turn (y ∷ xs) (true ∷ gs) zero x at here f h = cc
  one_turn (y ∷ xs) (false ∷ gs) zero x at here f h =
      let same : x ≡ y = cc in
      let g = subst (λ (z : Transition). HoldsThere z (fall z 1 l) × HoldsThere z (head_level z l)) same f in
      (true ∷ [], (g.0, g.1, kept_turn (unmarked xs gs) h), unmarked_none (unmarked xs gs))
  one_turn (y ∷ xs) (true ∷ gs) (suc i) x at here f h = one_turn xs gs i x at here f h
  one_turn (y ∷ xs) (false ∷ gs) (suc i) x at here f h = let r = one_turn xs gs i x at here f h.1 in (false ∷ r.0, (h.0, r.1), ap (λ s. y ∷ s) r.2)

leave_push : (τs : List Transition) (us : List Turn) (rest : List Transition) (u : Turn) → Leave τs us rest → IsTurn rest u.mapping u.marks → Leave τs (us ++ u ∷ []) (unmarked rest u.marks)
leave_push τs [] rest u left turn = (subst (λ (s : List Transition). IsTurn s u.mapping u.marks) left turn, ap (λ (s : List Transition). unmarked s u.marks) left)
leave_push τs (v ∷ us) rest u left turn = (left.0, leave_push (unmarked τs v.marks) us rest u left.1 turn)

pub all_push : {X : Type 0} (P : X → Type 0) (xs : List X) (x : X) → AllByRecursion P xs → P x → AllByRecursion P (xs ++ x ∷ [])
all_push P [] x h p = (p, tt)
all_push P (y ∷ xs) x h p = (h.0, all_push P xs x h.1 p)

-- ---- the course
module _ (cs : List Feature) (τs : List Held) where
  abbrev all : List Transition
  all = map recalled τs

  turns_more : (rest later : List Transition) (l : Mapping) (marks : List Bool) → HasTurns cs all rest → IsTurn rest l marks → IsOver cs l → unmarked rest marks ≡ later → HasTurns cs all later
  turns_more rest later l marks h turn over e =
      let u : Turn = record { mapping = l; marks = marks } in
      record {
        turns = h.turns ++ u ∷ [];
        leave = subst (Leave all (h.turns ++ u ∷ [])) e (leave_push all h.turns rest u h.leave turn);
        over = all_push (λ (v : Turn). IsOver cs v.mapping) h.turns u h.over over;
      }

  pub course_first : (course : Course) → course.gone.items ≡ replicate (length τs) false → course.places.items ≡ no_places (length τs) → course.mappings ≡ [] → IsCourse cs τs course
  course_first course gone places none =
      let all_there : rest_of τs course.gone.items ≡ all = ap (rest_of τs) gone ∙ unmarked_first all (length τs) in
      record {
        gone = ap length gone ∙ marks_long (length τs) false;
        places = ap length places ∙ none_long (length τs);
        mappings = subst (AllByRecursion (IsMappingOver cs)) (sym none) tt;
        begun = inl (none, all_there);
        for = λ width has. record {
          tracked = subst (λ (ls : List HeldMapping). AreTracked (map (recalled_mapping width) ls) τs course.gone.items course.places.items) (sym none)
              (subst (λ (gs : List Bool). AreTracked [] τs gs course.places.items) (sym gone) (subst (AreTracked [] τs (replicate (length τs) false)) (sym places) (first_tracked τs)));
          leave = λ i lt. let count : length course.mappings ≡ 0 = ap length none in absurd (omega (arith, lt, count));
          turns = record { turns = []; leave = all_there; over = tt };
        };
      }

  module _ (old new : Course) (m : Made) (before : IsCourse cs τs old) (some : 1 ≤ length (rest_of τs old.gone.items)) (made : IsMade cs τs old.gone.items m) (mappings : new.mappings ≡ old.mappings ++ m.mapping ∷ []) where
    abbrev gs : List Bool
    gs = old.gone.items

    abbrev ps : List Place
    ps = old.places.items

    some_stay : 1 ≤ staying gs
    some_stay = let count = unmarked_count all gs (before.gone ∙ sym (length-map τs recalled)) in omega (arith, some, count)

    more_mappings : AllByRecursion (IsMappingOver cs) new.mappings
    more_mappings = subst (AllByRecursion (IsMappingOver cs)) (sym mappings) (all_push (IsMappingOver cs) old.mappings m.mapping before.mappings made.over)

    count_more : length new.mappings ≡ suc (length old.mappings)
    count_more = ap length mappings ∙ pushed_long old.mappings m.mapping

    recalled_more : (width : ℕ → ℕ) → map (recalled_mapping width) new.mappings ≡ map (recalled_mapping width) old.mappings ++ recalled_mapping width m.mapping ∷ []
    recalled_more width = ap (map (recalled_mapping width)) mappings ∙ map_push (recalled_mapping width) old.mappings m.mapping

    lower : (i n : ℕ) → i < suc n → (i < n) ⊎ (i ≡ n)
    lower i n lt = go (nat_lt i n) refl
      where
        go : (b : Bool) → nat_lt i n ≡ b → (i < n) ⊎ (i ≡ n)
        go true e = inl (grind (arith, e))
        go false e = inr (grind (arith, e, lt))

    -- in an older turn, or in this one
    left_at : (hs : List Bool) (qs : List Place) → ((k : ℕ) → k < length old.mappings → SomeLeft k hs qs) → SomeLeft (length old.mappings) hs qs → (i : ℕ) → i < length new.mappings → SomeLeft i hs qs
    left_at hs qs older now i lt = elim (lower i (length old.mappings) (omega (arith, lt, count_more))) [
      | inl l ↦ older i l
      | inr e ↦ subst (λ (k : ℕ). SomeLeft k hs qs) (sym e) now
    ]

    not_empty : rest_of τs gs ≡ [] → ⊥
    not_empty e = let none : length (rest_of τs gs) ≡ 0 = ap length e in absurd (omega (arith, some, none))

    pub all_leave : m.leaving ≡ LeaveAll → HaveLeft τs m.multipliers old new LeaveAll → IsCourse cs τs new × (staying new.gone.items < staying gs)
    all_leave is left =
        let n = length τs in
        let zs = m.multipliers in
        let none_rest : rest_of τs new.gone.items ≡ [] = ap (rest_of τs) left.0 ∙ unmarked_all all n (length-map τs recalled) in
        let done : staying new.gone.items ≡ 0 = ap staying left.0 ∙ all_gone n in (
          record {
            gone = ap length left.0 ∙ marks_long n true;
            places = ap length left.1 ∙ places_long true τs gs zs ps before.gone ∙ before.places;
            mappings = more_mappings;
            begun = begun none_rest before.begun;
            for = λ width has.
                let old_for = before.for width has in
                let ls = map (recalled_mapping width) old.mappings in
                let l = recalled_mapping width m.mapping in
                let shown : AreShownBy true l (rest_of τs gs) zs = subst (IsLeaving width τs gs m) is (made.shown width has) in
                let qs = after_turns true τs gs zs ps in
                let now : SomeLeft (length old.mappings) (replicate n true) qs = subst (λ (k : ℕ). SomeLeft k (replicate n true) qs) (length-map old.mappings (recalled_mapping width)) (left_now ls τs gs zs ps old_for.tracked some_stay) in
                let leave = left_at (replicate n true) qs (λ k lt. left_all k τs gs zs ps before.gone (old_for.leave k lt)) now in
                record {
                  tracked = subst (λ (ms : List Mapping). AreTracked ms τs new.gone.items new.places.items) (sym (recalled_more width))
                      (subst (λ (hs : List Bool). AreTracked (ls ++ l ∷ []) τs hs new.places.items) (sym left.0)
                      (subst (AreTracked (ls ++ l ∷ []) τs (replicate n true)) (sym left.1) (all_tracked ls l τs gs zs ps old_for.tracked shown)));
                  leave = λ i lt. subst (λ (hs : List Bool). SomeLeft i hs new.places.items) (sym left.0) (subst (SomeLeft i (replicate n true)) (sym left.1) (leave i lt));
                  turns = turns_more (rest_of τs gs) (rest_of τs new.gone.items) l (all_marks (rest_of τs gs)) old_for.turns (all_turn width l (rest_of τs gs) zs (all_unmarked (HasWidths width) all gs has) shown)
                      (mapping_over width cs m.mapping made.over) (unmarked_all (rest_of τs gs) (length (rest_of τs gs)) refl ∙ sym none_rest);
                };
          },
          omega (arith, done, some_stay),
        )
      where
        begun : rest_of τs new.gone.items ≡ [] → HasBegun cs τs old → HasBegun cs τs new
        begun none_rest (inl h) = let count : length old.mappings ≡ 0 = ap length h.0 in inr (inl (omega (arith, count, count_more), none_rest))
        begun none_rest (inr (inl h)) = absurd (not_empty h.1)
        begun none_rest (inr (inr h)) = inr (inr h)

    pub one_leaves : (i : ℕ) → m.leaving ≡ LeaveOne i → FailsBefore cs (rest_of τs gs) (LeaveOne i) → HaveLeft τs m.multipliers old new (LeaveOne i) → IsCourse cs τs new × (staying new.gone.items < staying gs)
    one_leaves i is fails left =
        let zs = m.multipliers in
        let hs = slice_set gs i true in
        let here : IsHere τs gs (LeaveOne i) = subst (IsHere τs gs) is made.here in
        let τ = here.0 in
        let at = here.1 in
        let not_gone = here.2 in
        let lt = place_below τs i τ at in
        let own = element ps i (omega (arith, lt, before.places)) in
        let p = own.0 in
        let own_at : slice_get ps i ≡ Some p = own.1 in
        let n = length τ.rows.list in
        let ws = after_turn true n zs in
        let q = with_turn true n zs p in
        let qs = after_turns false τs hs ws (slice_set ps i q) in
        let placed : new.places.items ≡ qs = left.1 τ p at own_at in
        let there = mapped_place recalled τs i τ at in
        let less = one_less gs i not_gone in
        let now_less : staying new.gone.items ≡ staying hs = ap staying left.0 in
        let hs_long : length hs ≡ length τs = set_long gs i true ∙ before.gone in (
          record {
            gone = ap length left.0 ∙ hs_long;
            places = ap length placed ∙ places_long false τs hs ws (slice_set ps i q) hs_long ∙ set_long ps i q ∙ before.places;
            mappings = more_mappings;
            begun = inr (inr (begun fails before.begun));
            for = λ width has.
                let old_for = before.for width has in
                let ls = map (recalled_mapping width) old.mappings in
                let l = recalled_mapping width m.mapping in
                let shown : IsMadeAt width τs gs i τ m = subst (IsLeaving width τs gs m) is (made.shown width has) τ at in
                let has_here = by_places_map (HasWidths width) recalled τs i τ has at in
                let falls = falls_there width l (recalled τ) (take (length (recalled τ).rows) zs) (take (length (recalled τ).rows) (drop (length (recalled τ).rows) zs)) has_here shown.shown.0 shown.shown.1 in
                let stays = all_stay width l (rest_of τs hs) ws (all_unmarked (HasWidths width) all hs has) shown.others in
                let turn = one_turn width l all gs i (recalled τ) there not_gone falls stays in
                let long : length q.multipliers ≡ suc (length old.mappings) = pushed_long p.multipliers (take n zs) ∙ ap suc (stay_at ls τs gs ps i p old_for.tracked own_at not_gone ∙ length-map old.mappings (recalled_mapping width)) in
                let leave = left_at hs qs (λ k less. left_kept k τs hs ws (slice_set ps i q) (left_set k gs ps i q not_gone (old_for.leave k less)))
                (left_kept (length old.mappings) τs hs ws (slice_set ps i q) (left_here (length old.mappings) gs ps i q not_gone (omega (arith, lt, before.places)) long)) in
                record {
                  tracked = subst (λ (ms : List Mapping). AreTracked ms τs new.gone.items new.places.items) (sym (recalled_more width))
                      (subst (λ (ks : List Bool). AreTracked (ls ++ l ∷ []) τs ks new.places.items) (sym left.0)
                      (subst (AreTracked (ls ++ l ∷ []) τs hs) (sym placed) (one_tracked ls l τs gs zs ws ps i τ p at own_at not_gone old_for.tracked shown.shown shown.others)));
                  leave = λ k lt. subst (λ (ks : List Bool). SomeLeft k ks new.places.items) (sym left.0) (subst (SomeLeft k hs) (sym placed) (leave k lt));
                  turns = turns_more (rest_of τs gs) (rest_of τs new.gone.items) l turn.0 old_for.turns turn.1 (mapping_over width cs m.mapping made.over) (turn.2 ∙ ap (rest_of τs) (sym left.0));
                };
          },
          omega (arith, less, now_less),
        )
      where
        begun : CannotLeave (free cs (rest_of τs gs)) (rest_of τs gs) → HasBegun cs τs old → CannotLeave (free cs all) all
        begun f (inl h) = subst (λ (xs : List Transition). CannotLeave (free cs xs) xs) h.1 f
        begun f (inr (inl h)) = absurd (not_empty h.1)
        begun f (inr (inr h)) = h

    pub advanced : FailsBefore cs (rest_of τs gs) m.leaving → IsAdvanced τs m old new → IsCourse cs τs new × (staying new.gone.items < staying gs)
    advanced fails is = go m.leaving refl
      where
        go : (v : Leaving) → m.leaving ≡ v → IsCourse cs τs new × (staying new.gone.items < staying gs)
        go LeaveAll e = all_leave e (subst (HaveLeft τs m.multipliers old new) e is.left)
        go (LeaveOne i) e = one_leaves i e (subst (FailsBefore cs (rest_of τs gs)) e fails) (subst (HaveLeft τs m.multipliers old new) e is.left)

  -- where no turn was made for all, none can be
  pub not_begun : (course : Course) → IsCourse cs τs course → 1 ≤ length (rest_of τs course.gone.items) → CannotLeave (free cs (rest_of τs course.gone.items)) (rest_of τs course.gone.items) → CannotLeave (free cs all) all
  not_begun course is some fails = go is.begun
    where
      go : HasBegun cs τs course → CannotLeave (free cs all) all
      go (inl h) = subst (λ (xs : List Transition). CannotLeave (free cs xs) xs) h.1 fails
      go (inr (inl h)) = let none : length (rest_of τs course.gone.items) ≡ 0 = ap length h.1 in absurd (omega (arith, some, none))
      go (inr (inr h)) = h

-- what is kept is not empty
pub some_kept : (τs : List Held) (gs : List Bool) (slice : List (Bor Held)) → recalled_of slice ≡ rest_of τs gs → 1 ≤ length slice → 1 ≤ length (rest_of τs gs)
some_kept τs gs slice same some =
    let many : length (rest_of τs gs) ≡ length slice = ap length (sym same) ∙ length-map (held_of slice) recalled ∙ length-map slice (λ (y : Bor Held). y.now) in
    omega (arith, many, some)

pub not_zero : (n : ℕ) (b : Bool) → b ≡ (n == 0) → b ≡ false → 1 ≤ n
not_zero zero b e f = cc
not_zero (suc n) b e f = omega arith

pub not_nil : {X : Type 0} (xs : List X) (b : Bool) → (xs ≡ [] → b ≡ true) → b ≡ false → 1 ≤ length xs
not_nil [] b h f = let t : b ≡ true = h refl in cc
not_nil (x ∷ xs) b h f = omega arith
