-- The calls in the course of the turns.
use Rattle.std.proofs.Common.{◌≡◌, ◌+◌, ◌<◌, ◌≤◌, ◌≤ℤ◌, get_or, slice_get, ℕ, zero, suc, ℤ, pos, Bool, true, false, List, [], ◌∷◌, ◌++◌, All, map, drop, take, length, Option, None, Some, refl, ap, sym, subst, ◌∙◌, arith}
use Rattle.std.specs.Prelude.{IfSome, is_some}
use Rattle.std.specs.List.{AllByRecursion}
use Rattle.std.proofs.lemmas.Int.{ints}
use Rattle.linear_rows.specs.Showing.{AreMultipliers}
use Rattle.linear_rows.specs.declared.multipliers.Multipliers.{Multipliers}
use Rattle.termination_model.specs.lists.TurnSystem.{left}
use Rattle.level_systems.specs.Falling.{IsReady}
use Rattle.level_systems.specs.Held.{live_of, with_live}
use Rattle.level_systems.specs.Turned.{all_rows}
use Rattle.level_systems.specs.declared.measure.Measure.{Measure}
use Rattle.level_systems.specs.declared.own_call.OwnCall.{OwnCall}
use Rattle.level_dual.proofs.PartLaws.{all_dropped, all_taken}
use Rattle.level_dual.proofs.SearchLaws.{length_take}
use Rattle.termination_model.proofs.Lists.{there}
use Rattle.linear_rows.specs.Members.{In}
use Rattle.std.proofs.Common.{inl, inr}
use Rattle.number_tests.specs.Drops.{fall_number}
use Rattle.lex_turns.specs.Testing.{AreAmong, EmptyFall, EmptyFalls, ShowDrops, ShowsDrop, first_by}
use Rattle.lex_turns.specs.Tracking.{AreTracked, HasLeft, IsTracked, ShowPlace, ShowStays, Shown, after_drops, after_falls, drops_first, given, gone_first, kept, staying, with_by}
use Rattle.lex_turns.specs.declared.call_drops.CallDrops.{CallDrops}
use Rattle.lex_turns.proofs.DropSteps.{length_after}

-- ---- before the first turn
first_one : (own : OwnCall) (m : Option Multipliers) → own.empty ≡ m → IsTracked [] own (is_some m) (record { clause = own.clause; call = own.call; by = given m })
first_one own None e = (refl, refl, tt)
first_one own (Some by) e = (refl, refl, (by, e, refl))

pub first_tracked : (owns : List OwnCall) → AreTracked [] owns (map gone_first owns) (map drops_first owns)
first_tracked [] = tt
first_tracked (own ∷ owns) = (first_one own own.empty refl, first_tracked owns)

pub first_kept : (owns : List OwnCall) → kept owns (map gone_first owns) ≡ live_of owns
first_kept [] = refl
first_kept (own ∷ owns) = go own.empty (first_kept owns)
  where
    go : (m : Option Multipliers) → kept owns (map gone_first owns) ≡ live_of owns → kept (own ∷ owns) (is_some m ∷ map gone_first owns) ≡ with_live m own (live_of owns)
    go None e = ap (λ os. own ∷ os) e
    go (Some by) e = e

-- ---- those that are kept
pub kept_among : (all owns : List OwnCall) (gs : List Bool) → ((y : OwnCall) → In y owns → In y all) → AreAmong all (kept owns gs)
kept_among all [] gs f = tt
kept_among all (own ∷ owns) [] f = tt
kept_among all (own ∷ owns) (true ∷ gs) f = kept_among all owns gs (λ y i. f y (inr i))
kept_among all (own ∷ owns) (false ∷ gs) f = (f own (inl refl), kept_among all owns gs (λ y i. f y (inr i)))

pub kept_count : (owns : List OwnCall) (gs : List Bool) → length gs ≡ length owns → length (kept owns gs) ≡ staying gs
kept_count [] [] e = refl
kept_count [] (g ∷ gs) e = absurd (omega (arith, e))
kept_count (own ∷ owns) [] e = absurd (omega (arith, e))
kept_count (own ∷ owns) (true ∷ gs) e = kept_count owns gs (omega (arith, e))
kept_count (own ∷ owns) (false ∷ gs) e = ap suc (kept_count owns gs (omega (arith, e)))

pub after_long : (gs fs : List Bool) → length (after_falls gs fs) ≡ length gs
after_long [] fs = refl
after_long (true ∷ gs) fs = ap suc (after_long gs fs)
after_long (false ∷ gs) [] = ap suc (after_long gs [])
after_long (false ∷ gs) (f ∷ fs) = ap suc (after_long gs fs)

-- those that fall are gone
pub kept_left : (owns : List OwnCall) (gs fs : List Bool) → length gs ≡ length owns → length fs ≡ staying gs → kept owns (after_falls gs fs) ≡ left (kept owns gs) (map fall_number fs)
kept_left [] gs fs e l = refl
kept_left (own ∷ owns) [] fs e l = absurd (omega (arith, e))
kept_left (own ∷ owns) (true ∷ gs) fs e l = kept_left owns gs fs (omega (arith, e)) l
kept_left (own ∷ owns) (false ∷ gs) [] e l = absurd (omega (arith, l))
kept_left (own ∷ owns) (false ∷ gs) (true ∷ fs) e l = kept_left owns gs fs (omega (arith, e)) (omega (arith, l))
kept_left (own ∷ owns) (false ∷ gs) (false ∷ fs) e l = ap (λ os. own ∷ os) (kept_left owns gs fs (omega (arith, e)) (omega (arith, l)))

-- ---- one measure more
stays_more : (mss : List (List Measure)) (ms : List Measure) (own : OwnCall) (bys : List Multipliers) (by : Multipliers) → ShowStays mss own bys → Shown 0 ms own by → ShowStays (mss ++ ms ∷ []) own (bys ++ by ∷ [])
stays_more [] ms own [] by h s = (s, tt)
stays_more [] ms own (b ∷ bys) by h s = absurd h
stays_more (m ∷ mss) ms own [] by h s = absurd h
stays_more (m ∷ mss) ms own (b ∷ bys) by h s = (h.0, stays_more mss ms own bys by h.1 s)

place_made : (mss : List (List Measure)) (ms : List Measure) (own : OwnCall) (bys : List Multipliers) (by : Multipliers) → ShowStays mss own bys → Shown 1 ms own by → ShowPlace (mss ++ ms ∷ []) own (bys ++ by ∷ [])
place_made [] ms own [] by h s = s
place_made [] ms own (b ∷ bys) by h s = absurd h
place_made (m ∷ mss) ms own [] by h s = absurd h
place_made (m ∷ mss) ms own (b ∷ []) by h s = (h.0, place_made mss ms own [] by h.1 s)
place_made (m ∷ mss) ms own (b ∷ (d ∷ bys)) by h s = (h.0, place_made mss ms own (d ∷ bys) by h.1 s)

place_more : (mss nss : List (List Measure)) (own : OwnCall) (bys : List Multipliers) → ShowPlace mss own bys → ShowPlace (mss ++ nss) own bys
place_more mss nss own [] h = absurd h
place_more [] nss own (by ∷ bys) h = absurd h
place_more (ms ∷ mss) nss own (by ∷ []) h = h
place_more (ms ∷ mss) nss own (by ∷ (next ∷ bys)) h = (h.0, place_more mss nss own (next ∷ bys) h.1)

has_left : (mss : List (List Measure)) (ms : List Measure) (own : OwnCall) (bys : List Multipliers) → ShowPlace (mss ++ ms ∷ []) own bys → HasLeft (mss ++ ms ∷ []) own bys
has_left [] ms own bys h = h
has_left (m ∷ mss) ms own bys h = h

empty_shown : (ms : List Measure) (own : OwnCall) (by : Multipliers) → own.empty ≡ Some by → IsReady own → EmptyFalls ms own → Shown 1 ms own by
empty_shown ms own by e ready falls = (subst (λ (m : Option Multipliers). IfSome m (AreMultipliers (length own.rows.list))) e ready.empty, subst (λ (m : Option Multipliers). IfSome m (λ b. ShowsDrop 1 ms own b)) e falls)

left_more : (mss : List (List Measure)) (ms : List Measure) (own : OwnCall) (bys : List Multipliers) → IsReady own → (mss ≡ [] → EmptyFalls ms own) → HasLeft mss own bys → HasLeft (mss ++ ms ∷ []) own bys
left_more [] ms own bys ready empty h =
    subst (λ (bs : List Multipliers). ShowPlace (ms ∷ []) own bs) (sym h.2) (empty_shown ms own h.0 h.1 ready (empty refl))
left_more (m ∷ mss) ms own bys ready empty h = place_more (m ∷ mss) (ms ∷ []) own bys h

first_multipliers : (own : OwnCall) (values : List ℤ) → All (λ z. pos 0 ≤ℤ z) values → length own.rows.list ≤ length values → AreMultipliers (length own.rows.list) (first_by own values)
first_multipliers own values naturals room = record {
  each = length_take (length own.rows.list) values room;
  naturals = all_taken (length own.rows.list) values naturals;
  scale = omega (arith, ints);
}

moved : (mss : List (List Measure)) (ms : List Measure) (own : OwnCall) (d : CallDrops) (by : Multipliers) (f : Bool) → IsTracked mss own false d → Shown (fall_number f) ms own by → IsTracked (mss ++ ms ∷ []) own f (with_by d by)
moved mss ms own d by true h s = (h.0, h.1, has_left mss ms own (d.by ++ by ∷ []) (place_made mss ms own d.by by h.2 s))
moved mss ms own d by false h s = (h.0, h.1, stays_more mss ms own d.by by h.2 s)

pub tracked_more : (mss : List (List Measure)) (ms : List Measure) (owns : List OwnCall) (gs fs : List Bool) (values : List ℤ) (ds : List CallDrops) → AllByRecursion IsReady owns → AreTracked mss owns gs ds
    → ShowDrops ms (kept owns gs) values fs → All (λ z. pos 0 ≤ℤ z) values → all_rows (kept owns gs) ≤ length values → (mss ≡ [] → EmptyFall ms owns)
    → AreTracked (mss ++ ms ∷ []) owns (after_falls gs fs) (after_drops owns gs values ds)
tracked_more mss ms [] [] fs values [] ready h shows naturals room empty = tt
tracked_more mss ms [] [] fs values (d ∷ ds) ready h shows naturals room empty = absurd h
tracked_more mss ms [] (g ∷ gs) fs values ds ready h shows naturals room empty = absurd h
tracked_more mss ms (own ∷ owns) [] fs values ds ready h shows naturals room empty = absurd h
tracked_more mss ms (own ∷ owns) (g ∷ gs) fs values [] ready h shows naturals room empty = absurd h
tracked_more mss ms (own ∷ owns) (true ∷ gs) fs values (d ∷ ds) ready h shows naturals room empty = (
  (h.0.0, h.0.1, left_more mss ms own d.by ready.0 (λ e. (empty e).0) h.0.2),
  tracked_more mss ms owns gs fs values ds ready.1 h.1 shows naturals room (λ e. (empty e).1),
)
tracked_more mss ms (own ∷ owns) (false ∷ gs) [] values (d ∷ ds) ready h shows naturals room empty = absurd shows
tracked_more mss ms (own ∷ owns) (false ∷ gs) (f ∷ fs) values (d ∷ ds) ready h shows naturals room empty =
    let n = length own.rows.list in (
      moved mss ms own d (first_by own values) f h.0 (first_multipliers own values naturals (omega (arith, room)), shows.0),
      tracked_more mss ms owns gs fs (drop n values) ds ready.1 h.1 shows.1 (all_dropped n values naturals) (length_after values n (all_rows (kept owns gs)) room) (λ e. (empty e).1),
    )

-- where no call is kept before the first measure, one at which those fall that are never reached is the place of each
pub zero_tracked : (ms : List Measure) (owns : List OwnCall) (gs : List Bool) (ds : List CallDrops) → AllByRecursion IsReady owns → AreTracked [] owns gs ds → kept owns gs ≡ [] → EmptyFall ms owns → AreTracked (ms ∷ []) owns gs ds
zero_tracked ms [] [] [] ready h e empty = tt
zero_tracked ms [] [] (d ∷ ds) ready h e empty = absurd h
zero_tracked ms [] (g ∷ gs) ds ready h e empty = absurd h
zero_tracked ms (own ∷ owns) [] ds ready h e empty = absurd h
zero_tracked ms (own ∷ owns) (g ∷ gs) [] ready h e empty = absurd h
zero_tracked ms (own ∷ owns) (true ∷ gs) (d ∷ ds) ready h e empty = ((h.0.0, h.0.1, left_more [] ms own d.by ready.0 (λ _. empty.0) h.0.2), zero_tracked ms owns gs ds ready.1 h.1 e empty.1)
zero_tracked ms (own ∷ owns) (false ∷ gs) (d ∷ ds) ready h e empty = cc

-- ---- one call after another
pub gone_at : (gs : List Bool) (i : ℕ) (g : Bool) → i < length gs → get_or gs i false ≡ g → slice_get gs i ≡ Some g
gone_at gs i g lt e = there gs i false lt ∙ ap Some e

pub skipped : (owns : List OwnCall) (gs : List Bool) (values : List ℤ) (ds : List CallDrops) (i : ℕ) → i < length owns → length gs ≡ length owns → length ds ≡ length owns → slice_get gs i ≡ Some true
    → take (i + 1) ds ++ after_drops (drop (i + 1) owns) (drop (i + 1) gs) values (drop (i + 1) ds) ≡ take i ds ++ after_drops (drop i owns) (drop i gs) values (drop i ds)
skipped [] gs values ds i lt e f h = absurd (omega (arith, lt))
skipped (own ∷ owns) [] values ds i lt e f h = absurd (omega (arith, e))
skipped (own ∷ owns) (g ∷ gs) values [] i lt e f h = absurd (omega (arith, f))
skipped (own ∷ owns) (true ∷ gs) values (d ∷ ds) zero lt e f h = refl
skipped (own ∷ owns) (false ∷ gs) values (d ∷ ds) zero lt e f h = cc
skipped (own ∷ owns) (g ∷ gs) values (d ∷ ds) (suc i) lt e f h =
    let more : suc i + 1 ≡ suc (i + 1) = omega arith in
    rw more (ap (λ s. d ∷ s) (skipped owns gs values ds i (omega (arith, lt)) (omega (arith, e)) (omega (arith, f)) h))

pub kept_gone : (owns : List OwnCall) (gs : List Bool) (i : ℕ) → i < length owns → slice_get gs i ≡ Some true → kept (drop i owns) (drop i gs) ≡ kept (drop (i + 1) owns) (drop (i + 1) gs)
kept_gone [] gs i lt h = absurd (omega (arith, lt))
kept_gone (own ∷ owns) [] i lt h = cc
kept_gone (own ∷ owns) (true ∷ gs) zero lt h = refl
kept_gone (own ∷ owns) (false ∷ gs) zero lt h = cc
kept_gone (own ∷ owns) (g ∷ gs) (suc i) lt h = let more : suc i + 1 ≡ suc (i + 1) = omega arith in rw more (kept_gone owns gs i (omega (arith, lt)) h)

pub kept_here : (owns : List OwnCall) (gs : List Bool) (i : ℕ) (own : OwnCall) → slice_get owns i ≡ Some own → slice_get gs i ≡ Some false → kept (drop i owns) (drop i gs) ≡ own ∷ kept (drop (i + 1) owns) (drop (i + 1) gs)
kept_here [] gs i own at h = cc
kept_here (y ∷ owns) [] i own at h = cc
kept_here (y ∷ owns) (true ∷ gs) zero own at h = cc
kept_here (y ∷ owns) (false ∷ gs) zero own at h = let same : y ≡ own = cc in ap (λ z. z ∷ kept owns gs) same
kept_here (y ∷ owns) (g ∷ gs) (suc i) own at h = let more : suc i + 1 ≡ suc (i + 1) = omega arith in rw more (kept_here owns gs i own at h)
