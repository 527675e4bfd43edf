-- Which calls left, turn by turn.
use Rattle.std.proofs.Common.{◌≡◌, ◌⊎◌, ◌-◌, inl, inr, ℕ, zero, suc, ◌<◌, ℤ, Bool, true, false, List, [], ◌∷◌, ◌++◌, map, drop, take, length, Option, None, Some, refl, ap, sym, subst, arith}
use Rattle.std.specs.Prelude.{is_some}
use Rattle.std.specs.List.{AllByRecursion}
use Rattle.std.proofs.lemmas.List.{length-append}
use Rattle.call_components.specs.Partition.{Partition}
use Rattle.cti_terms.specs.Listing.{Listing}
use Rattle.cti_terms.specs.Tree.{Tree}
use Rattle.cti_terms.specs.declared.clauses.Clause.{Clause}
use Rattle.linear_rows.specs.Plain.{plain_rows}
use Rattle.linear_rows.specs.Rows.{AllHold, AreEmpty}
use Rattle.linear_rows.specs.declared.multipliers.Multipliers.{Multipliers}
use Rattle.term_size.specs.Norm.{IsNorm}
use Rattle.termination_model.specs.claims.Claims.{SomeOf}
use Rattle.termination_model.specs.sizes.ShortSystems.{short_system}
use Rattle.termination_model.proofs.Lists.{one_element}
use Rattle.level_systems.specs.Held.{HasPoint, IsHeld, IsReach}
use Rattle.level_systems.specs.Pairs.{clause_at}
use Rattle.level_systems.specs.declared.measure.Measure.{Measure}
use Rattle.level_systems.specs.declared.own_call.OwnCall.{OwnCall}
use Rattle.lex_turns.specs.Coursing.{KeepReached, SomeLeft}
use Rattle.lex_turns.specs.FoundLists.{IsReached}
use Rattle.lex_turns.specs.Testing.{SomeFalls, first_by}
use Rattle.lex_turns.specs.Tracking.{AreTracked, ShowStays, after_drops, after_falls, gone_first, staying}
use Rattle.lex_turns.specs.declared.call_drops.CallDrops.{CallDrops}
use Rattle.lex_turns.proofs.Places.{rows_same}

-- ---- the calls that are not gone can be reached
pub first_reached : (owns : List OwnCall) → KeepReached owns (map gone_first owns)
first_reached [] = tt
first_reached (own ∷ owns) = go own.empty refl (first_reached owns)
  where
    go : (m : Option Multipliers) → own.empty ≡ m → KeepReached owns (map gone_first owns) → KeepReached (own ∷ owns) (is_some m ∷ map gone_first owns)
    go None e r = (e, r)
    go (Some by) e r = r

pub more_reached : (owns : List OwnCall) (gs fs : List Bool) → KeepReached owns gs → KeepReached owns (after_falls gs fs)
more_reached [] gs fs h = tt
more_reached (own ∷ owns) [] fs h = tt
more_reached (own ∷ owns) (true ∷ gs) fs h = more_reached owns gs fs h
more_reached (own ∷ owns) (false ∷ gs) [] h = (h.0, more_reached owns gs [] h.1)
more_reached (own ∷ owns) (false ∷ gs) (true ∷ fs) h = more_reached owns gs fs h.1
more_reached (own ∷ owns) (false ∷ gs) (false ∷ fs) h = (h.0, more_reached owns gs fs h.1)

pub push_reached : (owns : List OwnCall) (gs : List Bool) (own : OwnCall) (g : Bool) → length gs ≡ length owns → KeepReached owns gs → (g ≡ false → own.empty ≡ None) → KeepReached (owns ++ own ∷ []) (gs ++ g ∷ [])
push_reached [] [] own true e h f = tt
push_reached [] [] own false e h f = (f refl, tt)
push_reached [] (g ∷ gs) own g' e h f = absurd (omega (arith, e))
push_reached (y ∷ owns) [] own g e h f = absurd (omega (arith, e))
push_reached (y ∷ owns) (true ∷ gs) own g e h f = push_reached owns gs own g (omega (arith, e)) h f
push_reached (y ∷ owns) (false ∷ gs) own g e h f = (h.0, push_reached owns gs own g (omega (arith, e)) h.1 f)

-- ---- in each turn some call leaves
still_left : (i : ℕ) (owns : List OwnCall) (gs fs : List Bool) (values : List ℤ) (ds : List CallDrops) → SomeLeft i owns gs ds → SomeLeft i owns (after_falls gs fs) (after_drops owns gs values ds)
still_left i [] gs fs values ds h = absurd h
still_left i (own ∷ owns) [] fs values ds h = absurd h
still_left i (own ∷ owns) (g ∷ gs) fs values [] h = absurd h
still_left i (own ∷ owns) (true ∷ gs) fs values (d ∷ ds) (inl e) = inl e
still_left i (own ∷ owns) (true ∷ gs) fs values (d ∷ ds) (inr h) = inr (still_left i owns gs fs values ds h)
still_left i (own ∷ owns) (false ∷ gs) [] values (d ∷ ds) h = still_left i owns gs [] (drop (length own.rows.list) values) ds h
still_left i (own ∷ owns) (false ∷ gs) (true ∷ fs) values (d ∷ ds) h = inr (still_left i owns gs fs (drop (length own.rows.list) values) ds h)
still_left i (own ∷ owns) (false ∷ gs) (false ∷ fs) values (d ∷ ds) h = still_left i owns gs fs (drop (length own.rows.list) values) ds h

stays_long : (mss : List (List Measure)) (own : OwnCall) (bys : List Multipliers) → ShowStays mss own bys → length bys ≡ length mss
stays_long [] own [] h = refl
stays_long [] own (by ∷ bys) h = absurd h
stays_long (ms ∷ mss) own [] h = absurd h
stays_long (ms ∷ mss) own (by ∷ bys) h = ap suc (stays_long mss own bys h.1)

new_left : (mss : List (List Measure)) (owns : List OwnCall) (gs fs : List Bool) (values : List ℤ) (ds : List CallDrops) → AreTracked mss owns gs ds → KeepReached owns gs → length fs ≡ staying gs → SomeFalls fs
    → SomeLeft (length mss) owns (after_falls gs fs) (after_drops owns gs values ds)
new_left mss [] [] [] values ds h r e s = absurd s
new_left mss [] [] (f ∷ fs) values ds h r e s = absurd (omega (arith, e))
new_left mss [] (g ∷ gs) fs values ds h r e s = absurd h
new_left mss (own ∷ owns) [] fs values ds h r e s = absurd h
new_left mss (own ∷ owns) (g ∷ gs) fs values [] h r e s = absurd h
new_left mss (own ∷ owns) (true ∷ gs) fs values (d ∷ ds) h r e s = inr (new_left mss owns gs fs values ds h.1 r e s)
new_left mss (own ∷ owns) (false ∷ gs) [] values (d ∷ ds) h r e s = absurd s
new_left mss (own ∷ owns) (false ∷ gs) (true ∷ fs) values (d ∷ ds) h r e s =
    let by = first_by own values in
    let long = length-append d.by (by ∷ []) in
    let stays = stays_long mss own d.by h.0.2 in
    inl (r.0, omega (arith, long, stays))
new_left mss (own ∷ owns) (false ∷ gs) (false ∷ fs) values (d ∷ ds) h r e (inl falls) = cc
new_left mss (own ∷ owns) (false ∷ gs) (false ∷ fs) values (d ∷ ds) h r e (inr s) = new_left mss owns gs fs (drop (length own.rows.list) values) ds h.1 r.1 (omega (arith, e)) s

pub more_left : (mss : List (List Measure)) (owns : List OwnCall) (gs fs : List Bool) (values : List ℤ) (ds : List CallDrops) → AreTracked mss owns gs ds → KeepReached owns gs → length fs ≡ staying gs → SomeFalls fs
    → ((i : ℕ) → i < length mss → SomeLeft i owns gs ds) → (i : ℕ) → i < suc (length mss) → SomeLeft i owns (after_falls gs fs) (after_drops owns gs values ds)
more_left mss owns gs fs values ds h r e s before i less = elim (either i (length mss) less) [
  | inl lt ↦ still_left i owns gs fs values ds (before i lt)
  | inr same ↦ subst (λ (k : ℕ). SomeLeft k owns (after_falls gs fs) (after_drops owns gs values ds)) (sym same) (new_left mss owns gs fs values ds h r e s)
]
  where
    either : (a b : ℕ) → a < suc b → (a < b) ⊎ (a ≡ b)
    either zero zero l = inr refl
    either zero (suc b) l = inl (omega arith)
    either (suc a) zero l = absurd (omega (arith, l))
    either (suc a) (suc b) l = elim (either a b (omega (arith, l))) [ inl lt ↦ inl (omega (arith, lt)) | inr e ↦ inr (ap suc e) ]

-- ---- what left is a pair that is reached
module _ (size : (ℕ → ℕ) → Tree → ℕ) (truth : (ℕ → Bool) → Tree → Bool) (expression : ℕ → Tree → List ℤ) (norm : IsNorm size truth expression) (p : Listing) (comps : Partition) (rows : ℕ → List (List ℤ)) (c : ℕ) where
  reached_is : (own : OwnCall) → IsHeld expression p rows own → own.empty ≡ None → IsReached expression p comps rows c (own.clause, own.call)
  reached_is own h none k ek empty =
      let K = clause_at p own.clause in
      let hk : k ≡ K = one_element p.clauses (own.clause - 1) k K ek h.there in
      let point : HasPoint K.vars (plain_rows own.rows.list) = subst (IsReach K.vars (plain_rows own.rows.list)) none h.reach in
      let hold : AllHold (short_system expression rows K.vars (take (own.call - 1) K.body)) point.t point.w =
      subst (λ (rs : List (List ℤ)). AllHold rs point.t point.w) (rows_same size truth expression norm p rows own h) point.hold in
      let nowhere : AreEmpty (suc K.vars) (short_system expression rows K.vars (take (own.call - 1) K.body)) =
      subst (λ (y : Clause). AreEmpty (suc y.vars) (short_system expression rows y.vars (take (own.call - 1) y.body))) hk empty in
      nowhere point.t point.w point.some (let l = point.long in omega (arith, l)) hold

  pub left_needed : (mss : List (List Measure)) (i : ℕ) (owns : List OwnCall) (gs : List Bool) (ds : List CallDrops) → AllByRecursion (IsHeld expression p rows) owns → AreTracked mss owns gs ds → SomeLeft i owns gs ds
      → SomeOf (λ (d : CallDrops). (length d.by ≡ suc i) × IsReached expression p comps rows c (d.clause, d.call)) ds
  left_needed mss i [] gs ds held h s = absurd s
  left_needed mss i (own ∷ owns) [] ds held h s = absurd s
  left_needed mss i (own ∷ owns) (g ∷ gs) [] held h s = absurd s
  left_needed mss i (own ∷ owns) (true ∷ gs) (d ∷ ds) held h (inl e) =
      let same : (own.clause, own.call) ≡ (d.clause, d.call) = λ j. (sym h.0.0 j, sym h.0.1 j) in
      inl (e.1, subst (λ (pair : ℕ × ℕ). IsReached expression p comps rows c pair) same (reached_is own held.0 e.0))
  left_needed mss i (own ∷ owns) (true ∷ gs) (d ∷ ds) held h (inr s) = inr (left_needed mss i owns gs ds held.1 h.1 s)
  left_needed mss i (own ∷ owns) (false ∷ gs) (d ∷ ds) held h s = inr (left_needed mss i owns gs ds held.1 h.1 s)
