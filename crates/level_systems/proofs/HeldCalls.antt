-- Held calls are calls of the view, and those that can be reached are its live ones.
use Rattle.std.proofs.Common.{◌≡◌, ℕ, zero, suc, ◌-◌, ℤ, pos, List, [], ◌∷◌, map, take, length, Option, None, Some, ◌⊎◌, inl, inr, refl, ap, sym, subst, ◌∙◌}
use Rattle.std.specs.List.{AllByRecursion}
use Rattle.cti_terms.specs.Listing.{IsProgram, Listing}
use Rattle.cti_terms.specs.Tree.{Tree}
use Rattle.call_components.specs.Partition.{Partition}
use Rattle.linear_rows.specs.Members.{In}
use Rattle.linear_rows.specs.Plain.{plain_rows}
use Rattle.linear_rows.specs.Proves.{Proves}
use Rattle.linear_rows.specs.Rows.{AreEmpty}
use Rattle.linear_rows.specs.Showing.{Shows, bottom_row}
use Rattle.linear_rows.specs.Solving.{zeros}
use Rattle.linear_rows.specs.declared.multipliers.Multipliers.{Multipliers}
use Rattle.linear_rows.proofs.Soundness.{law_empty}
use Rattle.termination_model.specs.mappings.ComponentViews.{component_view, positions_in, size_claims}
use Rattle.termination_model.specs.mappings.Excluding.{IsLive, IsOwnCall}
use Rattle.termination_model.specs.mappings.OwnCalls.{OwnCall as Recalled, own_calls, rows_before}
use Rattle.termination_model.specs.mappings.Ready.{arity_in, itself}
use Rattle.termination_model.specs.mappings.SupportLaws.{HasFew}
use Rattle.termination_model.specs.mappings.Supports.{AreLives}
use Rattle.termination_model.specs.mappings.View as view
use Rattle.termination_model.proofs.Readiness.{views_are_ready, views_have_few}
use Rattle.level_systems.specs.Held.{HasPoint, IsHeld, IsReach, live_of, numbers_of_call, recalled_at, with_live}
use Rattle.level_systems.specs.Pairs.{clause_at, pairs_of}
use Rattle.level_systems.specs.Recalled.{Recalls}
use Rattle.level_systems.specs.declared.own_call.OwnCall.{OwnCall}
use Rattle.level_systems.proofs.ViewCalls.{calls_are_pairs, system_same, take_map}

pub map_map : {X Y Z : Type 0} (f : Y → Z) (g : X → Y) (xs : List X) → map (λ x. f (g x)) xs ≡ map f (map g xs)
map_map f g [] = refl
map_map f g (x ∷ xs) = ap (λ s. f (g x) ∷ s) (map_map f g xs)

pub all_in : {X : Type 0} (P : X → Type 0) (xs : List X) → ((x : X) → In x xs → P x) → AllByRecursion P xs
all_in P [] h = tt
all_in P (x ∷ xs) h = (h x (inl refl), all_in P xs (λ y i. h y (inr i)))

length_zeros : (n : ℕ) → length (zeros n) ≡ n
length_zeros zero = refl
length_zeros (suc n) = ap suc (length_zeros n)

-- shown rows are empty
pub shown_empty : (n : ℕ) (rows : List (List ℤ)) (by : Multipliers) → Shows rows (bottom_row n) by → by.scale ≡ pos 0 → AreEmpty (suc n) rows
shown_empty n rows by h e =
    let long : length (bottom_row n) ≡ suc n = ap suc (length_zeros n) in
    let m = h.multipliers in
    let s = h.shown in
    subst (λ (k : ℕ). AreEmpty k rows) long (law_empty rows by.list (bottom_row n) m.naturals (subst (λ (z : ℤ). Proves rows by.list (bottom_row n) z) e s.proves))

module _ (expression : ℕ → Tree → List ℤ) (p : Listing) (comps : Partition) (rows : ℕ → List (List ℤ)) (c : ℕ) where
  -- a held call as one of the view
  abbrev pub re : OwnCall → Recalled
  re own = recalled_at expression p rows comps c (numbers_of_call own)

  pub rows_are : (own : OwnCall) → IsHeld expression p rows own → plain_rows own.rows.list ≡ rows_before expression (re own)
  rows_are own h =
      let k = clause_at p own.clause in
      h.before ∙ sym (ap (view.system_of expression k.vars) (take_map (view.call_of (size_claims expression p comps rows) c itself) (own.call - 1) k.body) ∙ system_same expression p comps rows c k.vars (take (own.call - 1) k.body))

  pub recalls : (own : OwnCall) → IsHeld expression p rows own → Recalls expression (re own) own
  recalls own h = record {
    caller = h.caller;
    callee = h.callee;
    caller_sizes = h.caller_sizes;
    callee_sizes = h.callee_sizes;
    rows = rows_are own h;
    vars = h.width;
  }

  pub all_recall : (owns : List OwnCall) → AllByRecursion (IsHeld expression p rows) owns → AllByRecursion (λ own. Recalls expression (re own) own) owns
  all_recall [] h = tt
  all_recall (own ∷ owns) h = (recalls own h.0, all_recall owns h.1)

  -- the lives among the calls
  live_there : (m : Option Multipliers) (own : OwnCall) (rest more : List OwnCall) (o : Recalled) → ((x : Recalled) → In x (map re rest) → In x (map re more)) → In o (map re (with_live m own rest)) → In o (map re (own ∷ more))
  live_there None own rest more o f (inl e) = inl e
  live_there None own rest more o f (inr i) = inr (f o i)
  live_there (Some by) own rest more o f i = inr (f o i)

  pub lives_in : (owns : List OwnCall) (o : Recalled) → In o (map re (live_of owns)) → In o (map re owns)
  lives_in [] o i = i
  lives_in (own ∷ owns) o i = live_there own.empty own (live_of owns) owns o (lives_in owns) i

  -- each call is reached, or the rows before it are empty
  pub lives_or_empty : (owns : List OwnCall) → AllByRecursion (IsHeld expression p rows) owns → (o : Recalled) → In o (map re owns)
      → In o (map re (live_of owns)) ⊎ AreEmpty (suc o.rule.vars) (rows_before expression o)
  lives_or_empty [] h o i = absurd i
  lives_or_empty (own ∷ owns) h o (inl e) = go own.empty held.reach
    where
      held : IsHeld expression p rows own
      held = h.0

      go : (m : Option Multipliers) → IsReach (clause_at p own.clause).vars (plain_rows own.rows.list) m → In o (map re (with_live m own (live_of owns))) ⊎ AreEmpty (suc o.rule.vars) (rows_before expression o)
      go None r = inl (inl e)
      go (Some by) r =
          let empty = shown_empty (clause_at p own.clause).vars (plain_rows own.rows.list) by r.0 r.1 in
          inr (subst (λ (x : Recalled). AreEmpty (suc x.rule.vars) (rows_before expression x)) e (subst (AreEmpty (suc (clause_at p own.clause).vars)) (rows_are own held) empty))
  lives_or_empty (own ∷ owns) h o (inr i) = go own.empty (lives_or_empty owns h.1 o i)
    where
      go : (m : Option Multipliers) → In o (map re (live_of owns)) ⊎ AreEmpty (suc o.rule.vars) (rows_before expression o) → In o (map re (with_live m own (live_of owns))) ⊎ AreEmpty (suc o.rule.vars) (rows_before expression o)
      go None (inl k) = inl (inr k)
      go None (inr k) = inr k
      go (Some by) k = k

  live_case : (m : Option Multipliers) (own : OwnCall) (owns : List OwnCall) → IsHeld expression p rows own → IsReach (clause_at p own.clause).vars (plain_rows own.rows.list) m
      → AllByRecursion (IsLive expression) (map re (live_of owns)) → AllByRecursion (IsLive expression) (map re (with_live m own (live_of owns)))
  live_case None own owns held r rest =
      let point : HasPoint (clause_at p own.clause).vars (rows_before expression (re own)) = subst (HasPoint (clause_at p own.clause).vars) (rows_are own held) r in
      (record { t = point.t; w = point.w; some = point.some; long = point.long; hold = point.hold }, rest)
  live_case (Some by) own owns held r rest = rest

  -- the lives hold at points
  pub all_live : (owns : List OwnCall) → AllByRecursion (IsHeld expression p rows) owns → AllByRecursion (IsLive expression) (map re (live_of owns))
  all_live [] h = tt
  all_live (own ∷ owns) h = let held = h.0 in live_case own.empty own owns held held.reach (all_live owns h.1)

  module _ (owns : List OwnCall) (pairs : map numbers_of_call owns ≡ pairs_of p comps c) (held : AllByRecursion (IsHeld expression p rows) owns) where
    pub calls_are : own_calls (component_view expression p comps rows c) ≡ map re owns
    calls_are =
        calls_are_pairs expression p comps rows c ∙ ap (map (recalled_at expression p rows comps c)) (sym pairs) ∙ sym (map_map (recalled_at expression p rows comps c) numbers_of_call owns)

    pub are_lives : AreLives expression (component_view expression p comps rows c) (positions_in p comps c) (map re (live_of owns))
    are_lives o i = lives_or_empty owns held o (subst (In o) calls_are i)

    pub in_calls : (o : Recalled) → In o (map re (live_of owns)) → In o (own_calls (component_view expression p comps rows c))
    in_calls o i = subst (In o) (sym calls_are) (lives_in owns o i)

    pub lives_own : AllByRecursion (IsOwnCall (component_view expression p comps rows c)) (map re (live_of owns))
    lives_own = all_in _ (map re (live_of owns)) (λ o i. (views_are_ready (component_view expression p comps rows c)).own o (in_calls o i))

    pub lives_few : IsProgram p → AllByRecursion (HasFew (arity_in p)) (map re (live_of owns))
    lives_few prog = all_in _ (map re (live_of owns)) (λ o i. views_have_few p (size_claims expression p comps rows) c prog o (in_calls o i))
