-- Drops that the code shows are those of the mapping, and where all numbers of its check fit they are shown.
use Rattle.std.proofs.Common.{◌≡◌, ℕ, zero, suc, ◌-ℤ◌, ◌≤◌, ◌≤ℤ◌, ℤ, pos, negsuc, Bool, true, false, List, [], ◌∷◌, map, take, drop, length, Option, None, Some, inl, inr, refl, ap, sym, subst, ◌∙◌, arith}
use Rattle.std.specs.Prelude.{IfSome}
use Rattle.std.specs.List.{AllByRecursion}
use Rattle.std.proofs.lemmas.List.{length-map}
use Rattle.exact128.specs.Fits.{Fits}
use Rattle.exact128.specs.Sums.{dot}
use Rattle.cti_terms.specs.Listing.{Listing}
use Rattle.cti_terms.specs.Tree.{Tree}
use Rattle.call_components.specs.Partition.{Partition}
use Rattle.linear_rows.specs.Plain.{plain_row, plain_rows}
use Rattle.linear_rows.specs.Proves.{AllColumnsFit, Proves, goal_number}
use Rattle.linear_rows.specs.Replacing.{over_columns, row_fits}
use Rattle.linear_rows.specs.Rows.{column}
use Rattle.linear_rows.specs.Showing.{IsShown, Shows, bottom_row}
use Rattle.linear_rows.specs.Solving.{zeros}
use Rattle.linear_rows.specs.declared.multipliers.Multipliers.{Multipliers}
use Rattle.number_tests.specs.declared.level_part.LevelPart.{LevelPart}
use Rattle.term_size.specs.Norm.{IsNorm}
use Rattle.termination_model.specs.claims.Claims.{Mapping, SomeOf}
use Rattle.termination_model.specs.mappings.ComponentViews.{component_view}
use Rattle.termination_model.specs.mappings.OwnCalls.{OwnCall as Recalled, rows_before}
use Rattle.termination_model.specs.mappings.Ready.{arity_in}
use Rattle.termination_model.specs.sizes.Rows.{added, scaled}
use Rattle.termination_model.specs.sizes.Systems.{row_over}
use Rattle.termination_model.specs.lists.TurnLaws.{AreDrops}
use Rattle.termination_model.specs.lists.TurnLaws as law
use Rattle.termination_model.specs.lists.Turns.{DropsFit, falls_by}
use Rattle.termination_model.specs.mappings.View.{Rule, fall_over}
use Rattle.level_systems.specs.Falling.{HasParts}
use Rattle.level_systems.specs.Held.{IsHeld, IsReach}
use Rattle.level_systems.specs.Mappings.{level_in}
use Rattle.level_systems.specs.Pairs.{call_at, clause_at}
use Rattle.level_systems.specs.Valued.{IsPartOf}
use Rattle.level_systems.specs.declared.measure.Measure.{Measure}
use Rattle.level_systems.specs.declared.own_call.OwnCall.{OwnCall}
use Rattle.level_systems.proofs.HeldCalls.{re, rows_are}
use Rattle.level_dual.proofs.FoundLaws.{part_of}
use Rattle.level_dual.proofs.SearchLaws.{drop_mapped, take_mapped}
use Rattle.number_tests.specs.Drops.{drop_weights, fall_number}
use Rattle.lex_turns.specs.Testing.{EmptyFall, ShowDrops, ShowsDrop, SomeFalls}
use Rattle.number_tests.proofs.DropLaws.{drop_target}

-- ---- scale 0 shows any target
goal_same : (xs ys : List ℤ) (k : ℕ) → goal_number (pos 0) xs k ≡ goal_number (pos 0) ys k
goal_same xs ys zero = refl
goal_same xs ys (suc k) = refl

length_zeros : (n : ℕ) → length (zeros n) ≡ n
length_zeros zero = refl
length_zeros (suc n) = ap suc (length_zeros n)

zero_shown : (n : ℕ) (rows : List (List ℤ)) (by : Multipliers) → Shows rows (bottom_row n) by → by.scale ≡ pos 0 → (target : List ℤ) → length target ≡ suc n → row_fits target ≡ true
    → IsShown rows target by
zero_shown n rows by h e target long fit =
    let s = h.shown in
    let proved : Proves rows by.list (bottom_row n) (pos 0) = subst (Proves rows by.list (bottom_row n)) e s.proves in
    let fits : AllColumnsFit rows by.list (bottom_row n) (pos 0) = subst (AllColumnsFit rows by.list (bottom_row n)) e s.numbers_fit in
    subst (λ (z : ℤ). IsShown rows target (record { scale = z; list = by.list })) (sym e) (record {
      target_fits = fit;
      proves = λ k lt. subst (λ (g : ℤ). pos 0 ≤ℤ (g -ℤ dot by.list (column rows k))) (goal_same (bottom_row n) target k) (proved k (omega (arith, lt, long, length_zeros n)));
      numbers_fit = λ k lt.
          let column_fits = fits k (omega (arith, lt, long, length_zeros n)) in
          record {
            sums = column_fits.sums;
            goal = subst Fits (goal_same (bottom_row n) target k) column_fits.goal;
            rest = subst (λ (g : ℤ). Fits (g -ℤ dot by.list (column rows k))) (goal_same (bottom_row n) target k) column_fits.rest;
          };
    })

-- ---- drops as falls
abbrev pub falls_of : ℕ → Bool
falls_of zero = false
falls_of (suc d) = true

number_is : (expression : ℕ → Tree → List ℤ) (view : List Rule) (arity : ℕ → ℕ) (d : ℕ) → fall_number (falls_of d) ≡ falls_by expression view arity d
number_is expression view arity zero = refl
number_is expression view arity (suc d) = refl

number_low : (d : ℕ) → fall_number (falls_of d) ≤ d
number_low zero = omega arith
number_low (suc d) = omega arith

pub some_falls : (ds : List ℕ) → SomeOf (λ (d : ℕ). 1 ≤ d) ds → SomeFalls (map falls_of ds)
some_falls [] s = absurd s
some_falls (zero ∷ ds) (inl h) = absurd (omega (arith, h))
some_falls (suc d ∷ ds) (inl h) = inl refl
some_falls (d ∷ ds) (inr s) = inr (some_falls ds s)

pub some_numbers : (fs : List Bool) → SomeFalls fs → SomeOf (λ (d : ℕ). 1 ≤ d) (map fall_number fs)
some_numbers [] s = absurd s
some_numbers (true ∷ fs) (inl e) = inl (omega arith)
some_numbers (false ∷ fs) (inl e) = cc
some_numbers (f ∷ fs) (inr s) = inr (some_numbers fs s)

module _ (size : (ℕ → ℕ) → Tree → ℕ) (truth : (ℕ → Bool) → Tree → Bool) (expression : ℕ → Tree → List ℤ) (norm : IsNorm size truth expression) (p : Listing) (comps : Partition) (rows : ℕ → List (List ℤ)) (c : ℕ)
    (ms : List Measure) (l : Mapping) (parts : AllByRecursion (λ (m : Measure). IsPartOf l m.pred.0 m.part) ms) where
  abbrev own : OwnCall → Recalled
  own y = re expression p comps rows c y

  -- the drop of the mapping at a call
  abbrev pub target_at : ℕ → Recalled → List ℤ
  target_at d o = fall_over expression o.rule o.member o.call.args d l

  -- parts have a coefficient for each argument of a head
  abbrev pub IsWideHead : OwnCall → Type 0
  IsWideHead y = (head : LevelPart) → level_in ms (clause_at p y.clause).head.pred.0 ≡ Some head → length head.coeffs ≡ length (clause_at p y.clause).head.args

  target_same : (d : ℕ) (y : OwnCall) → IsHeld expression p rows y → IsWideHead y → (head call : LevelPart) → level_in ms y.caller.0 ≡ Some head → level_in ms y.callee.0 ≡ Some call
      → over_columns y.columns.items (drop_weights d head call) ≡ target_at d (own y)
  target_same d y h wide head call eh ec =
      let k = clause_at p y.clause in
      let b = call_at p y.clause y.call in
      let head_there : level_in ms k.head.pred.0 ≡ Some head = ap (level_in ms) (sym h.caller) ∙ eh in
      let call_there : level_in ms b.pred.0 ≡ Some call = ap (level_in ms) (sym h.callee) ∙ ec in
      let head_part = part_of (λ q part. IsPartOf l q part) ms k.head.pred.0 head parts head_there in
      let call_part = part_of (λ q part. IsPartOf l q part) ms b.pred.0 call parts call_there in
      let ho = head_part.offset in
      let hc = head_part.coefficients in
      let co = call_part.offset in
      let cc_same = call_part.coefficients in
      drop_target size truth expression norm d k b head call y.columns.items (wide head head_there) h.columns
      ∙ (λ j. added (row_over expression k.vars k.head.args (ho j ∷ hc j)) (scaled (negsuc 0) (added (row_over expression k.vars b.args (co j ∷ cc_same j)) (pos d ∷ []))))

  target_long : (y : OwnCall) → IsHeld expression p rows y → (weights : List ℤ) → length (over_columns y.columns.items weights) ≡ suc (clause_at p y.clause).vars
  target_long y h weights = let columns = h.columns in length-map y.columns.items (λ c. dot weights c) ∙ columns.count

  rows_count : (y : OwnCall) → IsHeld expression p rows y → length (rows_before expression (own y)) ≡ length y.rows.list
  rows_count y h = ap length (sym (rows_are expression p comps rows c y h)) ∙ length-map y.rows.list plain_row

  dead_shown : (y : OwnCall) → IsHeld expression p rows y → IsWideHead y → row_fits (target_at 1 (own y)) ≡ true → (m : Option Multipliers) → IsReach (clause_at p y.clause).vars (plain_rows y.rows.list) m
      → IfSome m (λ by. ShowsDrop 1 ms y by)
  dead_shown y h wide fit None r = tt
  dead_shown y h wide fit (Some by) r = λ head call eh ec.
      zero_shown (clause_at p y.clause).vars (plain_rows y.rows.list) by r.0 r.1 (over_columns y.columns.items (drop_weights 1 head call)) (target_long y h (drop_weights 1 head call))
      (ap row_fits (target_same 1 y h wide head call eh ec) ∙ fit)

  -- those that are never reached fall where their targets fit
  pub all_dead : (owns : List OwnCall) → AllByRecursion (IsHeld expression p rows) owns → AllByRecursion IsWideHead owns → AllByRecursion (λ (o : Recalled). row_fits (target_at 1 o) ≡ true) (map own owns) → EmptyFall ms owns
  all_dead [] held wide fit = tt
  all_dead (y ∷ owns) held wide fit = let first = held.0 in (dead_shown y first wide.0 fit.0 y.empty first.reach, all_dead owns held.1 wide.1 fit.1)

  live_shown : (d : ℕ) (y : OwnCall) (list : List ℤ) → IsHeld expression p rows y → IsWideHead y → row_fits (target_at d (own y)) ≡ true
      → AllColumnsFit (rows_before expression (own y)) list (target_at d (own y)) (pos 1) → Proves (rows_before expression (own y)) list (target_at d (own y)) (pos 1)
      → ShowsDrop d ms y (record { scale = pos 1; list = list })
  live_shown d y list h wide fit numbers proves head call eh ec =
      subst (λ (rs : List (List ℤ)). IsShown rs (over_columns y.columns.items (drop_weights d head call)) (record { scale = pos 1; list = list })) (sym (rows_are expression p comps rows c y h))
      (subst (λ (z : List ℤ). IsShown (rows_before expression (own y)) z (record { scale = pos 1; list = list })) (sym (target_same d y h wide head call eh ec))
      (record { target_fits = fit; proves = proves; numbers_fit = numbers }))

  live_proved : (d : ℕ) (y : OwnCall) (list : List ℤ) → IsHeld expression p rows y → IsWideHead y → HasParts ms y → ShowsDrop d ms y (record { scale = pos 1; list = list })
      → Proves (rows_before expression (own y)) list (target_at d (own y)) (pos 1)
  live_proved d y list h wide parted shows =
      let shown = shows parted.head parted.call parted.head_is parted.call_is in
      subst (λ (rs : List (List ℤ)). Proves rs list (target_at d (own y)) (pos 1)) (rows_are expression p comps rows c y h)
      (subst (λ (z : List ℤ). Proves (plain_rows y.rows.list) list z (pos 1)) (target_same d y h wide parted.head parted.call parted.head_is parted.call_is) shown.proves)

  -- shown drops are those of the mapping
  pub all_proved : (owns : List OwnCall) (vs : List ℕ) (fs : List Bool) → AllByRecursion (IsHeld expression p rows) owns → AllByRecursion IsWideHead owns → AllByRecursion (HasParts ms) owns
      → ShowDrops ms owns (map pos vs) fs → law.ShowDrops expression l (map own owns) (map fall_number fs) vs
  all_proved [] vs fs held wide parted shows = tt
  all_proved (y ∷ owns) vs [] held wide parted shows = absurd shows
  all_proved (y ∷ owns) vs (f ∷ fs) held wide parted shows =
      let n = length (rows_before expression (own y)) in
      let count = rows_count y held.0 in (
        subst (λ (list : List ℤ). Proves (rows_before expression (own y)) list (target_at (fall_number f) (own y)) (pos 1)) (take_mapped (λ k. pos k) n vs)
            (subst (λ (k : ℕ). Proves (rows_before expression (own y)) (take k (map pos vs)) (target_at (fall_number f) (own y)) (pos 1)) (sym count)
            (live_proved (fall_number f) y (take (length y.rows.list) (map pos vs)) held.0 wide.0 parted.0 shows.0)),
        all_proved owns (drop n vs) fs held.1 wide.1 parted.1
            (subst (λ (zs : List ℤ). ShowDrops ms owns zs fs) (drop_mapped (λ k. pos k) n vs) (subst (λ (k : ℕ). ShowDrops ms owns (drop k (map pos vs)) fs) (sym count) shows.1)),
      )

  -- drops of the mapping are shown where all numbers fit
  pub all_shown : (owns : List OwnCall) (vs ds : List ℕ) → AllByRecursion (IsHeld expression p rows) owns → AllByRecursion IsWideHead owns → length ds ≡ length owns
      → DropsFit expression (component_view expression p comps rows c) (arity_in p) l (map own owns) ds vs → AreDrops expression l (map own owns) ds vs → ShowDrops ms owns (map pos vs) (map falls_of ds)
  all_shown [] vs [] held wide e fit drops = tt
  all_shown [] vs (d ∷ ds) held wide e fit drops = absurd (omega (arith, e))
  all_shown (y ∷ owns) vs [] held wide e fit drops = absurd drops
  all_shown (y ∷ owns) vs (d ∷ ds) held wide e fit drops =
      let n = length (rows_before expression (own y)) in
      let count = rows_count y held.0 in
      let number = number_is expression (component_view expression p comps rows c) (arity_in p) d in
      let here = fit.0 in
      let list = map pos (take n vs) in
      let fits : row_fits (target_at (fall_number (falls_of d)) (own y)) ≡ true = subst (λ (k : ℕ). row_fits (target_at k (own y)) ≡ true) (sym number) here.0 in
      let numbers : AllColumnsFit (rows_before expression (own y)) list (target_at (fall_number (falls_of d)) (own y)) (pos 1) =
      subst (λ (k : ℕ). AllColumnsFit (rows_before expression (own y)) list (target_at k (own y)) (pos 1)) (sym number) here.1 in
      let shown = live_shown (fall_number (falls_of d)) y list held.0 wide.0 fits numbers (drops.0 (fall_number (falls_of d)) (number_low d)) in (
        subst (λ (k : ℕ). ShowsDrop (fall_number (falls_of d)) ms y (record { scale = pos 1; list = take k (map pos vs) })) count
            (subst (λ (zs : List ℤ). ShowsDrop (fall_number (falls_of d)) ms y (record { scale = pos 1; list = zs })) (sym (take_mapped (λ k. pos k) n vs)) shown),
        subst (λ (k : ℕ). ShowDrops ms owns (drop k (map pos vs)) (map falls_of ds)) count
            (subst (λ (zs : List ℤ). ShowDrops ms owns zs (map falls_of ds)) (sym (drop_mapped (λ k. pos k) n vs)) (all_shown owns (drop n vs) ds held.1 wide.1 (omega (arith, e)) fit.1 drops.1)),
      )
