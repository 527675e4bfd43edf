-- Where all numbers of a mapping's check fit, its falls are shown.
use Rattle.std.proofs.Common.{◌≡◌, ℕ, zero, suc, ◌-ℤ◌, ◌≤ℤ◌, ℤ, pos, negsuc, Bool, true, List, [], ◌∷◌, map, take, drop, length, Option, None, Some, refl, ap, sym, subst, ◌∙◌, arith}
use Rattle.std.specs.List.{AllByRecursion}
use Rattle.std.proofs.lemmas.List.{length-map}
use Rattle.exact128.specs.Fits.{Fits}
use Rattle.exact128.specs.Sums.{dot}
use Rattle.cti_terms.specs.Listing.{Listing}
use Rattle.cti_terms.specs.Tree.{Tree}
use Rattle.call_components.specs.Partition.{Partition}
use Rattle.linear_rows.specs.Plain.{plain_row, plain_rows}
use Rattle.linear_rows.specs.Proves.{AllColumnsFit, Proves, goal_number}
use Rattle.linear_rows.specs.Replacing.{over_columns, row_fits}
use Rattle.linear_rows.specs.Rows.{column}
use Rattle.linear_rows.specs.Showing.{IsShown, Shows, bottom_row}
use Rattle.linear_rows.specs.Solving.{zeros}
use Rattle.linear_rows.specs.declared.multipliers.Multipliers.{Multipliers}
use Rattle.number_tests.specs.Targets.{fall_weights}
use Rattle.number_tests.specs.declared.level_part.LevelPart.{LevelPart}
use Rattle.number_tests.proofs.FallTargets.{fall_target}
use Rattle.term_size.specs.Norm.{IsNorm}
use Rattle.termination_model.specs.mappings.BlownSupports.{FallsFit}
use Rattle.termination_model.specs.claims.Claims.{Mapping}
use Rattle.termination_model.specs.mappings.ComponentViews.{component_view}
use Rattle.termination_model.specs.mappings.OwnCalls.{OwnCall as Recalled, rows_before}
use Rattle.termination_model.specs.mappings.Ready.{arity_in}
use Rattle.termination_model.specs.sizes.Rows.{added, scaled}
use Rattle.termination_model.specs.mappings.SupportLaws.{AreFalls}
use Rattle.termination_model.specs.sizes.Systems.{row_over}
use Rattle.termination_model.specs.mappings.View.{fall_over}
use Rattle.level_systems.specs.Falling.{ShowFalls, ShowsFall, multipliers_of, scale_of, values_after}
use Rattle.level_systems.specs.Held.{IsHeld, IsReach, live_of, with_live}
use Rattle.level_systems.specs.Mappings.{level_in}
use Rattle.level_systems.specs.Pairs.{call_at, clause_at}
use Rattle.level_systems.specs.Valued.{IsPartOf}
use Rattle.level_systems.specs.declared.measure.Measure.{Measure}
use Rattle.level_systems.specs.declared.own_call.OwnCall.{OwnCall}
use Rattle.level_dual.proofs.FoundLaws.{part_of}
use Rattle.level_systems.proofs.HeldCalls.{re, rows_are}
use Rattle.level_dual.proofs.SearchLaws.{drop_mapped, take_mapped}

-- ---- scale 0 shows any target
goal_same : (xs ys : List ℤ) (k : ℕ) → goal_number (pos 0) xs k ≡ goal_number (pos 0) ys k
goal_same xs ys zero = refl
goal_same xs ys (suc k) = refl

length_zeros : (n : ℕ) → length (zeros n) ≡ n
length_zeros zero = refl
length_zeros (suc n) = ap suc (length_zeros n)

zero_shown : (n : ℕ) (rows : List (List ℤ)) (by : Multipliers) → Shows rows (bottom_row n) by → by.scale ≡ pos 0 → (target : List ℤ) → length target ≡ suc n → row_fits target ≡ true
    → IsShown rows target (record { scale = pos 0; list = by.list })
zero_shown n rows by h e target long fit =
    let s = h.shown in
    let proved : Proves rows by.list (bottom_row n) (pos 0) = subst (Proves rows by.list (bottom_row n)) e s.proves in
    let fits : AllColumnsFit rows by.list (bottom_row n) (pos 0) = subst (AllColumnsFit rows by.list (bottom_row n)) e s.numbers_fit in
    record {
      target_fits = fit;
      proves = λ k lt. subst (λ (g : ℤ). pos 0 ≤ℤ (g -ℤ dot by.list (column rows k))) (goal_same (bottom_row n) target k) (proved k (omega (arith, lt, long, length_zeros n)));
      numbers_fit = λ k lt.
          let column_fits = fits k (omega (arith, lt, long, length_zeros n)) in
          record {
            sums = column_fits.sums;
            goal = subst Fits (goal_same (bottom_row n) target k) column_fits.goal;
            rest = subst (λ (g : ℤ). Fits (g -ℤ dot by.list (column rows k))) (goal_same (bottom_row n) target k) column_fits.rest;
          };
    }

module _ (size : (ℕ → ℕ) → Tree → ℕ) (truth : (ℕ → Bool) → Tree → Bool) (expression : ℕ → Tree → List ℤ) (norm : IsNorm size truth expression) (p : Listing) (comps : Partition) (rows : ℕ → List (List ℤ)) (c : ℕ)
    (ms : List Measure) (l : Mapping) (parts : AllByRecursion (λ (m : Measure). IsPartOf l m.pred.0 m.part) ms) where
  abbrev own : OwnCall → Recalled
  own y = re expression p comps rows c y

  -- the fall of the mapping at a call
  abbrev pub fall_at : Recalled → List ℤ
  fall_at o = fall_over expression o.rule o.member o.call.args 1 l

  -- parts have a coefficient for each argument of a head
  abbrev pub IsWideHead : OwnCall → Type 0
  IsWideHead y = (head : LevelPart) → level_in ms (clause_at p y.clause).head.pred.0 ≡ Some head → length head.coeffs ≡ length (clause_at p y.clause).head.args

  -- the columns of a call give the fall of the mapping
  target_same : (y : OwnCall) → IsHeld expression p rows y → IsWideHead y → (head call : LevelPart) → level_in ms y.caller.0 ≡ Some head → level_in ms y.callee.0 ≡ Some call
      → over_columns y.columns.items (fall_weights head call) ≡ fall_at (own y)
  target_same y h wide head call eh ec =
      let k = clause_at p y.clause in
      let b = call_at p y.clause y.call in
      let head_there : level_in ms k.head.pred.0 ≡ Some head = ap (level_in ms) (sym h.caller) ∙ eh in
      let call_there : level_in ms b.pred.0 ≡ Some call = ap (level_in ms) (sym h.callee) ∙ ec in
      let head_part = part_of (λ q part. IsPartOf l q part) ms k.head.pred.0 head parts head_there in
      let call_part = part_of (λ q part. IsPartOf l q part) ms b.pred.0 call parts call_there in
      let ho = head_part.offset in
      let hc = head_part.coefficients in
      let co = call_part.offset in
      let cc_same = call_part.coefficients in
      fall_target size truth expression norm k b head call y.columns.items (wide head head_there) h.columns
      ∙ (λ j. added (row_over expression k.vars k.head.args (ho j ∷ hc j)) (scaled (negsuc 0) (added (row_over expression k.vars b.args (co j ∷ cc_same j)) (pos 1 ∷ []))))

  target_long : (y : OwnCall) → IsHeld expression p rows y → (weights : List ℤ) → length (over_columns y.columns.items weights) ≡ suc (clause_at p y.clause).vars
  target_long y h weights = let columns = h.columns in length-map y.columns.items (λ c. dot weights c) ∙ columns.count

  dead_shown : (y : OwnCall) (by : Multipliers) → IsHeld expression p rows y → IsWideHead y → IsReach (clause_at p y.clause).vars (plain_rows y.rows.list) (Some by) → row_fits (fall_at (own y)) ≡ true
      → ShowsFall ms y (record { scale = pos 0; list = by.list })
  dead_shown y by h wide r fit head call eh ec =
      zero_shown (clause_at p y.clause).vars (plain_rows y.rows.list) by r.0 r.1 (over_columns y.columns.items (fall_weights head call)) (target_long y h (fall_weights head call))
      (ap row_fits (target_same y h wide head call eh ec) ∙ fit)

  live_shown : (y : OwnCall) (list : List ℤ) → IsHeld expression p rows y → IsWideHead y → row_fits (fall_at (own y)) ≡ true
      → AllColumnsFit (rows_before expression (own y)) list (fall_at (own y)) (pos 1) → Proves (rows_before expression (own y)) list (fall_at (own y)) (pos 1)
      → ShowsFall ms y (record { scale = pos 1; list = list })
  live_shown y list h wide fit numbers proves head call eh ec =
      subst (λ (rs : List (List ℤ)). IsShown rs (over_columns y.columns.items (fall_weights head call)) (record { scale = pos 1; list = list })) (sym (rows_are expression p comps rows c y h))
      (subst (λ (z : List ℤ). IsShown (rows_before expression (own y)) z (record { scale = pos 1; list = list })) (sym (target_same y h wide head call eh ec))
      (record { target_fits = fit; proves = proves; numbers_fit = numbers }))

  rows_count : (y : OwnCall) → IsHeld expression p rows y → length (rows_before expression (own y)) ≡ length y.rows.list
  rows_count y h = ap length (sym (rows_are expression p comps rows c y h)) ∙ length-map y.rows.list plain_row

  abbrev pub Fit : List Recalled → List ℤ → Type 0
  Fit os list = FallsFit expression (component_view expression p comps rows c) (arity_in p) l os list

  -- the falls of calls that can be reached are shown by their multipliers, those of others by what shows their rows
  -- empty
  pub all_shown : (owns : List OwnCall) (vs : List ℕ) → AllByRecursion (IsHeld expression p rows) owns → AllByRecursion IsWideHead owns
      → Fit (map own (live_of owns)) (map pos vs) → AllByRecursion (λ (o : Recalled). row_fits (fall_at o) ≡ true) (map own owns) → AreFalls expression l (map own (live_of owns)) vs → ShowFalls ms owns (map pos vs)
  all_shown [] vs held wide fit targets falls = tt
  all_shown (y ∷ owns) vs held wide fit targets falls = by_reach y.empty first.reach fit falls (λ ws f a. all_shown owns ws held.1 wide.1 f targets.1 a)
    where
      first : IsHeld expression p rows y
      first = held.0

      n : ℕ
      n = length (rows_before expression (own y))

      by_reach : (m : Option Multipliers) → IsReach (clause_at p y.clause).vars (plain_rows y.rows.list) m → Fit (map own (with_live m y (live_of owns))) (map pos vs)
          → AreFalls expression l (map own (with_live m y (live_of owns))) vs
          → ((ws : List ℕ) → Fit (map own (live_of owns)) (map pos ws) → AreFalls expression l (map own (live_of owns)) ws → ShowFalls ms owns (map pos ws))
          → ShowsFall ms y (record { scale = scale_of m; list = multipliers_of m (length y.rows.list) (map pos vs) }) × ShowFalls ms owns (values_after m (length y.rows.list) (map pos vs))
      by_reach None r f a rest =
          let count = rows_count y first in (
            live_shown y (take (length y.rows.list) (map pos vs)) first wide.0 f.0
                (subst (λ (k : ℕ). AllColumnsFit (rows_before expression (own y)) (take k (map pos vs)) (fall_at (own y)) (pos 1)) count f.1)
                (subst (λ (k : ℕ). Proves (rows_before expression (own y)) (take k (map pos vs)) (fall_at (own y)) (pos 1)) count
                (subst (λ (list : List ℤ). Proves (rows_before expression (own y)) list (fall_at (own y)) (pos 1)) (sym (take_mapped (λ k. pos k) n vs)) a.0)),
            subst (λ (k : ℕ). ShowFalls ms owns (drop k (map pos vs))) count
                (subst (ShowFalls ms owns) (sym (drop_mapped (λ k. pos k) n vs)) (rest (drop n vs) (subst (Fit (map own (live_of owns))) (drop_mapped (λ k. pos k) n vs) f.2) a.1)),
          )
      by_reach (Some by) r f a rest = (dead_shown y by first wide.0 r targets.0, rest vs f a)
