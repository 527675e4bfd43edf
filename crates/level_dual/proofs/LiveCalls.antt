-- The calls that the code takes as live are those of elimination's test, unless that is blown for some call.
use Rattle.std.proofs.Common.{◌≡◌, ℕ, zero, suc, ◌+◌, ◌≤◌, ℤ, pos, negsuc, ◌≤ℤ◌, Bool, if◌then◌else◌, List, [], ◌∷◌, ◌++◌, map, filter, take, length, Option, None, Some, ◌⊎◌, inl, inr, refl, ap, sym, subst, ◌∙◌, arith}
use Rattle.std.specs.Prelude.{All}
use Rattle.std.specs.List.{AllByRecursion}
use Rattle.std.proofs.lemmas.Int.{ints}
use Rattle.std.proofs.lemmas.List.{length-append}
use Rattle.exact128.specs.Sums.{dot, entry}
use Rattle.cti_terms.specs.Listing.{Listing}
use Rattle.cti_terms.specs.Tree.{Tree}
use Rattle.call_components.specs.Partition.{Partition}
use Rattle.linear_rows.specs.Irredundant.{EndsBlown, TestIsBlown}
use Rattle.linear_rows.specs.Members.{In}
use Rattle.linear_rows.specs.Plain.{HaveWidth, plain_row, plain_rows}
use Rattle.linear_rows.specs.Proves.{Proves}
use Rattle.linear_rows.specs.Rows.{AreEmpty}
use Rattle.linear_rows.specs.Showing.{bottom_row}
use Rattle.linear_rows.specs.Solving.{Solution, solution, zeros}
use Rattle.linear_rows.specs.Solving.Solution.{Blown, Found, Refuted}
use Rattle.linear_rows.specs.Systems.{at_last, opposite, test_rows}
use Rattle.linear_rows.specs.declared.multipliers.Multipliers.{Multipliers}
use Rattle.linear_rows.specs.declared.row.Row.{Row}
use Rattle.linear_rows.proofs.Founds.{found_holds}
use Rattle.linear_rows.proofs.Members.{from_All, of-append, of-map, to_All}
use Rattle.linear_rows.proofs.Refutes.{refuted_refutes}
use Rattle.linear_rows.proofs.Soundness.{law_empty, law_holds}
use Rattle.linear_rows.proofs.Starts.{dot-zeros}
use Rattle.simplex.proofs.TestLaws.{point_fails, refutes_proves}
use Rattle.termination_model.specs.mappings.BlownSupports.{IsBlownAt, emptiness, is_found, live_calls}
use Rattle.termination_model.specs.mappings.BlownSupports.IsBlownAt.{undecided}
use Rattle.termination_model.specs.mappings.ComponentViews.{component_view}
use Rattle.termination_model.specs.mappings.OwnCalls.{OwnCall as Recalled, Position, own_calls, rows_before}
use Rattle.termination_model.specs.mappings.Ready.{arity_in}
use Rattle.level_systems.specs.Held.{HasPoint, IsHeld, IsReach, live_of, numbers_of_call, with_live}
use Rattle.level_systems.specs.Pairs.{clause_at, pairs_of}
use Rattle.level_systems.specs.declared.own_call.OwnCall.{OwnCall}
use Rattle.level_systems.proofs.HeldCalls.{calls_are, re, rows_are, shown_empty}

-- ---- the test whether rows are empty
length_zeros : (n : ℕ) → length (zeros n) ≡ n
length_zeros zero = refl
length_zeros (suc n) = ap suc (length_zeros n)

long_bottom : (n : ℕ) → length (bottom_row n) ≡ suc n
long_bottom n = ap suc (length_zeros n)

long_last : (n : ℕ) (r : List ℤ) (z : ℤ) → length r ≡ suc n → length (at_last r z) ≡ n + 1 + 1
long_last n [] z e = absurd (omega (arith, e))
long_last n (b ∷ cs) z e = omega (arith, e, length-append cs (b ∷ []))

length_opposite : (xs : List ℤ) → length (opposite xs) ≡ length xs
length_opposite [] = refl
length_opposite (x ∷ xs) = ap suc (length_opposite xs)

pub test_wide : (n : ℕ) (rows : List (List ℤ)) → All (λ r. length r ≡ suc n) rows → All (λ r. length r ≡ n + 1 + 1) (test_rows n rows (bottom_row n))
test_wide n rows wide =
    let tested : List (List ℤ) = map (λ (r : List ℤ). at_last r (pos 0)) rows in
    let one : List ℤ = negsuc 0 ∷ (zeros n ++ pos 1 ∷ []) in
    let goal : List ℤ = at_last (opposite (bottom_row n)) (negsuc 0) in
    to_All (λ (r : List ℤ). length r ≡ n + 1 + 1) (test_rows n rows (bottom_row n)) (λ r i. elim (of-append tested (one ∷ goal ∷ []) r i) [
      | inl j ↦
          let w = of-map (λ (y : List ℤ). at_last y (pos 0)) rows r j in
          subst (λ (y : List ℤ). length y ≡ n + 1 + 1) w.2 (long_last n w.0 (pos 0) (from_All (λ (y : List ℤ). length y ≡ suc n) rows w.0 wide w.1))
      | inr (inl e) ↦ subst (λ (y : List ℤ). length y ≡ n + 1 + 1) e (omega (arith, length_zeros n, length-append (zeros n) (pos 1 ∷ [])))
      | inr (inr (inl e)) ↦ subst (λ (y : List ℤ). length y ≡ n + 1 + 1) e (long_last n (opposite (bottom_row n)) (negsuc 0) (length_opposite (bottom_row n) ∙ long_bottom n))
      | inr (inr (inr none)) ↦ absurd none
    ])

-- a found point is one of the rows
pub found_hold : (n : ℕ) (rows : List (List ℤ)) (t : ℤ) (w : List ℤ) → All (λ r. length r ≡ suc n) rows → solution (n + 1) (test_rows n rows (bottom_row n)) ≡ Found t w → AreEmpty (suc n) rows → ⊥
found_hold n rows t w wide e none =
    let f = point_fails n rows (bottom_row n) t w wide (long_bottom n) (found_holds (n + 1) (test_rows n rows (bottom_row n)) t w (test_wide n rows wide) e) in
    none f.t f.values f.some (omega (arith, f.long)) f.hold

-- the row that holds nowhere
bottom_fails : (n t : ℕ) (w : List ℕ) → 1 ≤ t → pos 0 ≤ℤ dot (bottom_row n) (pos t ∷ map pos w) → ⊥
unfolding dot
bottom_fails n t w some h = let z = dot-zeros n (map pos w) in omega (arith, ints, h, z, some)

-- refuted rows hold at no point
pub refuted_none : (n : ℕ) (rows : List (List ℤ)) (ms : List ℤ) → All (λ r. length r ≡ suc n) rows → solution (n + 1) (test_rows n rows (bottom_row n)) ≡ Refuted ms → HasPoint n rows → ⊥
refuted_none n rows ms wide e point =
    let p = refutes_proves n rows (bottom_row n) ms wide (long_bottom n) (refuted_refutes (n + 1) (test_rows n rows (bottom_row n)) ms (test_wide n rows wide) e) in
    by_scale (entry ms (suc (length rows))) p.scale p.naturals p.proves
  where
    long : length point.w + 1 ≡ length (bottom_row n)
    long = omega (arith, point.long, long_bottom n)

    by_scale : (scale : ℤ) → pos 0 ≤ℤ scale → All (λ m. pos 0 ≤ℤ m) (take (length rows) ms) → Proves rows (take (length rows) ms) (bottom_row n) scale → ⊥
    by_scale (pos zero) s naturals proves = law_empty rows (take (length rows) ms) (bottom_row n) naturals proves point.t point.w point.some long point.hold
    by_scale (pos (suc d)) s naturals proves = bottom_fails n point.t point.w point.some (law_holds rows (take (length rows) ms) (bottom_row n) d naturals proves point.t point.w point.some long point.hold)
    by_scale (negsuc d) s naturals proves = absurd (omega (arith, ints, s))

-- rows with the given number of coefficients
pub wide_rows : (n : ℕ) (rs : List Row) → HaveWidth n rs → All (λ (r : List ℤ). length r ≡ suc n) (plain_rows rs)
wide_rows n rs h = to_All (λ (r : List ℤ). length r ≡ suc n) (plain_rows rs) (λ r i.
    let w = of-map plain_row rs r i in
    subst (λ (y : List ℤ). length y ≡ suc n) w.2 (ap suc (from_All (λ (y : Row). length y.coeffs ≡ n) rs w.0 h w.1)))

-- ---- the calls, one after another
module _ (expression : ℕ → Tree → List ℤ) (p : Listing) (comps : Partition) (rows : ℕ → List (List ℤ)) (c : ℕ) where
  -- what elimination says of the rows before a call
  abbrev pub told : Recalled → Solution
  told o = emptiness expression (component_view expression p comps rows c) (arity_in p) o

  abbrev live : Recalled → Bool
  live o = is_found (told o)

  abbrev own : OwnCall → Recalled
  own y = re expression p comps rows c y

  -- the test of one of these is blown
  abbrev SomeBlown : List Recalled → Type 0
  SomeBlown os = (o : Recalled) × In o os × TestIsBlown o.rule.vars (rows_before expression o) (bottom_row o.rule.vars)

  before_wide : (y : OwnCall) → IsHeld expression p rows y → All (λ (r : List ℤ). length r ≡ suc (clause_at p y.clause).vars) (rows_before expression (own y))
  before_wide y h =
      subst (λ (rs : List (List ℤ)). All (λ (r : List ℤ). length r ≡ suc (clause_at p y.clause).vars) rs) (rows_are expression p comps rows c y h) (wide_rows (clause_at p y.clause).vars y.rows.list h.widths)

  -- the code's test agrees with elimination's
  one_live : (y : OwnCall) (owns : List OwnCall) → IsHeld expression p rows y → (s : Solution) → told (own y) ≡ s → (m : Option Multipliers) → IsReach (clause_at p y.clause).vars (plain_rows y.rows.list) m
      → filter live (map own owns) ≡ map own (live_of owns)
      → SomeBlown (map own (y ∷ owns)) ⊎ ((if is_found s then own y ∷ filter live (map own owns) else filter live (map own owns)) ≡ map own (with_live m y (live_of owns)))
  one_live y owns h (Blown step wide) e m r rest =
      inl (own y, inl refl, subst (EndsBlown (rows_before expression (own y)) (bottom_row (own y).rule.vars)) (sym e) tt)
  one_live y owns h (Found t w) e None r rest = inr (ap (λ os. own y ∷ os) rest)
  one_live y owns h (Found t w) e (Some by) r rest =
      let n = (clause_at p y.clause).vars in
      let empty : AreEmpty (suc n) (rows_before expression (own y)) = subst (AreEmpty (suc n)) (rows_are expression p comps rows c y h) (shown_empty n (plain_rows y.rows.list) by r.0 r.1) in
      absurd (found_hold n (rows_before expression (own y)) t w (before_wide y h) e empty)
  one_live y owns h (Refuted ms) e None r rest =
      let n = (clause_at p y.clause).vars in
      absurd (refuted_none n (rows_before expression (own y)) ms (before_wide y h) e (subst (HasPoint n) (rows_are expression p comps rows c y h) r))
  one_live y owns h (Refuted ms) e (Some by) r rest = inr rest

  lives_same : (owns : List OwnCall) → AllByRecursion (IsHeld expression p rows) owns → SomeBlown (map own owns) ⊎ (filter live (map own owns) ≡ map own (live_of owns))
  lives_same [] held = inr refl
  lives_same (y ∷ owns) held = elim (lives_same owns held.1) [
    | inl b ↦ inl (b.0, inr b.1, b.2)
    | inr rest ↦ let first = held.0 in one_live y owns first (told (own y)) refl y.empty first.reach rest
  ]

  module _ (owns : List OwnCall) (pairs : map numbers_of_call owns ≡ pairs_of p comps c) (held : AllByRecursion (IsHeld expression p rows) owns) where
    -- some call's test is blown, or the calls that can be reached are those that the code takes as live
    pub live_calls_same : SomeBlown (own_calls (component_view expression p comps rows c))
        ⊎ (live_calls expression (component_view expression p comps rows c) (arity_in p) ≡ map (re expression p comps rows c) (live_of owns))
    live_calls_same =
        let same = calls_are expression p comps rows c owns pairs held in
        elim (lives_same owns held) [
          | inl b ↦ inl (b.0, subst (In b.0) (sym same) b.1, b.2)
          | inr e ↦ inr (ap (filter live) same ∙ e)
        ]

    -- what is blown where these are the same is blown
    pub blown_by_lives : (ps : List Position)
        → (live_calls expression (component_view expression p comps rows c) (arity_in p) ≡ map (re expression p comps rows c) (live_of owns)
        → IsBlownAt expression (component_view expression p comps rows c) (arity_in p) ps)
        → IsBlownAt expression (component_view expression p comps rows c) (arity_in p) ps
    blown_by_lives ps f = elim live_calls_same [
      | inl b ↦ undecided b.0 b.1 b.2
      | inr e ↦ f e
    ]
