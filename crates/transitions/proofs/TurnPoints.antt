-- A point of a turn's template gives a mapping that rises nowhere, and falls where it is marked.
use Rattle.std.proofs.Common.{◌≡◌, ℕ, zero, suc, ◌*◌, ◌≤◌, ◌==◌, ℤ, pos, negsuc, neg_ℤ, ◌*ℤ◌, ◌≤ℤ◌, Bool, true, false, if◌then◌else◌, List, [], ◌∷◌, map, take, drop, length, Option, Some, inl, inr, refl, ap, sym, subst, arith}
use Rattle.std.specs.Prelude.{◌-ℤ◌, slice_index_or}
use Rattle.std.specs.List.{AllByRecursion}
use Rattle.std.proofs.lemmas.Int.{ints}
use Rattle.std.proofs.lemmas.List.{length-map}
use Rattle.exact128.proofs.Rings.{rings}
use Rattle.exact128.specs.Sums.{dot, entry}
use Rattle.linear_rows.specs.Proves.{Proves}
use Rattle.linear_rows.specs.Replacing.{substituted}
use Rattle.linear_rows.specs.RowSums.{scaled, added}
use Rattle.linear_rows.specs.Rows.{column}
use Rattle.termination_model.specs.columns.ColumnRows.{or_empty}
use Rattle.termination_model.specs.columns.ColumnClaims.{Mapping, difference}
use Rattle.transitions.specs.Templates.{row_at, least_in, differences}
use Rattle.transitions.specs.TemplateLaws.{HasFeatures, AreProved}
use Rattle.transitions.specs.Transitions.{Transition, head_level, call_level, fall}
use Rattle.transitions.specs.StuckSets.{Feature}
use Rattle.transitions.specs.Turns.{unit_row, share_row, head_row, call_row, fall_target, level_target, targets, mapping_of, HasWidths, LacksNone, RowProved, AreShown, PointsFall}
use Rattle.transitions.proofs.TemplateValues.{dot_swap}
use Rattle.transitions.proofs.TemplatePoints.{longest, length_replicated, row_entry, row_longer, points_prove}
use Rattle.transitions.proofs.StuckLaws.{entry_negated}
use Rattle.transitions.proofs.Levels.{level_entry, level_there}
use Rattle.transitions.proofs.TurnLaws.{over_long, fall_long}
use Rattle.termination_model.proofs.Entries.{dot_nil, entry_added, entry_scaled}

-- ---- the shape of a turn's targets
share_long : (n q : ℕ) (es : List (Option (List ℤ))) (f : Feature) → AllByRecursion (λ (e : Option (List ℤ)). length (or_empty e) ≤ suc n) es → length (share_row n q es f) ≤ suc n
share_long n q es f h = go (q == f.0)
  where
    among : (es : List (Option (List ℤ))) (i : ℕ) → AllByRecursion (λ (e : Option (List ℤ)). length (or_empty e) ≤ suc n) es → length (slice_index_or (map or_empty es) i []) ≤ suc n
    among [] i h = omega arith
    among (e ∷ es) zero h = h.0
    among (e ∷ es) (suc i) h = among es i h.1

    there : (j : ℕ) → length (slice_index_or (unit_row n ∷ map or_empty es) j []) ≤ suc n
    there zero = omega (arith, length_replicated n)
    there (suc i) = among es i h

    go : (b : Bool) → length (if b then slice_index_or (unit_row n ∷ map or_empty es) f.1 [] else []) ≤ suc n
    go true = there f.1
    go false = omega arith

length_negated : (xs : List ℤ) → length (map neg_ℤ xs) ≡ length xs
length_negated xs = length-map xs neg_ℤ

all_mapped : {X Y : Type 0} (P : Y → Type 0) (g : X → Y) → ((x : X) → P (g x)) → (xs : List X) → AllByRecursion P (map g xs)
all_mapped P g h [] = tt
all_mapped P g h (x ∷ xs) = (h x, all_mapped P g h xs)

module _ (width : ℕ → ℕ) (fs : List Feature) where
  pub fall_features : (least : ℕ) (τ : Transition) → HasWidths width τ → HasFeatures (length fs) (fall_target fs least τ)
  fall_features least τ has = record {
    count = length-map fs (λ f. added (head_row τ f) (map neg_ℤ (call_row τ f)));
    widths = all_mapped (λ (f : List ℤ). length f ≤ suc τ.vars) (λ f. added (head_row τ f) (map neg_ℤ (call_row τ f)))
        (λ f. longest (head_row τ f) (map neg_ℤ (call_row τ f)) (suc τ.vars) (share_long τ.vars τ.head τ.head_columns f has.head_rows)
        (omega (arith, length_negated (call_row τ f), share_long τ.vars τ.call τ.call_columns f has.call_rows))) fs;
  }

  pub level_features : (τ : Transition) → HasWidths width τ → HasFeatures (length fs) (level_target fs τ)
  level_features τ has = record {
    count = length-map fs (head_row τ);
    widths = all_mapped (λ (f : List ℤ). length f ≤ suc τ.vars) (head_row τ) (λ f. share_long τ.vars τ.head τ.head_columns f has.head_rows) fs;
  }

  pub all_features : (τs : List Transition) (marks : List Bool) → AllByRecursion (HasWidths width) τs → AllByRecursion (HasFeatures (length fs)) (targets fs τs marks)
  all_features [] marks has = tt
  all_features (τ ∷ τs) [] has = (fall_features 0 τ has.0, all_features τs [] has.1)
  all_features (τ ∷ τs) (false ∷ marks) has = (fall_features 0 τ has.0, all_features τs marks has.1)
  all_features (τ ∷ τs) (true ∷ marks) has = (fall_features 1 τ has.0, (level_features τ has.0, all_features τs marks has.1))

-- ---- from targets to levels
difference_column : (h c : Feature → List ℤ) (fs : List Feature) (zs : List ℤ) (x : ℕ)
    → dot (column (map (λ f. added (h f) (map neg_ℤ (c f))) fs) x) zs ≡ dot zs (column (map h fs) x) -ℤ dot zs (column (map c fs) x)
unfolding dot
difference_column h c [] zs x = let none = dot_nil zs in omega (arith, ints, none)
difference_column h c (f ∷ fs) [] x = omega (arith, ints)
difference_column h c (f ∷ fs) (z ∷ zs) x =
    let rest = difference_column h c fs zs x in
    let e = entry_added (h f) (map neg_ℤ (c f)) x in
    let n = entry_negated (c f) x in
    let here : entry (added (h f) (map neg_ℤ (c f))) x ≡ entry (h f) x -ℤ entry (c f) x = omega (arith, ints, e, n) in
    let product : (entry (h f) x -ℤ entry (c f) x) *ℤ z ≡ (z *ℤ entry (h f) x) -ℤ (z *ℤ entry (c f) x) = simp rings (omega (arith, ints)) in
    let first : entry (added (h f) (map neg_ℤ (c f))) x *ℤ z ≡ (entry (h f) x -ℤ entry (c f) x) *ℤ z = ap (λ y. y *ℤ z) here in
    omega (arith, ints, rest, product, first)

constant_only : (d x : ℕ) → entry (pos d ∷ []) x ≡ neg_ℤ (least_in d x)
constant_only zero zero = refl
constant_only (suc d) zero = refl
constant_only d (suc x) = refl

enough : (least d t x : ℕ) → d ≤ least * t → (least_in least x *ℤ pos t) ≤ℤ least_in d x
enough least d t zero h =
    let product : pos (least * t) ≡ pos least *ℤ pos t = refl in
    let turned : neg_ℤ (pos least) *ℤ pos t ≡ neg_ℤ (pos least *ℤ pos t) = simp rings (omega (arith, ints)) in
    omega (arith, ints, product, turned, h)
enough least d t (suc x) h = omega (arith, ints)

module _ (width : ℕ → ℕ) (fs : List Feature) (zs : List ℤ) where
  abbrev l : Mapping
  l = mapping_of width fs zs

  abbrev head_is : Transition → List ℤ
  head_is τ = substituted τ.vars (map or_empty τ.head_columns) (l.offset τ.head ∷ l.coefficients τ.head)

  abbrev call_is : Transition → List ℤ
  call_is τ = substituted τ.vars (map or_empty τ.call_columns) (l.offset τ.call ∷ l.coefficients τ.call)

  head_there : (τ : Transition) → HasWidths width τ → LacksNone fs τ → head_level τ l ≡ Some (head_is τ)
  head_there τ has free = level_there width τ.vars τ.head τ.head_columns fs zs has.head (λ f i lack. free f i (inl lack))

  call_there : (τ : Transition) → HasWidths width τ → LacksNone fs τ → call_level τ l ≡ Some (call_is τ)
  call_there τ has free = level_there width τ.vars τ.call τ.call_columns fs zs has.call (λ f i lack. free f i (inr lack))

  fall_proved : (τ : Transition) (least d t : ℕ) (ms : List ℕ) → HasWidths width τ → LacksNone fs τ → d ≤ least * t
      → Proves τ.rows (map pos ms) (row_at (fall_target fs least τ) zs t) (pos 1) → RowProved τ.rows ms (fall τ d l)
  fall_proved τ least d t ms has free low p =
      subst (λ o. RowProved τ.rows ms (difference d o (call_level τ l))) (sym (head_there τ has free))
      (subst (λ o. RowProved τ.rows ms (difference d (Some (head_is τ)) o)) (sym (call_there τ has free)) proved)
    where
      proved : Proves τ.rows (map pos ms) (added (head_is τ) (scaled (negsuc 0) (added (call_is τ) (pos d ∷ [])))) (pos 1)
      proved x lx =
          let row = added (head_is τ) (scaled (negsuc 0) (added (call_is τ) (pos d ∷ []))) in
          let long = fall_long τ.vars d (head_is τ) (call_is τ) (over_long τ.vars τ.head_columns (l.offset τ.head) (l.coefficients τ.head) has.head_rows) (over_long τ.vars τ.call_columns (l.offset τ.call) (l.coefficients τ.call) has.call_rows) in
          let g = fall_target fs least τ in
          let h = p x (omega (arith, lx, long, row_longer g zs t)) in
          let e = row_entry g zs t x in
          let f = difference_column (head_row τ) (call_row τ) fs zs x in
          let e1 = entry_added (head_is τ) (scaled (negsuc 0) (added (call_is τ) (pos d ∷ []))) x in
          let e2 = entry_scaled (negsuc 0) (added (call_is τ) (pos d ∷ [])) x in
          let e3 = entry_added (call_is τ) (pos d ∷ []) x in
          let c = constant_only d x in
          let a = level_entry width τ.vars τ.head τ.head_columns fs zs x has.head in
          let b = level_entry width τ.vars τ.call τ.call_columns fs zs x has.call in
          let m = enough least d t x low in
          omega (arith, ints, h, e, f, e1, e2, e3, c, a, b, m)

  head_proved : (τ : Transition) (t : ℕ) (ms : List ℕ) → HasWidths width τ → LacksNone fs τ
      → Proves τ.rows (map pos ms) (row_at (level_target fs τ) zs t) (pos 1) → RowProved τ.rows ms (head_level τ l)
  head_proved τ t ms has free p = subst (RowProved τ.rows ms) (sym (head_there τ has free)) proved
    where
      proved : Proves τ.rows (map pos ms) (head_is τ) (pos 1)
      proved x lx =
          let long = over_long τ.vars τ.head_columns (l.offset τ.head) (l.coefficients τ.head) has.head_rows in
          let g = level_target fs τ in
          let h = p x (omega (arith, lx, long, row_longer g zs t)) in
          let e = row_entry g zs t x in
          let s = dot_swap (column (map (head_row τ) fs) x) zs in
          let a = level_entry width τ.vars τ.head τ.head_columns fs zs x has.head in
          let m = none t x in
          omega (arith, ints, h, e, s, a, m)
        where
          none : (t x : ℕ) → least_in 0 x *ℤ pos t ≡ pos 0
          none t zero = omega (arith, ints)
          none t (suc x) = omega (arith, ints)

  all_shown : (t : ℕ) → 1 ≤ t → (τs : List Transition) (marks : List Bool) (ms : List ℕ) → AllByRecursion (HasWidths width) τs → AllByRecursion (LacksNone fs) τs
      → AreProved zs t (targets fs τs marks) ms → AreShown l τs marks ms
  all_shown t some [] marks ms has free p = tt
  all_shown t some (τ ∷ τs) [] ms has free p =
      let n = length τ.rows in
      (fall_proved τ 0 0 t (take n ms) has.0 free.0 (omega arith) p.0, all_shown t some τs [] (drop n ms) has.1 free.1 p.1)
  all_shown t some (τ ∷ τs) (false ∷ marks) ms has free p =
      let n = length τ.rows in
      (fall_proved τ 0 0 t (take n ms) has.0 free.0 (omega arith) p.0, all_shown t some τs marks (drop n ms) has.1 free.1 p.1)
  all_shown t some (τ ∷ τs) (true ∷ marks) ms has free (p, (q, rest)) =
      let n = length τ.rows in (
        fall_proved τ 1 1 t (take n ms) has.0 free.0 (omega arith) p,
        (head_proved τ t (take n (drop n ms)) has.0 free.0 q, all_shown t some τs marks (drop n (drop n ms)) has.1 free.1 rest),
      )

pub points_fall : PointsFall
points_fall width fs τs marks t cs ds ms has free some lc ld lm hold =
    all_shown width fs (differences cs ds) t some τs marks ms has free
    (points_prove (length fs) (targets fs τs marks) t cs ds ms (all_features width fs τs marks has) lc ld lm hold)
