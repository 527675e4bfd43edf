-- Multipliers over a clause's system with naturals for the columns that have no expression are multipliers over its own
-- naturals: of scale 0, or no number below 0 stands at such a column.
use Rattle.std.proofs.Common.{◌≡◌, ℕ, zero, suc, ◌+◌, ◌<◌, ◌≤◌, ℤ, pos, negsuc, ◌+ℤ◌, ◌-ℤ◌, ◌*ℤ◌, Bool, true, false, ◌&&◌, ◌⊎◌, inl, inr, List, [], ◌∷◌, ◌++◌, map, length, replicate, Option, None, Some, refl, ap, sym, subst, ◌∙◌, arith}
use Rattle.std.specs.Prelude.{◌≤ℤ◌}
use Rattle.std.specs.List.{AllByRecursion}
use Rattle.std.proofs.lemmas.Int.{ints}
use Rattle.std.proofs.lemmas.List.{length-map}
use Rattle.exact128.specs.Fits.{Fits, fits}
use Rattle.exact128.specs.Sums.{DotFits, dot, entry}
use Rattle.linear_rows.specs.Proves.{goal_number, rest_number}
use Rattle.linear_rows.specs.Replacing.{row_fits, substituted, unit_at}
use Rattle.linear_rows.specs.Rows.{column}
use Rattle.linear_rows.specs.Showing.{Shows}
use Rattle.linear_rows.specs.Solving.{coefficients, units, zeros}
use Rattle.linear_rows.specs.declared.multipliers.Multipliers.{Multipliers}
use Rattle.linear_rows.proofs.Starts.{entry-units, entry-units-other, entry-zeros}
use Rattle.termination_model.specs.columns.ColumnRows.{or_zeros}
use Rattle.termination_model.proofs.Proved.{length-replicate', length-substituted}
use Rattle.termination_model.proofs.RowColumns.{entry_substituted}
use Rattle.size_chains.specs.Proved.{AreNaturalThere}
use Rattle.size_chains.specs.Systems.{IsHeadColumn, missing, tied, widened}

-- ---- places of a list
entry_widened : (m : ℕ) (r : List ℤ) (j : ℕ) → entry (widened m r) j ≡ entry r j
entry_widened m [] j = entry-zeros m j
entry_widened m (x ∷ r) zero = refl
entry_widened m (x ∷ r) (suc j) = entry_widened m r j

entry_past : (r : List ℤ) (j : ℕ) → length r ≤ j → entry r j ≡ pos 0
entry_past [] j l = refl
entry_past (x ∷ r) zero l = absurd (omega arith)
entry_past (x ∷ r) (suc j) l = entry_past r j (omega arith)

-- behind n zeros
entry_behind : (n : ℕ) (r : List ℤ) (j : ℕ) → entry (zeros n ++ r) (n + j) ≡ entry r j
entry_behind zero r j = let e : 0 + j ≡ j = omega arith in ap (entry r) e
entry_behind (suc n) r j = let e : suc n + j ≡ suc (n + j) = omega arith in ap (entry (pos 0 ∷ (zeros n ++ r))) e ∙ entry_behind n r j

entry_before : (n : ℕ) (r : List ℤ) (j : ℕ) → j < n → entry (zeros n ++ r) j ≡ pos 0
entry_before zero r j l = absurd (omega arith)
entry_before (suc n) r zero l = refl
entry_before (suc n) r (suc j) l = entry_before n r j (omega arith)

entry_replicated : (n j : ℕ) → entry (replicate n (pos 0)) j ≡ pos 0
entry_replicated zero j = refl
entry_replicated (suc n) zero = refl
entry_replicated (suc n) (suc j) = entry_replicated n j

and_true : (a b : Bool) → a ≡ true → b ≡ true → (a && b) ≡ true
and_true a b e f = (λ i. e i && f i)

fit_entries : (r : List ℤ) → ((k : ℕ) → k < length r → fits (entry r k) ≡ true) → row_fits r ≡ true
fit_entries [] h = refl
fit_entries (z ∷ zs) h = and_true (fits z) (row_fits zs) (h 0 (omega arith)) (fit_entries zs (λ k l. h (suc k) (omega arith)))

and_both : (a b : Bool) → (a && b) ≡ true → (a ≡ true) × (b ≡ true)
and_both true b e = (refl, e)
and_both false b e = cc

entries_fit : (r : List ℤ) → row_fits r ≡ true → (k : ℕ) → fits (entry r k) ≡ true
entries_fit [] h k = refl
entries_fit (z ∷ zs) h zero = (and_both (fits z) (row_fits zs) h).0
entries_fit (z ∷ zs) h (suc k) = entries_fit zs (and_both (fits z) (row_fits zs) h).1 k

-- a sum of products with zeros
dot_nothing : (cs xs : List ℤ) → AllByRecursion (λ (x : ℤ). x ≡ pos 0) xs → dot cs xs ≡ pos 0
unfolding dot
dot_nothing [] xs h = refl
dot_nothing (c ∷ cs) [] h = refl
dot_nothing (c ∷ cs) (x ∷ xs) h =
    let more = dot_nothing cs xs h.1 in
    let here : c *ℤ x ≡ pos 0 = ap (λ (z : ℤ). c *ℤ z) h.0 ∙ times_zero c in
    omega (arith, ints, more, here)
  where
    times_zero : (c : ℤ) → c *ℤ pos 0 ≡ pos 0
    times_zero c = omega (arith, ints)

-- ---- columns
module _ (n m : ℕ) where
  -- up to the clause's own naturals nothing changes
  low : (i : ℕ) (es : List (Option (List ℤ))) (j : ℕ) → j ≤ n → map (λ e. entry e j) (tied n m i es) ≡ map (λ e. entry e j) (map (or_zeros n) es)
  low i [] j l = refl
  low i (None ∷ es) j l =
      let here : entry (pos 0 ∷ (zeros n ++ units m i)) j ≡ entry (replicate (suc n) (pos 0)) j = first j l ∙ sym (entry_replicated (suc n) j) in
      let more = low (suc i) es j l in
      λ t. here t ∷ more t
    where
      first : (j : ℕ) → j ≤ n → entry (pos 0 ∷ (zeros n ++ units m i)) j ≡ pos 0
      first zero l = refl
      first (suc j) l = entry_before n (units m i) j (omega arith)
  low i (Some e ∷ es) j l = let here = entry_widened m e j in let more = low i es j l in λ t. here t ∷ more t

  abbrev high : ℕ → ℕ → List (Option (List ℤ)) → List ℤ
  high j i es = map (λ e. entry e (suc (n + j))) (tied n m i es)

  -- behind them an expression has nothing
  past : (e : List ℤ) (j : ℕ) → length e ≡ suc n → entry (widened m e) (suc (n + j)) ≡ pos 0
  past e j l = entry_widened m e (suc (n + j)) ∙ entry_past e (suc (n + j)) (omega (arith, l))

  -- and a column without one has its own
  own : (i j : ℕ) → entry (pos 0 ∷ (zeros n ++ units m i)) (suc (n + j)) ≡ entry (units m i) j
  own i j = entry_behind n (units m i) j

  others : (es : List (Option (List ℤ))) (i j : ℕ) → AllByRecursion (IsHeadColumn n) es → j < i → AllByRecursion (λ (x : ℤ). x ≡ pos 0) (high j i es)
  others [] i j h l = tt
  others (None ∷ es) i j h l = (own i j ∙ entry-units-other m i j (λ e. absurd (omega (arith, l, e))), others es (suc i) j h.1 (omega arith))
  others (Some e ∷ es) i j h l = (past e j h.0.0, others es i j h.1 l)

  natural_there : (cs : List ℤ) (es : List (Option (List ℤ))) (i : ℕ) → AllByRecursion (IsHeadColumn n) es → i + missing es ≤ m
      → ((j : ℕ) → i ≤ j → j < i + missing es → pos 0 ≤ℤ dot cs (high j i es)) → AreNaturalThere cs es
  unfolding dot
  natural_there [] es i h few each = tt
  natural_there (c ∷ cs) [] i h few each = tt
  natural_there (c ∷ cs) (None ∷ es) i h few each = (
    (let at = each i (omega arith) (omega arith) in
        let one : entry (pos 0 ∷ (zeros n ++ units m i)) (suc (n + i)) ≡ pos 1 = own i i ∙ entry-units m i (omega (arith, few)) in
        let rest = dot_nothing cs (high i (suc i) es) (others es (suc i) i h.1 (omega arith)) in
        let sum : c *ℤ entry (pos 0 ∷ (zeros n ++ units m i)) (suc (n + i)) +ℤ dot cs (high i (suc i) es) ≡ c = (λ t. c *ℤ one t +ℤ rest t) ∙ once c in
        subst (λ (z : ℤ). pos 0 ≤ℤ z) sum at),
    natural_there cs es (suc i) h.1 (omega (arith, few)) (λ j le lt.
        let at = each j (omega (arith, le)) (omega (arith, lt)) in
        let none : entry (pos 0 ∷ (zeros n ++ units m i)) (suc (n + j)) ≡ pos 0 = own i j ∙ entry-units-other m i j (λ e. absurd (omega (arith, le, e))) in
        let sum : c *ℤ entry (pos 0 ∷ (zeros n ++ units m i)) (suc (n + j)) +ℤ dot cs (high j (suc i) es) ≡ dot cs (high j (suc i) es) = (λ t. c *ℤ none t +ℤ dot cs (high j (suc i) es)) ∙ never c (dot cs (high j (suc i) es)) in
        subst (λ (z : ℤ). pos 0 ≤ℤ z) sum at),
  )
    where
      once : (c : ℤ) → c *ℤ pos 1 +ℤ pos 0 ≡ c
      once c = omega (arith, ints)

      never : (c x : ℤ) → c *ℤ pos 0 +ℤ x ≡ x
      never c x = omega (arith, ints)
  natural_there (c ∷ cs) (Some e ∷ es) i h few each =
      natural_there cs es i h.1 few (λ j le lt.
      let at = each j le lt in
      let none = past e j h.0.0 in
      let sum : c *ℤ entry (widened m e) (suc (n + j)) +ℤ dot cs (high j i es) ≡ dot cs (high j i es) = (λ t. c *ℤ none t +ℤ dot cs (high j i es)) ∙ never c (dot cs (high j i es)) in
      subst (λ (z : ℤ). pos 0 ≤ℤ z) sum at)
    where
      never : (c x : ℤ) → c *ℤ pos 0 +ℤ x ≡ x
      never c x = omega (arith, ints)

-- the columns of wider rows
column_widened : (m : ℕ) (rs : List (List ℤ)) (k : ℕ) → column (map (widened m) rs) k ≡ column rs k
column_widened m [] k = refl
column_widened m (r ∷ rs) k = let here = entry_widened m r k in let more = column_widened m rs k in λ i. here i ∷ more i

column_past : (n : ℕ) (rs : List (List ℤ)) (k : ℕ) → AllByRecursion (λ (r : List ℤ). length r ≡ suc n) rs → suc n ≤ k → AllByRecursion (λ (x : ℤ). x ≡ pos 0) (column rs k)
column_past n [] k h l = tt
column_past n (r ∷ rs) k h l = (entry_past r k (omega (arith, h.0, l)), column_past n rs k h.1 l)

goal_same : (scale : ℤ) (a b : List ℤ) (k : ℕ) → entry a k ≡ entry b k → goal_number scale a k ≡ goal_number scale b k
goal_same (pos zero) a b zero e = refl
goal_same (pos zero) a b (suc k) e = refl
goal_same (pos (suc d)) a b k e = ap (λ (z : ℤ). pos (suc d) *ℤ z) e
goal_same (negsuc d) a b k e = ap (λ (z : ℤ). negsuc d *ℤ z) e

tied_long : (n m i : ℕ) (es : List (Option (List ℤ))) → AllByRecursion (IsHeadColumn n) es → AllByRecursion (λ (r : List ℤ). length r ≡ suc (n + m)) (tied n m i es)
tied_long n m i [] h = tt
tied_long n m i (None ∷ es) h = (let sum = both (zeros n) (units m i) in let first = zeros_long n in let second = units_long m i in omega (arith, sum, first, second), tied_long n m (suc i) es h.1)
  where
    both : (xs ys : List ℤ) → length (xs ++ ys) ≡ length xs + length ys
    both [] ys = omega arith
    both (x ∷ xs) ys = let more = both xs ys in omega arith

    zeros_long : (n : ℕ) → length (zeros n) ≡ n
    zeros_long zero = refl
    zeros_long (suc n) = ap suc (zeros_long n)

    units_long : (n i : ℕ) → length (units n i) ≡ n
    units_long zero i = refl
    units_long (suc n) zero = ap suc (zeros_long n)
    units_long (suc n) (suc i) = ap suc (units_long n i)
tied_long n m i (Some e ∷ es) h = (let sum = wide e in let own = h.0.0 in omega (arith, sum, own), tied_long n m i es h.1)
  where
    zeros_long : (n : ℕ) → length (zeros n) ≡ n
    zeros_long zero = refl
    zeros_long (suc n) = ap suc (zeros_long n)

    wide : (e : List ℤ) → length (widened m e) ≡ length e + m
    wide [] = let long = zeros_long m in omega arith
    wide (x ∷ e) = let more = wide e in omega arith

or_zeros_long : (n : ℕ) (es : List (Option (List ℤ))) → AllByRecursion (IsHeadColumn n) es → AllByRecursion (λ (r : List ℤ). length r ≡ suc n) (map (or_zeros n) es)
or_zeros_long n [] h = tt
or_zeros_long n (None ∷ es) h = (length-replicate' (suc n), or_zeros_long n es h.1)
or_zeros_long n (Some e ∷ es) h = (h.0.0, or_zeros_long n es h.1)

-- the constant counts nothing
first : (b : ℤ) (cs xs : List ℤ) → dot (b ∷ cs) (pos 0 ∷ xs) ≡ dot cs xs
unfolding dot
first b cs xs = omega (arith, ints)

-- ---- multipliers
module _ (n : ℕ) (es : List (Option (List ℤ))) (cols : AllByRecursion (IsHeadColumn n) es) (rs : List (List ℤ)) (long : AllByRecursion (λ (r : List ℤ). length r ≡ suc n) rs) (row : List ℤ) (by : Multipliers) where
  abbrev m : ℕ
  m = missing es

  abbrev wide : List ℤ
  wide = substituted (n + m) (tied n m 0 es) row

  abbrev here : List ℤ
  here = substituted n (map (or_zeros n) es) row

  wide_long : length wide ≡ suc (n + m)
  wide_long = length-substituted (n + m) (tied n m 0 es) row (tied_long n m 0 es cols)

  here_long : length here ≡ suc n
  here_long = length-substituted n (map (or_zeros n) es) row (or_zeros_long n es cols)

  same : (k : ℕ) → k ≤ n → entry wide k ≡ entry here k
  same k l =
      entry_substituted (n + m) (tied n m 0 es) row k
      ∙ ap (λ (xs : List ℤ). dot row (unit_at k ∷ xs)) (low n m 0 es k l)
      ∙ sym (entry_substituted n (map (or_zeros n) es) row k)

  module _ (h : Shows (map (widened m) rs) wide by) where
    rest_same : (k : ℕ) → k ≤ n → rest_number (map (widened m) rs) by.list wide by.scale k ≡ rest_number rs by.list here by.scale k
    rest_same k l = let goal = goal_same by.scale wide here k (same k l) in let cs = column_widened m rs k in λ i. goal i -ℤ dot by.list (cs i)

    shown_here : Shows rs here by
    shown_here = record {
      multipliers = record {
        each = h.multipliers.each ∙ length-map rs (widened m);
        naturals = h.multipliers.naturals;
        scale = h.multipliers.scale;
      };
      shown = record {
        target_fits = fit_entries here (λ k l. ap fits (sym (same k (omega (arith, l, here_long)))) ∙ entries_fit wide h.shown.target_fits k);
        proves = λ k l. subst (λ (z : ℤ). pos 0 ≤ℤ z) (rest_same k (omega (arith, l, here_long))) (h.shown.proves k (omega (arith, l, here_long, wide_long)));
        numbers_fit = λ k l.
            let at = h.shown.numbers_fit k (omega (arith, l, here_long, wide_long)) in
            record {
              sums = subst (λ (c : ℕ). DotFits c by.list (column rs k)) (length-map rs (widened m)) (subst (DotFits (length (map (widened m) rs)) by.list) (column_widened m rs k) at.sums);
              goal = subst Fits (goal_same by.scale wide here k (same k (omega (arith, l, here_long)))) at.goal;
              rest = subst Fits (rest_same k (omega (arith, l, here_long))) at.rest;
            };
      };
    }

    -- with a scale above 0 the target is at least 0 at each further natural
    above : (d j : ℕ) → by.scale ≡ pos (suc d) → j < m → pos 0 ≤ℤ entry wide (suc (n + j))
    above d j e l =
        let at = h.shown.proves (suc (n + j)) (omega (arith, l, wide_long)) in
        let none : dot by.list (column (map (widened m) rs) (suc (n + j))) ≡ pos 0 = ap (dot by.list) (column_widened m rs (suc (n + j))) ∙ dot_nothing by.list (column rs (suc (n + j))) (column_past n rs (suc (n + j)) long (omega arith)) in
        let goal : pos 0 ≤ℤ (pos (suc d) *ℤ entry wide (suc (n + j))) =
        subst (λ (z : ℤ). pos 0 ≤ℤ z) (minus (goal_number (pos (suc d)) wide (suc (n + j))))
        (subst (λ (z : ℤ). pos 0 ≤ℤ (goal_number (pos (suc d)) wide (suc (n + j)) -ℤ z)) none
        (subst (λ (s : ℤ). pos 0 ≤ℤ (goal_number s wide (suc (n + j)) -ℤ dot by.list (column (map (widened m) rs) (suc (n + j))))) e at)) in
        divided d (entry wide (suc (n + j))) goal
      where
        minus : (x : ℤ) → x -ℤ pos 0 ≡ x
        minus x = omega (arith, ints)

        divided : (d : ℕ) (x : ℤ) → pos 0 ≤ℤ (pos (suc d) *ℤ x) → pos 0 ≤ℤ x
        divided d (pos x) h = omega (arith, ints)
        divided d (negsuc x) h = omega (arith, ints)

    there : (d : ℕ) → by.scale ≡ pos (suc d) → AreNaturalThere (coefficients row) es
    there d e = go row refl
      where
        go : (r : List ℤ) → row ≡ r → AreNaturalThere (coefficients r) es
        go [] is = tt
        go (b ∷ cs) is =
            natural_there n m cs es 0 cols (omega arith) (λ j le lt.
            let at = above d j e (omega (arith, lt)) in
            let entry_is : entry wide (suc (n + j)) ≡ dot (b ∷ cs) (pos 0 ∷ high n m j 0 es) = entry_substituted (n + m) (tied n m 0 es) row (suc (n + j)) ∙ ap (λ (r : List ℤ). dot r (pos 0 ∷ high n m j 0 es)) is in
            subst (λ (z : ℤ). pos 0 ≤ℤ z) (entry_is ∙ first b cs (high n m j 0 es)) at)

    pub scale_or_natural : (by.scale ≡ pos 0) ⊎ AreNaturalThere (coefficients row) es
    scale_or_natural = go by.scale refl
      where
        go : (s : ℤ) → by.scale ≡ s → (by.scale ≡ pos 0) ⊎ AreNaturalThere (coefficients row) es
        go (pos zero) e = inl e
        go (pos (suc d)) e = inr (there d e)
        go (negsuc d) e = let at = subst (λ (z : ℤ). pos 0 ≤ℤ z) e h.multipliers.scale in absurd (omega (arith, ints, at))

    pub shown_over_own : Shows rs here by
    shown_over_own = shown_here
