-- Multipliers that refute a template are points of its targets that balance.
--
-- The rows, multiplied, are at most -1 at all unknown naturals. So they are at most -1 with all unknown numbers 0, and
-- however large one of them is.
use Rattle.std.proofs.Common.{◌≡◌, ℕ, zero, suc, ◌+◌, ◌*◌, ◌<◌, ◌≤◌, ℤ, pos, negsuc, neg_ℤ, ◌+ℤ◌, ◌*ℤ◌, ◌≤ℤ◌, List, [], ◌∷◌, ◌++◌, map, take, drop, length, replicate, refl, ap, sym, subst, ◌∙◌, arith}
use Rattle.std.specs.Prelude.{◌-ℤ◌}
use Rattle.std.specs.List.{AllByRecursion}
use Rattle.std.proofs.lemmas.Int.{ints}
use Rattle.std.proofs.lemmas.List.{length-append, length-map, map-append}
use Rattle.exact128.proofs.Rings.{rings, mul_nonneg}
use Rattle.exact128.specs.Sums.{dot, entry}
use Rattle.linear_rows.specs.Rows.{column, Holds}
use Rattle.linear_rows.specs.Replacing.{combined}
use Rattle.linear_rows.specs.Proves.{Refutes, goal_number}
use Rattle.linear_rows.specs.Step.{columns}
use Rattle.transitions.specs.Templates.{Target, least_in, row_count, template_row, template_rows_from, template_rows, unknown_count, differences}
use Rattle.transitions.specs.TemplateLaws.{HasFeatures, number_count, Pointed, pointed, IsPointed, feature_value, feature_sum, least_sum, RefutationsBalance}
use Rattle.transitions.proofs.TemplateValues.{dot_swap, row_value}
use Rattle.transitions.proofs.Spikes.{nothing, spike, length_nothing, length_spike, dot_nothing, dot_spike, dot_above, dot_under, never_passes}
use Rattle.termination_model.proofs.Entries.{dot_nil, dot_parts, entry_combined}
use Rattle.termination_model.proofs.SystemPoints.{dot_combined, to_all}
use Rattle.termination_model.proofs.Points.{map_together}
use Rattle.termination_model.proofs.Totals.{taken, dropped}
use Rattle.termination_model.proofs.TurnPoints.{split_off, together}

-- ---- rows that are refuted, at natural numbers
low : (zs : List ℤ) (us : List ℕ) → ((i : ℕ) → i < length us → entry zs i ≤ℤ pos 0) → dot zs (map pos us) ≤ℤ pos 0
unfolding dot
low [] us h = omega (arith, ints)
low (z ∷ zs) [] h = omega (arith, ints)
low (z ∷ zs) (u ∷ us) h =
    let here = h 0 (omega arith) in
    let rest = low zs us (λ i l. h (suc i) (omega arith)) in
    let m = mul_nonneg (neg_ℤ z) (pos u) (omega (arith, ints, here)) (omega (arith, ints)) in
    let e : neg_ℤ z *ℤ pos u ≡ neg_ℤ (z *ℤ pos u) = simp rings (omega (arith, ints)) in
    omega (arith, ints, here, rest, m, e)

low_first : (zs : List ℤ) (us : List ℕ) → entry zs 0 ≤ℤ negsuc 0 → ((i : ℕ) → i < length us → entry zs (suc i) ≤ℤ pos 0) → dot zs (pos 1 ∷ map pos us) ≤ℤ negsuc 0
unfolding dot
low_first [] us h k = absurd (omega (arith, ints, h))
low_first (z ∷ zs) us h k = let rest = low zs us k in omega (arith, ints, h, rest)

length_replicated : (m : ℕ) → length (replicate m (pos 0)) ≡ m
length_replicated zero = refl
length_replicated (suc m) = ap suc (length_replicated m)

refuted : (n : ℕ) (rows : List (List ℤ)) (vs : List ℤ) → Refutes n rows vs → (us : List ℕ) → length us ≡ n → dot vs (map (λ r. dot r (pos 1 ∷ map pos us)) rows) ≤ℤ negsuc 0
refuted n rows vs refutes us l =
    subst (λ (z : ℤ). z ≤ℤ negsuc 0) (dot_combined vs rows (pos 1 ∷ map pos us))
    (low_first (combined vs rows) us (entry_first) (λ i h. entry_later i (omega arith)))
  where
    tested : (k : ℕ) → k < suc n → pos 0 ≤ℤ (goal_number (pos 0) (replicate (suc n) (pos 0)) k -ℤ dot vs (column rows k))
    tested k h =
        let len = length_replicated (suc n) in
        refutes.proves (replicate (suc n) (pos 0)) (omega (arith, len)) k (omega (arith, len))

    entry_first : entry (combined vs rows) 0 ≤ℤ negsuc 0
    entry_first = let h = tested 0 (omega arith) in let e = entry_combined vs rows 0 in omega (arith, ints, h, e)

    entry_later : (i : ℕ) → i < n → entry (combined vs rows) (suc i) ≤ℤ pos 0
    entry_later i h = let t = tested (suc i) (omega arith) in let e = entry_combined vs rows (suc i) in omega (arith, ints, t, e)

-- ---- one target's rows, multiplied
dot_first : (f : List ℤ) (v : ℤ) (vs : List ℤ) → dot f (v ∷ vs) ≡ (v *ℤ entry f 0) +ℤ dot (drop 1 f) vs
unfolding dot
dot_first [] v vs = omega (arith, ints)
dot_first (z ∷ f) v vs =
    let turned : v *ℤ z ≡ z *ℤ v = simp rings (omega (arith, ints)) in
    omega (arith, ints, turned)

entry_later : (f : List ℤ) (x : ℕ) → entry (drop 1 f) x ≡ entry f (suc x)
entry_later [] x = refl
entry_later (z ∷ f) x = refl

plain_step : (v a z b c d : ℤ) → a ≡ z → b ≡ c → d ≡ (v *ℤ z) +ℤ c → (v *ℤ a) +ℤ b ≡ d
plain_step v a z b c d e f g = (λ i. (v *ℤ e i) +ℤ f i) ∙ sym g

-- the entries of a row from place k on, as values of a function
entries_from : (vs : List ℤ) (n k : ℕ) (f : List ℤ) (g : ℕ → ℤ) → length vs ≡ n → ((x : ℕ) → g (k + x) ≡ entry f x) → dot vs (map g (columns k n)) ≡ dot f vs
unfolding dot
entries_from [] n k f g l h = sym (dot_nil f)
entries_from (v ∷ vs) zero k f g l h = absurd (omega arith)
entries_from (v ∷ vs) (suc n) k f g l h =
    plain_step v (g k) (entry f 0) (dot vs (map g (columns (suc k) n))) (dot (drop 1 f) vs) (dot f (v ∷ vs))
    (subst (λ y. g y ≡ entry f 0) (omega arith) (h 0))
    (entries_from vs n (suc k) (drop 1 f) g (omega arith) (λ x. subst (λ y. g y ≡ entry (drop 1 f) x) (omega arith) (h (suc x) ∙ sym (entry_later f x))))
    (dot_first f v vs)

own_entries : (f vs : List ℤ) (n : ℕ) → length vs ≡ n → dot vs (map (λ x. entry f x) (columns 0 n)) ≡ dot f vs
own_entries f vs n l = entries_from vs n 0 f (λ x. entry f x) l (λ x. ap (λ y. entry f y) (omega arith))

dot_sum : {X : Type 0} (f g : X → ℤ) (vs : List ℤ) (xs : List X) → dot vs (map (λ x. f x +ℤ g x) xs) ≡ dot vs (map f xs) +ℤ dot vs (map g xs)
unfolding dot
dot_sum f g [] xs = omega (arith, ints)
dot_sum f g (v ∷ vs) [] = omega (arith, ints)
dot_sum f g (v ∷ vs) (x ∷ xs) =
    let rest = dot_sum f g vs xs in
    let here : v *ℤ (f x +ℤ g x) ≡ (v *ℤ f x) +ℤ (v *ℤ g x) = simp rings (omega (arith, ints)) in
    omega (arith, ints, rest, here)

dot_less : {X : Type 0} (f g : X → ℤ) (vs : List ℤ) (xs : List X) → dot vs (map (λ x. f x -ℤ g x) xs) ≡ dot vs (map f xs) -ℤ dot vs (map g xs)
unfolding dot
dot_less f g [] xs = omega (arith, ints)
dot_less f g (v ∷ vs) [] = omega (arith, ints)
dot_less f g (v ∷ vs) (x ∷ xs) =
    let rest = dot_less f g vs xs in
    let here : v *ℤ (f x -ℤ g x) ≡ (v *ℤ f x) -ℤ (v *ℤ g x) = simp rings (omega (arith, ints)) in
    omega (arith, ints, rest, here)

dot_times : {X : Type 0} (z : ℤ) (f : X → ℤ) (vs : List ℤ) (xs : List X) → dot vs (map (λ x. z *ℤ f x) xs) ≡ z *ℤ dot vs (map f xs)
unfolding dot
dot_times z f [] xs = omega (arith, ints)
dot_times z f (v ∷ vs) [] = omega (arith, ints)
dot_times z f (v ∷ vs) (x ∷ xs) =
    let rest = dot_times z f vs xs in
    let here : v *ℤ (z *ℤ f x) ≡ z *ℤ (v *ℤ f x) = simp rings (omega (arith, ints)) in
    let both : z *ℤ ((v *ℤ f x) +ℤ dot vs (map f xs)) ≡ z *ℤ (v *ℤ f x) +ℤ z *ℤ dot vs (map f xs) = simp rings (omega (arith, ints)) in
    omega (arith, ints, rest, here, both)

dot_none : {X : Type 0} (vs : List ℤ) (xs : List X) → dot vs (map (λ (x : X). pos 0) xs) ≡ pos 0
unfolding dot
dot_none [] xs = refl
dot_none (v ∷ vs) [] = refl
dot_none (v ∷ vs) (x ∷ xs) =
    let rest = dot_none vs xs in
    omega (arith, ints, rest)

-- sums over columns and sums over rows are the same
exchanged : (zs : List ℤ) (fs : List (List ℤ)) (vs : List ℤ) (n : ℕ) → length vs ≡ n → dot vs (map (λ x. dot zs (column fs x)) (columns 0 n)) ≡ dot zs (map (λ f. dot f vs) fs)
unfolding dot
exchanged [] fs vs n l = dot_none vs (columns 0 n)
exchanged (z ∷ zs) [] vs n l = dot_none vs (columns 0 n)
exchanged (z ∷ zs) (f ∷ fs) vs n l =
    let rest = exchanged zs fs vs n l in
    let split = dot_sum (λ x. z *ℤ entry f x) (λ x. dot zs (column fs x)) vs (columns 0 n) in
    let own = dot_times z (λ x. entry f x) vs (columns 0 n) in
    let entries = ap (λ y. z *ℤ y) (own_entries f vs n l) in
    omega (arith, ints, rest, split, own, entries)

-- what a target's multiplied rows come to: t and w are its multipliers
abbrev block : Target → List ℤ → List ℕ → ℕ → List ℕ → ℤ
block g zs ms t w = neg_ℤ (pos (g.least * t)) +ℤ (dot zs (map (λ f. dot f (pos t ∷ map pos w)) g.features) -ℤ dot (map pos ms) (map (λ r. dot r (pos t ∷ map pos w)) g.rows))

none_later : (least : ℕ) (w : List ℕ) (n k : ℕ) → dot (map pos w) (map (λ x. least_in least x) (columns (suc k) n)) ≡ pos 0
unfolding dot
none_later least [] n k = refl
none_later least (v ∷ w) zero k = refl
none_later least (v ∷ w) (suc n) k = let later = none_later least w n (suc k) in omega (arith, ints, later)

least_column : (least t : ℕ) (w : List ℕ) (n : ℕ) → dot (pos t ∷ map pos w) (map (λ x. least_in least x) (columns 0 (suc n))) ≡ neg_ℤ (pos (least * t))
unfolding dot
least_column least t w n =
    let rest = none_later least w n 0 in
    let product : pos (least * t) ≡ pos least *ℤ pos t = refl in
    let turned : pos t *ℤ neg_ℤ (pos least) ≡ neg_ℤ (pos least *ℤ pos t) = simp rings (omega (arith, ints)) in
    omega (arith, ints, rest, product, turned)

pub map_twice : {X Y Z : Type 0} (f : Y → Z) (g : X → Y) (xs : List X) → map f (map g xs) ≡ map (λ x. f (g x)) xs
map_twice f g [] = refl
map_twice f g (x ∷ xs) = ap (λ ys. f (g x) ∷ ys) (map_twice f g xs)

module _ (k : ℕ) (cs ds : List ℕ) (lc : length cs ≡ k) (ld : length ds ≡ k) where
  abbrev zs : List ℤ
  zs = differences cs ds

  abbrev value : List ℕ → List ℤ → ℤ
  value us r = dot r (pos 1 ∷ map pos (cs ++ (ds ++ us)))

  one_column : (g : Target) (before after : ℕ) (bs ms rest : List ℕ) → HasFeatures k g → length bs ≡ before → length ms ≡ length g.rows → (x : ℕ)
      → value (bs ++ (ms ++ rest)) (template_row before after g x) ≡ least_in g.least x +ℤ (dot zs (column g.features x) -ℤ dot (map pos ms) (column g.rows x))
  one_column g before after bs ms rest has lb lm x =
      let count = has.count in
      let v = row_value g x before after 1 cs ds bs ms rest (omega (arith, lc, count)) (omega (arith, ld, count)) lb lm in
      let s = dot_swap zs (column g.features x) in
      omega (arith, ints, v, s)

  block_value : (g : Target) (before after : ℕ) (bs ms rest : List ℕ) (t : ℕ) (w : List ℕ) → HasFeatures k g → length bs ≡ before → length ms ≡ length g.rows → length w ≡ g.vars
      → dot (pos t ∷ map pos w) (map (value (bs ++ (ms ++ rest))) (map (template_row before after g) (columns 0 (suc g.vars)))) ≡ block g zs ms t w
  block_value g before after bs ms rest t w has lb lm lw =
      let vs = pos t ∷ map pos w in
      let cols = columns 0 (suc g.vars) in
      let long : length vs ≡ suc g.vars = omega (arith, length-map w pos, lw) in
      let twice = ap (dot vs) (map_twice (value (bs ++ (ms ++ rest))) (template_row before after g) cols) in
      let each : dot vs (map (λ x. value (bs ++ (ms ++ rest)) (template_row before after g x)) cols) ≡ dot vs (map (λ x. least_in g.least x +ℤ (dot zs (column g.features x) -ℤ dot (map pos ms) (column g.rows x))) cols) =
      λ i. dot vs (map (λ x. one_column g before after bs ms rest has lb lm x i) cols) in
      let s = dot_sum (λ x. least_in g.least x) (λ x. dot zs (column g.features x) -ℤ dot (map pos ms) (column g.rows x)) vs cols in
      let d = dot_less (λ x. dot zs (column g.features x)) (λ x. dot (map pos ms) (column g.rows x)) vs cols in
      let l = least_column g.least t w g.vars in
      let e = exchanged zs g.features vs (suc g.vars) long in
      let f = exchanged (map pos ms) g.rows vs (suc g.vars) long in
      omega (arith, ints, twice, each, s, d, l, e, f)

  -- all targets' rows, multiplied
  abbrev total : List Target → List ℕ → List ℕ → ℤ
  total [] vs ms = pos 0
  total (g ∷ gs) [] ms = pos 0
  total (g ∷ gs) (t ∷ vs) ms = block g zs (take (length g.rows) ms) t (take g.vars vs) +ℤ total gs (drop g.vars vs) (drop (length g.rows) ms)

  length_columns : (i n : ℕ) → length (columns i n) ≡ n
  length_columns i zero = refl
  length_columns i (suc n) = ap suc (length_columns (suc i) n)

  total_value : (gs : List Target) (vs bs ms : List ℕ) → AllByRecursion (HasFeatures k) gs → length vs ≡ number_count gs → length ms ≡ row_count gs
      → dot (map pos vs) (map (value (bs ++ ms)) (template_rows_from (length bs) gs)) ≡ total gs vs ms
  total_value [] vs bs ms has lv lm = dot_nil (map pos vs)
  total_value (g ∷ gs) [] bs ms has lv lm = absurd (omega arith)
  total_value (g ∷ gs) (t ∷ vs) bs ms has lv lm =
      let n = length g.rows in
      let v = g.vars in
      let own = taken n ms (omega arith) in
      let own_numbers = taken v vs (omega arith) in
      let whole = split_off n ms in
      let all = split_off v vs in
      let moved : (bs ++ take n ms) ++ drop n ms ≡ bs ++ ms = together bs (take n ms) (drop n ms) ∙ ap (λ s. bs ++ s) whole in
      let long : length bs + n ≡ length (bs ++ take n ms) = omega (arith, length-append bs (take n ms), own) in
      let own_rows = map (template_row (length bs) (row_count gs) g) (columns 0 (suc v)) in
      let other_rows = template_rows_from (length bs + n) gs in
      let val = value (bs ++ ms) in
      let numbers : map pos (t ∷ vs) ≡ (pos t ∷ map pos (take v vs)) ++ map pos (drop v vs) = ap (λ s. pos t ∷ map pos s) (sym all) ∙ ap (λ s. pos t ∷ s) (map_together (take v vs) (drop v vs)) in
      let rows = map-append val own_rows other_rows in
      let parts = dot_parts (pos t ∷ map pos (take v vs)) (map pos (drop v vs)) (map val own_rows) (map val other_rows)
      (omega (arith, length-map (take v vs) pos, own_numbers, length-map own_rows val, length-map (columns 0 (suc v)) (template_row (length bs) (row_count gs) g), length_columns 0 (suc v))) in
      let here : dot (pos t ∷ map pos (take v vs)) (map val own_rows) ≡ block g zs (take n ms) t (take v vs) =
      subst (λ z. dot (pos t ∷ map pos (take v vs)) (map (value (bs ++ z)) own_rows) ≡ block g zs (take n ms) t (take v vs)) whole
      (block_value g (length bs) (row_count gs) bs (take n ms) (drop n ms) t (take v vs) has.0 refl own own_numbers) in
      let rest : dot (map pos (drop v vs)) (map val other_rows) ≡ total gs (drop v vs) (drop n ms) =
      subst (λ z. dot (map pos (drop v vs)) (map (value z) other_rows) ≡ total gs (drop v vs) (drop n ms)) moved
      (subst (λ z. dot (map pos (drop v vs)) (map (value ((bs ++ take n ms) ++ drop n ms)) (template_rows_from z gs)) ≡ total gs (drop v vs) (drop n ms)) (sym long)
      (total_value gs (drop v vs) (bs ++ take n ms) (drop n ms) has.1 (dropped v vs (number_count gs) (omega arith)) (dropped n ms (row_count gs) lm))) in
      (λ i. dot (numbers i) (rows i)) ∙ parts ∙ omega (arith, ints, here, rest)

-- ---- what the multiplied rows say of the points
-- the values of all known rows at the points
abbrev flat : List Pointed → List ℤ
flat [] = []
flat (p ∷ ps) = map (λ r. dot r (pos p.t ∷ map pos p.w)) p.target.rows ++ flat ps

-- what numbers give at the points
abbrev given : List ℤ → List Pointed → ℤ
given numbers [] = pos 0
given numbers (p ∷ ps) = dot numbers (map (λ f. dot f (pos p.t ∷ map pos p.w)) p.target.features) +ℤ given numbers ps

plain_total : (l g f m n r s : ℤ) → (l +ℤ (g -ℤ f)) +ℤ (m +ℤ (n -ℤ r)) ≡ s → s ≡ (l +ℤ m) +ℤ ((g +ℤ n) -ℤ (f +ℤ r))
plain_total l g f m n r s e = omega (arith, ints, e)

module _ (k : ℕ) (cs ds : List ℕ) (lc : length cs ≡ k) (ld : length ds ≡ k) where
  total_parts : (gs : List Target) (vs ms : List ℕ) → length vs ≡ number_count gs → length ms ≡ row_count gs
      → total k cs ds lc ld gs vs ms ≡ neg_ℤ (pos (least_sum (pointed gs vs))) +ℤ (given (differences cs ds) (pointed gs vs) -ℤ dot (map pos ms) (flat (pointed gs vs)))
  total_parts [] vs ms lv lm = let none = dot_nil (map pos ms) in omega (arith, ints, none)
  total_parts (g ∷ gs) [] ms lv lm = absurd (omega arith)
  total_parts (g ∷ gs) (t ∷ vs) ms lv lm =
      let n = length g.rows in
      let w = take g.vars vs in
      let ps = pointed gs (drop g.vars vs) in
      let rs = map (λ r. dot r (pos t ∷ map pos w)) g.rows in
      let whole = split_off n ms in
      let rest = total_parts gs (drop g.vars vs) (drop n ms) (dropped g.vars vs (number_count gs) (omega arith)) (dropped n ms (row_count gs) lm) in
      let numbers : map pos ms ≡ map pos (take n ms) ++ map pos (drop n ms) = ap (map pos) (sym whole) ∙ map_together (take n ms) (drop n ms) in
      let parts = dot_parts (map pos (take n ms)) (map pos (drop n ms)) rs (flat ps) (omega (arith, length-map (take n ms) pos, taken n ms (omega arith), length-map g.rows (λ r. dot r (pos t ∷ map pos w)))) in
      let split : dot (map pos ms) (rs ++ flat ps) ≡ dot (map pos (take n ms)) rs +ℤ dot (map pos (drop n ms)) (flat ps) = ap (λ z. dot z (rs ++ flat ps)) numbers ∙ parts in
      omega (arith, ints, rest, split)

-- numbers that are 0 but for one
given_spike : (k j m : ℕ) (ps : List Pointed) → AllByRecursion (λ (p : Pointed). HasFeatures k p.target) ps → given (differences (spike k j m) (nothing k)) ps ≡ pos m *ℤ feature_sum j ps
given_spike k j m [] has = omega (arith, ints)
given_spike k j m (p ∷ ps) has =
    let fs = map (λ f. dot f (pos p.t ∷ map pos p.w)) p.target.features in
    let long : length fs ≡ k = length-map p.target.features (λ f. dot f (pos p.t ∷ map pos p.w)) ∙ has.0.count in
    let above = dot_above fs (spike k j m) k (length_spike k j m) in
    let here = dot_spike k j m fs long in
    let rest = given_spike k j m ps has.1 in
    let both : pos m *ℤ (feature_value j p +ℤ feature_sum j ps) ≡ pos m *ℤ feature_value j p +ℤ pos m *ℤ feature_sum j ps = simp rings (omega (arith, ints)) in
    omega (arith, ints, above, here, rest, both)

given_under : (k j m : ℕ) (ps : List Pointed) → AllByRecursion (λ (p : Pointed). HasFeatures k p.target) ps → given (differences (nothing k) (spike k j m)) ps ≡ neg_ℤ (pos m *ℤ feature_sum j ps)
given_under k j m [] has = omega (arith, ints)
given_under k j m (p ∷ ps) has =
    let fs = map (λ f. dot f (pos p.t ∷ map pos p.w)) p.target.features in
    let long : length fs ≡ k = length-map p.target.features (λ f. dot f (pos p.t ∷ map pos p.w)) ∙ has.0.count in
    let under = dot_under fs (spike k j m) k (length_spike k j m) in
    let here = dot_spike k j m fs long in
    let rest = given_under k j m ps has.1 in
    let both : pos m *ℤ (feature_value j p +ℤ feature_sum j ps) ≡ pos m *ℤ feature_value j p +ℤ pos m *ℤ feature_sum j ps = simp rings (omega (arith, ints)) in
    omega (arith, ints, under, here, rest, both)

given_nothing : (k : ℕ) (ps : List Pointed) → given (differences (nothing k) (nothing k)) ps ≡ pos 0
given_nothing k [] = refl
given_nothing k (p ∷ ps) =
    let fs = map (λ f. dot f (pos p.t ∷ map pos p.w)) p.target.features in
    let above = dot_above fs (nothing k) k (length_nothing k) in
    let here = dot_nothing k fs in
    let rest = given_nothing k ps in
    omega (arith, ints, above, here, rest)

abbrev AreNatural : List ℤ → Type 0
AreNatural xs = (i : ℕ) → pos 0 ≤ℤ entry xs i

natural_left : (xs ys : List ℤ) → AreNatural (xs ++ ys) → AreNatural xs
natural_left [] ys h i = omega (arith, ints)
natural_left (x ∷ xs) ys h zero = h 0
natural_left (x ∷ xs) ys h (suc i) = natural_left xs ys (λ j. h (suc j)) i

natural_right : (xs ys : List ℤ) → AreNatural (xs ++ ys) → AreNatural ys
natural_right [] ys h i = h i
natural_right (x ∷ xs) ys h i = natural_right xs ys (λ j. h (suc j)) i

rows_hold : (rows : List (List ℤ)) (t : ℕ) (w : List ℕ) → AreNatural (map (λ r. dot r (pos t ∷ map pos w)) rows) → AllByRecursion (λ (r : List ℤ). Holds r t w) rows
rows_hold [] t w h = tt
rows_hold (r ∷ rows) t w h = (h 0, rows_hold rows t w (λ i. h (suc i)))

all_points : (gs : List Target) (vs : List ℕ) → length vs ≡ number_count gs → AreNatural (flat (pointed gs vs)) → AllByRecursion IsPointed (pointed gs vs)
all_points [] vs lv h = tt
all_points (g ∷ gs) [] lv h = absurd (omega arith)
all_points (g ∷ gs) (t ∷ vs) lv h =
    let w = take g.vars vs in
    let rs = map (λ r. dot r (pos t ∷ map pos w)) g.rows in
    let rest = flat (pointed gs (drop g.vars vs)) in (
      (taken g.vars vs (omega arith), to_all (λ (r : List ℤ). Holds r t w) g.rows (rows_hold g.rows t w (natural_left rs rest h))),
      all_points gs (drop g.vars vs) (dropped g.vars vs (number_count gs) (omega arith)) (natural_right rs rest h),
    )

all_targets : (k : ℕ) (gs : List Target) (vs : List ℕ) → AllByRecursion (HasFeatures k) gs → AllByRecursion (λ (p : Pointed). HasFeatures k p.target) (pointed gs vs)
all_targets k [] vs has = tt
all_targets k (g ∷ gs) [] has = tt
all_targets k (g ∷ gs) (t ∷ vs) has = (has.0, all_targets k gs (drop g.vars vs) has.1)

flat_long : (gs : List Target) (vs : List ℕ) → length vs ≡ number_count gs → length (flat (pointed gs vs)) ≡ row_count gs
flat_long [] vs lv = refl
flat_long (g ∷ gs) [] lv = absurd (omega arith)
flat_long (g ∷ gs) (t ∷ vs) lv =
    let w = take g.vars vs in
    let rs = map (λ r. dot r (pos t ∷ map pos w)) g.rows in
    let rest = flat_long gs (drop g.vars vs) (dropped g.vars vs (number_count gs) (omega arith)) in
    omega (arith, length-append rs (flat (pointed gs (drop g.vars vs))), length-map g.rows (λ r. dot r (pos t ∷ map pos w)), rest)

module _ (k : ℕ) (gs : List Target) (vs : List ℕ) (has : AllByRecursion (HasFeatures k) gs) (lv : length vs ≡ number_count gs)
    (refutes : Refutes (unknown_count k gs) (template_rows gs) (map pos vs)) where
  abbrev ps : List Pointed
  ps = pointed gs vs

  abbrev least : ℤ
  least = neg_ℤ (pos (least_sum ps))

  -- whatever the unknown numbers are
  at_all : (cs ds ms : List ℕ) → length cs ≡ k → length ds ≡ k → length ms ≡ row_count gs → (least +ℤ (given (differences cs ds) ps -ℤ dot (map pos ms) (flat ps))) ≤ℤ negsuc 0
  at_all cs ds ms lc ld lm =
      let long : length (cs ++ (ds ++ ms)) ≡ unknown_count k gs = omega (arith, length-append cs (ds ++ ms), length-append ds ms, lc, ld, lm) in
      let low = refuted (unknown_count k gs) (template_rows gs) (map pos vs) refutes (cs ++ (ds ++ ms)) long in
      let v = total_value k cs ds lc ld gs vs [] ms has lv lm in
      let p = total_parts k cs ds lc ld gs vs ms lv lm in
      omega (arith, ints, low, v, p)

  no_rows : dot (map pos (nothing (row_count gs))) (flat ps) ≡ pos 0
  no_rows = dot_nothing (row_count gs) (flat ps)

  least_is : 1 ≤ least_sum ps
  least_is =
      let h = at_all (nothing k) (nothing k) (nothing (row_count gs)) (length_nothing k) (length_nothing k) (length_nothing (row_count gs)) in
      let g = given_nothing k ps in
      let z = no_rows in
      omega (arith, ints, h, g, z)

  sums : (j : ℕ) → feature_sum j ps ≡ pos 0
  sums j =
      let targets = all_targets k gs vs has in
      let up = never_passes least (feature_sum j ps) (λ m.
      let h = at_all (spike k j m) (nothing k) (nothing (row_count gs)) (length_spike k j m) (length_nothing k) (length_nothing (row_count gs)) in
      let g = given_spike k j m ps targets in
      let z = no_rows in
      omega (arith, ints, h, g, z)) in
      let down = never_passes least (neg_ℤ (feature_sum j ps)) (λ m.
      let h = at_all (nothing k) (spike k j m) (nothing (row_count gs)) (length_nothing k) (length_spike k j m) (length_nothing (row_count gs)) in
      let g = given_under k j m ps targets in
      let z = no_rows in
      let e : pos m *ℤ neg_ℤ (feature_sum j ps) ≡ neg_ℤ (pos m *ℤ feature_sum j ps) = simp rings (omega (arith, ints)) in
      omega (arith, ints, h, g, z, e)) in
      omega (arith, ints, up, down)

  natural : AreNatural (flat ps)
  natural i =
      let under = never_passes least (neg_ℤ (entry (flat ps) i)) (λ m.
      let h = at_all (nothing k) (nothing k) (spike (row_count gs) i m) (length_nothing k) (length_nothing k) (length_spike (row_count gs) i m) in
      let g = given_nothing k ps in
      let d = dot_spike (row_count gs) i m (flat ps) (flat_long gs vs lv) in
      let e : pos m *ℤ neg_ℤ (entry (flat ps) i) ≡ neg_ℤ (pos m *ℤ entry (flat ps) i) = simp rings (omega (arith, ints)) in
      omega (arith, ints, h, g, d, e)) in
      omega (arith, ints, under)

pub refutations_balance : RefutationsBalance
refutations_balance k gs vs has lv refutes = record {
  points = all_points gs vs lv (natural k gs vs has lv refutes);
  features = sums k gs vs has lv refutes;
  some = least_is k gs vs has lv refutes;
}
