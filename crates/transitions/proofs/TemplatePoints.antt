-- A point of a template proves its targets, and proofs are points.
use Rattle.std.proofs.Common.{◌≡◌, ℕ, zero, suc, ◌+◌, ◌*◌, ◌<◌, ◌≤◌, ℤ, pos, neg_ℤ, ◌+ℤ◌, ◌*ℤ◌, List, [], ◌∷◌, ◌++◌, map, take, drop, length, replicate, refl, ap, sym, subst, ◌∙◌, arith, inl, inr}
use Rattle.std.specs.List.{AllByRecursion}
use Rattle.std.proofs.lemmas.Int.{ints}
use Rattle.std.proofs.lemmas.List.{length-append}
use Rattle.exact128.proofs.Rings.{rings}
use Rattle.exact128.specs.Sums.{dot, entry}
use Rattle.linear_rows.specs.Members.{In}
use Rattle.linear_rows.specs.Rows.{column, Holds}
use Rattle.linear_rows.specs.RowSums.{scaled, added}
use Rattle.linear_rows.specs.Replacing.{combined}
use Rattle.linear_rows.specs.Proves.{Proves}
use Rattle.linear_rows.specs.Step.{columns}
use Rattle.linear_rows.proofs.Members.{in-left, in-right, in-map, of-append, of-map, from_All, to_All}
use Rattle.transitions.specs.Templates.{Target, row_at, least_in, row_count, template_row, template_rows_from, template_rows, differences}
use Rattle.transitions.specs.TemplateLaws.{HasFeatures, AreProved, PointsProve, ProofsArePoints}
use Rattle.transitions.proofs.TemplateValues.{dot_swap, row_value}
use Rattle.termination_model.proofs.Entries.{constant_at, entry_substituted}
use Rattle.termination_model.proofs.Points.{in_columns}
use Rattle.termination_model.proofs.Totals.{taken, dropped}
use Rattle.termination_model.proofs.TurnPoints.{split_off, together}

-- ---- how long the row of a target is
pub longest : (xs ys : List ℤ) (n : ℕ) → length xs ≤ n → length ys ≤ n → length (added xs ys) ≤ n
longest [] ys n h k = k
longest (x ∷ xs) [] n h k = h
longest (x ∷ xs) (y ∷ ys) zero h k = absurd (omega arith)
longest (x ∷ xs) (y ∷ ys) (suc n) h k = let rest = longest xs ys n (omega arith) (omega arith) in omega arith

pub length_scaled : (m : ℤ) (xs : List ℤ) → length (scaled m xs) ≡ length xs
length_scaled m [] = refl
length_scaled m (x ∷ xs) = ap suc (length_scaled m xs)

pub combined_long : (zs : List ℤ) (fs : List (List ℤ)) (n : ℕ) → AllByRecursion (λ (f : List ℤ). length f ≤ n) fs → length (combined zs fs) ≤ n
combined_long [] fs n h = omega arith
combined_long (z ∷ zs) [] n h = omega arith
combined_long (z ∷ zs) (f ∷ fs) n h =
    let own = length_scaled z f in
    longest (scaled z f) (combined zs fs) n (omega (arith, own, h.0)) (combined_long zs fs n h.1)

pub length_replicated : (n : ℕ) → length (replicate n (pos 0)) ≡ n
length_replicated zero = refl
length_replicated (suc n) = ap suc (length_replicated n)

row_long : (g : Target) (k : ℕ) (zs : List ℤ) (t : ℕ) → HasFeatures k g → length (row_at g zs t) ≤ suc g.vars
row_long g k zs t has =
    longest (neg_ℤ (pos (g.least * t)) ∷ replicate g.vars (pos 0)) (combined zs g.features) (suc g.vars)
    (omega (arith, length_replicated g.vars)) (combined_long zs g.features (suc g.vars) has.widths)

pub at_least : (xs ys : List ℤ) → length xs ≤ length (added xs ys)
at_least [] ys = omega arith
at_least (x ∷ xs) [] = omega arith
at_least (x ∷ xs) (y ∷ ys) = let rest = at_least xs ys in omega arith

pub row_longer : (g : Target) (zs : List ℤ) (t : ℕ) → suc g.vars ≤ length (row_at g zs t)
row_longer g zs t =
    let own = at_least (neg_ℤ (pos (g.least * t)) ∷ replicate g.vars (pos 0)) (combined zs g.features) in
    omega (arith, own, length_replicated g.vars)

-- what is to be exceeded, in a column of the target's row
least_there : (least t x : ℕ) → constant_at x (neg_ℤ (pos (least * t))) ≡ least_in least x *ℤ pos t
least_there least t zero =
    let product : pos (least * t) ≡ pos least *ℤ pos t = refl in
    let negative : neg_ℤ (pos least) *ℤ pos t ≡ neg_ℤ (pos least *ℤ pos t) = simp rings (omega (arith, ints)) in
    omega (arith, ints, product, negative)
least_there least t (suc x) = omega (arith, ints)

pub row_entry : (g : Target) (zs : List ℤ) (t x : ℕ) → entry (row_at g zs t) x ≡ (least_in g.least x *ℤ pos t) +ℤ dot (column g.features x) zs
row_entry g zs t x =
    let e = entry_substituted g.vars g.features (neg_ℤ (pos (g.least * t))) zs x in
    let c = least_there g.least t x in
    let s = dot_swap zs (column g.features x) in
    omega (arith, ints, e, c, s)

module _ (k : ℕ) (cs ds : List ℕ) (lc : length cs ≡ k) (ld : length ds ≡ k) where
  abbrev zs : List ℤ
  zs = differences cs ds

  -- ---- from a point to proofs
  one_proved : (g : Target) (before after t : ℕ) (bs ms rest : List ℕ) → HasFeatures k g → length bs ≡ before → length ms ≡ length g.rows
      → ((x : ℕ) → x < suc g.vars → Holds (template_row before after g x) t (cs ++ (ds ++ (bs ++ (ms ++ rest))))) → Proves g.rows (map pos ms) (row_at g zs t) (pos 1)
  one_proved g before after t bs ms rest has lb lm holds x l =
      let h = holds x (omega (arith, l, row_long g k zs t has)) in
      let count = has.count in
      let v = row_value g x before after t cs ds bs ms rest (omega (arith, lc, count)) (omega (arith, ld, count)) lb lm in
      let e = row_entry g zs t x in
      omega (arith, ints, h, v, e)

  all_proved : (gs : List Target) (t : ℕ) (bs ms : List ℕ) → AllByRecursion (HasFeatures k) gs → length ms ≡ row_count gs
      → ((row : List ℤ) → In row (template_rows_from (length bs) gs) → Holds row t (cs ++ (ds ++ (bs ++ ms)))) → AreProved zs t gs ms
  all_proved [] t bs ms has lm holds = tt
  all_proved (g ∷ gs) t bs ms has lm holds =
      let n = length g.rows in
      let own = taken n ms (omega arith) in
      let whole = split_off n ms in
      let moved : (bs ++ take n ms) ++ drop n ms ≡ bs ++ ms = together bs (take n ms) (drop n ms) ∙ ap (λ s. bs ++ s) whole in
      let long : length bs + n ≡ length (bs ++ take n ms) = omega (arith, length-append bs (take n ms), own) in
      let own_rows = map (template_row (length bs) (row_count gs) g) (columns 0 (suc g.vars)) in
      let other_rows = template_rows_from (length bs + n) gs in (
        one_proved g (length bs) (row_count gs) t bs (take n ms) (drop n ms) has.0 refl own
            (λ x l. subst (λ z. Holds (template_row (length bs) (row_count gs) g x) t (cs ++ (ds ++ (bs ++ z)))) (sym whole)
            (holds (template_row (length bs) (row_count gs) g x) (in-left own_rows other_rows (template_row (length bs) (row_count gs) g x)
            (in-map (template_row (length bs) (row_count gs) g) (columns 0 (suc g.vars)) x (in_columns (suc g.vars) 0 x (omega arith) (omega arith)))))),
        all_proved gs t (bs ++ take n ms) (drop n ms) has.1 (dropped n ms (row_count gs) lm)
            (λ row i. subst (λ z. Holds row t (cs ++ (ds ++ z))) (sym moved)
            (holds row (in-right own_rows other_rows row (subst (λ z. In row (template_rows_from z gs)) (sym long) i)))),
      )

  -- ---- from proofs to a point
  one_holds : (g : Target) (before after : ℕ) (bs ms rest : List ℕ) (x : ℕ) → HasFeatures k g → length bs ≡ before → length ms ≡ length g.rows
      → x < suc g.vars → Proves g.rows (map pos ms) (row_at g zs 1) (pos 1) → Holds (template_row before after g x) 1 (cs ++ (ds ++ (bs ++ (ms ++ rest))))
  one_holds g before after bs ms rest x has lb lm l proved =
      let h = proved x (omega (arith, l, row_longer g zs 1)) in
      let count = has.count in
      let v = row_value g x before after 1 cs ds bs ms rest (omega (arith, lc, count)) (omega (arith, ld, count)) lb lm in
      let e = row_entry g zs 1 x in
      omega (arith, ints, h, v, e)

  below_columns : (n i x : ℕ) → In x (columns i n) → x < i + n
  below_columns zero i x h = absurd h
  below_columns (suc n) i x (inl e) = omega (arith, e)
  below_columns (suc n) i x (inr h) = let r = below_columns n (suc i) x h in omega arith

  all_hold : (gs : List Target) (bs ms : List ℕ) → AllByRecursion (HasFeatures k) gs → length ms ≡ row_count gs → AreProved zs 1 gs ms
      → (row : List ℤ) → In row (template_rows_from (length bs) gs) → Holds row 1 (cs ++ (ds ++ (bs ++ ms)))
  all_hold [] bs ms has lm proved row i = absurd i
  all_hold (g ∷ gs) bs ms has lm proved row i =
      let n = length g.rows in
      let own = taken n ms (omega arith) in
      let whole = split_off n ms in
      let moved : (bs ++ take n ms) ++ drop n ms ≡ bs ++ ms = together bs (take n ms) (drop n ms) ∙ ap (λ s. bs ++ s) whole in
      let long : length bs + n ≡ length (bs ++ take n ms) = omega (arith, length-append bs (take n ms), own) in
      let own_rows = map (template_row (length bs) (row_count gs) g) (columns 0 (suc g.vars)) in
      let other_rows = template_rows_from (length bs + n) gs in
      elim (of-append own_rows other_rows row i) [
        | inl h ↦
            let (x, inside, same) = of-map (template_row (length bs) (row_count gs) g) (columns 0 (suc g.vars)) row h in
            subst (λ r. Holds r 1 (cs ++ (ds ++ (bs ++ ms)))) same
            (subst (λ z. Holds (template_row (length bs) (row_count gs) g x) 1 (cs ++ (ds ++ (bs ++ z)))) whole
            (one_holds g (length bs) (row_count gs) bs (take n ms) (drop n ms) x has.0 refl own (omega (arith, below_columns (suc g.vars) 0 x inside)) proved.0))
        | inr h ↦
            subst (λ z. Holds row 1 (cs ++ (ds ++ z))) moved
            (all_hold gs (bs ++ take n ms) (drop n ms) has.1 (dropped n ms (row_count gs) lm) proved.1 row
            (subst (λ z. In row (template_rows_from z gs)) long h))
      ]

pub points_prove : PointsProve
points_prove k gs t cs ds ms has lc ld lm hold =
    all_proved k cs ds lc ld gs t [] ms has lm (λ row i. from_All (λ row. Holds row t (cs ++ (ds ++ ms))) (template_rows gs) row hold i)

pub proofs_are_points : ProofsArePoints
proofs_are_points k gs cs ds ms has lc ld lm proved =
    to_All (λ row. Holds row 1 (cs ++ (ds ++ ms))) (template_rows gs) (all_hold k cs ds lc ld gs [] ms has lm proved)
