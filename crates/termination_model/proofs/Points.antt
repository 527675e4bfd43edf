-- A point of a support's system gives a mapping with its falls.
use Rattle.std.proofs.Common.{◌≡◌, ℕ, zero, suc, ◌+◌, ◌<◌, ◌≤◌, ◌==◌, ℤ, pos, negsuc, ◌+ℤ◌, ◌*ℤ◌, ◌≤ℤ◌, Bool, true, false, if◌then◌else◌, List, [], ◌∷◌, ◌++◌, map, take, drop, length, refl, ap, sym, subst, ◌∙◌, arith, inl, inr, ◌⊎◌}
use Rattle.std.specs.Prelude.{◌-ℤ◌, neg_ℤ, slice_index_or}
use Rattle.std.specs.List.{AllByRecursion}
use Rattle.std.proofs.lemmas.Int.{ints}
use Rattle.std.proofs.lemmas.List.{length-map, length-append}
use Rattle.exact128.proofs.Rings.{rings}
use Rattle.exact128.specs.Sums.{dot, entry}
use Rattle.cti_terms.specs.Tree.{Tree}
use Rattle.linear_rows.specs.Members.{In}
use Rattle.linear_rows.specs.Rows.{column, Holds}
use Rattle.linear_rows.specs.Proves.{Proves}
use Rattle.linear_rows.specs.Step.{columns}
use Rattle.linear_rows.specs.Solving.{zeros}
use Rattle.linear_rows.proofs.Members.{in-left, in-right, in-map, from_All}
use Rattle.termination_model.specs.sizes.Rows.{scaled, added}
use Rattle.termination_model.specs.claims.Claims.{Mapping}
use Rattle.termination_model.specs.mappings.View.{level_over, fall_over}
use Rattle.termination_model.proofs.Proved.{length-substituted}
use Rattle.termination_model.specs.mappings.OwnCalls.{OwnCall, Position, rows_before, head_sizes, call_sizes}
use Rattle.termination_model.specs.mappings.SupportSystem.{share, offset_share, less_one, position_entries, offset_entries, multiplier_entries, call_row, call_rows, row_count, rows_from, support_rows, value_of_position, value_of_member, mapping_at}
use Rattle.termination_model.specs.mappings.SupportLaws.{AreFalls, HasFew, HasWidths, PointsFall}
use Rattle.termination_model.proofs.Entries.{dot_parts, dot_zeros, entry_added, entry_scaled, constant_at, entry_substituted, entry_column, dot_difference, dot_negated, dot_none, only_at, dot_only, dot_sum_left}

weigh_one : (b : Bool) (k n w x : ℕ) (sizes : List (List ℤ)) → length sizes ≤ n
    → dot (map pos (map (λ a. if b then only_at k w a else 0) (columns 0 n))) (map (λ e. entry e x) sizes) ≡ (if b then entry (slice_index_or sizes k []) x else pos 0) *ℤ pos w
weigh_one true k n w x sizes l =
    let len = length-map sizes (λ e. entry e x) in
    let e = dot_only k 0 k n w (map (λ e. entry e x) sizes) (omega arith) (omega (arith, len)) in
    let c = entry_column sizes x k in
    e ∙ (λ i. pos w *ℤ c i) ∙ simp rings (omega (arith, ints))
weigh_one false k n w x sizes l = dot_none (columns 0 n) (map (λ e. entry e x) sizes) ∙ omega (arith, ints)

-- the products of the coefficients with a column of sizes
weigh : (ps : List Position) (cs : List ℕ) (q n x : ℕ) (sizes : List (List ℤ)) → length sizes ≤ n
    → dot (map pos (map (value_of_position ps cs q) (columns 0 n))) (map (λ e. entry e x) sizes) ≡ dot (map (share q sizes x) ps) (map pos cs)
unfolding dot
weigh [] cs q n x sizes l = dot_none (columns 0 n) (map (λ e. entry e x) sizes)
weigh (p ∷ ps) [] q n x sizes l = dot_none (columns 0 n) (map (λ e. entry e x) sizes)
weigh (p ∷ ps) (w ∷ ws) q n x sizes l =
    let split = dot_sum_left (λ a. if q == p.0 then only_at p.1 w a else 0) (value_of_position ps ws q) (columns 0 n) (map (λ e. entry e x) sizes) in
    let one = weigh_one (q == p.0) p.1 n w x sizes l in
    let rest = weigh ps ws q n x sizes l in
    omega (arith, ints, split, one, rest)

-- the offset in a column
weigh_offset : (members os : List ℕ) (q x : ℕ) → length os ≡ length members → constant_at x (pos (value_of_member members os q)) ≡ dot (map (offset_share q x) members) (map pos os)
unfolding dot
weigh_offset [] os q zero l = refl
weigh_offset [] os q (suc x) l = refl
weigh_offset (m ∷ ms) [] q x l = cc
weigh_offset (m ∷ ms) (w ∷ ws) q zero l = go (q == m) (weigh_offset ms ws q zero (omega arith))
  where
    go : (b : Bool) → pos (value_of_member ms ws q) ≡ dot (map (offset_share q zero) ms) (map pos ws)
        → pos ((if b then w else 0) + value_of_member ms ws q) ≡ (if b then pos 1 else pos 0) *ℤ pos w +ℤ dot (map (offset_share q zero) ms) (map pos ws)
    go true rest = omega (arith, ints, rest)
    go false rest = omega (arith, ints, rest)
weigh_offset (m ∷ ms) (w ∷ ws) q (suc x) l = let rest = weigh_offset ms ws q (suc x) (omega arith) in omega (arith, ints, rest)

pub map_together : (us vs : List ℕ) → map pos (us ++ vs) ≡ map pos us ++ map pos vs
map_together [] vs = refl
map_together (u ∷ us) vs = ap (λ s. pos u ∷ s) (map_together us vs)

pub in_columns : (n k j : ℕ) → k ≤ j → j < k + n → In j (columns k n)
in_columns zero k j l m = absurd (omega arith)
in_columns (suc n) k j l m = go (either k j l) (λ h. in_columns n (suc k) j h (omega arith))
  where
    either : (k j : ℕ) → k ≤ j → (k ≡ j) ⊎ (suc k ≤ j)
    either k j l = grind arith

    go : (k ≡ j) ⊎ (suc k ≤ j) → (suc k ≤ j → In j (columns (suc k) n)) → In j (k ∷ columns (suc k) n)
    go (inl e) rec = inl e
    go (inr h) rec = inr (rec h)

pub length_added : (n : ℕ) (xs ys : List ℤ) → length xs ≡ n → length ys ≤ n → length (added xs ys) ≡ n
length_added n [] [] h k = h
length_added n [] (y ∷ ys) h k = absurd (omega arith)
length_added n (x ∷ xs) [] h k = h
length_added zero (x ∷ xs) (y ∷ ys) h k = absurd (omega arith)
length_added (suc n) (x ∷ xs) (y ∷ ys) h k = ap suc (length_added n xs ys (omega arith) (omega arith))

pub length_zeros : (n : ℕ) → length (zeros n) ≡ n
length_zeros zero = refl
length_zeros (suc n) = ap suc (length_zeros n)

module _ (expression : ℕ → Tree → List ℤ) (l : Mapping) where
  all_widths : HasWidths expression → (n : ℕ) (ts : List Tree) → AllByRecursion (λ (r : List ℤ). length r ≡ suc n) (map (expression n) ts)
  all_widths w n [] = tt
  all_widths w n (t ∷ ts) = (w n t, all_widths w n ts)

  pub level_width : HasWidths expression → (n q : ℕ) (ts : List Tree) → length (level_over expression n q ts l) ≡ suc n
  level_width w n q ts = length-substituted n (map (expression n) ts) (pos (l.offset q) ∷ map pos (l.coefficients q)) (all_widths w n ts)

  -- the row of a fall has a number for each variable, and the constant
  pub fall_width : (o : OwnCall) → HasWidths expression → length (fall_over expression o.rule o.member o.call.args 1 l) ≡ suc o.rule.vars
  fall_width o w =
      let call = level_over expression o.rule.vars o.member o.call.args l in
      let a = level_width w o.rule.vars o.rule.member o.rule.args in
      let b = level_width w o.rule.vars o.member o.call.args in
      let c = length_added (suc o.rule.vars) call (pos 1 ∷ []) b (omega arith) in
      let d = length-map (added call (pos 1 ∷ [])) (λ x. negsuc 0 *ℤ x) in
      length_added (suc o.rule.vars) (level_over expression o.rule.vars o.rule.member o.rule.args l) (scaled (negsuc 0) (added call (pos 1 ∷ []))) a (omega (arith, c, d))

module _ (expression : ℕ → Tree → List ℤ) (positions : List Position) (members : List ℕ) (arity : ℕ → ℕ) (cs os : List ℕ) where
  abbrev l : Mapping
  l = mapping_at arity positions members cs os

  -- a level's number in a column
  pub level_entry : (n q : ℕ) (ts : List Tree) (x : ℕ) → length ts ≤ arity q → length os ≡ length members
      → entry (level_over expression n q ts l) x ≡ dot (map (offset_share q x) members) (map pos os) +ℤ dot (map (share q (map (expression n) ts) x) positions) (map pos cs)
  level_entry n q ts x few lo =
      let len = length-map ts (expression n) in
      let e = entry_substituted n (map (expression n) ts) (pos (l.offset q)) (map pos (l.coefficients q)) x in
      let a = weigh_offset members os q x lo in
      let b = weigh positions cs q (arity q) x (map (expression n) ts) (omega (arith, len)) in
      omega (arith, ints, e, a, b)

  -- the value of a call's row in a column
  row_value : (o : OwnCall) (x before after t : ℕ) (bs ms zs : List ℕ) → length cs ≡ length positions → length os ≡ length members → length bs ≡ before → length ms ≡ length (rows_before expression o)
      → dot (call_row expression positions members before after o x) (pos t ∷ map pos (cs ++ (os ++ (bs ++ (ms ++ zs)))))
      ≡ less_one x *ℤ pos t +ℤ (dot (position_entries expression positions members o x) (map pos cs) +ℤ (dot (offset_entries expression positions members o x) (map pos os)
      -ℤ dot (map pos ms) (column (rows_before expression o) x)))
  unfolding dot
  row_value o x before after t bs ms zs lc lo lb lm =
      let pe = position_entries expression positions members o x in
      let oe = offset_entries expression positions members o x in
      let me = multiplier_entries expression positions members o x in
      let m1 = map_together cs (os ++ (bs ++ (ms ++ zs))) in
      let m2 = map_together os (bs ++ (ms ++ zs)) in
      let m3 = map_together bs (ms ++ zs) in
      let m4 = map_together ms zs in
      let d1 = dot_parts pe (oe ++ (zeros before ++ (me ++ zeros after))) (map pos cs) (map pos os ++ (map pos bs ++ (map pos ms ++ map pos zs))) (omega (arith, length-map cs pos, length-map positions (λ p. share o.rule.member (head_sizes expression o) x p -ℤ share o.member (call_sizes expression o) x p))) in
      let d2 = dot_parts oe (zeros before ++ (me ++ zeros after)) (map pos os) (map pos bs ++ (map pos ms ++ map pos zs)) (omega (arith, length-map os pos, length-map members (λ m. offset_share o.rule.member x m -ℤ offset_share o.member x m))) in
      let d3 = dot_parts (zeros before) (me ++ zeros after) (map pos bs) (map pos ms ++ map pos zs) (omega (arith, length_zeros before, length-map bs pos)) in
      let d4 = dot_parts me (zeros after) (map pos ms) (map pos zs) (omega (arith, length-map ms pos, length-map (rows_before expression o) (λ r. neg_ℤ (entry r x)))) in
      let z1 = dot_zeros before (map pos bs) in
      let z2 = dot_zeros after (map pos zs) in
      let n = dot_negated (λ r. entry r x) (rows_before expression o) (map pos ms) in
      rw (m1, m2, m3, m4) (omega (arith, ints, d1, d2, d3, d4, z1, z2, n))

  -- the number of the fall in a column
  fall_entry : (o : OwnCall) (x : ℕ) → HasFew arity o → length os ≡ length members
      → entry (fall_over expression o.rule o.member o.call.args 1 l) x
      ≡ less_one x +ℤ (dot (position_entries expression positions members o x) (map pos cs) +ℤ dot (offset_entries expression positions members o x) (map pos os))
  fall_entry o x few lo =
      let head = level_over expression o.rule.vars o.rule.member o.rule.args l in
      let call = level_over expression o.rule.vars o.member o.call.args l in
      let e1 = entry_added head (scaled (negsuc 0) (added call (pos 1 ∷ []))) x in
      let e2 = entry_scaled (negsuc 0) (added call (pos 1 ∷ [])) x in
      let e3 = entry_added call (pos 1 ∷ []) x in
      let e4 = one_at x in
      let h = level_entry o.rule.vars o.rule.member o.rule.args x few.0 lo in
      let k = level_entry o.rule.vars o.member o.call.args x few.1 lo in
      let p = dot_difference (share o.rule.member (head_sizes expression o) x) (share o.member (call_sizes expression o) x) positions (map pos cs) in
      let q = dot_difference (offset_share o.rule.member x) (offset_share o.member x) members (map pos os) in
      omega (arith, ints, e1, e2, e3, e4, h, k, p, q)
    where
      one_at : (x : ℕ) → entry (pos 1 ∷ []) x ≡ neg_ℤ (less_one x)
      one_at zero = refl
      one_at (suc x) = refl

  fall_long : (o : OwnCall) → HasWidths expression → length (fall_over expression o.rule o.member o.call.args 1 l) ≡ suc o.rule.vars
  fall_long o w = fall_width expression l o w

  -- the call's rows prove its fall
  call_falls : (o : OwnCall) (before after t : ℕ) (bs ms zs : List ℕ) → HasWidths expression → HasFew arity o → 1 ≤ t → length cs ≡ length positions → length os ≡ length members → length bs ≡ before
      → length ms ≡ length (rows_before expression o)
      → ((row : List ℤ) → In row (call_rows expression positions members before after o) → Holds row t (cs ++ (os ++ (bs ++ (ms ++ zs)))))
      → Proves (rows_before expression o) (map pos ms) (fall_over expression o.rule o.member o.call.args 1 l) (pos 1)
  call_falls o before after t bs ms zs width few ht lc lo lb lm holds x lx =
      let inside = in_columns (suc o.rule.vars) 0 x (omega arith) (below x lx) in
      let h = holds (call_row expression positions members before after o x) (in-map (call_row expression positions members before after o) (columns 0 (suc o.rule.vars)) x inside) in
      let v = row_value o x before after t bs ms zs lc lo lb lm in
      let f = fall_entry o x few lo in
      let one = no_more x t ht in
      omega (arith, ints, h, v, f, one)
    where
      below : (x : ℕ) → x < length (fall_over expression o.rule o.member o.call.args 1 l) → x < 0 + suc o.rule.vars
      below x lx = let e = fall_long o width in omega arith

      no_more : (x t : ℕ) → 1 ≤ t → (less_one x *ℤ pos t) ≤ℤ less_one x
      no_more zero t h = omega (arith, ints)
      no_more (suc x) t h = omega (arith, ints)

  -- multipliers are split into those of a call and the others
  split_off : (n : ℕ) (ms : List ℕ) → take n ms ++ drop n ms ≡ ms
  split_off zero ms = refl
  split_off (suc n) [] = refl
  split_off (suc n) (m ∷ ms) = ap (λ s. m ∷ s) (split_off n ms)

  taken : (n : ℕ) (ms : List ℕ) → n ≤ length ms → length (take n ms) ≡ n
  taken zero ms l = refl
  taken (suc n) [] l = absurd (omega arith)
  taken (suc n) (m ∷ ms) l = ap suc (taken n ms (omega arith))

  dropped : (n : ℕ) (ms : List ℕ) (k : ℕ) → length ms ≡ n + k → length (drop n ms) ≡ k
  dropped zero ms k l = omega arith
  dropped (suc n) [] k l = absurd (omega arith)
  dropped (suc n) (m ∷ ms) k l = dropped n ms k (omega arith)

  together : (xs ys zs : List ℕ) → (xs ++ ys) ++ zs ≡ xs ++ (ys ++ zs)
  together [] ys zs = refl
  together (x ∷ xs) ys zs = ap (λ s. x ∷ s) (together xs ys zs)

  calls_fall : (calls : List OwnCall) (t : ℕ) (bs ms : List ℕ) → HasWidths expression → AllByRecursion (HasFew arity) calls → 1 ≤ t → length cs ≡ length positions → length os ≡ length members
      → length ms ≡ row_count expression positions members calls
      → ((row : List ℤ) → In row (rows_from expression positions members (length bs) calls) → Holds row t (cs ++ (os ++ (bs ++ ms))))
      → AreFalls expression l calls ms
  calls_fall [] t bs ms width few ht lc lo lm holds = tt
  calls_fall (o ∷ calls) t bs ms width few ht lc lo lm holds =
      let n = length (rows_before expression o) in
      let rest = row_count expression positions members calls in
      let own = taken n ms (omega arith) in
      let whole = split_off n ms in
      let moved : bs ++ ms ≡ (bs ++ take n ms) ++ drop n ms = ap (λ s. bs ++ s) (sym whole) ∙ sym (together bs (take n ms) (drop n ms)) in
      let long : length (bs ++ take n ms) ≡ length bs + n = omega (arith, length-append bs (take n ms), own) in (
        call_falls o (length bs) rest t bs (take n ms) (drop n ms) width few.0 ht lc lo refl own
            (λ row i. subst (λ z. Holds row t (cs ++ (os ++ (bs ++ z)))) (sym whole) (holds row (in-left (call_rows expression positions members (length bs) rest o) (rows_from expression positions members (length bs + n) calls) row i))),
        calls_fall calls t (bs ++ take n ms) (drop n ms) width few.1 ht lc lo (dropped n ms rest lm)
            (λ row i. subst (λ z. Holds row t (cs ++ (os ++ z))) moved
            (holds row (in-right (call_rows expression positions members (length bs) rest o) (rows_from expression positions members (length bs + n) calls) row (subst (λ z. In row (rows_from expression positions members z calls)) long i)))),
      )

pub points_fall : PointsFall
points_fall expression positions members arity calls t cs os ms width few ht lc lo lm hold =
    calls_fall expression positions members arity cs os calls t [] ms width few ht lc lo lm
    (λ row i. from_All (λ r. Holds r t (cs ++ (os ++ ms))) (support_rows expression positions members calls) row hold i)
