-- Multipliers that refute the system of a support are a refutation at its positions.
use Rattle.std.proofs.Common.{◌≡◌, ℕ, zero, suc, ◌+◌, ◌<◌, ◌≤◌, ◌==◌, ℤ, pos, negsuc, ◌+ℤ◌, ◌*ℤ◌, ◌≤ℤ◌, Bool, true, false, if◌then◌else◌, List, [], ◌∷◌, ◌++◌, map, take, drop, length, replicate, slice_get, get_or, Some, refl, ap, sym, subst, ◌∙◌, arith, inl, inr, ◌⊎◌}
use Rattle.std.specs.Prelude.{◌-ℤ◌, neg_ℤ, slice_index_or}
use Rattle.std.specs.List.{AllByRecursion}
use Rattle.std.proofs.lemmas.Int.{ints}
use Rattle.std.proofs.lemmas.List.{length-map}
use Rattle.exact128.specs.Sums.{dot, entry}
use Rattle.cti_terms.specs.Tree.{Tree}
use Rattle.linear_rows.specs.Members.{In}
use Rattle.linear_rows.specs.Rows.{column, AllHold}
use Rattle.linear_rows.specs.Proves.{Refutes, goal_number}
use Rattle.linear_rows.specs.Step.{columns}
use Rattle.linear_rows.specs.Solving.{zeros}
use Rattle.termination_model.specs.claims.Claims.{SomeOf}
use Rattle.termination_model.specs.sizes.Rows.{added}
use Rattle.termination_model.specs.mappings.Refutation.{Pair, Load, gather, head_load, call_load, values_at, IsPair}
use Rattle.termination_model.specs.mappings.View.{Rule}
use Rattle.termination_model.specs.mappings.OwnCalls.{OwnCall, Position, rows_before, head_sizes, call_sizes}
use Rattle.termination_model.specs.mappings.SupportSystem.{share, offset_share, less_one, position_entries, offset_entries, multiplier_entries, call_row, row_count, rows_from, support_rows, unknowns}
use Rattle.termination_model.specs.mappings.Excluding.{IsOwnCall, IsLive, IsRefutationAt, pairs_at, number_count, MultipliersRefute}
use Rattle.termination_model.proofs.Entries.{dot_nil, entry_zeros, entry_added, dot_difference, dot_negated}
use Rattle.termination_model.proofs.Totals.{dot_comm, dot_entries, entry_left, entry_right, entry_map, there, taken, dropped, total, blocks, column_total}
use Rattle.termination_model.proofs.Totals.{shifted}

at_place : {X : Type 0} (xs : List X) (x : X) → In x xs → (i : ℕ) × (slice_get xs i ≡ Some x)
at_place [] x h = absurd h
at_place (y ∷ ys) x (inl e) = (0, ap Some e)
at_place (y ∷ ys) x (inr h) = let r = at_place ys x h in (suc r.0, r.1)

pub length_zeros : (n : ℕ) → length (zeros n) ≡ n
length_zeros zero = refl
length_zeros (suc n) = ap suc (length_zeros n)

length_replicated : (n : ℕ) → length (replicate n (pos 0)) ≡ n
length_replicated zero = refl
length_replicated (suc n) = ap suc (length_replicated n)

-- ---- totals of parts
pub total_same : (f g : OwnCall → ℕ → List ℕ → ℤ) → (os : List OwnCall) (vs : List ℕ) → length vs ≡ number_count os
    → ((o : OwnCall) (t : ℕ) (w : List ℕ) → length w ≡ o.rule.vars → f o t w ≡ g o t w) → total f os vs ≡ total g os vs
total_same f g [] vs l h = refl
total_same f g (o ∷ os) [] l h = refl
total_same f g (o ∷ os) (t ∷ vs) l h =
    let own = h o t (take o.rule.vars vs) (taken o.rule.vars vs (omega arith)) in
    let rest = total_same f g os (drop o.rule.vars vs) (dropped o.rule.vars vs (number_count os) (omega arith)) h in
    λ i. own i +ℤ rest i

total_less : (f g : OwnCall → ℕ → List ℕ → ℤ) (os : List OwnCall) (vs : List ℕ) → total (λ o t w. f o t w -ℤ g o t w) os vs ≡ total f os vs -ℤ total g os vs
total_less f g [] vs = omega (arith, ints)
total_less f g (o ∷ os) [] = omega (arith, ints)
total_less f g (o ∷ os) (t ∷ vs) = let rest = total_less f g os (drop o.rule.vars vs) in omega (arith, ints, rest)

-- a sum of loads, entry by entry
gathered : (q i : ℕ) (h : Load) (hs : List Load) → entry (gather q (h ∷ hs)) i ≡ (if h.0 == q then entry h.1 i else pos 0) +ℤ entry (gather q hs) i
gathered q i h hs = go (h.0 == q)
  where
    go : (b : Bool) → entry (if b then added h.1 (gather q hs) else gather q hs) i ≡ (if b then entry h.1 i else pos 0) +ℤ entry (gather q hs) i
    go true = entry_added h.1 (gather q hs) i
    go false = omega (arith, ints)

map_less : {X : Type 0} (f g : X → ℤ) (v : List ℤ) (xs : List X) → dot v (map (λ x. f x -ℤ g x) xs) ≡ dot v (map f xs) -ℤ dot v (map g xs)
map_less f g v xs =
    let a = dot_comm v (map (λ x. f x -ℤ g x) xs) in
    let b = dot_comm v (map f xs) in
    let c = dot_comm v (map g xs) in
    let d = dot_difference f g xs v in
    omega (arith, ints, a, b, c, d)

entry_dots : (es : List (List ℤ)) (v : List ℤ) (a : ℕ) → entry (map (λ e. dot e v) es) a ≡ dot (slice_index_or es a []) v
unfolding dot
entry_dots [] v a = refl
entry_dots (e ∷ es) v zero = refl
entry_dots (e ∷ es) v (suc a) = entry_dots es v a

pub dot_none_over : (v : List ℤ) (ks : List ℕ) → dot v (map (λ x. pos 0) ks) ≡ pos 0
unfolding dot
dot_none_over [] ks = refl
dot_none_over (x ∷ v) [] = refl
dot_none_over (x ∷ v) (k ∷ ks) = let rest = dot_none_over v ks in omega (arith, ints, rest)

-- the products with the shares of a position, and of an offset
share_total : (q a n t : ℕ) (w : List ℕ) (sizes : List (List ℤ)) (p : Position) → length w ≡ n
    → dot (map pos (t ∷ w)) (map (λ x. share q sizes x p) (columns 0 (suc n))) ≡ (if q == p.0 then dot (slice_index_or sizes p.1 []) (map pos (t ∷ w)) else pos 0)
share_total q a n t w sizes p l = go (q == p.0)
  where
    long : suc n ≡ length (map pos (t ∷ w))
    long = omega (arith, length-map (t ∷ w) pos)

    go : (b : Bool) → dot (map pos (t ∷ w)) (map (λ x. if b then entry (slice_index_or sizes p.1 []) x else pos 0) (columns 0 (suc n)))
        ≡ (if b then dot (slice_index_or sizes p.1 []) (map pos (t ∷ w)) else pos 0)
    go true = ap (λ z. dot (map pos (t ∷ w)) (map (λ x. entry (slice_index_or sizes p.1 []) x) (columns 0 z))) long ∙ dot_entries (slice_index_or sizes p.1 []) (map pos (t ∷ w))
    go false = dot_none_over (map pos (t ∷ w)) (columns 0 (suc n))

offset_total : (q m n t : ℕ) (w : List ℕ) → dot (map pos (t ∷ w)) (map (λ x. offset_share q x m) (columns 0 (suc n))) ≡ (if q == m then pos t else pos 0)
unfolding dot
offset_total q m n t w =
    let s = ap (dot (map pos w)) (shifted (λ x. offset_share q x m) 0 n) in
    let z = dot_none_over (map pos w) (columns 0 n) in
    go (q == m) (s ∙ z)
  where
    go : (b : Bool) → dot (map pos w) (map (λ x. offset_share q x m) (columns 1 n)) ≡ pos 0
        → (pos t *ℤ (if b then pos 1 else pos 0) +ℤ dot (map pos w) (map (λ x. offset_share q x m) (columns 1 n))) ≡ (if b then pos t else pos 0)
    go true e = omega (arith, ints, e)
    go false e = omega (arith, ints, e)

pub one_total : (n t : ℕ) (w : List ℕ) → dot (map pos (t ∷ w)) (map less_one (columns 0 (suc n))) ≡ neg_ℤ (pos t)
unfolding dot
one_total n t w =
    let s = ap (dot (map pos w)) (shifted less_one 0 n) in
    let z = dot_none_over (map pos w) (columns 0 n) in
    omega (arith, ints, s, z)

module _ (expression : ℕ → Tree → List ℤ) (view : List Rule) (positions : List Position) (members : List ℕ) where
  -- the columns of positions, members and constants
  pub constant_entry : (b after : ℕ) (o : OwnCall) (x : ℕ) → entry (call_row expression positions members b after o x) 0 ≡ less_one x
  constant_entry b after o x = refl

  position_entry : (i : ℕ) (p : Position) → slice_get positions i ≡ Some p → (b after : ℕ) (o : OwnCall) (x : ℕ)
      → entry (call_row expression positions members b after o x) (suc i) ≡ share o.rule.member (head_sizes expression o) x p -ℤ share o.member (call_sizes expression o) x p
  position_entry i p h b after o x =
      let f = λ (p : Position). share o.rule.member (head_sizes expression o) x p -ℤ share o.member (call_sizes expression o) x p in
      entry_left (position_entries expression positions members o x) (offset_entries expression positions members o x ++ (zeros b ++ (multiplier_entries expression positions members o x ++ zeros after))) i
      (omega (arith, length-map positions f, there positions i p h))
      ∙ entry_map f positions i p h

  member_entry : (j q : ℕ) → slice_get members j ≡ Some q → (b after : ℕ) (o : OwnCall) (x : ℕ)
      → entry (call_row expression positions members b after o x) (suc (length positions + j)) ≡ offset_share o.rule.member x q -ℤ offset_share o.member x q
  member_entry j q h b after o x =
      let f = λ (p : Position). share o.rule.member (head_sizes expression o) x p -ℤ share o.member (call_sizes expression o) x p in
      let g = λ (m : ℕ). offset_share o.rule.member x m -ℤ offset_share o.member x m in
      entry_right (position_entries expression positions members o x) (offset_entries expression positions members o x ++ (zeros b ++ (multiplier_entries expression positions members o x ++ zeros after)))
      (length positions) (length positions + j) j (length-map positions f) refl
      ∙ entry_left (offset_entries expression positions members o x) (zeros b ++ (multiplier_entries expression positions members o x ++ zeros after)) j (omega (arith, length-map members g, there members j q h))
      ∙ entry_map g members j q h

  -- sums of loads as totals
  head_gathered : (q i : ℕ) (os : List OwnCall) (vs : List ℕ) → entry (gather q (map (head_load expression) (pairs_at os vs))) i
      ≡ total (λ o t w. if o.rule.member == q then entry (values_at expression o.rule.vars w t o.rule.args) i else pos 0) os vs
  head_gathered q i [] vs = refl
  head_gathered q i (o ∷ os) [] = refl
  head_gathered q i (o ∷ os) (t ∷ vs) =
      gathered q i (o.rule.member, values_at expression o.rule.vars (take o.rule.vars vs) t o.rule.args) (map (head_load expression) (pairs_at os (drop o.rule.vars vs)))
      ∙ ap (λ z. (if o.rule.member == q then entry (values_at expression o.rule.vars (take o.rule.vars vs) t o.rule.args) i else pos 0) +ℤ z) (head_gathered q i os (drop o.rule.vars vs))

  call_gathered : (q i : ℕ) (os : List OwnCall) (vs : List ℕ) → entry (gather q (map (call_load expression) (pairs_at os vs))) i
      ≡ total (λ o t w. if o.member == q then entry (values_at expression o.rule.vars w t o.call.args) i else pos 0) os vs
  call_gathered q i [] vs = refl
  call_gathered q i (o ∷ os) [] = refl
  call_gathered q i (o ∷ os) (t ∷ vs) =
      gathered q i (o.member, values_at expression o.rule.vars (take o.rule.vars vs) t o.call.args) (map (call_load expression) (pairs_at os (drop o.rule.vars vs)))
      ∙ ap (λ z. (if o.member == q then entry (values_at expression o.rule.vars (take o.rule.vars vs) t o.call.args) i else pos 0) +ℤ z) (call_gathered q i os (drop o.rule.vars vs))

  -- the columns of multipliers
  abbrev place : ℕ → ℕ
  place j = suc (length positions + (length members + j))

  row_end : (b after : ℕ) (o : OwnCall) (x j : ℕ) → entry (call_row expression positions members b after o x) (place j) ≡ entry (zeros b ++ (multiplier_entries expression positions members o x ++ zeros after)) j
  row_end b after o x j =
      let f = λ (p : Position). share o.rule.member (head_sizes expression o) x p -ℤ share o.member (call_sizes expression o) x p in
      let g = λ (m : ℕ). offset_share o.rule.member x m -ℤ offset_share o.member x m in
      entry_right (position_entries expression positions members o x) (offset_entries expression positions members o x ++ (zeros b ++ (multiplier_entries expression positions members o x ++ zeros after)))
      (length positions) (length positions + (length members + j)) (length members + j) (length-map positions f) refl
      ∙ entry_right (offset_entries expression positions members o x) (zeros b ++ (multiplier_entries expression positions members o x ++ zeros after)) (length members) (length members + j) j (length-map members g) refl

  before_none : (b after : ℕ) (o : OwnCall) (x j : ℕ) → j < b → entry (call_row expression positions members b after o x) (place j) ≡ pos 0
  before_none b after o x j l =
      row_end b after o x j ∙ entry_left (zeros b) (multiplier_entries expression positions members o x ++ zeros after) j (omega (arith, length_zeros b)) ∙ entry_zeros b j

  own_entry : (b after : ℕ) (o : OwnCall) (x k : ℕ) (d : List ℤ) → k < length (rows_before expression o)
      → entry (call_row expression positions members b after o x) (place (b + k)) ≡ neg_ℤ (entry (get_or (rows_before expression o) k d) x)
  own_entry b after o x k d l =
      row_end b after o x (b + k)
      ∙ entry_right (zeros b) (multiplier_entries expression positions members o x ++ zeros after) b (b + k) k (length_zeros b) refl
      ∙ entry_left (multiplier_entries expression positions members o x) (zeros after) k (omega (arith, length-map (rows_before expression o) (λ r. neg_ℤ (entry r x))))
      ∙ mapped (rows_before expression o) k l
    where
      mapped : (rows : List (List ℤ)) (k : ℕ) → k < length rows → entry (map (λ r. neg_ℤ (entry r x)) rows) k ≡ neg_ℤ (entry (get_or rows k d) x)
      mapped [] k l = absurd (omega arith)
      mapped (r ∷ rows) zero l = refl
      mapped (r ∷ rows) (suc k) l = mapped rows k (omega arith)

  after_none : (b after : ℕ) (o : OwnCall) (x r : ℕ) → entry (call_row expression positions members b after o x) (place ((b + length (rows_before expression o)) + r)) ≡ pos 0
  after_none b after o x r =
      let n = length (rows_before expression o) in
      row_end b after o x ((b + n) + r)
      ∙ entry_right (zeros b) (multiplier_entries expression positions members o x ++ zeros after) b ((b + n) + r) (n + r) (length_zeros b) (omega arith)
      ∙ entry_right (multiplier_entries expression positions members o x) (zeros after) n (n + r) r (length-map (rows_before expression o) (λ r. neg_ℤ (entry r x))) refl
      ∙ entry_zeros after r

  none_at : (n : ℕ) (v : List ℤ) (f : ℕ → ℤ) → ((x : ℕ) → f x ≡ pos 0) → dot v (map f (columns 0 n)) ≡ pos 0
  none_at n v f h = ap (dot v) (same (columns 0 n)) ∙ dot_none_over v (columns 0 n)
    where
      same : (ks : List ℕ) → map f ks ≡ map (λ x. pos 0) ks
      same [] = refl
      same (k ∷ ks) = let a = h k in let b = same ks in λ i. a i ∷ b i

  later_none : (j b : ℕ) (os : List OwnCall) (us : List ℕ) → j < b → length us ≡ number_count os → dot (map pos us) (column (rows_from expression positions members b os) (place j)) ≡ pos 0
  unfolding dot
  later_none j b [] us l len = dot_nil (map pos us)
  later_none j b (o ∷ os) [] l len = absurd (omega arith)
  later_none j b (o ∷ os) (t ∷ us) l len =
      let n = o.rule.vars in
      let split = blocks expression positions members b (place j) o os t us (omega arith) in
      let own = none_at (suc n) (map pos (t ∷ take n us)) (λ x. entry (call_row expression positions members b (row_count expression positions members os) o x) (place j)) (λ x. before_none b (row_count expression positions members os) o x j l) in
      let rest = later_none j (b + length (rows_before expression o)) os (drop n us) (omega arith) (dropped n us (number_count os) (omega arith)) in
      omega (arith, ints, split, own, rest)

  own_value : (b after : ℕ) (o : OwnCall) (t : ℕ) (w : List ℕ) (k : ℕ) (d : List ℤ) → length w ≡ o.rule.vars → k < length (rows_before expression o)
      → dot (map pos (t ∷ w)) (map (λ x. entry (call_row expression positions members b after o x) (place (b + k))) (columns 0 (suc o.rule.vars))) ≡ neg_ℤ (dot (get_or (rows_before expression o) k d) (map pos (t ∷ w)))
  own_value b after o t w k d len l =
      let row = get_or (rows_before expression o) k d in
      let v = map pos (t ∷ w) in
      let long : suc o.rule.vars ≡ length v = omega (arith, length-map (t ∷ w) pos) in
      ap (dot v) (same (columns 0 (suc o.rule.vars)))
      ∙ dot_comm v (map (λ x. neg_ℤ (entry row x)) (columns 0 (suc o.rule.vars)))
      ∙ dot_negated (λ x. entry row x) (columns 0 (suc o.rule.vars)) v
      ∙ ap (λ z. neg_ℤ (dot v (map (λ x. entry row x) (columns 0 z)))) long
      ∙ ap neg_ℤ (dot_entries row v)
    where
      same : (ks : List ℕ) → map (λ x. entry (call_row expression positions members b after o x) (place (b + k))) ks ≡ map (λ x. neg_ℤ (entry (get_or (rows_before expression o) k d) x)) ks
      same [] = refl
      same (x ∷ ks) = let e = own_entry b after o x k d l in let f = same ks in λ i. e i ∷ f i

  -- the rows before each call hold at its numbers
  abbrev AllLow : ℕ → List OwnCall → List ℕ → Type 0
  AllLow b os us = (r : ℕ) → r < row_count expression positions members os → dot (map pos us) (column (rows_from expression positions members b os) (place (b + r))) ≤ℤ pos 0

  first_holds : (b : ℕ) (o : OwnCall) (os : List OwnCall) (t : ℕ) (us : List ℕ) → length (t ∷ us) ≡ number_count (o ∷ os) → AllLow b (o ∷ os) (t ∷ us) → AllHold (rows_before expression o) t (take o.rule.vars us)
  first_holds b o os t us len h k d l =
      let n = o.rule.vars in
      let low = h k (omega arith) in
      let split = blocks expression positions members b (place (b + k)) o os t us (omega arith) in
      let own = own_value b (row_count expression positions members os) o t (take n us) k d (taken n us (omega arith)) l in
      let rest = later_none (b + k) (b + length (rows_before expression o)) os (drop n us) (omega arith) (dropped n us (number_count os) (omega arith)) in
      omega (arith, ints, low, split, own, rest)

  rest_low : (b : ℕ) (o : OwnCall) (os : List OwnCall) (t : ℕ) (us : List ℕ) → length (t ∷ us) ≡ number_count (o ∷ os) → AllLow b (o ∷ os) (t ∷ us) → AllLow (b + length (rows_before expression o)) os (drop o.rule.vars us)
  rest_low b o os t us len h r l =
      let n = o.rule.vars in
      let m = length (rows_before expression o) in
      let same : b + (m + r) ≡ (b + m) + r = omega arith in
      let low = subst (λ z. dot (map pos (t ∷ us)) (column (rows_from expression positions members b (o ∷ os)) (place z)) ≤ℤ pos 0) same (h (m + r) (omega arith)) in
      let split = blocks expression positions members b (place ((b + m) + r)) o os t us (omega arith) in
      let own = none_at (suc n) (map pos (t ∷ take n us)) (λ x. entry (call_row expression positions members b (row_count expression positions members os) o x) (place ((b + m) + r))) (λ x. after_none b (row_count expression positions members os) o x r) in
      omega (arith, ints, low, split, own)

  positive_or : (o : OwnCall) (t : ℕ) (w : List ℕ) → IsLive expression o
      → (1 ≤ t) ⊎ ((w : List ℕ) × (t : ℕ) × (1 ≤ t) × (length w ≡ o.rule.vars) × AllHold (rows_before expression o) t w)
  positive_or o t w live = inr (live.w, live.t, live.some, live.long, live.hold)

  all_pairs : (b : ℕ) (os : List OwnCall) (us : List ℕ) → AllByRecursion (IsOwnCall view) os → AllByRecursion (IsLive expression) os → length us ≡ number_count os → AllLow b os us
      → AllByRecursion (IsPair expression view) (pairs_at os us)
  all_pairs b [] us own live len h = tt
  all_pairs b (o ∷ os) [] own live len h = tt
  all_pairs b (o ∷ os) (t ∷ us) own live len h = (
    record {
      there = own.0.there;
      call = own.0.call;
      member = own.0.member;
      width = taken o.rule.vars us (omega arith);
      holds = first_holds b o os t us len h;
      point = positive_or o t us live.0;
    },
    all_pairs (b + length (rows_before expression o)) os (drop o.rule.vars us) own.1 live.1 (dropped o.rule.vars us (number_count os) (omega arith)) (rest_low b o os t us len h),
  )

  module _ (calls : List OwnCall) (vs : List ℕ) (long : length vs ≡ number_count calls)
      (refutes : Refutes (unknowns expression positions members calls) (support_rows expression positions members calls) (map pos vs)) where
    abbrev column_sum : ℕ → ℤ
    column_sum k = dot (map pos vs) (column (support_rows expression positions members calls) k)

    tested : (k : ℕ) → k < suc (unknowns expression positions members calls) → pos 0 ≤ℤ (goal_number (pos 0) (replicate (suc (unknowns expression positions members calls)) (pos 0)) k -ℤ column_sum k)
    tested k l =
        let len = length_replicated (suc (unknowns expression positions members calls)) in
        refutes.proves (replicate (suc (unknowns expression positions members calls)) (pos 0)) (omega (arith, len)) k (omega (arith, len))

    low : (k : ℕ) → k < unknowns expression positions members calls → column_sum (suc k) ≤ℤ pos 0
    low k l = let h = tested (suc k) (omega arith) in omega (arith, ints, h)

    first_low : column_sum 0 ≤ℤ negsuc 0
    first_low = let h = tested 0 (omega arith) in omega (arith, ints, h)

    constants : column_sum 0 ≡ total (λ o t w. neg_ℤ (pos t)) calls vs
    constants = column_total expression positions members 0 (λ o x. less_one x) constant_entry 0 calls vs long
        ∙ total_same _ (λ o t w. neg_ℤ (pos t)) calls vs long (λ o t w l. one_total o.rule.vars t w)

    some_time : (os : List OwnCall) (us : List ℕ) → total (λ o t w. neg_ℤ (pos t)) os us ≤ℤ negsuc 0 → SomeOf (λ (p : Pair). 1 ≤ p.t) (pairs_at os us)
    some_time [] us h = absurd (omega (arith, ints, h))
    some_time (o ∷ os) [] h = absurd (omega (arith, ints, h))
    some_time (o ∷ os) (zero ∷ us) h = inr (some_time os (drop o.rule.vars us) (omega (arith, ints, h)))
    some_time (o ∷ os) (suc t ∷ us) h = inl (omega arith)

    position_low : (q a : ℕ) → In (q, a) positions → entry (gather q (map (head_load expression) (pairs_at calls vs))) (suc a) ≤ℤ entry (gather q (map (call_load expression) (pairs_at calls vs))) (suc a)
    position_low q a h =
        let at = at_place positions (q, a) h in
        let l = low at.0 (omega (arith, there positions at.0 (q, a) at.1)) in
        let f = λ (o : OwnCall) (x : ℕ). share o.rule.member (head_sizes expression o) x (q, a) -ℤ share o.member (call_sizes expression o) x (q, a) in
        let heads = λ (o : OwnCall) (t : ℕ) (w : List ℕ). if o.rule.member == q then entry (values_at expression o.rule.vars w t o.rule.args) (suc a) else pos 0 in
        let called = λ (o : OwnCall) (t : ℕ) (w : List ℕ). if o.member == q then entry (values_at expression o.rule.vars w t o.call.args) (suc a) else pos 0 in
        let e = column_total expression positions members (suc at.0) f (position_entry at.0 (q, a) at.1) 0 calls vs long
        ∙ total_same (λ o t w. dot (map pos (t ∷ w)) (map (f o) (columns 0 (suc o.rule.vars)))) (λ o t w. heads o t w -ℤ called o t w) calls vs long (one_call q a)
        ∙ total_less heads called calls vs in
        let g = head_gathered q (suc a) calls vs in
        let k = call_gathered q (suc a) calls vs in
        omega (arith, ints, l, e, g, k)
      where
        one_call : (q a : ℕ) (o : OwnCall) (t : ℕ) (w : List ℕ) → length w ≡ o.rule.vars
            → dot (map pos (t ∷ w)) (map (λ x. share o.rule.member (head_sizes expression o) x (q, a) -ℤ share o.member (call_sizes expression o) x (q, a)) (columns 0 (suc o.rule.vars)))
            ≡ (if o.rule.member == q then entry (values_at expression o.rule.vars w t o.rule.args) (suc a) else pos 0) -ℤ (if o.member == q then entry (values_at expression o.rule.vars w t o.call.args) (suc a) else pos 0)
        one_call q a o t w l =
            let m = map_less (λ x. share o.rule.member (head_sizes expression o) x (q, a)) (λ x. share o.member (call_sizes expression o) x (q, a)) (map pos (t ∷ w)) (columns 0 (suc o.rule.vars)) in
            let h = share_total o.rule.member a o.rule.vars t w (head_sizes expression o) (q, a) l
            ∙ ap (λ z. if o.rule.member == q then z else pos 0) (sym (entry_dots (head_sizes expression o) (map pos (t ∷ w)) a)) in
            let k = share_total o.member a o.rule.vars t w (call_sizes expression o) (q, a) l
            ∙ ap (λ z. if o.member == q then z else pos 0) (sym (entry_dots (call_sizes expression o) (map pos (t ∷ w)) a)) in
            m ∙ (λ i. h i -ℤ k i)

    offset_low : (q : ℕ) → In q members → entry (gather q (map (head_load expression) (pairs_at calls vs))) 0 ≤ℤ entry (gather q (map (call_load expression) (pairs_at calls vs))) 0
    offset_low q h =
        let at = at_place members q h in
        let l = low (length positions + at.0) (omega (arith, there members at.0 q at.1)) in
        let f = λ (o : OwnCall) (x : ℕ). offset_share o.rule.member x q -ℤ offset_share o.member x q in
        let heads = λ (o : OwnCall) (t : ℕ) (w : List ℕ). if o.rule.member == q then pos t else pos 0 in
        let called = λ (o : OwnCall) (t : ℕ) (w : List ℕ). if o.member == q then pos t else pos 0 in
        let e = column_total expression positions members (suc (length positions + at.0)) f (member_entry at.0 q at.1) 0 calls vs long
        ∙ total_same (λ o t w. dot (map pos (t ∷ w)) (map (f o) (columns 0 (suc o.rule.vars)))) (λ o t w. heads o t w -ℤ called o t w) calls vs long (one_call q)
        ∙ total_less heads called calls vs in
        let g = head_gathered q 0 calls vs in
        let k = call_gathered q 0 calls vs in
        omega (arith, ints, l, e, g, k)
      where
        one_call : (q : ℕ) (o : OwnCall) (t : ℕ) (w : List ℕ) → length w ≡ o.rule.vars
            → dot (map pos (t ∷ w)) (map (λ x. offset_share o.rule.member x q -ℤ offset_share o.member x q) (columns 0 (suc o.rule.vars))) ≡ (if o.rule.member == q then pos t else pos 0) -ℤ (if o.member == q then pos t else pos 0)
        one_call q o t w l =
            let m = map_less (λ x. offset_share o.rule.member x q) (λ x. offset_share o.member x q) (map pos (t ∷ w)) (columns 0 (suc o.rule.vars)) in
            let h = offset_total o.rule.member q o.rule.vars t w in
            let k = offset_total o.member q o.rule.vars t w in
            m ∙ (λ i. h i -ℤ k i)

    multipliers_low : AllLow 0 calls vs
    multipliers_low r l =
        let same : 0 + r ≡ r = omega arith in
        rw same (low (length positions + (length members + r)) (omega arith))

    refutation : AllByRecursion (IsOwnCall view) calls → AllByRecursion (IsLive expression) calls → IsRefutationAt expression positions members view (pairs_at calls vs)
    refutation own live = record {
      pairs = all_pairs 0 calls vs own live long multipliers_low;
      positive = some_time calls vs (subst (λ (z : ℤ). z ≤ℤ negsuc 0) constants first_low);
      offsets = offset_low;
      columns = position_low;
    }

pub multipliers_refute : MultipliersRefute
multipliers_refute expression view positions members calls vs width own live long refutes = refutation expression view positions members calls vs long refutes own live
