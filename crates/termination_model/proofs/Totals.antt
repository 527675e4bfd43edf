-- The columns of a support's system, multiplied, as sums over its calls.
use Rattle.std.proofs.Common.{◌≡◌, ℕ, zero, suc, ◌+◌, ◌<◌, ◌≤◌, ℤ, pos, ◌+ℤ◌, List, [], ◌∷◌, ◌++◌, map, take, drop, length, slice_get, Some, refl, ap, sym, ◌∙◌, arith}
use Rattle.std.proofs.lemmas.Int.{ints}
use Rattle.std.proofs.lemmas.List.{length-map}
use lib.IntN.{*ℤ_comm}
use Rattle.exact128.specs.Sums.{dot, entry}
use Rattle.cti_terms.specs.Tree.{Tree}
use Rattle.linear_rows.specs.Rows.{column}
use Rattle.linear_rows.specs.Step.{columns}
use Rattle.termination_model.specs.mappings.OwnCalls.{OwnCall, Position, rows_before}
use Rattle.termination_model.specs.mappings.SupportSystem.{call_row, call_rows, row_count, rows_from}
use Rattle.termination_model.specs.mappings.Excluding.{number_count}
use Rattle.termination_model.proofs.Entries.{dot_nil, dot_parts}

pub shifted : {X : Type 0} (f : ℕ → X) (k n : ℕ) → map f (columns (suc k) n) ≡ map (λ x. f (suc x)) (columns k n)
shifted f k zero = refl
shifted f k (suc n) = ap (λ s. f (suc k) ∷ s) (shifted f (suc k) n)

pub dot_comm : (xs ys : List ℤ) → dot xs ys ≡ dot ys xs
unfolding dot
dot_comm [] [] = refl
dot_comm [] (y ∷ ys) = refl
dot_comm (x ∷ xs) [] = refl
dot_comm (x ∷ xs) (y ∷ ys) = let rest = dot_comm xs ys in let here = *ℤ_comm x y in omega (arith, ints, rest, here)

-- the product with all numbers of a row
pub dot_entries : (e vs : List ℤ) → dot vs (map (λ x. entry e x) (columns 0 (length vs))) ≡ dot e vs
unfolding dot
dot_entries [] [] = refl
dot_entries (y ∷ e) [] = refl
dot_entries [] (v ∷ vs) =
    let s = ap (dot vs) (shifted (λ x. entry [] x) 0 (length vs)) in
    let rest = dot_entries [] vs in
    omega (arith, ints, s, rest)
dot_entries (y ∷ e) (v ∷ vs) =
    let s = ap (dot vs) (shifted (λ x. entry (y ∷ e) x) 0 (length vs)) in
    let rest = dot_entries e vs in
    let here = *ℤ_comm v y in
    omega (arith, ints, s, rest, here)

-- ---- entries of lists that are put together
pub entry_left : (xs ys : List ℤ) (i : ℕ) → i < length xs → entry (xs ++ ys) i ≡ entry xs i
entry_left [] ys i l = absurd (omega arith)
entry_left (x ∷ xs) ys zero l = refl
entry_left (x ∷ xs) ys (suc i) l = entry_left xs ys i (omega arith)

pub entry_right : (xs ys : List ℤ) (n i j : ℕ) → length xs ≡ n → i ≡ n + j → entry (xs ++ ys) i ≡ entry ys j
entry_right [] ys n i j l e = let same : i ≡ j = omega arith in ap (entry ys) same
entry_right (x ∷ xs) ys zero i j l e = cc
entry_right (x ∷ xs) ys (suc n) zero j l e = absurd (omega arith)
entry_right (x ∷ xs) ys (suc n) (suc i) j l e = entry_right xs ys n i j (omega arith) (omega arith)

pub entry_map : {X : Type 0} (f : X → ℤ) (xs : List X) (i : ℕ) (x : X) → slice_get xs i ≡ Some x → entry (map f xs) i ≡ f x
entry_map f [] i x h = cc
entry_map f (y ∷ ys) zero x h = let e : y ≡ x = cc in ap f e
entry_map f (y ∷ ys) (suc i) x h = entry_map f ys i x h

pub there : {X : Type 0} (xs : List X) (i : ℕ) (x : X) → slice_get xs i ≡ Some x → i < length xs
there [] i x h = cc
there (y ∷ ys) zero x h = omega arith
there (y ∷ ys) (suc i) x h = let r = there ys i x h in omega arith

map_map : {X Y Z : Type 0} (f : Y → Z) (g : X → Y) (xs : List X) → map f (map g xs) ≡ map (λ x. f (g x)) xs
map_map f g [] = refl
map_map f g (x ∷ xs) = ap (λ s. f (g x) ∷ s) (map_map f g xs)

map_same : {X : Type 0} (f g : ℕ → X) (ks : List ℕ) → ((x : ℕ) → f x ≡ g x) → map f ks ≡ map g ks
map_same f g [] h = refl
map_same f g (k ∷ ks) h = let a = h k in let b = map_same f g ks h in λ i. a i ∷ b i

split_off : (n : ℕ) (ms : List ℕ) → take n ms ++ drop n ms ≡ ms
split_off zero ms = refl
split_off (suc n) [] = refl
split_off (suc n) (m ∷ ms) = ap (λ s. m ∷ s) (split_off n ms)

pub taken : (n : ℕ) (ms : List ℕ) → n ≤ length ms → length (take n ms) ≡ n
taken zero ms l = refl
taken (suc n) [] l = absurd (omega arith)
taken (suc n) (m ∷ ms) l = ap suc (taken n ms (omega arith))

pub dropped : (n : ℕ) (ms : List ℕ) (k : ℕ) → length ms ≡ n + k → length (drop n ms) ≡ k
dropped zero ms k l = omega arith
dropped (suc n) [] k l = absurd (omega arith)
dropped (suc n) (m ∷ ms) k l = dropped n ms k (omega arith)

map_together : (us vs : List ℕ) → map pos (us ++ vs) ≡ map pos us ++ map pos vs
map_together [] vs = refl
map_together (u ∷ us) vs = ap (λ s. pos u ∷ s) (map_together us vs)

column_parts : (xs ys : List (List ℤ)) (k : ℕ) → column (xs ++ ys) k ≡ column xs k ++ column ys k
column_parts [] ys k = refl
column_parts (x ∷ xs) ys k = ap (λ s. entry x k ∷ s) (column_parts xs ys k)

pub length_columns : (k n : ℕ) → length (columns k n) ≡ n
length_columns k zero = refl
length_columns k (suc n) = ap suc (length_columns (suc k) n)

-- the sum over calls, with the numbers that belong to each
abbrev pub total : (OwnCall → ℕ → List ℕ → ℤ) → List OwnCall → List ℕ → ℤ
total g [] vs = pos 0
total g (o ∷ os) [] = pos 0
total g (o ∷ os) (t ∷ vs) = g o t (take o.rule.vars vs) +ℤ total g os (drop o.rule.vars vs)

module _ (expression : ℕ → Tree → List ℤ) (positions : List Position) (members : List ℕ) where
  -- the product of a call's numbers with a column of its rows
  block : (b after k : ℕ) (o : OwnCall) (t : ℕ) (w : List ℕ) → dot (map pos (t ∷ w)) (column (call_rows expression positions members b after o) k)
      ≡ dot (map pos (t ∷ w)) (map (λ x. entry (call_row expression positions members b after o x) k) (columns 0 (suc o.rule.vars)))
  block b after k o t w = ap (dot (map pos (t ∷ w))) (map_map (λ row. entry row k) (call_row expression positions members b after o) (columns 0 (suc o.rule.vars)))

  -- a column of all rows, call by call
  pub blocks : (b k : ℕ) (o : OwnCall) (os : List OwnCall) (t : ℕ) (vs : List ℕ) → o.rule.vars ≤ length vs
      → dot (map pos (t ∷ vs)) (column (rows_from expression positions members b (o ∷ os)) k)
      ≡ dot (map pos (t ∷ take o.rule.vars vs)) (map (λ x. entry (call_row expression positions members b (row_count expression positions members os) o x) k) (columns 0 (suc o.rule.vars)))
      +ℤ dot (map pos (drop o.rule.vars vs)) (column (rows_from expression positions members (b + length (rows_before expression o)) os) k)
  blocks b k o os t vs le =
      let n = o.rule.vars in
      let own = call_rows expression positions members b (row_count expression positions members os) o in
      let rest = rows_from expression positions members (b + length (rows_before expression o)) os in
      let whole : t ∷ vs ≡ (t ∷ take n vs) ++ drop n vs = ap (λ s. t ∷ s) (sym (split_off n vs)) in
      let l1 = length-map (t ∷ take n vs) pos in
      let l2 = taken n vs le in
      let l3 = length-map own (λ row. entry row k) in
      let l4 = length-map (columns 0 (suc n)) (call_row expression positions members b (row_count expression positions members os) o) in
      let l5 = length_columns 0 (suc n) in
      let parts = dot_parts (map pos (t ∷ take n vs)) (map pos (drop n vs)) (column own k) (column rest k) (omega (arith, l1, l2, l3, l4, l5)) in
      (λ i. dot (map pos (whole i)) (column (own ++ rest) k))
      ∙ (λ i. dot (map_together (t ∷ take n vs) (drop n vs) i) (column_parts own rest k i))
      ∙ parts
      ∙ ap (λ z. z +ℤ dot (map pos (drop n vs)) (column rest k)) (block b (row_count expression positions members os) k o t (take n vs))

  -- where the entries of a column do not depend on the place of the call's multipliers
  pub column_total : (k : ℕ) (f : OwnCall → ℕ → ℤ) → ((b after : ℕ) (o : OwnCall) (x : ℕ) → entry (call_row expression positions members b after o x) k ≡ f o x)
      → (b : ℕ) (os : List OwnCall) (vs : List ℕ) → length vs ≡ number_count os
      → dot (map pos vs) (column (rows_from expression positions members b os) k) ≡ total (λ o t w. dot (map pos (t ∷ w)) (map (f o) (columns 0 (suc o.rule.vars)))) os vs
  unfolding dot
  column_total k f h b [] vs l = dot_nil (map pos vs)
  column_total k f h b (o ∷ os) [] l = absurd (omega arith)
  column_total k f h b (o ∷ os) (t ∷ vs) l =
      let n = o.rule.vars in
      let split = blocks b k o os t vs (omega arith) in
      let own = ap (dot (map pos (t ∷ take n vs))) (map_same (λ x. entry (call_row expression positions members b (row_count expression positions members os) o x) k) (f o) (columns 0 (suc n)) (h b (row_count expression positions members os) o)) in
      let rest = column_total k f h (b + length (rows_before expression o)) os (drop n vs) (dropped n vs (number_count os) (omega arith)) in
      split ∙ (λ i. own i +ℤ rest i)
