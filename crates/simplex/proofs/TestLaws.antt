-- What solving the rows of a test says of the tested row.
use Rattle.std.proofs.Common.{◌≡◌, ℕ, zero, suc, ◌+◌, ◌<◌, ◌≤◌, ℤ, pos, negsuc, neg_ℤ, ◌+ℤ◌, ◌*ℤ◌, ◌-ℤ◌, inl, inr, List, [], ◌∷◌, ◌++◌, map, take, length, refl, ap, sym, subst, ◌∙◌, arith}
use Rattle.std.specs.Prelude.{All, ◌≤ℤ◌}
use Rattle.std.proofs.lemmas.Int.{ints}
use Rattle.std.proofs.lemmas.List.{length-map}
use Rattle.exact128.proofs.Rings.{rings}
use Rattle.exact128.specs.Sums.{dot, entry}
use Rattle.linear_rows.specs.Rows.{column, Holds, AllHold, IsPoint}
use Rattle.linear_rows.specs.Members.{In}
use Rattle.linear_rows.specs.Proves.{goal_number, Proves, Refutes}
use Rattle.linear_rows.specs.Solving.{zeros}
use Rattle.linear_rows.specs.Systems.{opposite, at_last, test_rows}
use Rattle.linear_rows.proofs.Members.{from_All, to_All, in-left, in-right, in-map}
use Rattle.linear_rows.proofs.Starts.{dot-zeros, entry-zeros}
use Rattle.simplex.proofs.RowLists.{length-zeros}

-- ---- values
dot-last : (cs : List ℤ) (b : ℤ) (w : List ℤ) (t : ℤ) → length cs ≡ length w → dot (cs ++ b ∷ []) (w ++ t ∷ []) ≡ dot cs w +ℤ b *ℤ t
unfolding dot
dot-last [] b [] t e = omega (arith, ints)
dot-last [] b (x ∷ w) t e = absurd (omega arith)
dot-last (c ∷ cs) b [] t e = absurd (omega arith)
dot-last (c ∷ cs) b (x ∷ w) t e = rw (dot-last cs b w t (omega arith)) (omega (arith, ints))

map-append : (w : List ℕ) (t : ℕ) → map pos (w ++ t ∷ []) ≡ map pos w ++ pos t ∷ []
map-append [] t = refl
map-append (x ∷ w) t = ap (λ l. pos x ∷ l) (map-append w t)

-- a row whose constant is the last column's coefficient, with another constant
last_value : (r : List ℤ) (c : ℤ) (D t : ℕ) (w : List ℕ) → length r ≡ suc (length w) → dot (at_last r c) (pos D ∷ map pos (w ++ t ∷ [])) ≡ c *ℤ pos D +ℤ dot r (pos t ∷ map pos w)
unfolding dot
last_value [] c D t w e = absurd (omega arith)
last_value (b ∷ cs) c D t w e =
    let is = dot-last cs b (map pos w) (pos t) (omega (arith, length-map w pos)) in
    rw (map-append w t) (omega (arith, ints, is))

dot_opposite : (xs ps : List ℤ) → dot (opposite xs) ps ≡ neg_ℤ (dot xs ps)
unfolding dot
dot_opposite [] ps = refl
dot_opposite (x ∷ xs) [] = refl
dot_opposite (x ∷ xs) (p ∷ ps) = rw (dot_opposite xs ps) (simp rings (omega (arith, ints)))

length_opposite : (r : List ℤ) → length (opposite r) ≡ length r
length_opposite r = length-map r neg_ℤ

dot_one : (m : ℕ) (t : ℤ) (xs : List ℤ) → dot (pos 1 ∷ zeros m) (t ∷ xs) ≡ t
unfolding dot
dot_one m t xs = let z = dot-zeros m xs in omega (arith, ints)

-- ---- a point of the test's rows
split_last : (n : ℕ) (xs : List ℕ) → length xs ≡ n + 1 → (w : List ℕ) × (t : ℕ) × (xs ≡ w ++ t ∷ []) × (length w ≡ n)
split_last n [] e = absurd (omega arith)
split_last zero (x ∷ []) e = ([], x, refl, refl)
split_last zero (x ∷ (y ∷ xs)) e = absurd (omega arith)
split_last (suc n) (x ∷ xs) e =
    let r = split_last n xs (omega arith) in
    (x ∷ r.0, r.1, ap (λ l. x ∷ l) r.2, ap suc r.3)

take_append : (w : List ℤ) (x : ℤ) → take (length w) (w ++ x ∷ []) ≡ w
take_append [] x = refl
take_append (y ∷ w) x = ap (λ l. y ∷ l) (take_append w x)

entry_append : (w : List ℤ) (x : ℤ) → entry (w ++ x ∷ []) (length w) ≡ x
entry_append [] x = refl
entry_append (y ∷ w) x = entry_append w x

pub record Failing (n : ℕ) (rows : List (List ℤ)) (row w : List ℤ) : Type 0 where
  pub t : ℕ
  pub values : List ℕ
  pub t_is : entry w n ≡ pos t
  pub w_is : take n w ≡ map pos values
  pub some : 1 ≤ t
  pub long : length values ≡ n
  pub hold : AllHold rows t values
  pub fails : Holds row t values → ⊥

pub point_fails : (n : ℕ) (rows : List (List ℤ)) (row : List ℤ) (t : ℤ) (w : List ℤ) → All (λ r. length r ≡ suc n) rows → length row ≡ suc n → IsPoint (n + 1) (test_rows n rows row) t w → Failing n rows row w
point_fails n rows row t w long_rows long_row p =
    let s = split_last n p.values p.long in
    let v = s.0 in
    let last = s.1 in
    let w_is : w ≡ map pos v ++ pos last ∷ [] = p.w_is ∙ ap (map pos) s.2 ∙ map-append v last in
    let Here : List ℤ → Type 0 = λ r. Holds r p.scale p.values in
    let one : List ℤ = negsuc 0 ∷ (zeros n ++ pos 1 ∷ []) in
    let neg : List ℤ = at_last (opposite row) (negsuc 0) in
    let in_one : In one (test_rows n rows row) = in-right (map (λ (r : List ℤ). at_last r (pos 0)) rows) (one ∷ neg ∷ []) one (inl refl) in
    let in_neg : In neg (test_rows n rows row) = in-right (map (λ (r : List ℤ). at_last r (pos 0)) rows) (one ∷ neg ∷ []) neg (inr (inl refl)) in
    let value_one = last_value (pos 1 ∷ zeros n) (negsuc 0) p.scale last v (ap suc (length-zeros n ∙ sym s.3)) in
    let value_neg = last_value (opposite row) (negsuc 0) p.scale last v (length_opposite row ∙ long_row ∙ ap suc (sym s.3)) in
    let is_one : pos 0 ≤ℤ dot one (pos p.scale ∷ map pos (v ++ last ∷ [])) = subst (λ (xs : List ℕ). pos 0 ≤ℤ dot one (pos p.scale ∷ map pos xs)) s.2 (from_All Here (test_rows n rows row) one p.hold in_one) in
    let is_neg : pos 0 ≤ℤ dot neg (pos p.scale ∷ map pos (v ++ last ∷ [])) = subst (λ (xs : List ℕ). pos 0 ≤ℤ dot neg (pos p.scale ∷ map pos xs)) s.2 (from_All Here (test_rows n rows row) neg p.hold in_neg) in
    let flat = dot_one n (pos last) (map pos v) in
    record {
      t = last;
      values = v;
      t_is = ap (λ (xs : List ℤ). entry xs n) w_is ∙ ap (λ k. entry (map pos v ++ pos last ∷ []) k) (sym (length-map v pos ∙ s.3)) ∙ entry_append (map pos v) (pos last);
      w_is = ap (take n) w_is ∙ ap (λ k. take k (map pos v ++ pos last ∷ [])) (sym (length-map v pos ∙ s.3)) ∙ take_append (map pos v) (pos last);
      some = let some = p.some in omega (arith, ints, value_one, flat);
      long = s.3;
      hold = to_All (λ (r : List ℤ). Holds r last v) rows (λ r i.
          let there : In (at_last r (pos 0)) (test_rows n rows row) = in-left (map (λ (r : List ℤ). at_last r (pos 0)) rows) (one ∷ neg ∷ []) (at_last r (pos 0)) (in-map (λ (r : List ℤ). at_last r (pos 0)) rows r i) in
          let is : pos 0 ≤ℤ dot (at_last r (pos 0)) (pos p.scale ∷ map pos (v ++ last ∷ [])) = subst (λ (xs : List ℕ). pos 0 ≤ℤ dot (at_last r (pos 0)) (pos p.scale ∷ map pos xs)) s.2 (from_All Here (test_rows n rows row) (at_last r (pos 0)) p.hold there) in
          let e = last_value r (pos 0) p.scale last v (from_All (λ (r : List ℤ). length r ≡ suc n) rows r long_rows i ∙ ap suc (sym s.3)) in
          omega (arith, ints, e));
      fails = λ h.
          let o = dot_opposite row (pos last ∷ map pos v) in
          let some = p.some in
          omega (arith, ints, value_neg, o);
    }

-- ---- a refutation of the test's rows
-- the multipliers of the rows, that of the last column's row, and that of the negated row
split_two : (k : ℕ) (ms : List ℤ) → length ms ≡ k + 2 → (a : ℤ) × (s : ℤ) × (ms ≡ take k ms ++ (a ∷ s ∷ [])) × (entry ms (suc k) ≡ s) × (length (take k ms) ≡ k)
split_two zero [] e = absurd (omega arith)
split_two zero (x ∷ []) e = absurd (omega arith)
split_two zero (x ∷ (y ∷ [])) e = (x, y, refl, refl, refl)
split_two zero (x ∷ (y ∷ (z ∷ ms))) e = absurd (omega arith)
split_two (suc k) [] e = absurd (omega arith)
split_two (suc k) (x ∷ ms) e =
    let r = split_two k ms (omega arith) in
    (r.0, r.1, ap (λ l. x ∷ l) r.2, r.3, ap suc r.4)

dot_two : (ms xs : List ℤ) (a s x y : ℤ) → length ms ≡ length xs → dot (ms ++ (a ∷ s ∷ [])) (xs ++ (x ∷ y ∷ [])) ≡ dot ms xs +ℤ (a *ℤ x +ℤ s *ℤ y)
unfolding dot
dot_two [] [] a s x y e = omega (arith, ints)
dot_two [] (z ∷ xs) a s x y e = absurd (omega arith)
dot_two (m ∷ ms) [] a s x y e = absurd (omega arith)
dot_two (m ∷ ms) (z ∷ xs) a s x y e = rw (dot_two ms xs a s x y (omega arith)) (omega (arith, ints))

entry_at : (cs : List ℤ) (b : ℤ) (j : ℕ) → j < length cs → entry (cs ++ b ∷ []) j ≡ entry cs j
entry_at [] b j l = absurd (omega arith)
entry_at (c ∷ cs) b zero l = refl
entry_at (c ∷ cs) b (suc j) l = entry_at cs b j (omega arith)

last_mid : (n : ℕ) (r : List ℤ) (c : ℤ) (j : ℕ) → length r ≡ suc n → j < n → entry (at_last r c) (suc j) ≡ entry r (suc j)
last_mid n [] c j e l = absurd (omega arith)
last_mid n (b ∷ cs) c j e l = entry_at cs b j (omega arith)

last_end : (n : ℕ) (r : List ℤ) (c : ℤ) → length r ≡ suc n → entry (at_last r c) (suc n) ≡ entry r 0
last_end n [] c e = absurd (omega arith)
last_end n (b ∷ cs) c e = let l : length cs ≡ n = omega arith in ap (entry (cs ++ b ∷ [])) (sym l) ∙ entry_append cs b

entry_mid : (xs : List ℤ) (a s : ℤ) → entry (xs ++ (a ∷ s ∷ [])) (length xs) ≡ a
entry_mid [] a s = refl
entry_mid (x ∷ xs) a s = entry_mid xs a s

-- columns of the rows in the test
column_mid : (n j : ℕ) (rows : List (List ℤ)) → All (λ r. length r ≡ suc n) rows → j < n → column (map (λ r. at_last r (pos 0)) rows) (suc j) ≡ column rows (suc j)
column_mid n j [] h l = refl
column_mid n j (r ∷ rows) h l =
    let here = last_mid n r (pos 0) j (h 0 r (omega arith)) l in
    let more = column_mid n j rows (λ k d m. h (suc k) d (omega arith)) l in
    λ i. here i ∷ more i

column_end : (n : ℕ) (rows : List (List ℤ)) → All (λ r. length r ≡ suc n) rows → column (map (λ r. at_last r (pos 0)) rows) (suc n) ≡ column rows 0
column_end n [] h = refl
column_end n (r ∷ rows) h =
    let here = last_end n r (pos 0) (h 0 r (omega arith)) in
    let more = column_end n rows (λ k d m. h (suc k) d (omega arith)) in
    λ i. here i ∷ more i

dot_first : (ms : List ℤ) (rows : List (List ℤ)) → dot ms (column (map (λ r. at_last r (pos 0)) rows) 0) ≡ pos 0
unfolding dot
dot_first [] rows = refl
dot_first (m ∷ ms) [] = refl
dot_first (m ∷ ms) (r ∷ rows) = rw (dot_first ms rows) (omega (arith, ints))

column_append : (xs ys : List (List ℤ)) (j : ℕ) → column (xs ++ ys) j ≡ column xs j ++ column ys j
column_append [] ys j = refl
column_append (x ∷ xs) ys j = ap (λ l. entry x j ∷ l) (column_append xs ys j)

length_column : (rows : List (List ℤ)) (j : ℕ) → length (column rows j) ≡ length rows
length_column rows j = length-map rows (λ r. entry r j)

entry_opposite : (xs : List ℤ) (j : ℕ) → entry (opposite xs) j ≡ neg_ℤ (entry xs j)
entry_opposite [] j = refl
entry_opposite (x ∷ xs) zero = refl
entry_opposite (x ∷ xs) (suc j) = entry_opposite xs j

one_mid : (n j : ℕ) → j < n → entry (zeros n ++ pos 1 ∷ []) j ≡ pos 0
one_mid n j l = entry_at (zeros n) (pos 1) j (omega (arith, length-zeros n)) ∙ entry-zeros n j

one_end : (n : ℕ) → entry (zeros n ++ pos 1 ∷ []) n ≡ pos 1
one_end n = ap (entry (zeros n ++ pos 1 ∷ [])) (sym (length-zeros n)) ∙ entry_append (zeros n) (pos 1)

-- numbers of a column, all as variables
with_scale : (s goal d row a : ℤ) → pos 0 ≤ℤ a → pos 0 ≤ℤ (pos 0 -ℤ (d +ℤ (a +ℤ s *ℤ neg_ℤ row))) → pos 0 ≤ℤ (s *ℤ row -ℤ d)
with_scale s goal d row a na h = let e : s *ℤ neg_ℤ row ≡ neg_ℤ (s *ℤ row) = simp rings (omega (arith, ints)) in omega (arith, ints)

pub record Proving (rows : List (List ℤ)) (row ms : List ℤ) (k : ℕ) : Type 0 where
  pub long : length (take k ms) ≡ length rows
  pub naturals : All (λ m. pos 0 ≤ℤ m) (take k ms)
  pub scale : pos 0 ≤ℤ entry ms (suc k)
  pub proves : Proves rows (take k ms) row (entry ms (suc k))

all_take : (k : ℕ) (ms : List ℤ) → All (λ m. pos 0 ≤ℤ m) ms → All (λ m. pos 0 ≤ℤ m) (take k ms)
all_take zero ms h i d l = absurd (omega arith)
all_take (suc k) [] h i d l = absurd (omega arith)
all_take (suc k) (m ∷ ms) h zero d l = h 0 m (omega arith)
all_take (suc k) (m ∷ ms) h (suc i) d l = all_take k ms (λ j e n. h (suc j) e (omega arith)) i d (omega arith)

natural_at : (ms : List ℤ) (j : ℕ) → All (λ m. pos 0 ≤ℤ m) ms → pos 0 ≤ℤ entry ms j
natural_at [] j h = omega (arith, ints)
natural_at (m ∷ ms) zero h = h 0 m (omega arith)
natural_at (m ∷ ms) (suc j) h = natural_at ms j (λ i d l. h (suc i) d (omega arith))

length_tested : (n : ℕ) (rows : List (List ℤ)) (row : List ℤ) → length (test_rows n rows row) ≡ length rows + 2
length_tested n rows row = counted rows
  where
    counted : (xs : List (List ℤ)) → length (map (λ (r : List ℤ). at_last r (pos 0)) xs ++ ((negsuc 0 ∷ (zeros n ++ pos 1 ∷ [])) ∷ at_last (opposite row) (negsuc 0) ∷ [])) ≡ length xs + 2
    counted [] = refl
    counted (x ∷ xs) = ap suc (counted xs) ∙ omega arith

-- what is left in a column of the test's rows
column_sum : (n j : ℕ) (rows : List (List ℤ)) (row ms : List ℤ) (a s : ℤ) → length ms ≡ length rows
    → dot (ms ++ (a ∷ s ∷ [])) (column (test_rows n rows row) j) ≡ dot ms (column (map (λ (r : List ℤ). at_last r (pos 0)) rows) j) +ℤ (a *ℤ entry (negsuc 0 ∷ (zeros n ++ pos 1 ∷ [])) j +ℤ s *ℤ entry (at_last (opposite row) (negsuc 0)) j)
column_sum n j rows row ms a s e =
    let tested : List (List ℤ) = map (λ (r : List ℤ). at_last r (pos 0)) rows in
    let two : List (List ℤ) = (negsuc 0 ∷ (zeros n ++ pos 1 ∷ [])) ∷ at_last (opposite row) (negsuc 0) ∷ [] in
    ap (dot (ms ++ (a ∷ s ∷ []))) (column_append tested two j)
    ∙ dot_two ms (column tested j) a s (entry (negsuc 0 ∷ (zeros n ++ pos 1 ∷ [])) j) (entry (at_last (opposite row) (negsuc 0)) j) (e ∙ sym (length-map rows (λ (r : List ℤ). at_last r (pos 0))) ∙ sym (length_column tested j))

-- from the columns of the test's rows to those of the rows
first_column : (s d b a : ℤ) → pos 0 ≤ℤ a → pos 0 ≤ℤ s → pos 0 ≤ℤ (negsuc 0 -ℤ (pos 0 +ℤ (a *ℤ negsuc 0 +ℤ s *ℤ negsuc 0))) → pos 0 ≤ℤ (pos 0 -ℤ (d +ℤ (a *ℤ pos 1 +ℤ s *ℤ neg_ℤ b)))
    → (row : List ℤ) → entry row 0 ≡ b → pos 0 ≤ℤ (goal_number s row 0 -ℤ d)
first_column (pos zero) d b a na ns h g row e = omega (arith, ints)
first_column (pos (suc m)) d b a na ns h g row e =
    let f : pos (suc m) *ℤ neg_ℤ b ≡ neg_ℤ (pos (suc m) *ℤ b) = simp rings (omega (arith, ints)) in
    let i : pos (suc m) *ℤ entry row 0 ≡ pos (suc m) *ℤ b = ap (λ z. pos (suc m) *ℤ z) e in
    omega (arith, ints)
first_column (negsuc m) d b a na ns h g row e = absurd (omega (arith, ints))

later_column : (j : ℕ) (s d b a : ℤ) → pos 0 ≤ℤ s → pos 0 ≤ℤ (pos 0 -ℤ (d +ℤ (a *ℤ pos 0 +ℤ s *ℤ neg_ℤ b))) → (row : List ℤ) → entry row (suc j) ≡ b → pos 0 ≤ℤ (goal_number s row (suc j) -ℤ d)
later_column j (pos zero) d b a ns g row e = omega (arith, ints)
later_column j (pos (suc m)) d b a ns g row e =
    let f : pos (suc m) *ℤ neg_ℤ b ≡ neg_ℤ (pos (suc m) *ℤ b) = simp rings (omega (arith, ints)) in
    let i : pos (suc m) *ℤ entry row (suc j) ≡ pos (suc m) *ℤ b = ap (λ z. pos (suc m) *ℤ z) e in
    omega (arith, ints)
later_column j (negsuc m) d b a ns g row e = absurd (omega (arith, ints))

pub refutes_proves : (n : ℕ) (rows : List (List ℤ)) (row ms : List ℤ) → All (λ r. length r ≡ suc n) rows → length row ≡ suc n → Refutes (n + 1) (test_rows n rows row) ms → Proving rows row ms (length rows)
refutes_proves n rows row ms long_rows long_row ref = record {
  long = split.4;
  naturals = all_take k ms ref.natural;
  scale = natural_at ms (suc k) ref.natural;
  proves = each;
}
  where
    k : ℕ
    k = length rows

    split : (a : ℤ) × (s : ℤ) × (ms ≡ take (length rows) ms ++ (a ∷ s ∷ [])) × (entry ms (suc (length rows)) ≡ s) × (length (take (length rows) ms) ≡ length rows)
    split = split_two (length rows) ms (omega (arith, ref.long, length_tested n rows row))

    -- what is left in each column
    left : (j : ℕ) → j < n + 2 → (goal : ℤ) → goal_number (pos 0) (zeros (n + 2)) j ≡ goal → (d x y : ℤ)
        → dot (take (length rows) ms) (column (map (λ (r : List ℤ). at_last r (pos 0)) rows) j) ≡ d → entry (negsuc 0 ∷ (zeros n ++ pos 1 ∷ [])) j ≡ x → entry (at_last (opposite row) (negsuc 0)) j ≡ y
        → pos 0 ≤ℤ (goal -ℤ (d +ℤ (split.0 *ℤ x +ℤ entry ms (suc (length rows)) *ℤ y)))
    left j l goal ge d x y de xe ye =
        let test : List (List ℤ) = test_rows n rows row in
        let target : List ℤ = zeros (n + 2) in
        let h : pos 0 ≤ℤ (goal_number (pos 0) target j -ℤ dot ms (column test j)) = ref.proves target (length-zeros (n + 2) ∙ omega arith) j (omega (arith, length-zeros (n + 2))) in
        let value : dot ms (column test j) ≡ d +ℤ (split.0 *ℤ x +ℤ entry ms (suc (length rows)) *ℤ y) =
        ap (λ (xs : List ℤ). dot xs (column test j)) split.2
        ∙ column_sum n j rows row (take (length rows) ms) split.0 split.1 split.4
        ∙ (λ i. de i +ℤ (split.0 *ℤ xe i +ℤ sym split.3 i *ℤ ye i)) in
        subst (λ (z : ℤ). pos 0 ≤ℤ (z -ℤ (d +ℤ (split.0 *ℤ x +ℤ entry ms (suc (length rows)) *ℤ y)))) ge (subst (λ (z : ℤ). pos 0 ≤ℤ (goal_number (pos 0) target j -ℤ z)) value h)

    natural_first : pos 0 ≤ℤ split.0
    natural_first = subst (λ (z : ℤ). pos 0 ≤ℤ z) (ap (λ (xs : List ℤ). entry xs (length rows)) split.2 ∙ ap (entry (take (length rows) ms ++ (split.0 ∷ split.1 ∷ []))) (sym split.4) ∙ entry_mid (take (length rows) ms) split.0 split.1) (natural_at ms (length rows) ref.natural)

    natural_scale : pos 0 ≤ℤ entry ms (suc (length rows))
    natural_scale = natural_at ms (suc (length rows)) ref.natural

    goal_zeros : (m : ℕ) → goal_number (pos 0) (zeros (n + 2)) (suc m) ≡ pos 0
    goal_zeros m = refl

    each : Proves rows (take (length rows) ms) row (entry ms (suc (length rows)))
    each zero l =
        let d = dot (take (length rows) ms) (column rows 0) in
        let none = left 0 (omega arith) (negsuc 0) refl (pos 0) (negsuc 0) (negsuc 0) (dot_first (take (length rows) ms) rows) refl refl in
        let end = left (suc n) (omega arith) (pos 0) (goal_zeros n) d (pos 1) (neg_ℤ (entry row 0)) (ap (dot (take (length rows) ms)) (column_end n rows long_rows)) (one_end n)
        (last_end n (opposite row) (negsuc 0) (length_opposite row ∙ long_row) ∙ entry_opposite row 0) in
        first_column (entry ms (suc (length rows))) d (entry row 0) split.0 natural_first natural_scale none end row refl
    each (suc j) l =
        let d = dot (take (length rows) ms) (column rows (suc j)) in
        let lt : j < n = omega (arith, l, long_row) in
        let here = left (suc j) (omega arith) (pos 0) (goal_zeros j) d (pos 0) (neg_ℤ (entry row (suc j))) (ap (dot (take (length rows) ms)) (column_mid n j rows long_rows lt)) (one_mid n j lt)
        (last_mid n (opposite row) (negsuc 0) j (length_opposite row ∙ long_row) lt ∙ entry_opposite row (suc j)) in
        later_column j (entry ms (suc (length rows))) d (entry row (suc j)) split.0 natural_scale here row refl
