-- The multipliers that solving gives refute the given rows.
use Rattle.std.proofs.Common.{◌≡◌, ℕ, zero, suc, ℤ, pos, negsuc, List, [], ◌∷◌, ◌++◌, ◌+◌, ◌<◌, ◌≤◌, ◌+ℤ◌, Bool, true, false, cond, not, Option, Some, None, map, length, take, drop, refl, sym, subst, ap, ◌∙◌, arith, inl, inr, ◌⊎◌, get_or, length-append}
use Rattle.std.specs.Prelude.{◌≤ℤ◌, ◌<ℤ◌, int_le, filter}
use Rattle.std.specs.List.{All}
use Rattle.std.specs.Cmp.Derive.{both_true}
use Rattle.std.proofs.lemmas.Int.{ints}
use Rattle.exact128.specs.Sums.{entry, dot}
use Rattle.linear_rows.specs.Rows.{column}
use Rattle.linear_rows.specs.Proves.{rest_number, Refutes}
use Rattle.linear_rows.specs.Cleaning.{agree, is_trivial, reduced, cleaned}
use Rattle.linear_rows.specs.Equation.{step}
use Rattle.linear_rows.specs.Blown.{blown_step}
use Rattle.linear_rows.specs.Step.{eliminated, all_eliminated, columns}
use Rattle.linear_rows.specs.Members.{In}
use Rattle.linear_rows.proofs.Members.{of-filter, of-append, to_All}
use Rattle.linear_rows.proofs.Cleanings.{same_to}
use Rattle.linear_rows.proofs.Whole.{in_kept}
use Rattle.linear_rows.proofs.Origins.{all_gone}
use Rattle.linear_rows.specs.Solving.{zeros, units, floors, coefficients, carried, start_rows, whole_values, point_fits, refutes_in, found_of, end_of, solved_by, solution}
use Rattle.linear_rows.specs.Solving.Solution.{Blown, Found, Refuted}
use Rattle.linear_rows.proofs.Starts.{entry-zeros, entry-units, entry-units-other, dot-zeros}
use Rattle.linear_rows.proofs.Carries.{Carries, AllCarry, all_carry}

-- ---- the first rows
pub length-zeros : (n : ℕ) → length (zeros n) ≡ n
length-zeros zero = refl
length-zeros (suc n) = ap suc (length-zeros n)

pub length-units : (n i : ℕ) → length (units n i) ≡ n
length-units zero i = refl
length-units (suc n) zero = ap suc (length-zeros n)
length-units (suc n) (suc i) = ap suc (length-units n i)

drop-zeros : (k n all : ℕ) → all ≡ k + n → drop k (zeros all) ≡ zeros n
drop-zeros zero n all e = let same : all ≡ n = omega arith in ap zeros same
drop-zeros (suc k) n zero e = absurd (omega arith)
drop-zeros (suc k) n (suc all) e = drop-zeros k n all (omega arith)

drop-units : (k n all i : ℕ) → all ≡ k + n → i < k → drop k (units all i) ≡ zeros n
drop-units zero n all i e h = absurd (omega arith)
drop-units (suc k) n zero i e h = absurd (omega arith)
drop-units (suc k) n (suc all) zero e h = drop-zeros k n all (omega arith)
drop-units (suc k) n (suc all) (suc i) e h = drop-units k n all i (omega arith) (omega arith)

nonneg-units : (n i j : ℕ) → pos 0 ≤ℤ entry (units n i) j
nonneg-units zero i j = omega (arith, ints)
nonneg-units (suc n) zero zero = omega (arith, ints)
nonneg-units (suc n) zero (suc j) = rw (entry-zeros n j) (omega (arith, ints))
nonneg-units (suc n) (suc i) zero = omega (arith, ints)
nonneg-units (suc n) (suc i) (suc j) = nonneg-units n i j

dot-unit : (n i : ℕ) (xs : List ℤ) → i < n → n ≡ length xs → dot (units n i) xs ≡ entry xs i
unfolding dot
dot-unit zero i xs h e = absurd (omega arith)
dot-unit (suc n) i [] h e = absurd (omega arith)
dot-unit (suc n) zero (x ∷ xs) h e = rw (dot-zeros n xs) (omega (arith, ints))
dot-unit (suc n) (suc i) (x ∷ xs) h e = rw (dot-unit n i xs (omega arith) (omega arith)) (omega (arith, ints))

-- a row of no given rows
plain_carries : (n i : ℕ) (b : ℤ) (given : List (List ℤ)) → i < n + 1 → b +ℤ entry (units (n + 1 + length given) i) n ≡ pos 0 → Carries n given (b ∷ units (n + 1 + length given) i)
plain_carries n i b given h z =
    record {
      long = omega (arith, length-units (n + 1 + length given) i);
      natural = λ j. subst (λ l. pos 0 ≤ℤ entry l j) (sym no_part) (let e = entry-zeros (length given) j in omega (arith, ints, e));
      columns = column_part;
      constant = ap (λ l. dot l (column given 0)) no_part ∙ dot-zeros (length given) (column given 0) ∙ sym z ∙ ap (λ k. b +ℤ entry (b ∷ units (n + 1 + length given) i) k) suc_one;
    }
  where
    suc_one : suc n ≡ n + 1
    suc_one = omega arith

    no_part : drop (n + 2) (b ∷ units (n + 1 + length given) i) ≡ zeros (length given)
    no_part = ap (λ k. drop k (b ∷ units (n + 1 + length given) i)) two ∙ drop-units (n + 1) (length given) (n + 1 + length given) i refl h
      where
        two : n + 2 ≡ suc (n + 1)
        two = omega arith

    column_part : (j : ℕ) → 1 ≤ j → j ≤ n → dot (drop (n + 2) (b ∷ units (n + 1 + length given) i)) (column given j) ≤ℤ entry (b ∷ units (n + 1 + length given) i) j
    column_part zero l g = absurd (omega arith)
    column_part (suc j) l g = rw (no_part, dot-zeros (length given) (column given (suc j))) (nonneg-units (n + 1 + length given) i j)

floors_carry : (c n i : ℕ) (given : List (List ℤ)) (q : List ℤ) → c + i ≤ n → In q (floors c i (n + 1 + length given)) → Carries n given q
floors_carry zero n i given q h m = absurd m
floors_carry (suc c) n i given q h (inl is) = subst (Carries n given) is (plain_carries n i (pos 0) given (omega arith) (let e = entry-units-other (n + 1 + length given) i n (omega arith) in omega (arith, ints, e)))
floors_carry (suc c) n i given q h (inr m) = floors_carry c n (suc i) given q (omega arith) m

-- a given row
record Given (n i long : ℕ) (rs : List (List ℤ)) (q : List ℤ) : Type 0 where
  off : ℕ
  within : off < length rs
  row : List ℤ
  row_is : get_or rs off [] ≡ row
  is : q ≡ pos 0 ∷ (coefficients row ++ entry row 0 ∷ units long (i + off))

given_of : (n i long : ℕ) (rs : List (List ℤ)) (q : List ℤ) → In q (carried long i rs) → Given n i long rs q
given_of n i long [] q h = absurd h
given_of n i long (r ∷ rs) q (inl is) =
    let e : i ≡ i + 0 = omega arith in
    record { off = 0; within = omega arith; row = r; row_is = refl; is = sym is ∙ ap (λ k. pos 0 ∷ (coefficients r ++ entry r 0 ∷ units long k)) e }
given_of n i long (r ∷ rs) q (inr h) =
    let g = given_of n (suc i) long rs q h in
    let e : suc i + g.off ≡ i + suc g.off = omega arith in
    record { off = suc g.off; within = let w = g.within in omega arith; row = g.row; row_is = g.row_is; is = g.is ∙ ap (λ k. pos 0 ∷ (coefficients g.row ++ entry g.row 0 ∷ units long k)) e }

drop-after : (cs ys : List ℤ) (n : ℕ) → length cs ≡ n → drop n (cs ++ ys) ≡ ys
drop-after [] ys zero e = refl
drop-after [] ys (suc n) e = absurd (omega arith)
drop-after (c ∷ cs) ys zero e = absurd (omega arith)
drop-after (c ∷ cs) ys (suc n) e = drop-after cs ys n (omega arith)

entry-before : (cs ys : List ℤ) (j : ℕ) → j < length cs → entry (cs ++ ys) j ≡ entry cs j
entry-before [] ys j h = absurd (omega arith)
entry-before (c ∷ cs) ys zero h = refl
entry-before (c ∷ cs) ys (suc j) h = entry-before cs ys j (omega arith)

entry-there : (cs : List ℤ) (b : ℤ) (ys : List ℤ) (n : ℕ) → length cs ≡ n → entry (cs ++ b ∷ ys) n ≡ b
entry-there [] b ys zero e = refl
entry-there [] b ys (suc n) e = absurd (omega arith)
entry-there (c ∷ cs) b ys zero e = absurd (omega arith)
entry-there (c ∷ cs) b ys (suc n) e = entry-there cs b ys n (omega arith)

entry-column : (rows : List (List ℤ)) (i j : ℕ) → entry (column rows j) i ≡ entry (get_or rows i []) j
entry-column [] i j = refl
entry-column (r ∷ rs) zero j = refl
entry-column (r ∷ rs) (suc i) j = entry-column rs i j

length-column : (rows : List (List ℤ)) (j : ℕ) → length (column rows j) ≡ length rows
length-column [] j = refl
length-column (r ∷ rs) j = ap suc (length-column rs j)

length-given : (cs : List ℤ) (b : ℤ) (ys : List ℤ) (n m : ℕ) → length cs ≡ n → length ys ≡ m → length (pos 0 ∷ (cs ++ b ∷ ys)) ≡ n + 2 + m
length-given cs b ys n m e f = omega (arith, length-append cs (b ∷ ys))

drop-given : (cs : List ℤ) (b : ℤ) (ys : List ℤ) (n : ℕ) → length cs ≡ n → drop (n + 2) (pos 0 ∷ (cs ++ b ∷ ys)) ≡ ys
drop-given cs b ys n e =
    let two : n + 2 ≡ suc (n + 1) = omega arith in
    ap (λ k. drop k (pos 0 ∷ (cs ++ b ∷ ys))) two ∙ more cs n e
  where
    more : (cs : List ℤ) (n : ℕ) → length cs ≡ n → drop (n + 1) (cs ++ b ∷ ys) ≡ ys
    more [] zero e = refl
    more [] (suc n) e = absurd (omega arith)
    more (c ∷ cs) zero e = absurd (omega arith)
    more (c ∷ cs) (suc n) e =
        let one : suc n + 1 ≡ suc (n + 1) = omega arith in
        ap (λ k. drop k (c ∷ (cs ++ b ∷ ys))) one ∙ more cs n (omega arith)

one_carries : (n i : ℕ) (given : List (List ℤ)) (b : ℤ) (cs : List ℤ) → length cs ≡ n → i < length given → get_or given i [] ≡ b ∷ cs → Carries n given (pos 0 ∷ (cs ++ b ∷ units (length given) i))
one_carries n i given b cs lc h e =
    record {
      long = length-given cs b (units (length given) i) n (length given) lc (length-units (length given) i);
      natural = λ j. subst (λ l. pos 0 ≤ℤ entry l j) (sym part) (nonneg-units (length given) i j);
      columns = column_part;
      constant = part_dot 0 ∙ ap (λ r. entry r 0) e ∙ total;
    }
  where
    part : drop (n + 2) (pos 0 ∷ (cs ++ b ∷ units (length given) i)) ≡ units (length given) i
    part = drop-given cs b (units (length given) i) n lc

    part_dot : (j : ℕ) → dot (drop (n + 2) (pos 0 ∷ (cs ++ b ∷ units (length given) i))) (column given j) ≡ entry (get_or given i []) j
    part_dot j = ap (λ l. dot l (column given j)) part ∙ dot-unit (length given) i (column given j) h (sym (length-column given j)) ∙ entry-column given i j

    column_part : (j : ℕ) → 1 ≤ j → j ≤ n → dot (drop (n + 2) (pos 0 ∷ (cs ++ b ∷ units (length given) i))) (column given j) ≤ℤ entry (pos 0 ∷ (cs ++ b ∷ units (length given) i)) j
    column_part zero l g = absurd (omega arith)
    column_part (suc j) l g =
        let x = part_dot (suc j) ∙ ap (λ r. entry r (suc j)) e in
        let y = entry-before cs (b ∷ units (length given) i) j (omega arith) in
        omega (arith, ints, x, y)

    total : b ≡ pos 0 +ℤ entry (pos 0 ∷ (cs ++ b ∷ units (length given) i)) (n + 1)
    total =
        let one : n + 1 ≡ suc n = omega arith in
        let at = entry-there cs b (units (length given) i) n lc in
        sym (ap (λ k. pos 0 +ℤ entry (pos 0 ∷ (cs ++ b ∷ units (length given) i)) k) one ∙ ap (λ z. pos 0 +ℤ z) at ∙ omega (arith, ints))

given_carry : (n : ℕ) (given : List (List ℤ)) (q : List ℤ) → All (λ r. length r ≡ n + 1) given → In q (carried (length given) 0 given) → Carries n given q
given_carry n given q wide m =
    let g = given_of n 0 (length given) given q m in
    let off : 0 + g.off ≡ g.off = omega arith in
    let long : length g.row ≡ n + 1 = ap length (sym g.row_is) ∙ wide g.off [] g.within in
    turn g.row g.off long g.within g.row_is (g.is ∙ ap (λ k. pos 0 ∷ (coefficients g.row ++ entry g.row 0 ∷ units (length given) k)) off)
  where
    turn : (row : List ℤ) (i : ℕ) → length row ≡ n + 1 → i < length given → get_or given i [] ≡ row → q ≡ pos 0 ∷ (coefficients row ++ entry row 0 ∷ units (length given) i) → Carries n given q
    turn [] i l h e is = absurd (omega arith)
    turn (b ∷ cs) i l h e is = subst (Carries n given) (sym is) (one_carries n i given b cs (omega arith) h e)

pub start_carries : (n : ℕ) (given : List (List ℤ)) → All (λ r. length r ≡ n + 1) given → AllCarry n given (start_rows n given)
unfolding start_rows
start_carries n given wide q m = elim (of-append (floors n 0 (n + 1 + length given)) ((negsuc 0 ∷ units (n + 1 + length given) n) ∷ carried (length given) 0 given) q m) [
  | inl a ↦ floors_carry n n 0 given q (omega arith) a
  | inr b ↦ elim b [
    | inl is ↦ subst (Carries n given) is (plain_carries n n (negsuc 0) given (omega arith) (let e = entry-units (n + 1 + length given) n (omega arith) in omega (arith, ints, e)))
    | inr c ↦ given_carry n given q wide c
  ]
]

-- ---- the row that is left
kept_matters : (m : ℕ) (rows : List (List ℤ)) (x : List ℤ) → In x (cleaned m rows) → is_trivial m x ≡ false
kept_matters m rows x h = elim (in_kept m [] (filter (λ r. not (is_trivial m r)) (map reduced rows)) x h) [
  | inl l ↦ absurd l
  | inr j ↦ not_true (is_trivial m x) (of-filter (λ r. not (is_trivial m r)) (map reduced rows) x j).1
]
  where
    not_true : (b : Bool) → not b ≡ true → b ≡ false
    not_true true e = cc
    not_true false e = refl

left_matters : (m k : ℕ) (ks : List ℕ) (rows : List (List ℤ)) (x : List ℤ) → In x (all_eliminated m (k ∷ ks) rows) → is_trivial m x ≡ false
left_matters m k [] rows x h = kept_matters m (step (m + 1) k rows) x h
left_matters m k (j ∷ ks) rows x h = left_matters m j ks (eliminated m k rows) x h

agree_zeros : (m : ℕ) (r : List ℤ) → ((j : ℕ) → 1 ≤ j → j ≤ m → entry r j ≡ pos 0) → agree m r [] ≡ true
agree_zeros zero r z = refl
agree_zeros (suc m) r z = both_true (same_to (entry r (suc m)) (pos 0) (z (suc m) (omega arith) (omega arith))) (agree_zeros m r (λ j l h. z j l (omega arith)))

negative_left : (m : ℕ) (r : List ℤ) → ((j : ℕ) → 1 ≤ j → j ≤ m → entry r j ≡ pos 0) → is_trivial m r ≡ false → entry r 0 <ℤ pos 0
negative_left m r z e =
    let low : int_le (pos 0) (entry r 0) ≡ false = rw (agree_zeros m r z) at e in
    below_zero (entry r 0) low
  where
    below_zero : (x : ℤ) → int_le (pos 0) x ≡ false → x <ℤ pos 0
    below_zero x e = search (arith, ints)

in-columns : (k n j : ℕ) → k ≤ j → j < k + n → In j (columns k n)
in-columns k zero j l h = absurd (omega arith)
in-columns k (suc n) j l h = look (first_or k j l) (λ more. in-columns (suc k) n j more (omega arith))
  where
    first_or : (i j : ℕ) → i ≤ j → (i ≡ j) ⊎ (suc i ≤ j)
    first_or i j l = search arith

    look : (k ≡ j) ⊎ (suc k ≤ j) → (suc k ≤ j → In j (columns (suc k) n)) → In j (k ∷ columns (suc k) n)
    look (inl is) next = inl is
    look (inr more) next = inr (next more)

pub within-columns : (k n m : ℕ) → k + n ≤ m + 1 → (j : ℕ) → In j (columns k n) → j ≤ m
within-columns k zero m h j i = absurd i
within-columns k (suc n) m h j (inl is) = omega arith
within-columns k (suc n) m h j (inr i) = within-columns (suc k) n m (omega arith) j i

length-drop-of : (k : ℕ) (xs : List ℤ) (m : ℕ) → length xs ≡ k + m → length (drop k xs) ≡ m
length-drop-of zero xs m e = omega arith
length-drop-of (suc k) [] m e = absurd (omega arith)
length-drop-of (suc k) (x ∷ xs) m e = length-drop-of k xs m (omega arith)

all_from_entries : (xs : List ℤ) → ((j : ℕ) → pos 0 ≤ℤ entry xs j) → All (λ m. pos 0 ≤ℤ m) xs
all_from_entries xs h = to_All (λ m. pos 0 ≤ℤ m) xs (λ x i. look xs x h i)
  where
    look : (xs : List ℤ) (x : ℤ) → ((j : ℕ) → pos 0 ≤ℤ entry xs j) → In x xs → pos 0 ≤ℤ x
    look [] x h i = absurd i
    look (y ∷ ys) x h (inl is) = rw (← is) (h 0)
    look (y ∷ ys) x h (inr i) = look ys x (λ j. h (suc j)) i

refutes : (n : ℕ) (given : List (List ℤ)) (r : List ℤ) → Carries n given r → ((j : ℕ) → 1 ≤ j → j ≤ n + 1 → entry r j ≡ pos 0) → entry r 0 <ℤ pos 0 → Refutes n given (drop (n + 2) r)
refutes n given r c z low =
    record {
      long = length-drop-of (n + 2) r (length given) c.long;
      natural = all_from_entries (drop (n + 2) r) c.natural;
      proves = λ target lt k h. at target k (omega arith);
    }
  where
    at : (target : List ℤ) (k : ℕ) → k ≤ n → pos 0 ≤ℤ rest_number given (drop (n + 2) r) target (pos 0) k
    at target zero h = let e = c.constant in let t = z (n + 1) (omega arith) (omega arith) in omega (arith, ints, e, t)
    at target (suc k) h = let e = c.columns (suc k) (omega arith) h in let t = z (suc k) (omega arith) (omega arith) in omega (arith, ints, e, t)

-- what led to a refutation
record Way (n : ℕ) (given : List (List ℤ)) (ms : List ℤ) : Type 0 where
  row : List ℤ
  here : In row (all_eliminated (n + 1) (columns 1 (n + 1)) (start_rows n given))
  is : drop (n + 2) row ≡ ms

way_of : (n : ℕ) (given : List (List ℤ)) (ms : List ℤ) → solution n given ≡ Refuted ms → Way n given ms
unfolding solution
way_of n given ms e = by_steps (blown_step (n + 1) (columns 1 (n + 1)) (start_rows n given)) e
  where
    by_fit : (xs : List ℤ) (b : Bool) → cond b (Found (entry xs n) (take n xs)) (Blown (n + 1) true) ≡ Refuted ms → Way n given ms
    by_fit xs true e = cc
    by_fit xs false e = cc

    by_values : (o : Option (List ℤ)) → found_of n given o ≡ Refuted ms → Way n given ms
    by_values None e = cc
    by_values (Some xs) e = by_fit xs (point_fits given (entry xs n) (take n xs)) e

    by_check : (r : List ℤ) → In r (all_eliminated (n + 1) (columns 1 (n + 1)) (start_rows n given)) → (b : Bool) → cond b (Refuted (drop (n + 2) r)) (Blown (n + 1) true) ≡ Refuted ms → Way n given ms
    by_check r i true e = record { row = r; here = i; is = cc }
    by_check r i false e = cc

    by_left : (l : List (List ℤ)) → all_eliminated (n + 1) (columns 1 (n + 1)) (start_rows n given) ≡ l → end_of n given l ≡ Refuted ms → Way n given ms
    by_left [] is e = by_values (whole_values (n + 1) (columns 1 (n + 1)) (start_rows n given)) e
    by_left (r ∷ rs) is e = by_check r (subst (In r) (sym is) (inl refl)) (refutes_in given (drop (n + 2) r) 0 (n + 1)) e

    by_steps : (o : Option (ℕ × Bool)) → solved_by n given o ≡ Refuted ms → Way n given ms
    by_steps (Some (s, b)) e = cc
    by_steps None e = by_left (all_eliminated (n + 1) (columns 1 (n + 1)) (start_rows n given)) refl e

-- each row that is left carries multipliers that refute the rows
pub left_refutes : (n : ℕ) (given : List (List ℤ)) (row : List ℤ) → All (λ r. length r ≡ n + 1) given → In row (all_eliminated (n + 1) (columns 1 (n + 1)) (start_rows n given)) → Refutes n given (drop (n + 2) row)
left_refutes n given row wide here =
    let w = within-columns 1 (n + 1) (n + 1) (omega arith) in
    let c = all_carry n (n + 1) (columns 1 (n + 1)) given (start_rows n given) w (start_carries n given wide) row here in
    let z : (j : ℕ) → 1 ≤ j → j ≤ n + 1 → entry row j ≡ pos 0 = λ j l h. all_gone (n + 1) (columns 1 (n + 1)) j (start_rows n given) w (in-columns 1 (n + 1) j l (omega arith)) row here in
    let one : n + 1 ≡ suc n = omega arith in
    let here2 : In row (all_eliminated (n + 1) (columns 1 (suc n)) (start_rows n given)) = subst (λ k. In row (all_eliminated (n + 1) (columns 1 k) (start_rows n given))) one here in
    let low = negative_left (n + 1) row z (left_matters (n + 1) 1 (columns 2 n) (start_rows n given) row here2) in
    refutes n given row c z low

pub refuted_refutes : (n : ℕ) (given : List (List ℤ)) (ms : List ℤ) → All (λ r. length r ≡ n + 1) given → solution n given ≡ Refuted ms → Refutes n given ms
refuted_refutes n given ms wide e =
    let way = way_of n given ms e in
    subst (Refutes n given) way.is (left_refutes n given way.row wide way.here)
