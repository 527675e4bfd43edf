-- Rows of linear terms have the terms' measures as their values.
use Rattle.std.proofs.Common.{◌≡◌, ℕ, zero, suc, ◌+◌, ◌*◌, ◌<◌, ◌≤◌, ◌==◌, if◌then◌else◌, Bool, true, false, ◌&&◌, nat_lt, ℤ, pos, ◌+ℤ◌, ◌*ℤ◌, List, [], ◌∷◌, map, length, replicate, Option, None, Some, IsTrue, mul_comm, add_comm, refl, ap, sym, subst, ◌∙◌, arith}
use Rattle.std.proofs.lemmas.Int.{ints}
use Rattle.std.proofs.lemmas.List.{length-map}
use Rattle.std.proofs.lemmas.Bool.{and_parts}
use Rattle.std.proofs.lemmas.Bool.Decides.{nat_tests}
use Rattle.exact128.specs.Sums.{dot}
use Rattle.linear_rows.specs.RowSums.{scaled, added}
use Rattle.cti_terms.specs.Tree.{Tree, Trees, Variable, Integer, Compound, End, More, size, truth, all_truths, is_below}
use Rattle.cti_terms.specs.declared.builtins.Arith.{Arith}
use Rattle.term_size.specs.Norm.{weighted}
use Rattle.term_size.specs.Occurrences.{occurrences_from}
use Rattle.term_size.specs.TermSize.{is_a_norm}
use Rattle.termination_model.specs.columns.Columns.{Valuation, numbers_from, numbers, IsExpression}
use Rattle.termination_model.specs.columns.Measures.{Parts, of_integer, no_parts, sum_parts, minus_parts, product_parts, parts_at, parts_of, parts, all_parts}
use Rattle.termination_model.specs.columns.Expressions.{PartRows, constant_row, unit, unit_row, constant_rows, Linear, minus_if, sum_if, scaled_if, product_if, rows_at, fixed_at, linear_of, linear, all_linear, occurring, size_row, above_row, below_row, expression, three_columns}
use Rattle.termination_model.specs.columns.MeasureLaws.{ThreeColumns}
use Rattle.termination_model.proofs.ColumnPoints.{length-numbers_from}
use Rattle.termination_model.proofs.Measures.{measures_of_instance, rigid_measures, stated_hold}
use Rattle.termination_model.proofs.Proved.{length-added}
use Rattle.termination_model.proofs.SystemPoints.{dot_scaled, dot_added, dot_zeros}

-- ---- lengths
length-zeros : (n : ℕ) → length (replicate n (pos 0)) ≡ n
length-zeros zero = refl
length-zeros (suc n) = ap suc (length-zeros n)

abbrev AreLong : ℕ → Option PartRows → Type 0
AreLong n None = Unit {0}
AreLong n (Some r) = (length r.0 ≡ n) × (length r.1 ≡ n)

abbrev AllLong : ℕ → List Linear → Type 0
AllLong n [] = Unit {0}
AllLong n (l ∷ ls) = AreLong n l.rows × AllLong n ls

constant_long : (vars : ℕ) (p : Parts) → AreLong (suc (vars * 3)) (Some (constant_rows vars p))
constant_long vars p = (ap suc (length-zeros (vars * 3)), ap suc (length-zeros (vars * 3)))

minus_long : (n : ℕ) (a : Option PartRows) → AreLong n a → AreLong n (minus_if a)
minus_long n None h = tt
minus_long n (Some a) h = (h.1, h.0)

sum_long : (n : ℕ) (a b : Option PartRows) → AreLong n a → AreLong n b → AreLong n (sum_if a b)
sum_long n None b h k = tt
sum_long n (Some a) None h k = tt
sum_long n (Some a) (Some b) h k = (length-added n a.0 b.0 h.0 (omega (arith, k.0)), length-added n a.1 b.1 h.1 (omega (arith, k.1)))

length-scaled : (z : ℤ) (xs : List ℤ) → length (scaled z xs) ≡ length xs
length-scaled z xs = length-map xs (λ x. z *ℤ x)

scaled_long : (n : ℕ) (p : Parts) (a : Option PartRows) → AreLong n a → AreLong n (scaled_if p a)
scaled_long n p None h = tt
scaled_long n p (Some a) h =
    let l0 = length-scaled (pos p.0) a.0 in
    let l1 = length-scaled (pos p.1) a.1 in
    let l2 = length-scaled (pos p.0) a.1 in
    let l3 = length-scaled (pos p.1) a.0 in
    (length-added n (scaled (pos p.0) a.0) (scaled (pos p.1) a.1) (l0 ∙ h.0) (omega (arith, l1, h.1)), length-added n (scaled (pos p.0) a.1) (scaled (pos p.1) a.0) (l2 ∙ h.1) (omega (arith, l3, h.0)))

product_long : (n : ℕ) (a b : Linear) → AreLong n a.rows → AreLong n b.rows → AreLong n (product_if a b)
product_long n a b h k = go a.fixed b.fixed
  where
    go : (s t : Bool) → AreLong n (if s then scaled_if a.parts b.rows else if t then scaled_if b.parts a.rows else None)
    go true t = scaled_long n a.parts b.rows k
    go false true = scaled_long n b.parts a.rows h
    go false false = tt

at_long : (vars : ℕ) (o : Arith) (f : ℕ) (ls : List Linear) → AllLong (suc (vars * 3)) ls → AreLong (suc (vars * 3)) (rows_at vars o f ls)
at_long vars o f [] h = constant_long vars no_parts
at_long vars o f (a ∷ []) h = go (f == o.minus.0)
  where
    go : (t : Bool) → AreLong (suc (vars * 3)) (if t then minus_if a.rows else Some (constant_rows vars no_parts))
    go true = minus_long (suc (vars * 3)) a.rows h.0
    go false = constant_long vars no_parts
at_long vars o f (a ∷ (b ∷ [])) h = go (f == o.plus.0) (f == o.minus.0) (f == o.times.0)
  where
    go : (t u v : Bool) → AreLong (suc (vars * 3)) (if t then sum_if a.rows b.rows else if u then sum_if a.rows (minus_if b.rows) else if v then product_if a b else Some (constant_rows vars no_parts))
    go true u v = sum_long (suc (vars * 3)) a.rows b.rows h.0 h.1.0
    go false true v = sum_long (suc (vars * 3)) a.rows (minus_if b.rows) h.0 (minus_long (suc (vars * 3)) b.rows h.1.0)
    go false false true = product_long (suc (vars * 3)) a b h.0 h.1.0
    go false false false = constant_long vars no_parts
at_long vars o f (a ∷ (b ∷ (c ∷ cs))) h = constant_long vars no_parts

of_long : (vars : ℕ) (o : Option Arith) (f : ℕ) (ls : List Linear) → AllLong (suc (vars * 3)) ls → AreLong (suc (vars * 3)) (linear_of vars o f ls).rows
of_long vars None f ls h = constant_long vars no_parts
of_long vars (Some o) f ls h = at_long vars o f ls h

mutual
  rows_long : (o : Option Arith) (vars : ℕ) (t : Tree) → AreLong (suc (vars * 3)) (linear o vars t).rows
  rows_long o vars (Variable x) = (ap suc (length-numbers_from 3 0 vars (unit x 1)), ap suc (length-numbers_from 3 0 vars (unit x 2)))
  rows_long o vars (Integer n) = constant_long vars (of_integer n)
  rows_long o vars (Compound f ts) = of_long vars o f (all_linear o vars ts) (all_long o vars ts)

  all_long : (o : Option Arith) (vars : ℕ) (ts : Trees) → AllLong (suc (vars * 3)) (all_linear o vars ts)
  all_long o vars End = tt
  all_long o vars (More t ts) = (rows_long o vars t, all_long o vars ts)

-- ---- values at a point
constant_value : (vars k : ℕ) (vs : List ℤ) → dot (constant_row vars k) (pos 1 ∷ vs) ≡ pos k
unfolding dot
constant_value vars k vs = let z = dot_zeros (vars * 3) vs in omega (arith, ints, z)

-- a row of one number of a variable, from variable z on
dot_three : (f : ℕ → ℕ → ℤ) (s : Valuation) (z n : ℕ) → dot (numbers_from 3 z (suc n) f) (map pos (numbers_from 3 z (suc n) s))
    ≡ ((f z 0 *ℤ pos (s z 0)) +ℤ ((f z 1 *ℤ pos (s z 1)) +ℤ (f z 2 *ℤ pos (s z 2)))) +ℤ dot (numbers_from 3 (suc z) n f) (map pos (numbers_from 3 (suc z) n s))
unfolding dot
dot_three f s z n = omega (arith, ints)

unit_past : (x j : ℕ) (s : Valuation) (z n : ℕ) → x < z → dot (numbers_from 3 z n (unit x j)) (map pos (numbers_from 3 z n s)) ≡ pos 0
unfolding dot
unit_past x j s z zero l = refl
unit_past x j s z (suc n) l =
    let apart : (z == x) ≡ false = grind (arith, nat_tests) in
    let rest = unit_past x j s (suc z) n (omega arith) in
    dot_three (unit x j) s z n ∙ rw apart (omega (arith, ints, rest))

one_of_three : (j : ℕ) (g : ℕ → ℕ) → j < 3 → (((if 0 == j then pos 1 else pos 0) *ℤ pos (g 0)) +ℤ (((if 1 == j then pos 1 else pos 0) *ℤ pos (g 1)) +ℤ ((if 2 == j then pos 1 else pos 0) *ℤ pos (g 2)))) ≡ pos (g j)
one_of_three zero g l = omega (arith, ints)
one_of_three (suc zero) g l = omega (arith, ints)
one_of_three (suc (suc zero)) g l = omega (arith, ints)
one_of_three (suc (suc (suc j))) g l = absurd (omega arith)

unit_value : (x j : ℕ) (s : Valuation) (z n : ℕ) → j < 3 → z ≤ x → x < z + n → dot (numbers_from 3 z n (unit x j)) (map pos (numbers_from 3 z n s)) ≡ pos (s x j)
unit_value x j s z zero lj l m = absurd (omega arith)
unit_value x j s z (suc n) lj l m = go (z == x) refl (λ h. unit_value x j s (suc z) n lj h (omega arith))
  where
    go : (t : Bool) → (z == x) ≡ t → (suc z ≤ x → dot (numbers_from 3 (suc z) n (unit x j)) (map pos (numbers_from 3 (suc z) n s)) ≡ pos (s x j))
        → dot (numbers_from 3 z (suc n) (unit x j)) (map pos (numbers_from 3 z (suc n) s)) ≡ pos (s x j)
    go true e rec =
        let same : z ≡ x = grind (arith, nat_tests) in
        let rest = unit_past x j s (suc z) n (omega (arith, same)) in
        let own = one_of_three j (s z) lj in
        let at : pos (s z j) ≡ pos (s x j) = ap (λ (y : ℕ). pos (s y j)) same in
        dot_three (unit x j) s z n ∙ rw e (omega (arith, ints, rest, own, at))
    go false e rec =
        let later : suc z ≤ x = grind (arith, nat_tests) in
        let rest = rec later in
        dot_three (unit x j) s z n ∙ rw e (omega (arith, ints, rest))

-- ---- rows and fixed parts agree with the parts of the term
module _ (vs : List ℤ) where
  abbrev RowsAgree : Parts → Option PartRows → Type 0
  RowsAgree p None = Unit {0}
  RowsAgree p (Some r) = (dot r.0 (pos 1 ∷ vs) ≡ pos p.0) × (dot r.1 (pos 1 ∷ vs) ≡ pos p.1)

  abbrev Agrees : Parts → Linear → Type 0
  Agrees p l = RowsAgree p l.rows × (l.fixed ≡ true → l.parts ≡ p)

  abbrev AllAgree : List Parts → List Linear → Type 0
  AllAgree [] [] = Unit {0}
  AllAgree [] (l ∷ ls) = ⊥
  AllAgree (p ∷ ps) [] = ⊥
  AllAgree (p ∷ ps) (l ∷ ls) = Agrees p l × AllAgree ps ls

  constants_agree : (vars : ℕ) (p : Parts) → RowsAgree p (Some (constant_rows vars p))
  constants_agree vars p = (constant_value vars p.0 vs, constant_value vars p.1 vs)

  minus_agrees : (p : Parts) (a : Option PartRows) → RowsAgree p a → RowsAgree (minus_parts p) (minus_if a)
  minus_agrees p None h = tt
  minus_agrees p (Some a) h = (h.1, h.0)

  added_value : (xs ys : List ℤ) (a b : ℕ) → dot xs (pos 1 ∷ vs) ≡ pos a → dot ys (pos 1 ∷ vs) ≡ pos b → dot (added xs ys) (pos 1 ∷ vs) ≡ pos (a + b)
  added_value xs ys a b h k = let d = dot_added xs ys (pos 1 ∷ vs) in d ∙ (λ i. h i +ℤ k i)

  scaled_value : (n : ℕ) (xs : List ℤ) (a : ℕ) → dot xs (pos 1 ∷ vs) ≡ pos a → dot (scaled (pos n) xs) (pos 1 ∷ vs) ≡ pos (n * a)
  scaled_value n xs a h = dot_scaled (pos n) xs (pos 1 ∷ vs) ∙ (λ i. pos n *ℤ h i)

  sum_agrees : (p q : Parts) (a b : Option PartRows) → RowsAgree p a → RowsAgree q b → RowsAgree (sum_parts p q) (sum_if a b)
  sum_agrees p q None b h k = tt
  sum_agrees p q (Some a) None h k = tt
  sum_agrees p q (Some a) (Some b) h k = (added_value a.0 b.0 p.0 q.0 h.0 k.0, added_value a.1 b.1 p.1 q.1 h.1 k.1)

  scaled_agrees : (p q : Parts) (b : Option PartRows) → RowsAgree q b → RowsAgree (product_parts p q) (scaled_if p b)
  scaled_agrees p q None h = tt
  scaled_agrees p q (Some b) h = (
    added_value (scaled (pos p.0) b.0) (scaled (pos p.1) b.1) (p.0 * q.0) (p.1 * q.1) (scaled_value p.0 b.0 q.0 h.0) (scaled_value p.1 b.1 q.1 h.1),
    added_value (scaled (pos p.0) b.1) (scaled (pos p.1) b.0) (p.0 * q.1) (p.1 * q.0) (scaled_value p.0 b.1 q.1 h.1) (scaled_value p.1 b.0 q.0 h.0),
  )

  swap_first : (a b c d : ℕ) → a * b + c * d ≡ b * a + d * c
  swap_first a b c d = λ i. mul_comm a b i + mul_comm c d i

  swap_second : (a b c d : ℕ) → a * b + c * d ≡ d * c + b * a
  swap_second a b c d = (λ i. mul_comm a b i + mul_comm c d i) ∙ add_comm (b * a) (d * c)

  product_comm : (p q : Parts) → product_parts p q ≡ product_parts q p
  product_comm p q = λ i. (swap_first p.0 q.0 p.1 q.1 i, swap_second p.0 q.1 p.1 q.0 i)

  product_agrees : (p q : Parts) (a b : Linear) → Agrees p a → Agrees q b → RowsAgree (product_parts p q) (product_if a b)
  product_agrees p q a b h k = go a.fixed b.fixed refl refl
    where
      go : (s t : Bool) → a.fixed ≡ s → b.fixed ≡ t → RowsAgree (product_parts p q) (if s then scaled_if a.parts b.rows else if t then scaled_if b.parts a.rows else None)
      go true t e f = subst (λ (z : Parts). RowsAgree (product_parts z q) (scaled_if a.parts b.rows)) (h.1 e) (scaled_agrees a.parts q b.rows k.0)
      go false true e f =
          subst (λ (z : Parts). RowsAgree z (scaled_if b.parts a.rows)) (product_comm q p)
          (subst (λ (z : Parts). RowsAgree (product_parts z p) (scaled_if b.parts a.rows)) (k.1 f) (scaled_agrees b.parts p a.rows h.0))
      go false false e f = tt

  at_agrees : (vars : ℕ) (o : Arith) (f : ℕ) (ps : List Parts) (ls : List Linear) → AllAgree ps ls → RowsAgree (parts_at o f ps) (rows_at vars o f ls)
  at_agrees vars o f [] [] h = constants_agree vars no_parts
  at_agrees vars o f [] (l ∷ ls) h = absurd h
  at_agrees vars o f (p ∷ ps) [] h = absurd h
  at_agrees vars o f (p ∷ []) (a ∷ []) h = go (f == o.minus.0)
    where
      go : (t : Bool) → RowsAgree (if t then minus_parts p else no_parts) (if t then minus_if a.rows else Some (constant_rows vars no_parts))
      go true = minus_agrees p a.rows h.0.0
      go false = constants_agree vars no_parts
  at_agrees vars o f (p ∷ []) (a ∷ (b ∷ ls)) h = absurd h.1
  at_agrees vars o f (p ∷ (q ∷ ps)) (a ∷ []) h = absurd h.1
  at_agrees vars o f (p ∷ (q ∷ [])) (a ∷ (b ∷ [])) h = go (f == o.plus.0) (f == o.minus.0) (f == o.times.0)
    where
      go : (t u v : Bool) → RowsAgree (if t then sum_parts p q else if u then sum_parts p (minus_parts q) else if v then product_parts p q else no_parts)
          (if t then sum_if a.rows b.rows else if u then sum_if a.rows (minus_if b.rows) else if v then product_if a b else Some (constant_rows vars no_parts))
      go true u v = sum_agrees p q a.rows b.rows h.0.0 h.1.0.0
      go false true v = sum_agrees p (minus_parts q) a.rows (minus_if b.rows) h.0.0 (minus_agrees q b.rows h.1.0.0)
      go false false true = product_agrees p q a b h.0 h.1.0
      go false false false = constants_agree vars no_parts
  at_agrees vars o f (p ∷ (q ∷ [])) (a ∷ (b ∷ (c ∷ ls))) h = absurd h.1.1
  at_agrees vars o f (p ∷ (q ∷ (r ∷ ps))) (a ∷ (b ∷ [])) h = absurd h.1.1
  at_agrees vars o f (p ∷ (q ∷ (r ∷ ps))) (a ∷ (b ∷ (c ∷ ls))) h = constants_agree vars no_parts

  at_fixed : (o : Arith) (f : ℕ) (ps : List Parts) (ls : List Linear) → AllAgree ps ls → fixed_at o f ls ≡ true → parts_at o f (map (λ (l : Linear). l.parts) ls) ≡ parts_at o f ps
  at_fixed o f [] [] h e = refl
  at_fixed o f [] (l ∷ ls) h e = absurd h
  at_fixed o f (p ∷ ps) [] h e = absurd h
  at_fixed o f (p ∷ []) (a ∷ []) h e = go (f == o.minus.0) e
    where
      go : (t : Bool) → (if t then a.fixed else true) ≡ true → (if t then minus_parts a.parts else no_parts) ≡ (if t then minus_parts p else no_parts)
      go true q = ap minus_parts (h.0.1 q)
      go false q = refl
  at_fixed o f (p ∷ []) (a ∷ (b ∷ ls)) h e = absurd h.1
  at_fixed o f (p ∷ (q ∷ ps)) (a ∷ []) h e = absurd h.1
  at_fixed o f (p ∷ (q ∷ [])) (a ∷ (b ∷ [])) h e = go (f == o.plus.0) (f == o.minus.0) (f == o.times.0) e
    where
      both_fixed : a.fixed && b.fixed ≡ true → (a.parts ≡ p) × (b.parts ≡ q)
      both_fixed z = let w = and_parts a.fixed b.fixed z in (h.0.1 w.0, h.1.0.1 w.1)

      go : (t u v : Bool) → (if t then a.fixed && b.fixed else if u then a.fixed && b.fixed else if v then a.fixed && b.fixed else true) ≡ true
          → (if t then sum_parts a.parts b.parts else if u then sum_parts a.parts (minus_parts b.parts) else if v then product_parts a.parts b.parts else no_parts)
          ≡ (if t then sum_parts p q else if u then sum_parts p (minus_parts q) else if v then product_parts p q else no_parts)
      go true u v z = let w = both_fixed z in λ i. sum_parts (w.0 i) (w.1 i)
      go false true v z = let w = both_fixed z in λ i. sum_parts (w.0 i) (minus_parts (w.1 i))
      go false false true z = let w = both_fixed z in λ i. product_parts (w.0 i) (w.1 i)
      go false false false z = refl
  at_fixed o f (p ∷ (q ∷ [])) (a ∷ (b ∷ (c ∷ ls))) h e = absurd h.1.1
  at_fixed o f (p ∷ (q ∷ (r ∷ ps))) (a ∷ (b ∷ [])) h e = absurd h.1.1
  at_fixed o f (p ∷ (q ∷ (r ∷ ps))) (a ∷ (b ∷ (c ∷ ls))) h e = refl

  of_agrees : (vars : ℕ) (o : Option Arith) (f : ℕ) (ps : List Parts) (ls : List Linear) → AllAgree ps ls → Agrees (parts_of o f ps) (linear_of vars o f ls)
  of_agrees vars None f ps ls h = (constants_agree vars no_parts, λ _. refl)
  of_agrees vars (Some o) f ps ls h = (at_agrees vars o f ps ls h, at_fixed o f ps ls h)

below_is : (x n : ℕ) → nat_lt x n ≡ true → x < n
below_is x n e = grind (arith, nat_tests)

module _ (o : Option Arith) (vars : ℕ) (s : Valuation) where
  abbrev vs : List ℤ
  vs = map pos (numbers 3 vars s)

  unit_at : (x j : ℕ) → j < 3 → x < vars → dot (unit_row vars x j) (pos 1 ∷ vs) ≡ pos (s x j)
  unfolding dot
  unit_at x j lj l = let v = unit_value x j s 0 vars lj (omega arith) (omega arith) in omega (arith, ints, v)

  mutual
    agrees : (t : Tree) → is_below vars t ≡ true → Agrees vs (parts o s t) (linear o vars t)
    agrees (Variable x) e = let l = below_is x vars e in ((unit_at x 1 (omega arith) l, unit_at x 2 (omega arith) l), λ z. absurd (cc))
    agrees (Integer n) e = (constants_agree vs vars (of_integer n), λ _. refl)
    agrees (Compound f ts) e = of_agrees vs vars o f (all_parts o s ts) (all_linear o vars ts) (all_agree ts e)

    all_agree : (ts : Trees) → all_truths (λ x. nat_lt x vars) ts ≡ true → AllAgree vs (all_parts o s ts) (all_linear o vars ts)
    all_agree End e = tt
    all_agree (More t ts) e = let p = and_parts (truth (λ x. nat_lt x vars) t) (all_truths (λ x. nat_lt x vars) ts) e in (agrees t p.0, all_agree ts p.1)

-- the size row is the old one, with two zeros after each number
size_numbers : (t : Tree) (s : Valuation) (z n : ℕ) → dot (numbers_from 3 z n (occurring t)) (map pos (numbers_from 3 z n s)) ≡ weighted (λ x. s x 0) z (occurrences_from z n t)
unfolding dot
size_numbers t s z zero = refl
size_numbers t s z (suc n) = let rest = size_numbers t s (suc z) n in dot_three (occurring t) s z n ∙ omega (arith, ints, rest)

size_value : (vars : ℕ) (t : Tree) (s : Valuation) → IsTrue (is_below vars t) → dot (size_row vars t) (pos 1 ∷ map pos (numbers 3 vars s)) ≡ pos (size (λ x. s x 0) t)
unfolding dot
size_value vars t s h =
    let v = is_a_norm.value vars (λ x. s x 0) t h in
    let r = size_numbers t s 0 vars in
    omega (arith, ints, v, r)

part_there : (a : Option PartRows) (e : List ℤ) → above_row a ≡ Some e → (r : PartRows) × (a ≡ Some r) × (r.0 ≡ e)
part_there None e q = absurd (cc)
part_there (Some r) e q = (r, refl, cc)

part_below : (a : Option PartRows) (e : List ℤ) → below_row a ≡ Some e → (r : PartRows) × (a ≡ Some r) × (r.1 ≡ e)
part_below None e q = absurd (cc)
part_below (Some r) e q = (r, refl, cc)

is_expression : (o : Option Arith) (vars : ℕ) (t : Tree) (j : ℕ) (e : List ℤ) → expression o vars t j ≡ Some e → IsExpression (three_columns o) vars t j e
is_expression o vars t zero e q =
    let same : size_row vars t ≡ e = cc in
    subst (IsExpression (three_columns o) vars t 0) same (ap suc (length-numbers_from 3 0 vars (occurring t)), λ h s. size_value vars t s h)
is_expression o vars t (suc zero) e q =
    let i = part_there (linear o vars t).rows e q in
    let long : AreLong (suc (vars * 3)) (Some i.0) = subst (AreLong (suc (vars * 3))) i.1 (rows_long o vars t) in (
      ap length (sym i.2) ∙ long.0,
      λ h s. let agree : RowsAgree (map pos (numbers 3 vars s)) (parts o s t) (Some i.0) = subst (RowsAgree (map pos (numbers 3 vars s)) (parts o s t)) i.1 (agrees o vars s t h).0 in
          ap (λ (z : List ℤ). dot z (pos 1 ∷ map pos (numbers 3 vars s))) (sym i.2) ∙ agree.0,
    )
is_expression o vars t (suc (suc zero)) e q =
    let i = part_below (linear o vars t).rows e q in
    let long : AreLong (suc (vars * 3)) (Some i.0) = subst (AreLong (suc (vars * 3))) i.1 (rows_long o vars t) in (
      ap length (sym i.2) ∙ long.1,
      λ h s. let agree : RowsAgree (map pos (numbers 3 vars s)) (parts o s t) (Some i.0) = subst (RowsAgree (map pos (numbers 3 vars s)) (parts o s t)) i.1 (agrees o vars s t h).0 in
          ap (λ (z : List ℤ). dot z (pos 1 ∷ map pos (numbers 3 vars s))) (sym i.2) ∙ agree.1,
    )
is_expression o vars t (suc (suc (suc j))) e q = absurd (cc)

pub three_are_columns : ThreeColumns
three_are_columns o = record {
  measure_of_instance = measures_of_instance o;
  truth_of_instance = is_a_norm.truth_of_instance;
  rigid_truth = is_a_norm.rigid_truth;
  rigid_measure = rigid_measures o;
  closed_truth = is_a_norm.closed_truth;
  expressions = is_expression o;
  stated = stated_hold o;
}
