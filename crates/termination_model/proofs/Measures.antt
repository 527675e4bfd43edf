-- The laws of the three measures.
use Rattle.std.proofs.Common.{◌≡◌, ℕ, zero, suc, ◌+◌, ◌*◌, ◌==◌, if◌then◌else◌, Bool, true, false, ℤ, pos, negsuc, ◌+ℤ◌, ◌-ℤ◌, ◌*ℤ◌, neg_ℤ, ◌≤ℤ◌, List, [], ◌∷◌, Option, None, Some, option_and_then, refl, ap, sym, subst, ◌∙◌, arith}
use Rattle.std.specs.List.{AllByRecursion}
use Rattle.std.specs.Prelude.{int_lt, not}
use Rattle.std.proofs.Common.{int_eq}
use Rattle.std.proofs.lemmas.Int.{ints}
use Rattle.std.proofs.lemmas.Bool.{and_parts}
use Rattle.std.proofs.lemmas.Bool.Decides.{Decides-int_eq}
use Rattle.exact128.proofs.Rings.{rings}
use Rattle.exact128.specs.Sums.{dot}
use Rattle.linear_rows.specs.Rows.{Holds}
use Rattle.cti_terms.specs.Arithmetic.{result_of, operation, both, value, all_values, compares, tested, succeeds}
use Rattle.cti_terms.specs.Tree.{Tree, Trees, Variable, Integer, Compound, End, More, truth, all_truths, instance, all_instances, is_rigid}
use Rattle.cti_terms.specs.Unify.{Binding, applied}
use Rattle.cti_terms.proofs.Unifier.{applied_instance}
use Rattle.cti_terms.specs.declared.builtins.Arith.{Arith}
use Rattle.cti_terms.specs.declared.builtins.Builtin.{Builtin}
use Rattle.cti_terms.specs.declared.builtins.Builtin.TheVariants.{Is, Equal, NotEqual, Less, AtMost, Greater, AtLeast}
use Rattle.term_size.specs.TermSize.{is_a_norm}
use Rattle.termination_model.specs.columns.Columns.{Valuation, columns_of}
use Rattle.termination_model.specs.columns.Measures.{Parts, of_integer, no_parts, sum_parts, minus_parts, product_parts, parts_at, parts_of, parts, all_parts, measure, first_exceeds, second_exceeds, size_is_zero, above_is_within, below_is_within, stated_rows, kinds_of_evaluated}
use Rattle.termination_model.specs.columns.MeasureLaws.{InstanceLaw, RigidLaw, ValueLaw, StatedLaw}
use Rattle.termination_model.proofs.BuiltinLaws.{some_inside, both_inside, assigned_integer, tested_values}

-- ---- instances
mutual
  parts_instance : (o : Option Arith) (s : Valuation) (a : ℕ → Tree) (t : Tree) → parts o s (instance a t) ≡ parts o (λ x. measure o s (a x)) t
  parts_instance o s a (Variable x) = refl
  parts_instance o s a (Integer n) = refl
  parts_instance o s a (Compound f ts) = ap (parts_of o f) (all_instance o s a ts)

  all_instance : (o : Option Arith) (s : Valuation) (a : ℕ → Tree) (ts : Trees) → all_parts o s (all_instances a ts) ≡ all_parts o (λ x. measure o s (a x)) ts
  all_instance o s a End = refl
  all_instance o s a (More t ts) =
      let here = parts_instance o s a t in
      let rest = all_instance o s a ts in
      λ i. here i ∷ rest i

pub measures_of_instance : InstanceLaw
measures_of_instance o s a t = λ i j. each j i
  where
    each : (j : ℕ) → measure o s (instance a t) j ≡ measure o (λ x. measure o s (a x)) t j
    each zero = is_a_norm.size_of_instance (λ x. s x 0) a t
    each (suc zero) = ap (λ (p : Parts). p.0) (parts_instance o s a t)
    each (suc (suc zero)) = ap (λ (p : Parts). p.1) (parts_instance o s a t)
    each (suc (suc (suc j))) = refl

-- ---- rigid terms
mutual
  rigid_parts : (o : Option Arith) (r s : Valuation) (t : Tree) → is_rigid t ≡ true → parts o r t ≡ parts o s t
  rigid_parts o r s (Variable x) e = absurd (cc)
  rigid_parts o r s (Integer n) e = refl
  rigid_parts o r s (Compound f ts) e = ap (parts_of o f) (all_rigid o r s ts e)

  all_rigid : (o : Option Arith) (r s : Valuation) (ts : Trees) → all_truths (λ _. false) ts ≡ true → all_parts o r ts ≡ all_parts o s ts
  all_rigid o r s End e = refl
  all_rigid o r s (More t ts) e =
      let p = and_parts (truth (λ _. false) t) (all_truths (λ _. false) ts) e in
      let here = rigid_parts o r s t p.0 in
      let rest = all_rigid o r s ts p.1 in
      λ i. here i ∷ rest i

pub rigid_measures : RigidLaw
rigid_measures o r s t e = λ i j. each j i
  where
    each : (j : ℕ) → measure o r t j ≡ measure o s t j
    each zero = is_a_norm.rigid_size (λ x. r x 0) (λ x. s x 0) t e
    each (suc zero) = ap (λ (p : Parts). p.0) (rigid_parts o r s t e)
    each (suc (suc zero)) = ap (λ (p : Parts). p.1) (rigid_parts o r s t e)
    each (suc (suc (suc j))) = refl

-- ---- values
abbrev IsValue : Parts → ℤ → Type 0
IsValue p n = n ≡ pos p.0 -ℤ pos p.1

abbrev AreValues : List Parts → List ℤ → Type 0
AreValues [] [] = Unit {0}
AreValues [] (n ∷ ns) = ⊥
AreValues (p ∷ ps) [] = ⊥
AreValues (p ∷ ps) (n ∷ ns) = IsValue p n × AreValues ps ns

integer_value : (n : ℤ) → IsValue (of_integer n) n
integer_value (pos n) = omega (arith, ints)
integer_value (negsuc n) = omega (arith, ints)

plus_value : (a b c d : ℕ) (x y : ℤ) → x ≡ pos a -ℤ pos b → y ≡ pos c -ℤ pos d → (x +ℤ y) ≡ pos (a + c) -ℤ pos (b + d)
plus_value a b c d x y e f = omega (arith, ints)

less_value : (a b c d : ℕ) (x y : ℤ) → x ≡ pos a -ℤ pos b → y ≡ pos c -ℤ pos d → (x -ℤ y) ≡ pos (a + d) -ℤ pos (b + c)
less_value a b c d x y e f = omega (arith, ints)

minus_value : (a b : ℕ) (x : ℤ) → x ≡ pos a -ℤ pos b → neg_ℤ x ≡ pos b -ℤ pos a
minus_value a b x e = omega (arith, ints)

pos_times : (a b : ℕ) → pos (a * b) ≡ pos a *ℤ pos b
pos_times a b = refl

times_value : (a b c d : ℕ) (x y : ℤ) → x ≡ pos a -ℤ pos b → y ≡ pos c -ℤ pos d → (x *ℤ y) ≡ pos (a * c + b * d) -ℤ pos (a * d + b * c)
times_value a b c d x y e f =
    let expand : (pos a -ℤ pos b) *ℤ (pos c -ℤ pos d) ≡ ((pos a *ℤ pos c) +ℤ (pos b *ℤ pos d)) -ℤ ((pos a *ℤ pos d) +ℤ (pos b *ℤ pos c)) = simp rings (omega (arith, ints)) in
    (λ i. e i *ℤ f i) ∙ expand

result_value : (o : Arith) (f : ℕ) (ps : List Parts) (ns : List ℤ) (n : ℤ) → AreValues ps ns → result_of o f ns ≡ Some n → IsValue (parts_at o f ps) n
result_value o f [] [] n h e = absurd (cc)
result_value o f [] (m ∷ ns) n h e = absurd h
result_value o f (p ∷ ps) [] n h e = absurd h
result_value o f (p ∷ []) (m ∷ []) n h e = go (f == o.minus.0) e
  where
    go : (t : Bool) → (if t then Some (neg_ℤ m) else None) ≡ Some n → IsValue (if t then minus_parts p else no_parts) n
    go true q = let same : neg_ℤ m ≡ n = cc in sym same ∙ minus_value p.0 p.1 m h.0
    go false q = absurd (cc)
result_value o f (p ∷ []) (m ∷ (k ∷ ns)) n h e = absurd h.1
result_value o f (p ∷ (q ∷ ps)) (m ∷ []) n h e = absurd h.1
result_value o f (p ∷ (q ∷ [])) (m ∷ (k ∷ [])) n h e = go (f == o.plus.0) (f == o.minus.0) (f == o.times.0) e
  where
    go : (t u v : Bool) → (if t then Some (m +ℤ k) else if u then Some (m -ℤ k) else if v then Some (m *ℤ k) else None) ≡ Some n
        → IsValue (if t then sum_parts p q else if u then sum_parts p (minus_parts q) else if v then product_parts p q else no_parts) n
    go true u v r = let same : (m +ℤ k) ≡ n = cc in sym same ∙ plus_value p.0 p.1 q.0 q.1 m k h.0 h.1.0
    go false true v r = let same : (m -ℤ k) ≡ n = cc in sym same ∙ less_value p.0 p.1 q.0 q.1 m k h.0 h.1.0
    go false false true r = let same : (m *ℤ k) ≡ n = cc in sym same ∙ times_value p.0 p.1 q.0 q.1 m k h.0 h.1.0
    go false false false r = absurd (cc)
result_value o f (p ∷ (q ∷ [])) (m ∷ (k ∷ (l ∷ ns))) n h e = absurd h.1.1
result_value o f (p ∷ (q ∷ (r ∷ ps))) (m ∷ (k ∷ [])) n h e = absurd h.1.1
result_value o f (p ∷ (q ∷ (r ∷ ps))) (m ∷ (k ∷ (l ∷ ns))) n h e = absurd (cc)

operation_value : (o : Option Arith) (f : ℕ) (ps : List Parts) (ns : List ℤ) (n : ℤ) → AreValues ps ns → operation o f ns ≡ Some n → IsValue (parts_of o f ps) n
operation_value None f ps ns n h e = absurd (cc)
operation_value (Some o) f ps ns n h e = result_value o f ps ns n h e

-- both of them, where both are there
both_are : (z : ℤ) (xs zs : List ℤ) → both (Some z) (Some xs) ≡ Some zs → z ∷ xs ≡ zs
both_are z xs zs e = cc

mutual
  pub has_value : ValueLaw
  has_value o s (Variable x) n e = absurd (cc)
  has_value o s (Integer m) n e = let same : m ≡ n = cc in subst (IsValue (of_integer m)) same (integer_value m)
  has_value o s (Compound f ts) n e =
      let i = some_inside (operation o f) (all_values o ts) n e in
      let at : operation o f i.0 ≡ Some n = sym (ap (option_and_then (operation o f)) i.1) ∙ e in
      operation_value o f (all_parts o s ts) i.0 n (have_values o s ts i.0 i.1) at

  have_values : (o : Option Arith) (s : Valuation) (ts : Trees) (ns : List ℤ) → all_values o ts ≡ Some ns → AreValues (all_parts o s ts) ns
  have_values o s End ns e = let same : [] ≡ ns = cc in subst (AreValues []) same tt
  have_values o s (More t ts) ns e =
      let i = both_inside (value o t) (all_values o ts) ns e in
      let same : i.0 ∷ i.1 ≡ ns = both_are i.0 i.1 ns (sym (λ j. both (i.2 j) (i.3 j)) ∙ e) in
      subst (AreValues (all_parts o s (More t ts))) same (has_value o s t i.0 i.2, have_values o s ts i.1 i.3)

-- ---- built-in atoms
abbrev Obeyed : (ℕ → ℕ) → (ℕ → ℕ) → List ℤ → Type 0
Obeyed u w r = Holds r 1 (columns_of kinds_of_evaluated (u ∷ (w ∷ [])))

-- at values x of the first and y of the second
first_row : (u w : ℕ → ℕ) (x y d : ℤ) → x ≡ pos (u 1) -ℤ pos (u 2) → y ≡ pos (w 1) -ℤ pos (w 2) → (y -ℤ d) ≤ℤ x → Obeyed u w (first_exceeds d)
unfolding dot
first_row u w x y d e f l = omega (arith, ints)

second_row : (u w : ℕ → ℕ) (x y d : ℤ) → x ≡ pos (u 1) -ℤ pos (u 2) → y ≡ pos (w 1) -ℤ pos (w 2) → (x -ℤ d) ≤ℤ y → Obeyed u w (second_exceeds d)
unfolding dot
second_row u w x y d e f l = omega (arith, ints)

integer_rows : (u w : ℕ → ℕ) (n : ℤ) → u 0 ≡ 0 → u 1 ≡ (of_integer n).0 → u 2 ≡ (of_integer n).1 → n ≡ pos (w 1) -ℤ pos (w 2)
    → Obeyed u w size_is_zero × Obeyed u w above_is_within × Obeyed u w below_is_within
unfolding dot
integer_rows u w (pos k) a b c e = (omega (arith, ints), omega (arith, ints), omega (arith, ints))
integer_rows u w (negsuc k) a b c e = (omega (arith, ints), omega (arith, ints), omega (arith, ints))

tested_true : (b : Builtin) (m n : ℤ) (bs : List Binding) → tested b (Some m) (Some n) ≡ Some bs → compares b m n ≡ true
tested_true b m n bs e = go (compares b m n) refl e
  where
    go : (t : Bool) → compares b m n ≡ t → (if t then Some [] else None) ≡ Some bs → compares b m n ≡ true
    go true q r = q
    go false q r = absurd (cc)

same_integers : (m n : ℤ) → int_eq m n ≡ true → m ≡ n
same_integers m n e = (Decides-int_eq m n).0 e

less : (m n : ℤ) → int_lt m n ≡ true → (m +ℤ pos 1) ≤ℤ n
less m n e = omega (arith, ints)

not_less : (m n : ℤ) → not (int_lt n m) ≡ true → m ≤ℤ n
not_less m n e = go (int_lt n m) refl e
  where
    go : (t : Bool) → int_lt n m ≡ t → not t ≡ true → m ≤ℤ n
    go true q r = absurd (cc)
    go false q r = omega (arith, ints)

module _ (o : Option Arith) (x y : Tree) (bs : List Binding) (s : Valuation) where
  abbrev s1 : Valuation
  s1 z = measure o s (applied bs (Variable z))

  abbrev u : ℕ → ℕ
  u = measure o s1 x

  abbrev w : ℕ → ℕ
  w = measure o s1 y

  first : (m : ℤ) → value o x ≡ Some m → m ≡ pos (u 1) -ℤ pos (u 2)
  first m e = has_value o s1 x m e

  second : (n : ℤ) → value o y ≡ Some n → n ≡ pos (w 1) -ℤ pos (w 2)
  second n e = has_value o s1 y n e

  after : (t : Tree) → measure o s1 t ≡ measure o s (applied bs t)
  after t = sym (measures_of_instance o s (λ z. applied bs (Variable z)) t) ∙ ap (measure o s) (sym (applied_instance bs t))

  -- the values of both arguments, which a comparison has
  compared : (b : Builtin) → tested b (value o x) (value o y) ≡ Some bs
      → (m : ℤ) × (n : ℤ) × (m ≡ pos (u 1) -ℤ pos (u 2)) × (n ≡ pos (w 1) -ℤ pos (w 2)) × (compares b m n ≡ true)
  compared b e =
      let i = tested_values b (value o x) (value o y) bs e in
      (i.0, i.1, first i.0 i.2, second i.1 i.3, tested_true b i.0 i.1 bs (sym (λ j. tested b (i.2 j) (i.3 j)) ∙ e))

  hold : (b : Builtin) → succeeds o b x y ≡ Some bs → AllByRecursion (Obeyed u w) (stated_rows b)
  hold Is e =
      let i = assigned_integer x (value o y) bs e in
      let now : u ≡ measure o s (Integer i.0) = after x ∙ ap (measure o s) i.2 in
      let to = second i.0 i.1 in
      let rows = integer_rows u w i.0 (λ j. now j 0) (λ j. now j 1) (λ j. now j 2) to in
      let own : i.0 ≡ pos (u 1) -ℤ pos (u 2) = integer_value i.0 ∙ (λ j. pos (sym now j 1) -ℤ pos (sym now j 2)) in
      (rows.0, (first_row u w i.0 i.0 (pos 0) own to (omega (arith, ints)), (second_row u w i.0 i.0 (pos 0) own to (omega (arith, ints)), (rows.1, (rows.2, tt)))))
  hold Equal e =
      let (m, n, h, k, c) = compared Equal e in
      let same = same_integers m n c in
      (first_row u w m n (pos 0) h k (omega (arith, ints)), (second_row u w m n (pos 0) h k (omega (arith, ints)), tt))
  hold NotEqual e = tt
  hold Less e =
      let (m, n, h, k, c) = compared Less e in
      let l = less m n c in
      (second_row u w m n (negsuc 0) h k (omega (arith, ints)), tt)
  hold AtMost e =
      let (m, n, h, k, c) = compared AtMost e in
      let l = not_less m n c in
      (second_row u w m n (pos 0) h k (omega (arith, ints)), tt)
  hold Greater e =
      let (m, n, h, k, c) = compared Greater e in
      let l = less n m c in
      (first_row u w m n (negsuc 0) h k (omega (arith, ints)), tt)
  hold AtLeast e =
      let (m, n, h, k, c) = compared AtLeast e in
      let l = not_less n m c in
      (first_row u w m n (pos 0) h k (omega (arith, ints)), tt)

pub stated_hold : StatedLaw
stated_hold o b x y bs e s = hold o x y bs s b e
