-- Laws of the nodes and the depth of a query's terms.
use Rattle.std.proofs.Common.{◌≡◌, ℕ, max, ◌+◌, ◌<◌, ◌≤◌, Bool, true, false, nat_lt, List, [], ◌∷◌, map, length, drop, get_or, refl, ap, sym, ◌∙◌, arith}
use Rattle.std.proofs.lemmas.Bool.Decides.{nat_tests}
use Rattle.std.proofs.lemmas.List.{at_drop_more}
use Rattle.cti_terms.specs.Tree.{Tree, Variable, Integer, Compound, trees, instance, all_instances, nodes_of, all_nodes}
use Rattle.cti_terms.specs.declared.syntax.Term.{Term}
use Rattle.cti_terms.specs.Spell.{tree_of}
use Rattle.cti_terms.specs.declared.atom_list.Atom.{Atom}
use Rattle.cti_terms.specs.Unify.{Binding}
use Rattle.cti_terms.specs.Answers.{depth_of, greatest_depth}
use Rattle.cti_terms.proofs.Unifier.{applied_instance}
use Rattle.cti_terms.proofs.Spelled.{trees_of_left}
use Rattle.unifier.specs.Raised.{raise}
use Rattle.unifier.specs.Store.{made, full, all_full}
use Rattle.unifier.specs.Pending.{weight, args_full}
use Rattle.ld_resolver.specs.Measured.{answered_terms, all_arguments}
use Rattle.unifier.proofs.BelowLaws.{raised_zero}
use Rattle.unifier.proofs.PendingLaws.{weight-append}

-- arguments raised by nothing
pub all_raised_zero : (ts : List Tree) → map (instance (raise 0)) ts ≡ ts
all_raised_zero [] = refl
all_raised_zero (t ∷ ts) = λ i. raised_zero t i ∷ all_raised_zero ts i

-- the nodes of arguments
weight_arguments : (s : List Binding) (ts : List Tree) → all_nodes (trees (map (full s) ts)) ≡ weight s ts
weight_arguments s [] = refl
weight_arguments s (t ∷ ts) = ap (λ n. nodes_of (full s t) + n) (weight_arguments s ts)

-- the nodes of a query
pub nodes_of_query : (s : List Binding) (atoms : List Atom) → all_nodes (answered_terms s atoms) ≡ length atoms + weight s (all_arguments atoms)
nodes_of_query s [] = refl
nodes_of_query s (a ∷ atoms) = omega (arith, weight_arguments s a.args, nodes_of_query s atoms, weight-append s a.args (all_arguments atoms))

-- ---- depth

pub lt_false : (m n : ℕ) → n ≤ m → nat_lt m n ≡ false
lt_false m n h = grind (arith, nat_tests)

pub lt_true : (m n : ℕ) → m < n → nat_lt m n ≡ true
lt_true m n h = grind (arith, nat_tests)

not_lt : (m n : ℕ) → nat_lt m n ≡ false → n ≤ m
not_lt m n h = grind (arith, nat_tests)

is_lt : (m n : ℕ) → nat_lt m n ≡ true → m < n
is_lt m n h = grind (arith, nat_tests)

max_left : (a d g : ℕ) → d ≤ g → max d g ≡ g
max_left a d g h = omega (arith, h)

-- the greater of two depths, of which the first is small
pub deep_later : (m a d g : ℕ) → nat_lt m (a + d) ≡ false → a ≤ m → nat_lt m (a + max d g) ≡ nat_lt m (a + g)
deep_later m a d g h l = go (nat_lt m (a + g)) refl
  where
    go : (b : Bool) → nat_lt m (a + g) ≡ b → nat_lt m (a + max d g) ≡ b
    go true e = let k = is_lt m (a + g) e in lt_true m (a + max d g) (omega (arith, k))
    go false e =
        let k = not_lt m (a + g) e in
        let j = not_lt m (a + d) h in
        lt_false m (a + max d g) (omega (arith, k, j))

pub deep_first : (m a d g : ℕ) → nat_lt m (a + d) ≡ true → nat_lt m (a + max d g) ≡ true
deep_first m a d g h = let k = is_lt m (a + d) h in lt_true m (a + max d g) (omega (arith, k))

-- the depth of the arguments that are left
pub depth_left : (s : List Binding) (n : ℕ) (ts : List Term) (i : ℕ) (t : Term) → i < length ts → t ≡ get_or ts i t → greatest_depth (args_full s n (drop i ts)) ≡ max (depth_of (full s (instance (raise n) (tree_of t)))) (greatest_depth (args_full s n (drop (i + 1) ts)))
depth_left s n ts i t h e =
    (λ j. greatest_depth (all_full s (all_instances (raise n) (trees_of_left ts i t h e j))))
    ∙ ap (λ u. max (depth_of u) (greatest_depth (args_full s n (drop (i + 1) ts)))) (sym (applied_instance (made s) (instance (raise n) (tree_of t))))

depth_arguments : (s : List Binding) (ts : List Tree) → greatest_depth (all_full s (all_instances (raise 0) (trees ts))) ≡ greatest_depth (trees (map (full s) ts))
depth_arguments s [] = refl
depth_arguments s (t ∷ ts) = λ i. max (depth_of ((sym (applied_instance (made s) (instance (raise 0) t)) ∙ ap (full s) (raised_zero t)) i)) (depth_arguments s ts i)

-- the depth of an atom by its arguments
pub atom_depth : (s : List Binding) (a : Atom) (ts : List Term) → map tree_of ts ≡ a.args → 1 + greatest_depth (args_full s 0 ts) ≡ 1 + greatest_depth (trees (map (full s) a.args))
atom_depth s a ts e = ap (λ n. 1 + n) (depth_arguments s (map tree_of ts) ∙ ap (λ l. greatest_depth (trees (map (full s) l))) e)

depth_positive : (t : Tree) → 1 ≤ depth_of t
depth_positive (Variable x) = omega arith
depth_positive (Integer n) = omega arith
depth_positive (Compound f ts) = omega arith

-- a term under as many levels as there may be
pub deep_below : (m a : ℕ) (t : Tree) → a ≡ m → true ≡ nat_lt m (a + depth_of t)
deep_below m a t e = sym (lt_true m (a + depth_of t) (omega (arith, e, depth_positive t)))

-- one step of a look at arguments
module _ (m a : ℕ) (s : List Binding) (n : ℕ) (ts : List Term) (i : ℕ) (t : Term) (h : i < length ts) (e : t ≡ get_or ts i t) (r : Bool) (found : r ≡ nat_lt m (a + depth_of (full s (instance (raise n) (tree_of t))))) where
  now : nat_lt m (a + greatest_depth (args_full s n (drop i ts))) ≡ nat_lt m (a + max (depth_of (full s (instance (raise n) (tree_of t)))) (greatest_depth (args_full s n (drop (i + 1) ts))))
  now = ap (λ k. nat_lt m (a + k)) (depth_left s n ts i t h e)

  pub argument_deep : r ≡ true → true ≡ nat_lt m (a + greatest_depth (args_full s n (drop i ts)))
  argument_deep y = sym (now ∙ deep_first m a (depth_of (full s (instance (raise n) (tree_of t)))) (greatest_depth (args_full s n (drop (i + 1) ts))) (sym found ∙ y))

  pub argument_not_deep : r ≡ false → a ≤ m → nat_lt m (a + greatest_depth (args_full s n (drop (i + 1) ts))) ≡ nat_lt m (a + greatest_depth (args_full s n (drop i ts)))
  argument_not_deep y l = sym (now ∙ deep_later m a (depth_of (full s (instance (raise n) (tree_of t)))) (greatest_depth (args_full s n (drop (i + 1) ts))) (sym found ∙ y) l)

-- one step of a look at atoms
module _ (m : ℕ) (s : List Binding) (atoms : List Atom) (i : ℕ) (a : Atom) (h : i < length atoms) (e : a ≡ get_or atoms i a) (r : Bool) (found : r ≡ nat_lt m (1 + greatest_depth (trees (map (full s) a.args)))) where
  now_atoms : nat_lt m (greatest_depth (answered_terms s (drop i atoms))) ≡ nat_lt m (0 + max (1 + greatest_depth (trees (map (full s) a.args))) (greatest_depth (answered_terms s (drop (i + 1) atoms))))
  now_atoms =
      ap (λ k. nat_lt m k) (at_drop_more (λ l. greatest_depth (answered_terms s l)) atoms i a h ∙ ap (λ b. greatest_depth (answered_terms s (b ∷ drop (i + 1) atoms))) (sym e))
      ∙ ap (nat_lt m) (let z : max (1 + greatest_depth (trees (map (full s) a.args))) (greatest_depth (answered_terms s (drop (i + 1) atoms))) ≡ 0 + max (1 + greatest_depth (trees (map (full s) a.args))) (greatest_depth (answered_terms s (drop (i + 1) atoms))) = omega arith in z)

  zero_plus : (n : ℕ) → 0 + n ≡ n
  zero_plus n = omega arith

  pub atom_deep : r ≡ true → true ≡ nat_lt m (greatest_depth (answered_terms s (drop i atoms)))
  atom_deep y = sym (now_atoms ∙ deep_first m 0 (1 + greatest_depth (trees (map (full s) a.args))) (greatest_depth (answered_terms s (drop (i + 1) atoms))) (ap (nat_lt m) (zero_plus (1 + greatest_depth (trees (map (full s) a.args)))) ∙ sym found ∙ y))

  pub atom_not_deep : r ≡ false → nat_lt m (greatest_depth (answered_terms s (drop (i + 1) atoms))) ≡ nat_lt m (greatest_depth (answered_terms s (drop i atoms)))
  atom_not_deep y = sym (now_atoms ∙ deep_later m 0 (1 + greatest_depth (trees (map (full s) a.args))) (greatest_depth (answered_terms s (drop (i + 1) atoms))) (ap (nat_lt m) (zero_plus (1 + greatest_depth (trees (map (full s) a.args)))) ∙ sym found ∙ y) (omega arith) ∙ ap (nat_lt m) (zero_plus (greatest_depth (answered_terms s (drop (i + 1) atoms)))))
