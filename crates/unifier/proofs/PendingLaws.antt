-- Laws of terms and equations that wait.
use Rattle.std.proofs.Common.{◌≡◌, ℕ, zero, suc, min, ◌+◌, ◌<◌, Bool, true, false, ◌||◌, ◌&&◌, ◌==◌, if◌then◌else◌, ℤ, List, [], ◌∷◌, ◌++◌, map, reverse, length, drop, get_or, refl, ap, sym, ◌∙◌, subst, arith, eqb-true}
use Rattle.std.proofs.lemmas.List.{map-append, reverse-append, length-reverse, length-map}
use Rattle.std.proofs.lemmas.Bool.Decides.{nat_tests, Decides-int_eq}
use Rattle.std.specs.Ordering.{int_eq}
use Rattle.cti_terms.specs.Tree.{Tree, Trees, arity, Variable, Integer, Compound, End, More, trees, instance, all_instances, nodes_of, all_nodes}
use Rattle.cti_terms.specs.declared.syntax.Term.{Term}
use Rattle.cti_terms.specs.Spell.{tree_of, trees_of}
use Rattle.cti_terms.specs.Unify.{Equation, Binding, Step, occurs, occurs_among, pairs, replaced, first_step}
use Rattle.cti_terms.proofs.Unifier.{applied_instance}
use Rattle.cti_terms.proofs.Spelled.{trees_of_left}
use Rattle.unifier.specs.declared.raised_term.RaisedTerm.{RaisedTerm}
use Rattle.unifier.specs.declared.raised_term.Shape.{Shape}
use Rattle.unifier.specs.declared.raised_term.Shape.TheVariants.{Variable as OfVariable, Integer as OfInteger, Compound as OfCompound}
use Rattle.unifier.specs.Raised.{raised_tree, raise}
use Rattle.unifier.specs.Shapes.{shape_tree, shape_full, IsSmall, IsFree, IsMet}
use Rattle.unifier.specs.Store.{made, full, all_full, IsOpen}
use Rattle.unifier.specs.Pending.{raw, weight, occurs_left, equation_of, raw_equations, under_bindings, waiting, args_full}
use Rattle.unifier.proofs.StoreLaws.{full_free, full_more, eqb_same}

-- a compound term under the bindings
pub full_compound : (s : List Binding) (f : ℕ) (ts : Trees) → full s (Compound f ts) ≡ Compound f (all_full s ts)
full_compound s f ts = applied_instance (made s) (Compound f ts)

pub full_integer : (s : List Binding) (n : ℤ) → full s (Integer n) ≡ Integer n
full_integer s n = applied_instance (made s) (Integer n)

-- the tree of a kind under the bindings
pub shape_is : (s : List Binding) (n : ℕ) (t : Tree) (h : Shape) → t ≡ shape_tree n h → IsOpen s t → full s t ≡ shape_full s n h
shape_is s n t (OfVariable x) e o = ap (full s) e ∙ full_free s x (subst (IsOpen s) e o)
shape_is s n t (OfInteger i) e o = ap (full s) e ∙ full_integer s i.now
shape_is s n t (OfCompound f args) e o = ap (full s) e ∙ full_compound s f.0 (all_instances (raise n) (trees_of args.now))

pub shape_free : (s : List Binding) (n : ℕ) (t : Tree) (h : Shape) → t ≡ shape_tree n h → IsOpen s t → IsFree s h
shape_free s n t (OfVariable x) e o = subst (IsOpen s) e o
shape_free s n t (OfInteger i) e o = tt
shape_free s n t (OfCompound f args) e o = tt

-- a term of another kind than a variable
pub shape_open : (s : List Binding) (n : ℕ) (t : Tree) (h : Shape) → t ≡ shape_tree n h → ((x : ℕ) → h ≡ OfVariable x → ⊥) → IsOpen s t
shape_open s n t (OfVariable x) e o = absurd (o x refl)
shape_open s n t (OfInteger i) e o = subst (IsOpen s) (sym e) tt
shape_open s n t (OfCompound f args) e o = subst (IsOpen s) (sym e) tt

-- a term that is not a bound variable, with its kind
pub is_met : (s : List Binding) (r : RaisedTerm) (h : Shape) → raised_tree r ≡ shape_tree r.base h → IsSmall h → IsOpen s (raised_tree r) → IsMet s (record { term = r; shape = h })
is_met s r h e small o = record {
  tree = shape_is s r.base (raised_tree r) h e o;
  followed = o;
  small = small;
  free = shape_free s r.base (raised_tree r) h e o;
}

pub weight-append : (s : List Binding) (ts us : List Tree) → weight s (ts ++ us) ≡ weight s ts + weight s us
weight-append s [] us = omega arith
weight-append s (t ∷ ts) us = omega (arith, weight-append s ts us)

or_assoc : (b c d : Bool) → (b || (c || d)) ≡ ((b || c) || d)
or_assoc true c d = refl
or_assoc false c d = refl

pub or_none : (b : Bool) → (b || false) ≡ b
or_none true = refl
or_none false = refl

pub or_comm : (b c : Bool) → (b || c) ≡ (c || b)
or_comm true true = refl
or_comm true false = refl
or_comm false true = refl
or_comm false false = refl

pub occurs_left-append : (s : List Binding) (x : ℕ) (ts us : List Tree) → occurs_left s x (ts ++ us) ≡ (occurs_left s x ts || occurs_left s x us)
occurs_left-append s x [] us = refl
occurs_left-append s x (t ∷ ts) us = ap (λ b. occurs x (full s t) || b) (occurs_left-append s x ts us) ∙ or_assoc (occurs x (full s t)) (occurs_left s x ts) (occurs_left s x us)

-- arguments on the stack
pub weight-arguments : (s : List Binding) (n : ℕ) (ts : List Tree) → weight s (map (instance (raise n)) ts) ≡ all_nodes (all_full s (all_instances (raise n) (trees ts)))
weight-arguments s n [] = refl
weight-arguments s n (t ∷ ts) = λ i. nodes_of (applied_instance (made s) (instance (raise n) t) i) + weight-arguments s n ts i

pub occurs_left-arguments : (s : List Binding) (x n : ℕ) (ts : List Tree) → occurs_left s x (map (instance (raise n)) ts) ≡ occurs_among x (all_full s (all_instances (raise n) (trees ts)))
occurs_left-arguments s x n [] = refl
occurs_left-arguments s x n (t ∷ ts) = λ i. occurs x (applied_instance (made s) (instance (raise n) t) i) || occurs_left-arguments s x n ts i

pub raw_more : (rs : List RaisedTerm) (r : RaisedTerm) → raw (rs ++ r ∷ []) ≡ raw rs ++ raised_tree r ∷ []
raw_more rs r = map-append raised_tree rs (r ∷ [])

-- the last term on the stack, under the bindings
pub weight_last : (s : List Binding) (old rest : List RaisedTerm) (r : RaisedTerm) (u : Tree) → old ≡ rest ++ r ∷ [] → full s (raised_tree r) ≡ u → weight s (raw old) ≡ weight s (raw rest) + nodes_of u
weight_last s old rest r u e h =
    let last = ap nodes_of h in
    let all = ap (λ l. weight s (raw l)) e ∙ ap (weight s) (raw_more rest r) ∙ weight-append s (raw rest) (raised_tree r ∷ []) in
    omega (arith, all, last)

pub or_second_true : (b c : Bool) → c ≡ true → (b || c) ≡ true
or_second_true true c h = refl
or_second_true false c h = h

pub or_second_false : (b c : Bool) → c ≡ false → (b || c) ≡ b
or_second_false true c h = refl
or_second_false false c h = h

pub eqb_off : (x y : ℕ) → (x ≡ y → ⊥) → (x == y) ≡ false
eqb_off x y h = grind (arith, nat_tests)

-- ---- equations

pub equations_more : (ps : List (RaisedTerm × RaisedTerm)) (p : RaisedTerm × RaisedTerm) → raw_equations (ps ++ p ∷ []) ≡ equation_of p ∷ raw_equations ps
equations_more ps p =
    ap reverse (map-append equation_of ps (p ∷ []))
    ∙ reverse-append (map equation_of ps) (equation_of p ∷ [])

-- as many equations wait as are on the stack
pub length-waiting : (s : List Binding) (ps : List (RaisedTerm × RaisedTerm)) → length (waiting s ps) ≡ length ps
length-waiting s ps =
    length-map (raw_equations ps) (λ (e : Equation). (full s e.0, full s e.1))
    ∙ length-reverse (map equation_of ps)
    ∙ length-map ps equation_of

-- pairs of which one side has ended
pub pairs_ended : (i n m : ℕ) (ts us : List Term) (es : List Equation) → i ≡ min (length ts) (length us) → es ≡ pairs (all_instances (raise n) (trees_of (drop i ts))) (all_instances (raise m) (trees_of (drop i us))) ++ es
pairs_ended i n m [] us es e = let z : i ≡ 0 = omega (arith, e) in subst (λ (j : ℕ). es ≡ pairs (all_instances (raise n) (trees_of (drop j []))) (all_instances (raise m) (trees_of (drop j us))) ++ es) (sym z) refl
pairs_ended i n m (t ∷ ts) [] es e = let z : i ≡ 0 = omega (arith, e) in subst (λ (j : ℕ). es ≡ pairs (all_instances (raise n) (trees_of (drop j (t ∷ ts)))) (all_instances (raise m) (trees_of (drop j []))) ++ es) (sym z) refl
pairs_ended zero n m (t ∷ ts) (u ∷ us) es e = absurd (omega (arith, e))
pairs_ended (suc i) n m (t ∷ ts) (u ∷ us) es e = pairs_ended i n m ts us es (omega (arith, e))

-- one more pair from the end
pub pairs_pushed : (n m i : ℕ) (ts us : List Term) (t u : Term) (es : List Equation) → i < length ts → i < length us → t ≡ get_or ts i t → u ≡ get_or us i u → pairs (all_instances (raise n) (trees_of (drop i ts))) (all_instances (raise m) (trees_of (drop i us))) ++ es ≡ (instance (raise n) (tree_of t), instance (raise m) (tree_of u)) ∷ (pairs (all_instances (raise n) (trees_of (drop (i + 1) ts))) (all_instances (raise m) (trees_of (drop (i + 1) us))) ++ es)
pairs_pushed n m i ts us t u es h k e d =
    λ j. pairs (all_instances (raise n) (trees_of_left ts i t h e j)) (all_instances (raise m) (trees_of_left us i u k d j)) ++ es

-- a step depends on what its two terms are under the bindings
pub step_variables : (x y : ℕ) → x ≡ y → Step.Dropped ≡ first_step (Variable x) (Variable y)
step_variables x y e = ap (λ b. if b then Step.Dropped else Step.Bound x (Variable y)) (sym (ap (λ z. x == z) (sym e) ∙ eqb_same x))

pub step_left : (x y : ℕ) (t : Tree) → (x ≡ y → ⊥) → t ≡ Variable y → Step.Bound x t ≡ first_step (Variable x) (Variable y)
step_left x y t d e = ap (Step.Bound x) e ∙ ap (λ b. if b then Step.Dropped else Step.Bound x (Variable y)) (sym (eqb_off x y d))

pub step_same_integers : (m n : ℤ) → m ≡ n → Step.Dropped ≡ first_step (Integer m) (Integer n)
step_same_integers m n e = ap (λ b. if b then Step.Dropped else Step.Failed) (sym ((Decides-int_eq m n).1 e))

pub step_two_integers : (m n : ℤ) → (m ≡ n → ⊥) → Step.Failed ≡ first_step (Integer m) (Integer n)
step_two_integers m n d = go (int_eq m n) refl
  where
    go : (b : Bool) → int_eq m n ≡ b → Step.Failed ≡ (if b then Step.Dropped else Step.Failed)
    go true e = absurd (d ((Decides-int_eq m n).0 e))
    go false e = refl

pub arity-all_full : (s : List Binding) (n : ℕ) (ts : List Term) → arity (all_full s (all_instances (raise n) (trees_of ts))) ≡ length ts
arity-all_full s n [] = refl
arity-all_full s n (t ∷ ts) = ap suc (arity-all_full s n ts)

module _ (s : List Binding) (f g n m : ℕ) (ts us : List Term) where
  by_length : first_step (Compound f (args_full s n ts)) (Compound g (args_full s m us)) ≡ (if (f == g) && (length ts == length us) then Step.Split (pairs (args_full s n ts) (args_full s m us)) else Step.Failed)
  by_length = λ i. if (f == g) && (arity-all_full s n ts i == arity-all_full s m us i) then Step.Split (pairs (args_full s n ts) (args_full s m us)) else Step.Failed

  pub step_splits : f ≡ g → length ts ≡ length us → Step.Split (pairs (args_full s n ts) (args_full s m us)) ≡ first_step (Compound f (args_full s n ts)) (Compound g (args_full s m us))
  step_splits p q =
      let a : (f == g) ≡ true = ap (λ z. f == z) (sym p) ∙ eqb_same f in
      let b : (length ts == length us) ≡ true = ap (λ z. length ts == z) (sym q) ∙ eqb_same (length ts) in
      sym (by_length ∙ (λ i. if (a i) && (b i) then Step.Split (pairs (args_full s n ts) (args_full s m us)) else Step.Failed))

  pub step_clashes : ((f ≡ g) × (length ts ≡ length us) → ⊥) → Step.Failed ≡ first_step (Compound f (args_full s n ts)) (Compound g (args_full s m us))
  step_clashes h = go (f == g) (length ts == length us) refl refl
    where
      go : (a b : Bool) → (f == g) ≡ a → (length ts == length us) ≡ b → Step.Failed ≡ first_step (Compound f (args_full s n ts)) (Compound g (args_full s m us))
      go true true p q = absurd (h (eqb-true f g p, eqb-true (length ts) (length us) q))
      go true false p q = sym (by_length ∙ (λ i. if (p i) && (q i) then Step.Split (pairs (args_full s n ts) (args_full s m us)) else Step.Failed))
      go false b p q = sym (by_length ∙ (λ i. if (p i) && (length ts == length us) then Step.Split (pairs (args_full s n ts) (args_full s m us)) else Step.Failed))

-- the first equation that waits
pub waiting_first : (s : List Binding) (old rest : List (RaisedTerm × RaisedTerm)) (l r : RaisedTerm) (t u : Tree) → old ≡ rest ++ (l, r) ∷ [] → t ≡ full s (raised_tree l) → u ≡ full s (raised_tree r) → waiting s old ≡ (t, u) ∷ waiting s rest
waiting_first s old rest l r t u e p q =
    ap (waiting s) e ∙ ap (under_bindings s) (equations_more rest (l, r)) ∙ (λ i. (sym p i, sym q i) ∷ waiting s rest)

-- the equations of arguments under the bindings
pub under_bindings-pairs : (s : List Binding) (ts us : Trees) → under_bindings s (pairs ts us) ≡ pairs (all_full s ts) (all_full s us)
under_bindings-pairs s End us = refl
under_bindings-pairs s (More t ts) End = refl
under_bindings-pairs s (More t ts) (More u us) = λ i. (applied_instance (made s) t i, applied_instance (made s) u i) ∷ under_bindings-pairs s ts us i

pub waiting_pushed : (s : List Binding) (n m : ℕ) (ts us : List Term) (new rest : List (RaisedTerm × RaisedTerm)) → raw_equations new ≡ pairs (all_instances (raise n) (trees_of ts)) (all_instances (raise m) (trees_of us)) ++ raw_equations rest → waiting s new ≡ pairs (args_full s n ts) (args_full s m us) ++ waiting s rest
waiting_pushed s n m ts us new rest e =
    ap (under_bindings s) e
    ∙ map-append (λ (e : Equation). (full s e.0, full s e.1)) (pairs (all_instances (raise n) (trees_of ts)) (all_instances (raise m) (trees_of us))) (raw_equations rest)
    ∙ ap (λ l. l ++ waiting s rest) (under_bindings-pairs s (all_instances (raise n) (trees_of ts)) (all_instances (raise m) (trees_of us)))

-- one more binding replaces its variable
pub under_more : (s : List Binding) (b : Binding) (es : List Equation) → under_bindings (b ∷ s) es ≡ replaced b.0 (full s b.1) (under_bindings s es)
under_more s b [] = refl
under_more s b (e ∷ es) = λ i. (full_more s b e.0 i, full_more s b e.1 i) ∷ under_more s b es i
