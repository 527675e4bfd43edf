-- Laws of values that are found by two passes.
use Rattle.std.proofs.Common.{◌≡◌, ℕ, suc, ◌<◌, ℤ, neg_ℤ, Bool, true, false, not, ◌||◌, List, [], ◌∷◌, ◌++◌, map, reverse, length, Option, None, Some, option_map, option_and_then, refl, ap, sym, ◌∙◌, arith}
use Rattle.std.proofs.lemmas.List.{map-append, reverse-append}
use Rattle.exact128.specs.Fits.{fits}
use Rattle.cti_terms.specs.Tree.{Tree, Trees, Compound, End, More, arity, instance, nodes_of}
use Rattle.cti_terms.specs.Spell.{tree_of}
use Rattle.cti_terms.specs.declared.syntax.Term.{Term}
use Rattle.cti_terms.specs.declared.builtins.Arith.{Arith}
use Rattle.cti_terms.specs.Arithmetic.{value, all_values, both, has_wide, is_too_wide, operation, result_of}
use Rattle.cti_terms.specs.Unify.{Binding}
use Rattle.cti_terms.proofs.Unifier.{applied_instance}
use Rattle.ld_resolver.specs.declared.operators.Operation.{Operation}
use Rattle.ld_resolver.specs.declared.operators.Operator.{Operator}
use Rattle.ld_resolver.specs.declared.operators.Operator.TheVariants.{Number, Negate, Pair}
use Rattle.unifier.specs.declared.raised_term.RaisedTerm.{RaisedTerm}
use Rattle.unifier.specs.Raised.{raise, raised_tree}
use Rattle.unifier.specs.Store.{made, full}
use Rattle.unifier.specs.Pending.{raw, weight, args_full}
use Rattle.ld_resolver.specs.Values.{Judged, judged, all_judged, result_by, IsOperator, top, step_by, stack_by, some_wide, known, operands}
use Rattle.unifier.proofs.PendingLaws.{weight-arguments, raw_more, arity-all_full}

-- ---- operators of a term

values_count : (o : Option Arith) (ts : Trees) (ns : List ℤ) → all_values o ts ≡ Some ns → length ns ≡ arity ts
values_count o End [] e = refl
values_count o End (n ∷ ns) e = cc
values_count o (More t ts) ns e = go (value o t) (all_values o ts) refl e (values_count o ts)
  where
    go : (v : Option ℤ) (vs : Option (List ℤ)) → all_values o ts ≡ vs → both v vs ≡ Some ns → ((ms : List ℤ) → all_values o ts ≡ Some ms → length ms ≡ arity ts) → length ns ≡ suc (arity ts)
    go None vs d e rec = cc
    go (Some v) None d e rec = cc
    go (Some v) (Some ms) d e rec = let same : v ∷ ms ≡ ns = cc in ap length (sym same) ∙ ap suc (rec ms d)

-- a name that is no operator with as many operands has no value
pub no_operator : (o : Arith) (f : ℕ) (args : List Term) → IsOperator o f (length args) None → (s : List Binding) (n : ℕ) → value (Some o) (Compound f (args_full s n args)) ≡ None
no_operator o f args h s n = go (all_values (Some o) (args_full s n args)) refl
  where
    go : (vs : Option (List ℤ)) → all_values (Some o) (args_full s n args) ≡ vs → option_and_then (operation (Some o) f) vs ≡ None
    go None e = refl
    go (Some ns) e = h ns (values_count (Some o) (args_full s n args) ns e ∙ arity-all_full s n args)

module _ (o : Arith) (f : ℕ) where
  -- one operand
  negated : (a : Tree) (rest : List Tree) → ((m : ℤ) → result_of o f (m ∷ []) ≡ Some (neg_ℤ m)) → all_judged (Some o) (Compound f (More a End) ∷ rest) ≡ option_map (step_by Negate) (all_judged (Some o) (a ∷ rest))
  negated a rest h = go (value (Some o) a) (all_judged (Some o) rest) (has_wide (Some o) a)
    where
      whole : Option (List Judged) → Bool → Option ℤ → Option (List Judged)
      whole r w z = option_and_then (λ (j : Judged). option_map (λ js. j ∷ js) r) (option_map (λ k. (k, is_too_wide z || (w || false))) z)

      go : (v : Option ℤ) (r : Option (List Judged)) (w : Bool) → whole r w (option_and_then (operation (Some o) f) (both v (Some []))) ≡ option_map (step_by Negate) (option_and_then (λ (j : Judged). option_map (λ js. j ∷ js) r) (option_map (λ n. (n, w)) v))
      go None r w = refl
      go (Some m) None w = ap (whole None w) (h m)
      go (Some m) (Some js) w = ap (whole (Some js) w) (h m)

  -- two operands
  paired : (x : Operation) (a b : Tree) (rest : List Tree) → ((m n : ℤ) → result_of o f (m ∷ (n ∷ [])) ≡ Some (result_by x m n)) → all_judged (Some o) (Compound f (More a (More b End)) ∷ rest) ≡ option_map (step_by (Pair x)) (all_judged (Some o) (b ∷ (a ∷ rest)))
  paired x a b rest h = go (value (Some o) a) (value (Some o) b) (all_judged (Some o) rest) (has_wide (Some o) a) (has_wide (Some o) b)
    where
      whole : Option (List Judged) → Bool → Bool → Option ℤ → Option (List Judged)
      whole r v w z = option_and_then (λ (j : Judged). option_map (λ js. j ∷ js) r) (option_map (λ k. (k, is_too_wide z || (v || (w || false)))) z)

      each : Option ℤ → Bool → Option (List Judged) → Option (List Judged)
      each v w r = option_and_then (λ (j : Judged). option_map (λ js. j ∷ js) r) (option_map (λ n. (n, w)) v)

      go : (m n : Option ℤ) (r : Option (List Judged)) (v w : Bool) → whole r v w (option_and_then (operation (Some o) f) (both m (both n (Some [])))) ≡ option_map (step_by (Pair x)) (each n w (each m v r))
      go None None r v w = refl
      go None (Some n) r v w = refl
      go (Some m) None r v w = refl
      go (Some m) (Some n) None v w = ap (whole None v w) (h m n)
      go (Some m) (Some n) (Some js) v w = ap (whole (Some js) v w) (h m n)

-- an operator with its operands
pub split_operator : (o : Arith) (f : ℕ) (args : List Term) (x : Operator) → IsOperator o f (length args) (Some x) → (s : List Binding) (n : ℕ) (rest : List Tree) → all_judged (Some o) (Compound f (args_full s n args) ∷ rest) ≡ option_map (step_by x) (all_judged (Some o) (operands s n args ++ rest))
split_operator o f args (Number k) h s n rest = absurd h
split_operator o f [] Negate h s n rest = absurd (omega (arith, h.0))
split_operator o f (a ∷ []) Negate h s n rest =
    negated o f (instance (λ x. full s (Tree.Variable x)) (instance (raise n) (tree_of a))) rest h.1
    ∙ (λ i. option_map (step_by Negate) (all_judged (Some o) (sym (applied_instance (made s) (instance (raise n) (tree_of a))) i ∷ rest)))
split_operator o f (a ∷ (b ∷ args)) Negate h s n rest = absurd (omega (arith, h.0))
split_operator o f [] (Pair x) h s n rest = absurd (omega (arith, h.0))
split_operator o f (a ∷ []) (Pair x) h s n rest = absurd (omega (arith, h.0))
split_operator o f (a ∷ (b ∷ [])) (Pair x) h s n rest =
    paired o f x (instance (λ x. full s (Tree.Variable x)) (instance (raise n) (tree_of a))) (instance (λ x. full s (Tree.Variable x)) (instance (raise n) (tree_of b))) rest h.1
    ∙ (λ i. option_map (step_by (Pair x)) (all_judged (Some o) (sym (applied_instance (made s) (instance (raise n) (tree_of b))) i ∷ (sym (applied_instance (made s) (instance (raise n) (tree_of a))) i ∷ rest))))
split_operator o f (a ∷ (b ∷ (c ∷ args))) (Pair x) h s n rest = absurd (omega (arith, h.0))

pub fewer_nodes : (f : ℕ) (args : List Term) (s : List Binding) (n : ℕ) → weight s (map (instance (raise n)) (map tree_of args)) < nodes_of (Compound f (args_full s n args))
fewer_nodes f args s n = let e = weight-arguments s n (map tree_of args) in omega (arith, e)

-- ---- operators in a list

pub stack_more : (xs : List Operator) (x : Operator) (js : List Judged) → stack_by (xs ++ x ∷ []) js ≡ stack_by xs (step_by x js)
stack_more [] x js = refl
stack_more (y ∷ xs) x js = ap (step_by y) (stack_more xs x js)

or_with : (a b : Bool) → b ≡ true → (a || b) ≡ true
or_with true b e = refl
or_with false b e = e

-- wide values make wide values
wide_step : (x : Operator) (js : List Judged) → some_wide js ≡ true → some_wide (step_by x js) ≡ true
wide_step (Number n) js e = or_with (not (fits n) || false) (some_wide js) e
wide_step Negate [] e = cc
wide_step Negate (j ∷ js) e = go (not (fits (neg_ℤ j.0))) j.1 (some_wide js) e
  where
    go : (a b c : Bool) → (b || c) ≡ true → ((a || (b || false)) || c) ≡ true
    go true b c e = refl
    go false true c e = refl
    go false false c e = e
wide_step (Pair x) [] e = cc
wide_step (Pair x) (j ∷ []) e = go (not (fits (result_by x (top []).0 j.0))) j.1 e
  where
    go : (a b : Bool) → (b || false) ≡ true → ((a || (false || (b || false))) || false) ≡ true
    go true b e = refl
    go false true e = refl
    go false false e = e
wide_step (Pair x) (j ∷ (k ∷ js)) e = go (not (fits (result_by x k.0 j.0))) j.1 k.1 (some_wide js) e
  where
    go : (a b c d : Bool) → (b || (c || d)) ≡ true → ((a || (c || (b || false))) || d) ≡ true
    go true b c d e = refl
    go false true true d e = refl
    go false true false d e = refl
    go false false true d e = refl
    go false false false d e = e

pub wide_stays : (xs : List Operator) (js : List Judged) → some_wide js ≡ true → some_wide (stack_by xs js) ≡ true
wide_stays [] js e = e
wide_stays (x ∷ xs) js e = wide_step x (stack_by xs js) (wide_stays xs js e)

pub known_more : (ns : List ℤ) (n : ℤ) → known (ns ++ n ∷ []) ≡ (n, false) ∷ known ns
known_more ns n = ap (map (λ n. (n, false))) (reverse-append ns (n ∷ []))

-- ---- terms on a stack

-- the terms that wait under the bindings, the last one first
abbrev pub waiting_terms : List Binding → List RaisedTerm → List Tree
waiting_terms s rs = map (full s) (reverse (raw rs))

pub waiting_last : (s : List Binding) (old rest : List RaisedTerm) (r : RaisedTerm) (u : Tree) → old ≡ rest ++ r ∷ [] → full s (raised_tree r) ≡ u → waiting_terms s old ≡ u ∷ waiting_terms s rest
waiting_last s old rest r u e h =
    ap (waiting_terms s) e
    ∙ ap (λ l. map (full s) (reverse l)) (raw_more rest r)
    ∙ ap (map (full s)) (reverse-append (raw rest) (raised_tree r ∷ []))
    ∙ ap (λ t. t ∷ waiting_terms s rest) h

pub waiting_operands : (s : List Binding) (n : ℕ) (args : List Term) (new rest : List RaisedTerm) → raw new ≡ raw rest ++ map (instance (raise n)) (map tree_of args) → waiting_terms s new ≡ operands s n args ++ waiting_terms s rest
waiting_operands s n args new rest e =
    ap (λ l. map (full s) (reverse l)) e
    ∙ ap (map (full s)) (reverse-append (raw rest) (map (instance (raise n)) (map tree_of args)))
    ∙ map-append (full s) (reverse (map (instance (raise n)) (map tree_of args))) (reverse (raw rest))

pub mapped_twice : (xs : List Operator) (x : Operator) (o : Option (List Judged)) → option_map (stack_by (xs ++ x ∷ [])) o ≡ option_map (stack_by xs) (option_map (step_by x) o)
mapped_twice xs x None = refl
mapped_twice xs x (Some js) = ap (λ l. Some l) (stack_more xs x js)

pub one_judged : (o : Option Arith) (t : Tree) → option_map (stack_by []) (all_judged o (t ∷ [])) ≡ option_map (λ j. j ∷ []) (judged o t)
one_judged o t = go (judged o t)
  where
    go : (j : Option Judged) → option_map (stack_by []) (option_and_then (λ (j : Judged). option_map (λ js. j ∷ js) (Some [])) j) ≡ option_map (λ j. j ∷ []) j
    go None = refl
    go (Some j) = refl

abbrev with_flag : Bool → ℤ → Judged
with_flag w n = (n, w)

-- a term that waits without a value
pub none_judged : (o : Option Arith) (xs : List Operator) (t u : Tree) (rest : List Tree) → option_map (stack_by xs) (all_judged o (u ∷ rest)) ≡ option_map (λ j. j ∷ []) (judged o t) → value o u ≡ None → value o t ≡ None
none_judged o xs t u rest e none = go (value o t) refl (sym (ap (λ (v : Option ℤ). option_map (stack_by xs) (option_and_then (λ (j : Judged). option_map (λ (js : List Judged). j ∷ js) (all_judged o rest)) (option_map (with_flag (has_wide o u)) v))) none) ∙ e)
  where
    go : (v : Option ℤ) → value o t ≡ v → None ≡ option_map (λ (j : Judged). j ∷ []) (judged o t) → value o t ≡ None
    go None h e = h
    go (Some n) h e = absurd (off (e ∙ ap (λ (v : Option ℤ). option_map (λ (j : Judged). j ∷ []) (option_map (with_flag (has_wide o t)) v)) h))
      where
        off : {x : List Judged} → None ≡ Some x → ⊥
        off e = cc

-- ---- what was calculated

pub value_is : (o : Option Arith) (t : Tree) (js : List Judged) → Some js ≡ option_map (λ j. j ∷ []) (judged o t) → (n : ℤ) × (value o t ≡ Some n) × (js ≡ (n, has_wide o t) ∷ [])
value_is o t js e = go (value o t) refl e
  where
    go : (v : Option ℤ) → value o t ≡ v → Some js ≡ option_map (λ (j : Judged). j ∷ []) (option_map (with_flag (has_wide o t)) v) → (n : ℤ) × (value o t ≡ Some n) × (js ≡ (n, has_wide o t) ∷ [])
    go None h e = cc
    go (Some n) h e = (n, h, let same : Some js ≡ Some ((n, has_wide o t) ∷ []) = e in first js ((n, has_wide o t) ∷ []) same)
      where
        first : (a b : List Judged) → Some a ≡ Some b → a ≡ b
        first a b e = cc
