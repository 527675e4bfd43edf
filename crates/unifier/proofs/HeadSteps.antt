-- Arguments of a goal are unified with those of a head, one pair after the other.
use Rattle.std.proofs.Common.{◌≡◌, ℕ, ℤ, min, ◌+◌, ◌<◌, ◌≤◌, Bool, true, false, ◌||◌, if◌then◌else◌, true≢false, inl, inr, List, [], ◌∷◌, ◌++◌, length, drop, get_or, None, Some, option_map, append_assoc, append-nil, refl, ap, sym, ◌∙◌, subst, arith}
use Rattle.std.specs.Ordering.{int_eq}
use Rattle.std.proofs.lemmas.Bool.{or_left, or_cases}
use Rattle.cti_terms.specs.Tree.{Tree, Variable, Integer, Compound, instance, all_instances}
use Rattle.cti_terms.specs.declared.syntax.Term.{Term}
use Rattle.cti_terms.specs.Spell.{tree_of, trees_of}
use Rattle.cti_terms.specs.Unify.{Equation, Binding, Dropped, Bound, Split, Failed, first_step, occurs, pairs}
use Rattle.cti_terms.specs.UnifyFunction.{unify, occurs_in}
use Rattle.cti_terms.specs.Below.{TermBelow}
use Rattle.cti_terms.proofs.UnifyLaws.{unify_finds}
use Rattle.unifier.specs.declared.raised_term.RaisedTerm.{RaisedTerm}
use Rattle.unifier.specs.Raised.{raise, raised_tree}
use Rattle.unifier.specs.Store.{made, full}
use Rattle.unifier.specs.Below.{LeftBelow}
use Rattle.unifier.specs.Pending.{under_bindings, waiting_from, IsUnified, StaysBelow, Extends, KeepsFree}
use Rattle.unifier.specs.Heads.{pair, IsPairUnified, IsUnifiedTo}
use Rattle.unifier.proofs.BelowLaws.{left_bound, left_wider}
use Rattle.unifier.proofs.PendingLaws.{under_more, pairs_ended, pairs_pushed}
use Rattle.unifier.proofs.UnifySteps.{unify_step, occur_split, goes_on, option_map_same, stays_free}
use Rattle.unifier.proofs.SequelLaws.{after_all, under_later, option_map_both, unify_then, unify_fails, occur_after}

-- ---- one pair

-- a binding to a term of variables below a number, where the limit goes up to it
pub bound_below : (s : List Binding) (x : ℕ) (w : Tree) (limit more now : ℕ) → limit ≤ now → more ≤ now → TermBelow more (full s w) → StaysBelow limit s now ((x, w) ∷ s)
bound_below s x w limit more now l m b es h =
    subst (LeftBelow now) (sym (under_more s (x, w) es))
    (left_bound now x (full s w) (under_bindings s es) (λ y o. let k = b y o in omega (arith, k, m)) (left_wider limit now (under_bindings s es) l h))

-- a variable that does not occur in a pair stays free where the pairs of arguments in its place are solved
split_free : (s now : List Binding) (t u : Tree) (qs : List Equation) → first_step t u ≡ Split qs → KeepsFree (qs ++ []) s now → KeepsFree ((t, u) ∷ []) s now
split_free s now t u qs h keeps y gone free = keeps y (go (occurs_in y (qs ++ [])) refl) free
  where
    go : (b : Bool) → occurs_in y (qs ++ []) ≡ b → occurs_in y (qs ++ []) ≡ false
    go true e = absurd (true≢false (sym (occur_split t u qs [] h y e) ∙ gone))
    go false e = e

-- the same of terms that are the same under the bindings
pub pair_same : (s now : List Binding) (l r k m : RaisedTerm) (b : Bool) → full s (raised_tree l) ≡ full s (raised_tree k) → full s (raised_tree r) ≡ full s (raised_tree m) → IsPairUnified s l r now b → IsPairUnified s k m now b
pair_same s now l r k m b e d h =
    let same : pair s l r ≡ pair s k m = λ i. (e i, d i) ∷ [] in
    record {
      unifier = subst (λ (es : List Equation). IsUnified (made s) es (made now) b) same h.unifier;
      extended = h.extended;
      free = subst (λ (es : List Equation). KeepsFree es s now) same h.free;
    }

-- equations with the same unifier
unified_same : (before now : List Binding) (es fs : List Equation) (b : Bool) → unify fs ≡ unify es → IsUnified before es now b → IsUnified before fs now b
unified_same before now es fs true e u = (u.0, e ∙ u.1, u.2)
unified_same before now es fs false e u = e ∙ u

-- terms that are the same
pub pair_nothing : (s : List Binding) (l r : RaisedTerm) → first_step (full s (raised_tree l)) (full s (raised_tree r)) ≡ Dropped → IsPairUnified s l r s true
pair_nothing s l r h = record {
  unifier = ([], unify_step (full s (raised_tree l)) (full s (raised_tree r)) [] Dropped h, sym (append-nil (made s)));
  extended = ([], refl);
  free = λ y gone free. free;
}

-- a free variable, which is bound
pub pair_bound : (s now : List Binding) (l r : RaisedTerm) (x : ℕ) (w : Tree) → first_step (full s (raised_tree l)) (full s (raised_tree r)) ≡ Bound x (full s w) → now ≡ (x, w) ∷ s → IsPairUnified s l r now true
pair_bound s now l r x w h bound =
    let t = full s (raised_tree l) in
    let u = full s (raised_tree r) in
    record {
      unifier = ((x, full s w) ∷ [], unify_step t u [] (Bound x (full s w)) h, ap made bound);
      extended = ((x, w) ∷ [], bound);
      free = rw bound (λ y gone free. stays_free x y w s ((t, u) ∷ []) gone (goes_on t u x (full s w) [] h).there free);
    }

-- terms that do not agree are not unified
pub pair_clash : (s : List Binding) (l r : RaisedTerm) → first_step (full s (raised_tree l)) (full s (raised_tree r)) ≡ Failed → IsPairUnified s l r s false
pair_clash s l r h = record {
  unifier = unify_step (full s (raised_tree l)) (full s (raised_tree r)) [] Failed h;
  extended = ([], refl);
  free = λ y gone free. free;
}

-- compound terms are unified as their arguments are
pub pair_split : (s now : List Binding) (l r : RaisedTerm) (b : Bool) (qs es : List Equation) → first_step (full s (raised_tree l)) (full s (raised_tree r)) ≡ Split qs → es ≡ qs ++ []
    → IsUnified (made s) es (made now) b → Extends now s → KeepsFree es s now → IsPairUnified s l r now b
pair_split s now l r b qs es h same unifier extended free =
    let t = full s (raised_tree l) in
    let u = full s (raised_tree r) in
    record {
      unifier = unified_same (made s) (made now) es ((t, u) ∷ []) b (unify_step t u [] (Split qs) h ∙ ap unify (sym same)) unifier;
      extended = extended;
      free = split_free s now t u qs h (rw same at free);
    }

-- an integer asks for no equations of arguments
pub never_split : (t : Tree) (n : ℤ) (qs : List Equation) → first_step t (Integer n) ≡ Split qs → ⊥
never_split (Variable x) n qs h = cc
never_split (Integer m) n qs h = go (int_eq m n) h
  where
    go : (b : Bool) → (if b then Dropped else Failed) ≡ Split qs → ⊥
    go true e = cc
    go false e = cc
never_split (Compound f ts) n qs h = cc

-- ---- all pairs

pair_at : (s : List Binding) (n m i : ℕ) (ts us : List Term) (t u : Term) → i < length ts → i < length us → t ≡ get_or ts i t → u ≡ get_or us i u → waiting_from s n m ts us i ≡ (full s (instance (raise n) (tree_of t)), full s (instance (raise m) (tree_of u))) ∷ waiting_from s n m ts us (i + 1)
pair_at s n m i ts us t u h k e d =
    ap (under_bindings s)
    (sym (append-nil (pairs (all_instances (raise n) (trees_of (drop i ts))) (all_instances (raise m) (trees_of (drop i us)))))
    ∙ pairs_pushed n m i ts us t u [] h k e d
    ∙ ap (λ (l : List Equation). (instance (raise n) (tree_of t), instance (raise m) (tree_of u)) ∷ l) (append-nil (pairs (all_instances (raise n) (trees_of (drop (i + 1) ts))) (all_instances (raise m) (trees_of (drop (i + 1) us))))))

none_at : (s : List Binding) (n m i : ℕ) (ts us : List Term) → i ≡ min (length ts) (length us) → waiting_from s n m ts us i ≡ []
none_at s n m i ts us e =
    ap (under_bindings s)
    (sym (append-nil (pairs (all_instances (raise n) (trees_of (drop i ts))) (all_instances (raise m) (trees_of (drop i us)))))
    ∙ sym (pairs_ended i n m ts us [] e))

-- no pair is unified yet
pub none_unified : (s : List Binding) (n m : ℕ) (ts us : List Term) (limit : ℕ) → LeftBelow limit (waiting_from s n m ts us 0) → IsUnifiedTo s n m ts us 0 limit s
none_unified s n m ts us limit h = record {
  so_far = ([], sym (append-nil (made s)), option_map_same (unify (waiting_from s n m ts us 0)));
  left = h;
  inside = λ y o. o;
  free = λ y gone free. free;
  extended = ([], refl);
}

-- all are
pub all_unified : (before now : List Binding) (n m : ℕ) (ts us : List Term) (i limit : ℕ) → IsUnifiedTo before n m ts us i limit now → i ≡ min (length ts) (length us) → IsUnified (made before) (waiting_from before n m ts us 0) (made now) true
all_unified before now n m ts us i limit so e =
    let bs = so.so_far.0 in
    (bs, so.so_far.2 ∙ ap (λ (es : List Equation). option_map (λ cs. bs ++ cs) (unify es)) (none_at now n m i ts us e) ∙ ap Some (append-nil bs), so.so_far.1)

-- the next pair, of the arguments a and b
pub record IsNextPair (before now : List Binding) (n m : ℕ) (ts us : List Term) (i limit : ℕ) (a b : Term) : Type 0 where
  pub unified : IsUnifiedTo before n m ts us i limit now
  pub within : i < min (length ts) (length us)
  pub left : a ≡ get_or ts i a
  pub right : b ≡ get_or us i b

module _ {before now : List Binding} {n m : ℕ} {ts us : List Term} {i limit : ℕ} {a b : Term} (next : IsNextPair before now n m ts us i limit a b) where
  abbrev first : List Equation
  first = waiting_from before n m ts us 0

  abbrev left_tree : Tree
  left_tree = full now (instance (raise n) (tree_of a))

  abbrev right_tree : Tree
  right_tree = full now (instance (raise m) (tree_of b))

  abbrev rest : List Equation
  rest = waiting_from now n m ts us (i + 1)

  next_waits : waiting_from now n m ts us i ≡ (left_tree, right_tree) ∷ rest
  next_waits = pair_at now n m i ts us a b (omega (arith, next.within)) (omega (arith, next.within)) next.left next.right

  pair_absent : (y : ℕ) → occurs_in y first ≡ false → occurs_in y ((left_tree, right_tree) ∷ []) ≡ false
  pair_absent y gone = go (occurs_in y ((left_tree, right_tree) ∷ [])) refl
    where
      go : (b : Bool) → occurs_in y ((left_tree, right_tree) ∷ []) ≡ b → occurs_in y ((left_tree, right_tree) ∷ []) ≡ false
      go true o =
          let here : (occurs y left_tree || occurs y right_tree) ≡ true = elim (or_cases (occurs y left_tree || occurs y right_tree) false o) [ inl k ↦ k | inr k ↦ cc ] in
          absurd (true≢false (sym (next.unified.inside y (subst (λ (es : List Equation). occurs_in y es ≡ true) (sym next_waits) (or_left (occurs y left_tree || occurs y right_tree) (occurs_in y rest) here))) ∙ gone))
      go false o = o

  -- the next pair has no unifier
  pub pair_fails : unify ((left_tree, right_tree) ∷ []) ≡ None → unify first ≡ None
  pair_fails h = next.unified.so_far.2 ∙ ap (option_map (λ cs. next.unified.so_far.0 ++ cs)) (ap unify next_waits ∙ unify_fails ((left_tree, right_tree) ∷ []) rest h)

  module _ (new : List Binding) (extended : Extends new now) (free : KeepsFree ((left_tree, right_tree) ∷ []) now new) where
    pub pair_extended : Extends new before
    pair_extended = (extended.0 ++ next.unified.extended.0, extended.1 ∙ ap (λ (l : List Binding). extended.0 ++ l) next.unified.extended.1 ∙ sym (append_assoc extended.0 next.unified.extended.0 before))

    pub pair_free : KeepsFree first before new
    pair_free y gone is_free = free y (pair_absent y gone) (next.unified.free y gone is_free)

    -- it has one
    pub pair_unified : (limit_now : ℕ) → IsUnified (made now) ((left_tree, right_tree) ∷ []) (made new) true → StaysBelow limit now limit_now new → IsUnifiedTo before n m ts us (i + 1) limit_now new
    pair_unified limit_now unified stays =
        let bs = next.unified.so_far.0 in
        let cs = unified.0 in
        let raw = pairs (all_instances (raise n) (trees_of (drop (i + 1) ts))) (all_instances (raise m) (trees_of (drop (i + 1) us))) in
        let later : waiting_from new n m ts us (i + 1) ≡ after_all cs rest = under_later now new cs raw unified.2 in
        record {
          so_far = (
            bs ++ cs,
            unified.2 ∙ ap (λ (l : List Binding). l ++ cs) next.unified.so_far.1 ∙ append_assoc (made before) bs cs,
            next.unified.so_far.2
                ∙ ap (option_map (λ ds. bs ++ ds)) (ap unify next_waits ∙ unify_then ((left_tree, right_tree) ∷ []) rest cs unified.1 ∙ ap (λ (es : List Equation). option_map (λ ds. cs ++ ds) (unify es)) (sym later))
                ∙ option_map_both bs cs (unify (waiting_from new n m ts us (i + 1))),
          );
          left = stays raw (subst (LeftBelow limit) next_waits next.unified.left).1;
          inside = λ y o. next.unified.inside y (subst (λ (es : List Equation). occurs_in y es ≡ true) (sym next_waits)
              (occur_after (unify_finds ((left_tree, right_tree) ∷ []) cs unified.1) rest y (subst (λ (es : List Equation). occurs_in y es ≡ true) later o)));
          free = pair_free;
          extended = pair_extended;
        }
