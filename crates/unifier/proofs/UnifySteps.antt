-- Unification step by step: how the unifier of equations goes on after the first one.
use Rattle.std.proofs.Common.{◌≡◌, ℕ, ◌<◌, Bool, true, false, ◌||◌, List, [], ◌∷◌, ◌++◌, Option, None, Some, option_map, append_assoc, true≢false, eqb-true, ◌==◌, if◌then◌else◌, refl, ap, sym, ◌∙◌, subst}
use Rattle.std.proofs.lemmas.Bool.{or_left, or_right}
use Rattle.cti_terms.specs.Tree.{Tree}
use Rattle.cti_terms.specs.Unify.{Equation, Binding, Step, Dropped, Bound, Split, Failed, first_step, replaced, Unifies, drop, bind, split, occurs}
use Rattle.cti_terms.specs.UnifyFunction.{unify, after, occurs_in, occurring}
use Rattle.cti_terms.proofs.UnifyLaws.{unify_finds, unify_complete, binds, bind_inside, bind_gone, replaced_inside, AllBelow, occurring_lt}
use Rattle.unifier.specs.Pending.{OccurBefore, GoesOn}
use Rattle.unifier.specs.Store.{stored}

from_dropped : {t u : Tree} {es : List Equation} {bs : List Binding} → first_step t u ≡ Dropped → Unifies ((t, u) ∷ es) bs → Unifies es bs
from_dropped h (drop e r) = r
from_dropped h (bind e r) = cc
from_dropped h (split e r) = cc

from_split : {t u : Tree} {es : List Equation} {bs : List Binding} (qs : List Equation) → first_step t u ≡ Split qs → Unifies ((t, u) ∷ es) bs → Unifies (qs ++ es) bs
from_split qs h (drop e r) = cc
from_split qs h (bind e r) = cc
from_split qs h (split {qs = ps} {es = es} {bs = bs} e r) =
    let same : ps ≡ qs = cc in
    subst (λ (q : List Equation). Unifies (q ++ es) bs) same r

from_failed : {t u : Tree} {es : List Equation} {bs : List Binding} → first_step t u ≡ Failed → Unifies ((t, u) ∷ es) bs → ⊥
from_failed h (drop e r) = cc
from_failed h (bind e r) = cc
from_failed h (split e r) = cc

from_bound : {t u : Tree} {es : List Equation} {bs : List Binding} (x : ℕ) (v : Tree) → first_step t u ≡ Bound x v → Unifies ((t, u) ∷ es) bs → (cs : List Binding) × (bs ≡ (x, v) ∷ cs) × Unifies (replaced x v es) cs
from_bound x v h (drop e r) = cc
from_bound x v h (bind {v = w} {x = y} {es = es} {bs = cs} e r) =
    let p : y ≡ x = cc in
    let q : w ≡ v = cc in
    (cs, (λ i. (p i, q i) ∷ cs), subst (λ (b : Binding). Unifies (replaced b.0 b.1 es) cs) (λ i. (p i, q i)) r)
from_bound x v h (split e r) = cc

-- two answers are the same where each gives the other
same_answers : (o p : Option (List Binding)) → ((bs : List Binding) → o ≡ Some bs → p ≡ Some bs) → ((bs : List Binding) → p ≡ Some bs → o ≡ Some bs) → o ≡ p
same_answers None None f g = refl
same_answers None (Some bs) f g = g bs refl
same_answers (Some bs) p f g = sym (f bs refl)

-- the unifier of equations, by the first one
pub unify_step : (t u : Tree) (es : List Equation) (s : Step) → first_step t u ≡ s → unify ((t, u) ∷ es) ≡ after unify unify s es
unify_step t u es Dropped e =
    same_answers (unify ((t, u) ∷ es)) (unify es)
    (λ bs h. unify_complete es bs (from_dropped e (unify_finds ((t, u) ∷ es) bs h)))
    (λ bs h. unify_complete ((t, u) ∷ es) bs (drop e (unify_finds es bs h)))
unify_step t u es (Split qs) e =
    same_answers (unify ((t, u) ∷ es)) (unify (qs ++ es))
    (λ bs h. unify_complete (qs ++ es) bs (from_split qs e (unify_finds ((t, u) ∷ es) bs h)))
    (λ bs h. unify_complete ((t, u) ∷ es) bs (split e (unify_finds (qs ++ es) bs h)))
unify_step t u es Failed e =
    same_answers (unify ((t, u) ∷ es)) None
    (λ bs h. absurd (from_failed e (unify_finds ((t, u) ∷ es) bs h)))
    (λ bs h. cc)
unify_step t u es (Bound x v) e =
    same_answers (unify ((t, u) ∷ es)) (option_map (λ bs. (x, v) ∷ bs) (unify (replaced x v es))) there (λ bs h. back (unify (replaced x v es)) bs refl h)
  where
    there : (bs : List Binding) → unify ((t, u) ∷ es) ≡ Some bs → option_map (λ bs. (x, v) ∷ bs) (unify (replaced x v es)) ≡ Some bs
    there bs h =
        let f = from_bound x v e (unify_finds ((t, u) ∷ es) bs h) in
        ap (option_map (λ cs. (x, v) ∷ cs)) (unify_complete (replaced x v es) f.0 f.2) ∙ ap Some (sym f.1)

    back : (o : Option (List Binding)) (bs : List Binding) → unify (replaced x v es) ≡ o → option_map (λ cs. (x, v) ∷ cs) o ≡ Some bs → unify ((t, u) ∷ es) ≡ Some bs
    back None bs h k = cc
    back (Some cs) bs h k =
        let same : (x, v) ∷ cs ≡ bs = cc in
        unify_complete ((t, u) ∷ es) ((x, v) ∷ cs) (bind e (unify_finds (replaced x v es) cs h)) ∙ ap Some same

-- what occurs after a step that binds nothing occurred before
pub occur_dropped : (t u : Tree) (es : List Equation) → OccurBefore ((t, u) ∷ es) es
occur_dropped t u es y h = or_right (occurs y t || occurs y u) (occurs_in y es) h

pub occur_split : (t u : Tree) (qs es : List Equation) → first_step t u ≡ Split qs → OccurBefore ((t, u) ∷ es) (qs ++ es)
occur_split t u qs es e y h = replaced_inside t u qs es y e h

-- how the unifier goes on after a binding
pub goes_on : (t u : Tree) (x : ℕ) (v : Tree) (es : List Equation) → first_step t u ≡ Bound x v → GoesOn ((t, u) ∷ es) x v (replaced x v es)
goes_on t u x v es e =
    let b = binds t u x v e in
    record {
      unifier = unify_step t u es (Bound x v) e;
      inside = bind_inside t u x v es b;
      there = or_left (occurs x t || occurs x u) (occurs_in x es) b.there;
      gone = bind_gone t u x v es b;
    }

-- and from equations with the same unifier
pub goes_on_from : (before now : List Equation) (x : ℕ) (v : Tree) (left : List Equation) → unify before ≡ unify now → OccurBefore before now → GoesOn now x v left → GoesOn before x v left
goes_on_from before now x v left same inside g = record {
  unifier = same ∙ g.unifier;
  inside = λ y h. inside y (g.inside y h);
  there = inside x g.there;
  gone = g.gone;
}

-- fewer variables occur
pub fewer_occur : (n x : ℕ) (v : Tree) (before now : List Equation) → AllBelow n before → GoesOn before x v now → occurring n now < occurring n before
fewer_occur n x v before now below g = occurring_lt n x now before g.inside (below x g.there) g.gone g.there

-- equations with the unifier of those before, in which no other variables occur
pub record HaveUnifierOf (before now : List Equation) : Type 0 where
  pub unifier : unify before ≡ unify now
  pub inside : OccurBefore before now

module _ {before : List Equation} {t u : Tree} {es : List Equation} (have : HaveUnifierOf before ((t, u) ∷ es)) where
  pub inside_rest : OccurBefore before es
  inside_rest y h = have.inside y (occur_dropped t u es y h)

  -- nothing is asked for
  pub after_nothing : first_step t u ≡ Dropped → HaveUnifierOf before es
  after_nothing h = record { unifier = have.unifier ∙ unify_step t u es Dropped h; inside = inside_rest }

  -- the equations of arguments
  pub after_arguments : (qs : List Equation) → first_step t u ≡ Split qs → HaveUnifierOf before (qs ++ es)
  after_arguments qs h = record {
    unifier = have.unifier ∙ unify_step t u es (Split qs) h;
    inside = λ y k. have.inside y (occur_split t u qs es h y k);
  }

  -- it fails
  pub after_clash : first_step t u ≡ Failed → unify before ≡ None
  after_clash h = have.unifier ∙ unify_step t u es Failed h

  -- a binding
  pub after_binding : (x : ℕ) (v : Tree) → first_step t u ≡ Bound x v → GoesOn before x v (replaced x v es)
  after_binding x v h = goes_on_from before ((t, u) ∷ es) x v (replaced x v es) have.unifier have.inside (goes_on t u x v es h)

-- before any binding
pub option_map_same : (o : Option (List Binding)) → o ≡ option_map (λ cs. [] ++ cs) o
option_map_same None = refl
option_map_same (Some cs) = refl

-- what was unified before a binding, and with it
pub option_map_twice : (bs : List Binding) (b : Binding) (o : Option (List Binding)) → option_map (λ cs. bs ++ cs) (option_map (λ cs. b ∷ cs) o) ≡ option_map (λ cs. (bs ++ b ∷ []) ++ cs) o
option_map_twice bs b None = refl
option_map_twice bs b (Some cs) = ap Some (sym (append_assoc bs (b ∷ []) cs))

-- a variable that does not occur is not bound
pub stays_free : (x y : ℕ) (t : Tree) (s : List Binding) (es : List Equation) → occurs_in y es ≡ false → occurs_in x es ≡ true → stored s y ≡ None → stored ((x, t) ∷ s) y ≡ None
stays_free x y t s es gone there h = go (x == y) refl
  where
    go : (b : Bool) → (x == y) ≡ b → (if b then Some t else stored s y) ≡ None
    go true e =
        let same : x ≡ y = eqb-true x y e in
        absurd (true≢false (sym there ∙ ap (λ z. occurs_in z es) same ∙ gone))
    go false e = h
