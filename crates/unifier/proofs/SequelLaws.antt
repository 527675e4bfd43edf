-- The unifier of equations, and then of those that come after them.
use Rattle.std.proofs.Common.{◌≡◌, ℕ, true, List, [], ◌∷◌, ◌++◌, Option, None, Some, option_map, append_assoc, refl, ap, sym, ◌∙◌, subst}
use Rattle.std.proofs.lemmas.Bool.{or_right}
use Rattle.cti_terms.specs.Tree.{Tree, instance}
use Rattle.cti_terms.specs.Unify.{Equation, Binding, Dropped, Bound, Split, only, replaced, Unifies, none, drop, bind, split, applied}
use Rattle.cti_terms.specs.UnifyFunction.{unify, occurs_in}
use Rattle.cti_terms.proofs.UnifyLaws.{unify_finds, unify_complete, binds, bind_inside, replaced_inside}
use Rattle.unifier.specs.Store.{made}
use Rattle.unifier.specs.Pending.{under_bindings, OccurBefore}
use Rattle.unifier.proofs.StoreLaws.{applied-append}
use Rattle.unifier.proofs.UnifySteps.{unify_step, option_map_same}

-- equations after each binding in turn
abbrev pub after_all : List Binding → List Equation → List Equation
after_all bs [] = []
after_all bs (e ∷ es) = (applied bs e.0, applied bs e.1) ∷ after_all bs es

after_none : (es : List Equation) → after_all [] es ≡ es
after_none [] = refl
after_none (e ∷ es) = ap (λ l. e ∷ l) (after_none es)

after_more : (x : ℕ) (v : Tree) (bs : List Binding) (es : List Equation) → after_all ((x, v) ∷ bs) es ≡ after_all bs (replaced x v es)
after_more x v bs [] = refl
after_more x v bs (e ∷ es) = ap (λ l. (applied bs (instance (only x v) e.0), applied bs (instance (only x v) e.1)) ∷ l) (after_more x v bs es)

replaced-append : (x : ℕ) (v : Tree) (es fs : List Equation) → replaced x v (es ++ fs) ≡ replaced x v es ++ replaced x v fs
replaced-append x v [] fs = refl
replaced-append x v (e ∷ es) fs = ap (λ l. (instance (only x v) e.0, instance (only x v) e.1) ∷ l) (replaced-append x v es fs)

-- bindings that were made later
pub under_later : (s now bs : List Binding) (es : List Equation) → made now ≡ made s ++ bs → under_bindings now es ≡ after_all bs (under_bindings s es)
under_later s now bs [] e = refl
under_later s now bs (f ∷ es) e = λ i. ((ap (λ ms. applied ms f.0) e ∙ applied-append (made s) bs f.0) i, (ap (λ ms. applied ms f.1) e ∙ applied-append (made s) bs f.1) i) ∷ under_later s now bs es e i

option_map_first : (b : Binding) (bs : List Binding) (o : Option (List Binding)) → option_map (λ cs. b ∷ cs) (option_map (λ cs. bs ++ cs) o) ≡ option_map (λ cs. (b ∷ bs) ++ cs) o
option_map_first b bs None = refl
option_map_first b bs (Some cs) = refl

pub option_map_both : (cs bs : List Binding) (o : Option (List Binding)) → option_map (λ ds. cs ++ ds) (option_map (λ ds. bs ++ ds) o) ≡ option_map (λ ds. (cs ++ bs) ++ ds) o
option_map_both cs bs None = refl
option_map_both cs bs (Some ds) = ap Some (sym (append_assoc cs bs ds))

goes_on : {es : List Equation} {bs : List Binding} → Unifies es bs → (fs : List Equation) → unify (es ++ fs) ≡ option_map (λ cs. bs ++ cs) (unify (after_all bs fs))
goes_on none fs = option_map_same (unify fs) ∙ ap (λ l. option_map (λ cs. [] ++ cs) (unify l)) (sym (after_none fs))
goes_on (drop {t = t} {u = u} {es = es} e r) fs = unify_step t u (es ++ fs) Dropped e ∙ goes_on r fs
goes_on (bind {t = t} {u = u} {v = v} {x = x} {es = es} {bs = bs} e r) fs =
    unify_step t u (es ++ fs) (Bound x v) e
    ∙ ap (λ l. option_map (λ cs. (x, v) ∷ cs) (unify l)) (replaced-append x v es fs)
    ∙ ap (option_map (λ cs. (x, v) ∷ cs)) (goes_on r (replaced x v fs))
    ∙ option_map_first (x, v) bs (unify (after_all bs (replaced x v fs)))
    ∙ ap (λ l. option_map (λ cs. ((x, v) ∷ bs) ++ cs) (unify l)) (sym (after_more x v bs fs))
goes_on (split {t = t} {u = u} {qs = qs} {es = es} e r) fs =
    unify_step t u (es ++ fs) (Split qs) e
    ∙ ap unify (sym (append_assoc qs es fs))
    ∙ goes_on r fs

-- where the first equations are unified, the others are under their unifier
pub unify_then : (es fs : List Equation) (bs : List Binding) → unify es ≡ Some bs → unify (es ++ fs) ≡ option_map (λ cs. bs ++ cs) (unify (after_all bs fs))
unify_then es fs bs h = goes_on (unify_finds es bs h) fs

-- what unifies equations unifies the first ones
first_ones : {gs : List Equation} {bs : List Binding} → Unifies gs bs → (es fs : List Equation) → gs ≡ es ++ fs → (cs : List Binding) × Unifies es cs
first_ones r [] fs p = ([], none)
first_ones none (e ∷ es) fs p = absurd cc
first_ones (drop {t = t} {u = u} {es = gs} h r) (e ∷ es) fs p =
    let same : (t, u) ≡ e = cc in
    let rest : gs ≡ es ++ fs = cc in
    let f = first_ones r es fs rest in
    (f.0, subst (λ (d : Equation). Unifies (d ∷ es) f.0) same (drop h f.1))
first_ones (bind {t = t} {u = u} {v = v} {x = x} {es = gs} h r) (e ∷ es) fs p =
    let same : (t, u) ≡ e = cc in
    let rest : gs ≡ es ++ fs = cc in
    let f = first_ones r (replaced x v es) (replaced x v fs) (ap (replaced x v) rest ∙ replaced-append x v es fs) in
    ((x, v) ∷ f.0, subst (λ (d : Equation). Unifies (d ∷ es) ((x, v) ∷ f.0)) same (bind h f.1))
first_ones (split {t = t} {u = u} {qs = qs} {es = gs} h r) (e ∷ es) fs p =
    let same : (t, u) ≡ e = cc in
    let rest : gs ≡ es ++ fs = cc in
    let f = first_ones r (qs ++ es) fs (ap (λ l. qs ++ l) rest ∙ sym (append_assoc qs es fs)) in
    (f.0, subst (λ (d : Equation). Unifies (d ∷ es) f.0) same (split h f.1))

-- where the first equations have no unifier, all have none
pub unify_fails : (es fs : List Equation) → unify es ≡ None → unify (es ++ fs) ≡ None
unify_fails es fs h = go (unify (es ++ fs)) refl
  where
    go : (o : Option (List Binding)) → unify (es ++ fs) ≡ o → unify (es ++ fs) ≡ None
    go None e = e
    go (Some bs) e =
        let f = first_ones (unify_finds (es ++ fs) bs e) es fs refl in
        let found = unify_complete es f.0 f.1 in
        absurd cc

-- what occurs in later equations under a unifier occurred before
pub occur_after : {es : List Equation} {bs : List Binding} → Unifies es bs → (fs : List Equation) → OccurBefore (es ++ fs) (after_all bs fs)
occur_after none fs y o = subst (λ l. occurs_in y l ≡ true) (after_none fs) o
occur_after (drop {t = t} {u = u} {es = es} e r) fs y o = or_right _ (occurs_in y (es ++ fs)) (occur_after r fs y o)
occur_after (bind {t = t} {u = u} {v = v} {x = x} {es = es} {bs = bs} e r) fs y o =
    let k = occur_after r (replaced x v fs) y (subst (λ l. occurs_in y l ≡ true) (after_more x v bs fs) o) in
    bind_inside t u x v (es ++ fs) (binds t u x v e) y (subst (λ l. occurs_in y l ≡ true) (sym (replaced-append x v es fs)) k)
occur_after (split {t = t} {u = u} {qs = qs} {es = es} e r) fs y o =
    replaced_inside t u qs (es ++ fs) y e (subst (λ l. occurs_in y l ≡ true) (append_assoc qs es fs) (occur_after r fs y o))
