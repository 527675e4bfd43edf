-- A clause leaves one goal.
use Rattle.std.proofs.Common.{◌≡◌, ℕ, zero, suc, ◌++◌, List, [], ◌∷◌, map, slice_get, Option, None, Some, IsSomeAnd, refl, ap, sym, subst, ◌∙◌}
use Rattle.cti_terms.specs.declared.atom_list.Atom.{Atom}
use Rattle.cti_terms.specs.declared.clauses.Clause.{Clause}
use Rattle.cti_terms.specs.Arithmetic.{Arithmetic}
use Rattle.cti_terms.specs.Listing.{Listing}
use Rattle.cti_terms.specs.declared.derivation.Goal.{Goal}
use Rattle.cti_terms.specs.Unify.{Equation, Binding, replaced, Unifies, none, drop, bind, split, applied}
use Rattle.cti_terms.specs.Resolve.{over, raised}
use Rattle.cti_terms.specs.ResolutionStep.{LeavesFrom, PassesFrom, Resolves}

-- equations have at most one unifier
pub one_unifier : {es : List Equation} {bs cs : List Binding} → Unifies es bs → Unifies es cs → bs ≡ cs
one_unifier none none = refl
one_unifier (drop e r) (drop e' r') = one_unifier r r'
one_unifier (drop e r) (bind e' r') = cc
one_unifier (drop e r) (split e' r') = cc
one_unifier (bind e r) (drop e' r') = cc
one_unifier (bind {v = v} {x = x} {es = es} {bs = bs} e r) (bind {v = w} {x = y} {bs = cs} e' r') =
    let at : x ≡ y = cc in
    let to : v ≡ w = cc in
    let same : bs ≡ cs = one_unifier r (subst (λ (b : Binding). Unifies (replaced b.0 b.1 es) cs) (λ i. (sym at i, sym to i)) r') in
    cc
one_unifier (bind e r) (split e' r') = cc
one_unifier (split e r) (drop e' r') = cc
one_unifier (split e r) (bind e' r') = cc
one_unifier (split {qs = qs} {es = es} e r) (split {qs = qs'} {bs = cs} e' r') =
    let same : qs' ≡ qs = cc in
    one_unifier r (subst (λ (q : List Equation). Unifies (q ++ es) cs) same r')

pub same_goal : (g h : Goal) → g.atoms ≡ h.atoms → g.fresh ≡ h.fresh → g ≡ h
same_goal g h p q = λ i. record { atoms = p i; fresh = q i }

one_left : (atoms : List Atom) (n : ℕ) (c : Clause) (bs cs : List Binding) (g h : Goal) → LeavesFrom atoms n c bs g → LeavesFrom atoms n c cs h → (bs ≡ cs) × (g ≡ h)
one_left [] n c bs cs g h l m = absurd l
one_left (a ∷ rest) n c bs cs g h l m =
    let same = one_unifier l.unifies m.unifies in
    let left = l.atoms ∙ ap (λ (b : List Binding). map (over (applied b)) (map (raised n) c.body ++ rest)) same ∙ sym m.atoms in
    (same, same_goal g h left (l.fresh ∙ sym m.fresh))

both : (o : Option Clause) (atoms : List Atom) (n : ℕ) (bs cs : List Binding) (g h : Goal) → IsSomeAnd o (λ c. LeavesFrom atoms n c bs g) → IsSomeAnd o (λ c. LeavesFrom atoms n c cs h) → (bs ≡ cs) × (g ≡ h)
both None atoms n bs cs g h l m = absurd l
both (Some c) atoms n bs cs g h l m = one_left atoms n c bs cs g h l m

one_passed : (ar : Arithmetic) (atoms : List Atom) (n : ℕ) (bs cs : List Binding) (g h : Goal) → PassesFrom ar atoms n bs g → PassesFrom ar atoms n cs h → (bs ≡ cs) × (g ≡ h)
one_passed ar [] n bs cs g h l m = absurd l
one_passed ar (a ∷ rest) n bs cs g h l m =
    let same : bs ≡ cs = let e = l.passes in let f = m.passes in cc in
    let left = l.atoms ∙ ap (λ (b : List Binding). map (over (applied b)) rest) same ∙ sym m.atoms in
    (same, same_goal g h left (l.fresh ∙ sym m.fresh))

-- a number resolves a goal by one unifier, and leaves one goal
pub one_resolvent : (p : Listing) (g : Goal) (k : ℕ) (bs cs : List Binding) (h h' : Goal) → Resolves p g k bs h → Resolves p g k cs h' → (bs ≡ cs) × (h ≡ h')
one_resolvent p g zero bs cs h h' l m = one_passed p.arithmetic g.atoms g.fresh bs cs h h' l m
one_resolvent p g (suc i) bs cs h h' l m = both (slice_get p.clauses i) g.atoms g.fresh bs cs h h' l m
