-- Goals with short derivations.
use Rattle.std.proofs.Common.{◌≡◌, ◌≢◌, ◌==◌, ℕ, ◌<◌, zero, suc, Bool, true, false, if◌then◌else◌, List, [], ◌∷◌, ◌++◌, length, map, slice_get, IsSomeAnd, Option, None, Some, option_map, option_and_then, refl, ap, sym, subst, ◌∙◌, arith, eqb-true}
use Rattle.std.specs.List.{AllByRecursion}
use Rattle.cti_terms.specs.declared.atom_list.Atom.{Atom}
use Rattle.cti_terms.specs.declared.clauses.Clause.{Clause}
use Rattle.cti_terms.specs.declared.derivation.Goal.{Goal}
use Rattle.cti_terms.specs.declared.builtins.Builtin.{Builtin}
use Rattle.cti_terms.specs.Arithmetic.{Arithmetic, kind_of, passes, passes_as}
use Rattle.cti_terms.specs.Listing.{Listing, IsFact, IsOrdinary, IsProgram, HasNoClause}
use Rattle.cti_terms.specs.Unify.{Binding, applied}
use Rattle.cti_terms.specs.UnifyFunction.{unify}
use Rattle.cti_terms.specs.Resolve.{over, raised, head_equations, answered, resolve_by, resolve}
use Rattle.cti_terms.specs.ResolutionStep.{LeavesFrom, PassesFrom, Resolves}
use Rattle.cti_terms.specs.Derive.{IsDerivation, Bounded}
use Rattle.cti_terms.proofs.ResolveLaws.{resolve_finds}

-- no clause resolves a goal without atoms
no_step : (o : Option Clause) (atoms : List Atom) (n : ℕ) (bs : List Binding) (h : Goal) → atoms ≡ [] → IsSomeAnd o (λ c. LeavesFrom atoms n c bs h) → ⊥
no_step None atoms n bs h e l = l
no_step (Some c) [] n bs h e l = l
no_step (Some c) (a ∷ rest) n bs h e l = cc

none_passes : (ar : Arithmetic) (atoms : List Atom) (n : ℕ) (bs : List Binding) (h : Goal) → atoms ≡ [] → PassesFrom ar atoms n bs h → ⊥
none_passes ar [] n bs h e l = l
none_passes ar (a ∷ rest) n bs h e l = cc

pub no_step_without_atoms : (p : Listing) (g : Goal) (k : ℕ) (bs : List Binding) (h : Goal) → g.atoms ≡ [] → resolve p g k ≡ Some (bs, h) → ⊥
no_step_without_atoms p g zero bs h e r = none_passes p.arithmetic g.atoms g.fresh bs h e (resolve_finds p g zero bs h r)
no_step_without_atoms p g (suc i) bs h e r = no_step (slice_get p.clauses i) g.atoms g.fresh bs h e (resolve_finds p g (suc i) bs h r)

-- a goal without atoms has the empty derivation alone
pub bounded_without_atoms : (p : Listing) (n : ℕ) → Bounded p (record { atoms = []; fresh = n })
bounded_without_atoms p n = (1, short)
  where
    short : (ks : List ℕ) → IsDerivation p (record { atoms = []; fresh = n }) ks → length ks < 1
    short [] d = omega arith
    short (k ∷ ks) d = absurd (no_step_without_atoms p (record { atoms = []; fresh = n }) k d.0 d.1 refl d.2)

none_there : (cs : List Clause) (i : ℕ) (a : Atom) (rest : List Atom) (n : ℕ) (bs : List Binding) (h : Goal) → AllByRecursion (λ (c : Clause). a.pred.0 ≢ c.head.pred.0) cs → IsSomeAnd (slice_get cs i) (λ c. LeavesFrom (a ∷ rest) n c bs h) → ⊥
none_there [] i a rest n bs h all l = l
none_there (c ∷ cs) zero a rest n bs h all l = all.0 l.pred
none_there (c ∷ cs) (suc i) a rest n bs h all l = none_there cs i a rest n bs h all.1 l

-- an atom that is not built in does not succeed by itself
not_itself : (ar : Arithmetic) (a : Atom) (bs : List Binding) → kind_of ar a.pred.0 ≡ None → passes ar a ≡ Some bs → ⊥
not_itself ar a bs none e = let f = ap (λ o. passes_as ar.names o a.args) (sym none) ∙ e in cc

-- and so does a goal whose first atom has no clause and is not built in
pub bounded_without_clause : (p : Listing) (a : Atom) (rest : List Atom) (n : ℕ) → HasNoClause p a → kind_of p.arithmetic a.pred.0 ≡ None → Bounded p (record { atoms = a ∷ rest; fresh = n })
bounded_without_clause p a rest n all none = (1, short)
  where
    short : (ks : List ℕ) → IsDerivation p (record { atoms = a ∷ rest; fresh = n }) ks → length ks < 1
    short [] d = omega arith
    short (zero ∷ ks) d = absurd (not_itself p.arithmetic a d.0 none (resolve_finds p (record { atoms = a ∷ rest; fresh = n }) zero d.0 d.1 d.2).passes)
    short (suc i ∷ ks) d = absurd (none_there p.clauses i a rest n d.0 d.1 all (resolve_finds p (record { atoms = a ∷ rest; fresh = n }) (suc i) d.0 d.1 d.2))

-- a fact takes the first atom away
fact_leaves : (cs : List Clause) (i : ℕ) (a : Atom) (n : ℕ) (bs : List Binding) (h : Goal) → AllByRecursion IsFact cs → IsSomeAnd (slice_get cs i) (λ c. LeavesFrom (a ∷ []) n c bs h) → h.atoms ≡ []
fact_leaves [] i a n bs h all l = absurd l
fact_leaves (c ∷ cs) zero a n bs h all l = l.atoms ∙ ap (λ (b : List Atom). map (over (applied bs)) (map (raised n) b ++ [])) all.0
fact_leaves (c ∷ cs) (suc i) a n bs h all l = fact_leaves cs i a n bs h all.1 l

-- and so does what is built in
step_leaves : (p : Listing) (k : ℕ) (a : Atom) (n : ℕ) (bs : List Binding) (h : Goal) → AllByRecursion IsFact p.clauses → Resolves p (record { atoms = a ∷ []; fresh = n }) k bs h → h.atoms ≡ []
step_leaves p zero a n bs h all r = r.atoms
step_leaves p (suc i) a n bs h all r = fact_leaves p.clauses i a n bs h all r

-- a derivation from one atom by facts has one step at most
pub facts_short : (p : Listing) (a : Atom) (n : ℕ) (ks : List ℕ) → AllByRecursion IsFact p.clauses → IsDerivation p (record { atoms = a ∷ []; fresh = n }) ks → length ks < 2
facts_short p a n [] all d = omega arith
facts_short p a n (k ∷ []) all d = omega arith
facts_short p a n (k ∷ l ∷ ls) all d =
    let left = step_leaves p k a n d.0 d.1 all (resolve_finds p (record { atoms = a ∷ []; fresh = n }) k d.0 d.1 d.2) in
    absurd (no_step_without_atoms p d.1 l d.3.0 d.3.1 left d.3.2)

-- no clause has a head that is built in
not_head : (ar : Arithmetic) (cs : List Clause) (i : ℕ) (c : Clause) → AllByRecursion (IsOrdinary ar) cs → slice_get cs i ≡ Some c → kind_of ar c.head.pred.0 ≡ None
not_head ar [] i c all e = cc
not_head ar (x ∷ cs) zero c all e = let same : x ≡ c = cc in subst (IsOrdinary ar) same all.0
not_head ar (x ∷ cs) (suc i) c all e = not_head ar cs i c all.1 e

pub zero_alone : (p : Listing) (a : Atom) (rest : List Atom) (n i : ℕ) (b : Builtin) → IsProgram p → kind_of p.arithmetic a.pred.0 ≡ Some b → resolve p (record { atoms = a ∷ rest; fresh = n }) (suc i) ≡ None
zero_alone p a rest n i b prog is = go (slice_get p.clauses i) refl
  where
    other : (c : Clause) → kind_of p.arithmetic c.head.pred.0 ≡ None → (o : Bool) → (a.pred.0 == c.head.pred.0) ≡ o → (if o then option_map (answered rest n c) (unify (head_equations a n c)) else None) ≡ None
    other c none true e = let same : a.pred.0 ≡ c.head.pred.0 = eqb-true a.pred.0 c.head.pred.0 e in let f = sym is ∙ ap (kind_of p.arithmetic) same ∙ none in cc
    other c none false e = refl

    go : (o : Option Clause) → slice_get p.clauses i ≡ o → option_and_then (resolve_by (a ∷ rest) n) o ≡ None
    go None e = refl
    go (Some c) e = other c (not_head p.arithmetic p.clauses i c prog.ordinary e) (a.pred.0 == c.head.pred.0) refl
