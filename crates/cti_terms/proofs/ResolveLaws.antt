-- The function resolves as the relation does.
use Rattle.std.proofs.Common.{◌≡◌, ◌==◌, ℕ, zero, suc, Bool, true, false, if◌then◌else◌, List, [], ◌∷◌, slice_get, Option, None, Some, option_map, IsSomeAnd, option_and_then, unwrap_or, refl, ap, sym, ◌∙◌, arith, eqb-true}
use Rattle.std.proofs.lemmas.Bool.Decides.{nat_tests}
use Rattle.cti_terms.specs.declared.atom_list.Atom.{Atom}
use Rattle.cti_terms.specs.declared.clauses.Clause.{Clause}
use Rattle.cti_terms.specs.Arithmetic.{Arithmetic, passes}
use Rattle.cti_terms.specs.Listing.{Listing}
use Rattle.cti_terms.specs.declared.derivation.Goal.{Goal}
use Rattle.cti_terms.specs.Unify.{Binding}
use Rattle.cti_terms.specs.UnifyFunction.{unify}
use Rattle.cti_terms.specs.ResolutionStep.{Leaves, LeavesFrom, Passes, PassesFrom, Resolves}
use Rattle.cti_terms.specs.Resolve.{head_equations, left_by, answered, resolve_by, passed, resolve_itself, resolve}
use Rattle.cti_terms.proofs.UnifyLaws.{unify_complete, unify_finds}
use Rattle.cti_terms.proofs.OneAnswer.{same_goal}

leaves_found : (a : Atom) (rest : List Atom) (n : ℕ) (c : Clause) (bs : List Binding) (h : Goal) → Leaves a rest n c bs h → resolve_by (a ∷ rest) n c ≡ Some (bs, h)
leaves_found a rest n c bs h l =
    let same : (a.pred.0 == c.head.pred.0) ≡ true = let e = l.pred in grind (arith, nat_tests) in
    let found = unify_complete _ bs l.unifies in
    let goal : left_by bs rest n c ≡ h = same_goal _ h (sym l.atoms) (sym l.fresh) in
    (λ i. if (same i) then option_map (answered rest n c) (found i) else None) ∙ ap (λ (g : Goal). Some (bs, g)) goal

from_found : (a : Atom) (rest : List Atom) (n : ℕ) (c : Clause) (bs : List Binding) (h : Goal) → resolve_by (a ∷ rest) n c ≡ Some (bs, h) → Leaves a rest n c bs h
from_found a rest n c bs h e = go (a.pred.0 == c.head.pred.0) (unify (head_equations a n c)) refl refl e
  where
    go : (b : Bool) (o : Option (List Binding)) → (a.pred.0 == c.head.pred.0) ≡ b → unify (head_equations a n c) ≡ o
        → (if b then option_map (answered rest n c) o else None) ≡ Some (bs, h) → Leaves a rest n c bs h
    go true (Some cs) p q r =
        let bindings : cs ≡ bs = ap (λ (o : Option (List Binding × Goal)). (unwrap_or o (bs, h)).0) r in
        let goal : left_by cs rest n c ≡ h = ap (λ (o : Option (List Binding × Goal)). (unwrap_or o (bs, h)).1) r in
        let left : left_by bs rest n c ≡ h = ap (λ (b : List Binding). left_by b rest n c) (sym bindings) ∙ goal in
        record {
          pred = eqb-true a.pred.0 c.head.pred.0 p;
          unifies = unify_finds _ bs (q ∙ ap Some bindings);
          atoms = sym (ap (λ (g : Goal). g.atoms) left);
          fresh = sym (ap (λ (g : Goal). g.fresh) left);
        }
    go true None p q r = cc
    go false o p q r = cc

at_clause : (o : Option Clause) (atoms : List Atom) (n : ℕ) (bs : List Binding) (h : Goal) → IsSomeAnd o (λ c. LeavesFrom atoms n c bs h) → option_and_then (resolve_by atoms n) o ≡ Some (bs, h)
at_clause None atoms n bs h l = absurd l
at_clause (Some c) [] n bs h l = absurd l
at_clause (Some c) (a ∷ rest) n bs h l = leaves_found a rest n c bs h l

of_clause : (o : Option Clause) (atoms : List Atom) (n : ℕ) (bs : List Binding) (h : Goal) → option_and_then (resolve_by atoms n) o ≡ Some (bs, h) → IsSomeAnd o (λ c. LeavesFrom atoms n c bs h)
of_clause None atoms n bs h e = cc
of_clause (Some c) [] n bs h e = cc
of_clause (Some c) (a ∷ rest) n bs h e = from_found a rest n c bs h e

-- a built-in atom leaves the other atoms
passes_found : (ar : Arithmetic) (a : Atom) (rest : List Atom) (n : ℕ) (bs : List Binding) (h : Goal) → Passes ar a rest n bs h → resolve_itself ar (a ∷ rest) n ≡ Some (bs, h)
passes_found ar a rest n bs h l =
    let goal : (passed rest n bs).1 ≡ h = same_goal _ h (sym l.atoms) (sym l.fresh) in
    ap (option_map (passed rest n)) l.passes ∙ ap (λ (g : Goal). Some (bs, g)) goal

from_passed : (ar : Arithmetic) (a : Atom) (rest : List Atom) (n : ℕ) (bs : List Binding) (h : Goal) → resolve_itself ar (a ∷ rest) n ≡ Some (bs, h) → Passes ar a rest n bs h
from_passed ar a rest n bs h e = go (passes ar a) refl e
  where
    go : (o : Option (List Binding)) → passes ar a ≡ o → option_map (passed rest n) o ≡ Some (bs, h) → Passes ar a rest n bs h
    go None p r = cc
    go (Some cs) p r =
        let bindings : cs ≡ bs = ap (λ (o : Option (List Binding × Goal)). (unwrap_or o (bs, h)).0) r in
        let goal : (passed rest n cs).1 ≡ h = ap (λ (o : Option (List Binding × Goal)). (unwrap_or o (bs, h)).1) r in
        let left : (passed rest n bs).1 ≡ h = ap (λ (b : List Binding). (passed rest n b).1) (sym bindings) ∙ goal in
        record {
          passes = p ∙ ap Some bindings;
          atoms = sym (ap (λ (g : Goal). g.atoms) left);
          fresh = sym (ap (λ (g : Goal). g.fresh) left);
        }

itself_complete : (ar : Arithmetic) (atoms : List Atom) (n : ℕ) (bs : List Binding) (h : Goal) → PassesFrom ar atoms n bs h → resolve_itself ar atoms n ≡ Some (bs, h)
itself_complete ar [] n bs h l = absurd l
itself_complete ar (a ∷ rest) n bs h l = passes_found ar a rest n bs h l

itself_finds : (ar : Arithmetic) (atoms : List Atom) (n : ℕ) (bs : List Binding) (h : Goal) → resolve_itself ar atoms n ≡ Some (bs, h) → PassesFrom ar atoms n bs h
itself_finds ar [] n bs h e = cc
itself_finds ar (a ∷ rest) n bs h e = from_passed ar a rest n bs h e

pub resolve_complete : (p : Listing) (g : Goal) (k : ℕ) (bs : List Binding) (h : Goal) → Resolves p g k bs h → resolve p g k ≡ Some (bs, h)
resolve_complete p g zero bs h r = itself_complete p.arithmetic g.atoms g.fresh bs h r
resolve_complete p g (suc i) bs h r = at_clause (slice_get p.clauses i) g.atoms g.fresh bs h r

pub resolve_finds : (p : Listing) (g : Goal) (k : ℕ) (bs : List Binding) (h : Goal) → resolve p g k ≡ Some (bs, h) → Resolves p g k bs h
resolve_finds p g zero bs h e = itself_finds p.arithmetic g.atoms g.fresh bs h e
resolve_finds p g (suc i) bs h e = of_clause (slice_get p.clauses i) g.atoms g.fresh bs h e
