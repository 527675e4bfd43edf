-- Laws of clauses that cannot match a goal by its first argument.
use Rattle.std.proofs.Common.{◌≡◌, ◌≢◌, ℕ, ℤ, zero, suc, ◌<◌, ◌≤◌, Bool, true, false, ◌&&◌, ◌==◌, if◌then◌else◌, List, [], ◌∷◌, map, length, slice_get, Option, None, Some, option_map, option_and_then, inl, inr, refl, ap, sym, ◌∙◌, subst, arith, eqb-true}
use Rattle.std.proofs.lemmas.Bool.{cases_eq, cases_lt}
use Rattle.cti_terms.specs.declared.naming.Name.{Name}
use Rattle.cti_terms.specs.Tree.{Tree, Trees, Compound, End, More, arity, trees, instance, all_instances}
use Rattle.cti_terms.specs.declared.syntax.Term.{Term}
use Rattle.cti_terms.specs.Spell.{tree_of}
use Rattle.cti_terms.specs.declared.atom_list.Atom.{Atom}
use Rattle.cti_terms.specs.declared.clauses.Clause.{Clause}
use Rattle.cti_terms.specs.Arithmetic.{kind_of, passes_as}
use Rattle.cti_terms.specs.Listing.{Listing, numbered}
use Rattle.cti_terms.specs.declared.builtins.Builtin.{Builtin}
use Rattle.cti_terms.specs.declared.derivation.Goal.{Goal}
use Rattle.cti_terms.specs.Unify.{Binding, Step, first_step, pairs}
use Rattle.cti_terms.specs.UnifyFunction.{unify}
use Rattle.cti_terms.specs.Resolve.{over, raised, head_equations, answered, passed, resolve_by, resolve}
use Rattle.unifier.specs.declared.raised_term.Met.{Met}
use Rattle.unifier.specs.declared.raised_term.Shape.{Shape}
use Rattle.unifier.specs.Raised.{raised_tree, raise}
use Rattle.unifier.specs.Shapes.{shape_full, IsMet}
use Rattle.unifier.specs.Store.{full}
use Rattle.unifier.specs.Pending.{args_full}
use Rattle.ld_resolver.specs.Chain.{IsNext}
use Rattle.ld_resolver.specs.Choices.{goal_from}
use Rattle.ld_resolver.specs.declared.first_kind.FirstKind.{FirstKind}
use Rattle.ld_resolver.specs.FirstArguments.{HasFirst, IsRuledOut, RulesOut, IsNextMatch}
use Rattle.unifier.proofs.PendingLaws.{arity-all_full, step_two_integers}
use Rattle.ld_resolver.proofs.SearchLaws.{another_pred}
use Rattle.unifier.proofs.UnifySteps.{unify_step}

-- the first argument of a raised atom has the kind that its term was found to have
pub has_first : (s : List Binding) (a : Atom) (base : ℕ) (ts : List Term) (t : Term) (m : Met) → map tree_of ts ≡ a.args → Some t ≡ slice_get ts 0 → full s (raised_tree m.term) ≡ full s (instance (raise base) (tree_of t)) → IsMet s m → HasFirst s (raised base a) m.shape
has_first s a base [] t m e h same met = cc
has_first s a base (u ∷ ts) t m e h same met = record {
  base = m.term.base;
  others = map (full s) (map (instance (raise base)) (map tree_of ts));
  are =
      ap (λ (l : List Tree). map (full s) (map (instance (raise base)) l)) (sym e)
      ∙ ap (λ (x : Tree). x ∷ map (full s) (map (instance (raise base)) (map tree_of ts))) (ap (λ (v : Term). full s (instance (raise base) (tree_of v))) it ∙ sym same ∙ met.tree);
}
  where
    it : u ≡ t
    it = cc

-- a clause whose first argument clashes is ruled out
ruled_out : (n : ℕ) (h : Shape) (c : Clause) (u : Tree) (us : List Tree) → c.head.args ≡ u ∷ us → ((s : List Binding) (m : ℕ) → first_step (shape_full s m h) (instance (raise n) u) ≡ Step.Failed) → IsRuledOut n h c
ruled_out n h c u us e clash s a rest first =
    ap (λ (o : Option (List Binding)). if a.pred.0 == c.head.pred.0 then option_map (answered (map (over (full s)) rest) n c) o else None) none
    ∙ either_way (a.pred.0 == c.head.pred.0)
  where
    either_way : (b : Bool) → (if b then option_map (answered (map (over (full s)) rest) n c) None else None) ≡ None
    either_way true = refl
    either_way false = refl

    begins : head_equations (over (full s) a) n c ≡ (shape_full s first.base h, instance (raise n) u) ∷ pairs (trees first.others) (trees (map (instance (raise n)) us))
    begins = λ i. pairs (trees (first.are i)) (trees (map (instance (raise n)) (e i)))

    none : unify (head_equations (over (full s) a) n c) ≡ None
    none = ap unify begins ∙ unify_step (shape_full s first.base h) (instance (raise n) u) (pairs (trees first.others) (trees (map (instance (raise n)) us))) Step.Failed (clash s first.base)

-- two integers that differ
pub integer_integer : (h : Shape) (m n : ℤ) → ((s : List Binding) (k : ℕ) → shape_full s k h ≡ Tree.Integer m) → (m ≡ n → ⊥) → RulesOut h (FirstKind.Integer n)
integer_integer h m n is d = λ k c has. ruled_out k h c (Tree.Integer n) has.0 has.1 (λ s j. ap (λ (t : Tree). first_step t (Tree.Integer n)) (is s j) ∙ sym (step_two_integers m n d))

-- an integer and a compound term
pub integer_compound : (h : Shape) (m : ℤ) (f : Name) (count : ℕ) → ((s : List Binding) (k : ℕ) → shape_full s k h ≡ Tree.Integer m) → RulesOut h (FirstKind.Compound f count)
integer_compound h m f count is = λ k c has. ruled_out k h c (Compound f.0 has.0) has.1 has.2 (λ s j. ap (λ (t : Tree). first_step t (instance (raise k) (Compound f.0 has.0))) (is s j))

-- a compound term and an integer
pub compound_integer : (h : Shape) (f : ℕ) (ts : List Term) (n : ℤ) → ((s : List Binding) (k : ℕ) → shape_full s k h ≡ Compound f (args_full s k ts)) → RulesOut h (FirstKind.Integer n)
compound_integer h f ts n is = λ k c has. ruled_out k h c (Tree.Integer n) has.0 has.1 (λ s j. ap (λ (t : Tree). first_step t (Tree.Integer n)) (is s j))

arity-instances : (a : ℕ → Tree) (ts : Trees) → arity (all_instances a ts) ≡ arity ts
arity-instances a End = refl
arity-instances a (More t ts) = ap suc (arity-instances a ts)

-- two compound terms of different names or arities
two_compounds : (f g n m : ℕ) (ts us : Trees) → arity ts ≡ n → arity us ≡ m → ((f ≡ g) × (n ≡ m) → ⊥) → first_step (Compound f ts) (Compound g us) ≡ Step.Failed
two_compounds f g n m ts us p q d = go (f == g) (arity ts == arity us) refl refl
  where
    go : (a b : Bool) → (f == g) ≡ a → (arity ts == arity us) ≡ b → (if (f == g) && (arity ts == arity us) then Step.Split (pairs ts us) else Step.Failed) ≡ Step.Failed
    go true true x y = absurd (d (eqb-true f g x, sym p ∙ eqb-true (arity ts) (arity us) y ∙ q))
    go true false x y = λ i. if (x i) && (y i) then Step.Split (pairs ts us) else Step.Failed
    go false b x y = λ i. if (x i) && (arity ts == arity us) then Step.Split (pairs ts us) else Step.Failed

pub compound_compound : (h : Shape) (f : ℕ) (ts : List Term) (g : Name) (count : ℕ) → ((s : List Binding) (k : ℕ) → shape_full s k h ≡ Compound f (args_full s k ts)) → ((f ≡ g.0) × (length ts ≡ count) → ⊥) → RulesOut h (FirstKind.Compound g count)
compound_compound h f ts g count is d = λ k c has. ruled_out k h c (Compound g.0 has.0) has.1 has.2 (λ s j.
    ap (λ (t : Tree). first_step t (instance (raise k) (Compound g.0 has.0))) (is s j)
    ∙ two_compounds f g.0 (length ts) count (args_full s j ts) (all_instances (raise k) has.0) (arity-all_full s j ts) (arity-instances (raise k) has.0 ∙ has.3) d)

-- a clause's number resolves by the clause
pub resolve_of : (p : Listing) (g : Goal) (k : ℕ) (c : Clause) → numbered p.clauses k ≡ Some c → resolve p g k ≡ resolve_by g.atoms g.fresh c
resolve_of p g zero c e = cc
resolve_of p g (suc i) c e = ap (option_and_then (resolve_by g.atoms g.fresh)) e

-- a clause of another predicate resolves no goal
another : (s : List Binding) (n : ℕ) (a : Atom) (rest : List Atom) (c : Clause) → a.pred.0 ≢ c.head.pred.0 → resolve_by (goal_from s n a rest).atoms n c ≡ None
another s n a rest c d = another_pred (over (full s) a) (map (over (full s)) rest) n c d

-- nor do the clauses before the next one of its predicate
others_skipped : (p : Listing) (s : List Binding) (a : Atom) (n k m : ℕ) → kind_of p.arithmetic a.pred.0 ≡ None → IsNext p a.pred.0 k m → (rest : List Atom) (j : ℕ) → k ≤ j → j < m → resolve p (goal_from s n a rest) j ≡ None
others_skipped p s a n k m plain is rest zero low high = ap (λ (o : Option Builtin). option_map (passed (map (over (full s)) rest) n) (passes_as p.arithmetic.names o (map (full s) a.args))) plain
others_skipped p s a n k m plain is rest (suc i) low high = go (slice_get p.clauses i) refl
  where
    go : (o : Option Clause) → slice_get p.clauses i ≡ o → option_and_then (resolve_by (goal_from s n a rest).atoms n) o ≡ None
    go None e = refl
    go (Some c) e = another s n a rest c (is.others (suc i) c low high e)

pub next_matches : (p : Listing) (s : List Binding) (a : Atom) (n k m : ℕ) → kind_of p.arithmetic a.pred.0 ≡ None → IsNext p a.pred.0 k m → IsNextMatch p s a n k m
next_matches p s a n k m plain is = record {
  from = is.from;
  to_end = is.to_end;
  skipped = others_skipped p s a n k m plain is;
  found = is.found;
}

-- a clause that is ruled out is passed over
pub next_later : (p : Listing) (s : List Binding) (a : Atom) (n k m later : ℕ) (h : Shape) (c : Clause) → kind_of p.arithmetic a.pred.0 ≡ None → IsNextMatch p s a n k m → numbered p.clauses m ≡ Some c → IsRuledOut n h c → HasFirst s a h → IsNext p c.head.pred.0 (suc m) later → IsNextMatch p s a n k later
next_later p s a n k m later h c plain is at out first after = record {
  from = omega (arith, is.from, after.from);
  to_end = after.to_end;
  skipped = λ rest j low high. by_place rest j low high;
  found = λ d e. is.found c at ∙ after.found d e;
}
  where
    here : IsNext p a.pred.0 (suc m) later
    here = subst (λ (f : ℕ). IsNext p f (suc m) later) (sym (is.found c at)) after

    itself : (rest : List Atom) → resolve p (goal_from s n a rest) m ≡ None
    itself rest = resolve_of p (goal_from s n a rest) m c at ∙ out s a rest first

    by_place : (rest : List Atom) (j : ℕ) → k ≤ j → j < later → resolve p (goal_from s n a rest) j ≡ None
    by_place rest j low high = elim (cases_lt j m) [
      | inl less ↦ is.skipped rest j low less
      | inr more ↦ elim (cases_eq j m) [
        | inl same ↦ subst (λ (i : ℕ). resolve p (goal_from s n a rest) i ≡ None) (sym same) (itself rest)
        | inr differs ↦ others_skipped p s a n (suc m) later plain here rest j (omega (arith, more, differs)) high
      ]
    ]
