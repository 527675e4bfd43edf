-- Laws of the kinds of first arguments.
use Rattle.std.proofs.Common.{◌≡◌, ℕ, ℤ, suc, ◌-◌, ◌≤◌, ◌<◌, ◌⊎◌, inl, inr, List, [], ◌∷◌, map, length, set, replicate, get_or, slice_get, Some, refl, ap, sym, ◌∙◌, subst, arith, length-set}
use Rattle.std.proofs.lemmas.Bool.{cases_eq}
use Rattle.std.proofs.lemmas.Grind.{get_or-set_at}
use Rattle.std.proofs.lemmas.List.{get_or-set_other, get_or-replicate, length-replicate}
use Rattle.std.proofs.lemmas.Option.{same_Some, slice_get_within, slice_get_cases}
use Rattle.cti_terms.specs.declared.clauses.Clause.{Clause}
use Rattle.cti_terms.specs.declared.syntax.Term.{Term, fold-roll-Term}
use Rattle.cti_terms.specs.declared.syntax.Term.TheVariants.{Int, rolls-Int}
use Rattle.cti_terms.specs.declared.syntax.Term.TheOpen.Term-F.{Int as IntLayer}
use Rattle.cti_terms.specs.Tree.{Tree, arity}
use Rattle.cti_terms.specs.Spell.{tree_of, trees_of, tree_step}
use Rattle.cti_terms.specs.Listing.{Listing}
use Rattle.ld_resolver.specs.declared.first_kind.FirstKind.{FirstKind}
use Rattle.ld_resolver.specs.declared.first_kind.FirstKind.TheVariants.{Any}
use Rattle.ld_resolver.specs.FirstKinds.{HasKind}
use Rattle.ld_resolver.specs.Chain.{AreKinds, IsKindAt}
use Rattle.ld_resolver.proofs.ChainLaws.{clause_at}

-- what an integer spells
pub tree_of_int : (n : ℤ) → tree_of (Int n) ≡ Tree.Integer n
tree_of_int n = ap tree_of (sym (rolls-Int n)) ∙ fold-roll-Term Tree tree_step (IntLayer n)

pub arity-trees_of : (ts : List Term) → arity (trees_of ts) ≡ length ts
arity-trees_of [] = refl
arity-trees_of (t ∷ ts) = ap suc (arity-trees_of ts)

-- the kind of the first term is that of the first argument
pub kind_of_first : (ts : List Term) (args : List Tree) (t : Term) (kind : FirstKind) → map tree_of ts ≡ args → Some t ≡ slice_get ts 0 → ((others : List Tree) → HasKind (tree_of t ∷ others) kind) → HasKind args kind
kind_of_first [] args t kind e h is = cc
kind_of_first (u ∷ ts) args t kind e h is = subst (λ (l : List Tree). HasKind l kind) (ap (λ (v : Term). tree_of v ∷ map tree_of ts) (same_Some t u h) ∙ e) (is (map tree_of ts))

-- no kind is known at first
pub kinds_begun : (p : Listing) (count : ℕ) → count ≡ length p.clauses → AreKinds p (replicate count Any)
kinds_begun p count e = record {
  each_clause = length-replicate count Any ∙ e;
  are = λ i c at. (let l : i < count = (let h = slice_get_within p.clauses i c at in omega (arith, h, e)) in subst (HasKind c.head.args) (sym (get_or-replicate count i Any Any l)) tt);
}

-- the kind of one more clause is noted
pub kinds_more : (p : Listing) (kinds : List FirstKind) (k : ℕ) (c : Clause) (kind : FirstKind) → slice_get p.clauses (k - 1) ≡ Some c → HasKind c.head.args kind → AreKinds p kinds → AreKinds p (set kinds (k - 1) kind)
kinds_more p kinds k c kind at has h = record {
  each_clause = length-set kinds (k - 1) kind ∙ h.each_clause;
  are = λ i d there. go i d there (cases_eq i (k - 1));
}
  where
    inside : k - 1 < length kinds
    inside = let l = slice_get_within p.clauses (k - 1) c at in omega (arith, l, h.each_clause)

    go : (i : ℕ) (d : Clause) → slice_get p.clauses i ≡ Some d → (i ≡ k - 1) ⊎ (i ≡ k - 1 → ⊥) → HasKind d.head.args (get_or (set kinds (k - 1) kind) i Any)
    go i d there (inl same) =
        subst (HasKind d.head.args) (sym (get_or-set_at kinds (k - 1) i kind Any same inside))
        (subst (λ (x : Clause). HasKind x.head.args kind) (same_Some c d (sym at ∙ ap (slice_get p.clauses) (sym same) ∙ there)) has)
    go i d there (inr ne) = subst (HasKind d.head.args) (sym (get_or-set_other kinds (k - 1) i kind Any ne)) (h.are i d there)

-- a kind that is noted is that of a clause
pub kind_at : (p : Listing) (kinds : List FirstKind) (k : ℕ) (kind : FirstKind) → 1 ≤ k → k - 1 < length kinds → kind ≡ get_or kinds (k - 1) Any → AreKinds p kinds → IsKindAt p k kind
kind_at p kinds k kind one inside read h = elim (slice_get_cases p.clauses (k - 1)).1 [
  | inl there ↦ (there.0, clause_at p.clauses k there.0 one there.2, subst (HasKind there.0.head.args) (sym read) (h.are (k - 1) there.0 there.2))
  | inr past ↦ absurd (omega (arith, inside, h.each_clause, past.0))
]
