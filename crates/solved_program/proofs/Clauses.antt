-- The clauses of a component, and that each of its members has one where there are any.
use Rattle.std.proofs.Common.{◌≡◌, ℕ, suc, ◌+◌, ◌-◌, zero, inl, inr, ◌⊎◌, List, [], ◌∷◌, slice_get, None, Some, refl, ap, sym, ◌∙◌, arith}
use Rattle.std.specs.Prelude.{Any}
use Rattle.call_components.specs.Calls.{Calls, Reaches, itself, onward}
use Rattle.call_components.specs.Partition.{Partition, AreComponents, IsIn}
use Rattle.call_components.proofs.Lists.{any_cases}
use Rattle.cti_terms.specs.Arithmetic.{kind_of}
use Rattle.cti_terms.specs.Listing.{Listing, IsProgram, IsOrdinary}
use Rattle.cti_terms.specs.declared.atom_list.Atom.{Atom}
use Rattle.cti_terms.specs.declared.clauses.Clause.{Clause}
use Rattle.linear_rows.specs.Members.{In}
use Rattle.linear_rows.proofs.Members.{in-filter}
use Rattle.termination_model.specs.chains.Chain.{clauses_of, component_of, counted, is_number}
use Rattle.termination_model.proofs.ChainLeaves.{in_counted, number_is, of_counted, of_own}
use Rattle.termination_model.proofs.ChainSieves.{of_all}
use Rattle.numeric_model.proofs.Chaining.{at_number, in_counted_at}

abbrev pub Numbered : Type 0
Numbered = ℕ × Clause

pub in_at : {X : Type 0} (xs : List X) (i : ℕ) (x : X) → slice_get xs i ≡ Some x → In x xs
in_at [] i x e = cc
in_at (y ∷ xs) zero x e = inl cc
in_at (y ∷ xs) (suc i) x e = inr (in_at xs i x e)

of_any : {X : Type 0} (P : X → Type 0) (xs : List X) → Any P xs → (x : X) × In x xs × P x
of_any P [] (k, y, l, e, p) = absurd (omega arith)
of_any P (x ∷ xs) a = elim (any_cases P x xs a) [
  | inl here ↦ (x, inl refl, here)
  | inr more ↦ let r = of_any P xs more in (r.0, inr r.1, r.2)
]

module _ (p : Listing) (comps : Partition) (prog : IsProgram p) (are : AreComponents p comps) where
  -- a clause of the program is one of its head's component
  pub own_clause : (c j : ℕ) (k : Clause) → slice_get p.clauses j ≡ Some k → IsIn comps c k.head.pred.0 → In (1 + j, k) (clauses_of p comps c)
  own_clause c j k at i = in-filter (λ (x : Numbered). is_number c (component_of comps x.1.head.pred.0)) (counted 1 p.clauses) (1 + j, k) (number_is c (component_of comps k.head.pred.0) i) (in_counted_at 1 p.clauses j k at)

  pub of_program : (c : ℕ) (k : Numbered) → In k (clauses_of p comps c) → In k.1 p.clauses
  of_program c k i = in_counted 1 p.clauses k (of_own p comps prog are c k i).0

  pub own_at : (c : ℕ) (k : Numbered) → In k (clauses_of p comps c) → slice_get p.clauses (k.0 - 1) ≡ Some k.1
  own_at c k i = at_number p.clauses k (of_own p comps prog are c k i).0

  pub own_component : (c : ℕ) (k : Numbered) → In k (clauses_of p comps c) → IsIn comps c k.1.head.pred.0
  own_component c k i = (of_own p comps prog are c k i).1

  -- heads are not built in
  pub head_kind : (k : Clause) → In k p.clauses → kind_of p.arithmetic k.head.pred.0 ≡ None
  head_kind k i = of_all (IsOrdinary p.arithmetic) p.clauses k prog.ordinary i

  head_of_reach : (q h : ℕ) → Reaches (Calls p) q h → (q ≡ h) ⊎ ((k : Clause) × In k p.clauses × (k.head.pred.0 ≡ q))
  head_of_reach q h (itself) = inl refl
  head_of_reach q h (onward call more) =
      let a = of_any (λ (k : Clause). (k.head.pred.0 ≡ q) × Any (λ (x : Atom). x.pred.0 ≡ _) k.body) p.clauses call in
      inr (a.0, a.1, a.2.0)

  -- where a component has a clause, each of its members has one
  pub member_clause : (c q : ℕ) (k : Numbered) → In k (clauses_of p comps c) → IsIn comps c q → (l : Numbered) × In l (clauses_of p comps c) × (l.1.head.pred.0 ≡ q)
  member_clause c q k i in_q =
      let in_h = own_component c k i in
      let both = (are.together q k.1.head.pred.0 c c in_q in_h).0 refl in
      elim (head_of_reach q k.1.head.pred.0 both.0) [
        | inl same ↦ (k, i, sym same)
        | inr found ↦
            let here : IsIn comps c found.0.head.pred.0 = ap (component_of comps) found.2 ∙ in_q in
            let n = of_counted 1 p.clauses found.0 found.1 in
            ((n.0, found.0), in-filter (λ (x : Numbered). is_number c (component_of comps x.1.head.pred.0)) (counted 1 p.clauses) (n.0, found.0) (number_is c (component_of comps found.0.head.pred.0) here) n.1, found.2)
      ]
