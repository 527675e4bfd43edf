-- Clauses by the names and arities of their predicates: clauses of two programs that are the same but for numbers.
use Rattle.std.proofs.Common.{◌≡◌, ℕ, inl, inr, List, [], ◌∷◌, map, length, slice_get, Option, None, Some, IsSomeAnd, refl, ap, sym, ◌∙◌}
use Rattle.cti_terms.specs.Listing.{Listing, IsProgram, IsAtom, IsClause}
use Rattle.cti_terms.specs.declared.atom_list.Atom.{Atom}
use Rattle.cti_terms.specs.declared.clauses.Clause.{Clause}
use Rattle.cti_terms.specs.declared.predicates.Pred.{Pred}
use Rattle.linear_rows.specs.Members.{In}
use Rattle.termination_model.proofs.ChainSieves.{of_all}
use Rattle.component_laws.specs.Renaming.{renamed, renamed_atom}
use Rattle.component_laws.specs.Untouched.{FindsByName, NamedAtom, NamedClause, named, named_atom}

-- ---- predicates of clauses
some_is : {X : Type 0} (P : X → Type 0) (o : Option X) → IsSomeAnd o P → (x : X) × (o ≡ Some x)
some_is P None h = absurd h
some_is P (Some x) h = (x, refl)

pub pred_in : (g : Listing) → IsProgram g → (k : Clause) → In k g.clauses → (b : Atom) → In b k.body → (x : Pred) × (slice_get g.preds b.pred.0 ≡ Some x)
pred_in g is k i b j =
    let clause = of_all (IsClause g.preds) g.clauses k is.clauses i in
    let atom = of_all (IsAtom g.preds k.vars) k.body b clause.body j in
    some_is (λ (x : Pred). x.arity ≡ length b.args) (slice_get g.preds b.pred.0) atom.arity

pub head_in : (g : Listing) → IsProgram g → (k : Clause) → In k g.clauses → (x : Pred) × (slice_get g.preds k.head.pred.0 ≡ Some x)
head_in g is k i =
    let clause = of_all (IsClause g.preds) g.clauses k is.clauses i in
    some_is (λ (x : Pred). x.arity ≡ length k.head.args) (slice_get g.preds k.head.pred.0) clause.head.arity

-- ---- clauses that are the same but for numbers
module _ (p new : Listing) (f : ℕ → ℕ) (finds : FindsByName p new f) (prog : IsProgram new) where
  atom_is : (a b : Atom) → named_atom p b ≡ named_atom new a → (x : Pred) → slice_get new.preds a.pred.0 ≡ Some x → a ≡ renamed_atom f b
  atom_is a b e x at =
      let here : slice_get p.preds b.pred.0 ≡ Some x = ap (λ (n : NamedAtom). n.pred) e ∙ at in
      let number : a.pred.0 ≡ f b.pred.0 = sym (finds b.pred.0 a.pred.0 x here at) in
      let args : a.args ≡ b.args = sym (ap (λ (n : NamedAtom). n.args) e) in
      λ i. record { pred = record { 0 = number i }; args = args i }

  atoms_are : (xs bs : List Atom) → map (named_atom p) bs ≡ map (named_atom new) xs → ((a : Atom) → In a xs → (x : Pred) × (slice_get new.preds a.pred.0 ≡ Some x)) → xs ≡ map (renamed_atom f) bs
  atoms_are [] [] e h = refl
  atoms_are [] (b ∷ bs) e h = cc
  atoms_are (a ∷ xs) [] e h = cc
  atoms_are (a ∷ xs) (b ∷ bs) e h =
      let first : named_atom p b ≡ named_atom new a = cc in
      let rest : map (named_atom p) bs ≡ map (named_atom new) xs = cc in
      let pred = h a (inl refl) in
      let one = atom_is a b first pred.0 pred.1 in
      let more = atoms_are xs bs rest (λ x i. h x (inr i)) in
      λ i. one i ∷ more i

  pub clause_is : (l k : Clause) → In l new.clauses → named p k ≡ named new l → l ≡ renamed f k
  clause_is l k i e =
      let top = head_in new prog l i in
      let head = atom_is l.head k.head (ap (λ (x : NamedClause). x.head) e) top.0 top.1 in
      let body = atoms_are l.body k.body (ap (λ (x : NamedClause). x.body) e) (λ a j. pred_in new prog l i a j) in
      let vars : l.vars ≡ k.vars = sym (ap (λ (x : NamedClause). x.vars) e) in
      λ j. record { head = head j; body = body j; vars = vars j }
