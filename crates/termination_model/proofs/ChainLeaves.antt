-- What passes and components leave as it is: rows of predicates of other components.
use Rattle.std.proofs.Common.{◌≡◌, ℕ, zero, suc, ◌<◌, ◌≤◌, ◌==◌, ℤ, Bool, true, false, if◌then◌else◌, inl, inr, List, [], ◌∷◌, ◌++◌, map, length, Option, None, Some, refl, ap, sym, subst, ◌∙◌, arith, eqb-true}
use Rattle.std.specs.Prelude.{Any, slice_index_or}
use Rattle.cti_terms.specs.declared.predicates.Pred.{Pred}
use Rattle.call_components.proofs.Lists.{some_within, any_here, any_there}
use Rattle.std.specs.List.{AllByRecursion}
use Rattle.std.proofs.lemmas.Bool.Decides.{nat_tests}
use Rattle.cti_terms.specs.Tree.{Tree}
use Rattle.cti_terms.specs.declared.atom_list.Atom.{Atom}
use Rattle.cti_terms.specs.declared.clauses.Clause.{Clause}
use Rattle.cti_terms.specs.Listing.{Listing, IsProgram, IsClause, IsAtom}
use Rattle.call_components.specs.Calls.{Calls}
use Rattle.call_components.specs.Partition.{Partition, AreComponents}
use Rattle.linear_rows.specs.Rows.{HoldsOn}
use Rattle.linear_rows.specs.Members.{In}
use Rattle.linear_rows.specs.Step.{columns}
use Rattle.linear_rows.proofs.Members.{of-filter}
use Rattle.termination_model.specs.sizes.Systems.{row_over, system}
use Rattle.termination_model.proofs.Lists.{there}
use Rattle.termination_model.specs.chains.Chain.{after, after_pass, AreUnchanged, after_passes, after_runs, counted, component_of, is_number, clauses_of}
use Rattle.termination_model.specs.chains.ChainSteps.{Step}
use Rattle.termination_model.specs.chains.ChainKept.{KeepsRows}
use Rattle.termination_model.proofs.ChainSieves.{of_all}

abbrev pub Numbered : Type 0
Numbered = ℕ × Clause

abbrev pub Rowed : Type 0
Rowed = ℕ → List (List ℤ)

pub any_in : {X : Type 0} (P : X → Type 0) (xs : List X) (x : X) → In x xs → P x → Any P xs
any_in P [] x i h = absurd i
any_in P (y ∷ ys) x (inl is) h = any_here P y ys (subst P (sym is) h)
any_in P (y ∷ ys) x (inr i) h = any_there P y ys (any_in P ys x i h)

-- ---- rows that agree
-- rows that agree on the predicates of atoms give the same systems
pub same_system : (expression : ℕ → Tree → List ℤ) (rows new : Rowed) (n : ℕ) (bs : List Atom) → ((b : Atom) → In b bs → new b.pred.0 ≡ rows b.pred.0) → system expression new n bs ≡ system expression rows n bs
same_system expression rows new n [] h = refl
same_system expression rows new n (b ∷ bs) h =
    let here = h b (inl refl) in
    let more = same_system expression rows new n bs (λ x i. h x (inr i)) in
    λ i. map (row_over expression n b.args) (here i) ++ more i

pub keeps_same : (expression : ℕ → Tree → List ℤ) (rows new : Rowed) (k : Clause) → new k.head.pred.0 ≡ rows k.head.pred.0 → ((b : Atom) → In b k.body → new b.pred.0 ≡ rows b.pred.0) → KeepsRows expression rows k → KeepsRows expression new k
keeps_same expression rows new k head body h =
    let same = same_system expression rows new k.vars k.body body in
    subst (λ (s : List (List ℤ)). AllByRecursion (λ (r : List ℤ). HoldsOn (suc k.vars) s (row_over expression k.vars k.head.args r)) (new k.head.pred.0)) (sym same)
    (subst (λ (o : List (List ℤ)). AllByRecursion (λ (r : List ℤ). HoldsOn (suc k.vars) (system expression rows k.vars k.body) (row_over expression k.vars k.head.args r)) o) (sym head) h)

-- ---- a pass without a change
pub after_same : (k : Clause) (s : Step) (rows : Rowed) → s.rows ≡ rows k.head.pred.0 → after k s rows ≡ rows
after_same k s rows e = λ i q. at q i
  where
    at : (q : ℕ) → after k s rows q ≡ rows q
    at q = go (k.head.pred.0 == q) refl
      where
        go : (b : Bool) → (k.head.pred.0 == q) ≡ b → (if b then s.rows else rows q) ≡ rows q
        go true is = e ∙ ap rows (eqb-true k.head.pred.0 q is)
        go false is = refl

pub pass_same : (rows : Rowed) (ks : List Numbered) (ss : List Step) → AreUnchanged rows ks ss → after_pass rows ks ss ≡ rows
pass_same rows [] ss h = refl
pass_same rows (k ∷ ks) [] h = refl
pass_same rows (k ∷ ks) (s ∷ ss) h =
    let here = after_same k.1 s rows h.0 in
    ap (λ (f : Rowed). after_pass f ks ss) here ∙ pass_same rows ks ss h.1

-- ---- predicates of other components keep their rows
abbrev pub NotHead : ℕ → List Numbered → Type 0
NotHead q ks = (k : Numbered) → In k ks → (k.1.head.pred.0 == q) ≡ false

pub pass_leaves : (q : ℕ) (rows : Rowed) (ks : List Numbered) (ss : List Step) → NotHead q ks → after_pass rows ks ss q ≡ rows q
pass_leaves q rows [] ss h = refl
pass_leaves q rows (k ∷ ks) [] h = refl
pass_leaves q rows (k ∷ ks) (s ∷ ss) h =
    pass_leaves q (after k.1 s rows) ks ss (λ x i. h x (inr i)) ∙ ap (λ (b : Bool). if b then s.rows else rows q) (h k (inl refl))

pub passes_leave : (q : ℕ) (rows : Rowed) (ks : List Numbered) (sss : List (List Step)) → NotHead q ks → after_passes rows ks sss q ≡ rows q
passes_leave q rows ks [] h = refl
passes_leave q rows ks (ss ∷ sss) h = passes_leave q (after_pass rows ks ss) ks sss h ∙ pass_leaves q rows ks ss h

pub runs_leave : (q : ℕ) (rows : Rowed) (kss : List (List Numbered)) (rs : List (List (List Step))) → ((ks : List Numbered) → In ks kss → NotHead q ks) → after_runs rows kss rs q ≡ rows q
runs_leave q rows [] rs h = refl
runs_leave q rows (ks ∷ kss) [] h = refl
runs_leave q rows (ks ∷ kss) (r ∷ rs) h =
    runs_leave q (after_passes rows ks r) kss rs (λ x i. h x (inr i)) ∙ passes_leave q rows ks r (h ks (inl refl))

-- ---- all components, from c on
-- ---- numbered clauses
pub in_counted : (n : ℕ) (ks : List Clause) (k : Numbered) → In k (counted n ks) → In k.1 ks
in_counted n [] k i = absurd i
in_counted n (x ∷ ks) k (inl is) = inl (ap (λ (y : Numbered). y.1) is)
in_counted n (x ∷ ks) k (inr i) = inr (in_counted (suc n) ks k i)

pub of_counted : (n : ℕ) (ks : List Clause) (k : Clause) → In k ks → (m : ℕ) × In (m, k) (counted n ks)
of_counted n [] k i = absurd i
of_counted n (x ∷ ks) k (inl is) = (n, inl (λ j. (n, is j)))
of_counted n (x ∷ ks) k (inr i) = let r = of_counted (suc n) ks k i in (r.0, inr r.1)

pub number_is : (c : ℕ) (o : Option ℕ) → o ≡ Some c → is_number c o ≡ true
number_is c o e = ap (is_number c) e ∙ same c
  where
    same : (x : ℕ) → (x == x) ≡ true
    same x = grind (arith, nat_tests)

module _ (p : Listing) (comps : Partition) (prog : IsProgram p) (are : AreComponents p comps) where
  abbrev pub own : ℕ → List Numbered
  own = clauses_of p comps

  -- the predicate stands in a component below c
  abbrev pub IsBefore : ℕ → ℕ → Type 0
  IsBefore c q = (d : ℕ) × (d < c) × (component_of comps q ≡ Some d)

  pub of_own : (c : ℕ) (k : Numbered) → In k (own c) → In k (counted 1 p.clauses) × (component_of comps k.1.head.pred.0 ≡ Some c)
  of_own c k i =
      let f = of-filter (λ (x : Numbered). is_number c (component_of comps x.1.head.pred.0)) (counted 1 p.clauses) k i in
      (f.0, go (component_of comps k.1.head.pred.0) f.1)
    where
      go : (o : Option ℕ) → is_number c o ≡ true → o ≡ Some c
      go None e = cc
      go (Some d) e = ap Some (eqb-true d c e)

  pub not_head : (c d q : ℕ) → IsBefore c q → c ≤ d → NotHead q (own d)
  not_head c d q before le k i =
      go (k.1.head.pred.0 == q) refl
    where
      go : (b : Bool) → (k.1.head.pred.0 == q) ≡ b → b ≡ false
      go false e = refl
      go true e =
          let same = eqb-true k.1.head.pred.0 q e in
          let there : Some d ≡ Some before.0 = sym (of_own d k i).1 ∙ ap (component_of comps) same ∙ before.2 in
          let lt = before.1 in
          let is : d ≡ before.0 = cc in
          absurd (omega arith)

  pub later : (c n : ℕ) (q : ℕ) → IsBefore c q → (ks : List Numbered) → In ks (map own (columns c n)) → NotHead q ks
  later c zero q before ks i = absurd i
  later c (suc n) q before ks (inl is) = subst (NotHead q) is (not_head c c q before (omega arith))
  later c (suc n) q before ks (inr i) = later (suc c) n q (before.0, omega (arith, before.1), before.2) ks i

  pub clause_is : (k : Clause) → In k p.clauses → IsClause p.preds k
  clause_is k i = of_all (IsClause p.preds) p.clauses k prog.clauses i

  -- a predicate of an atom has a component
  pub placed : (n : ℕ) (b : Atom) → IsAtom p.preds n b → (d : ℕ) × (component_of comps b.pred.0 ≡ Some d)
  placed n b atom =
      let lt : b.pred.0 < length comps.of = omega (arith, some_within (λ (x : Pred). x.arity ≡ length b.args) p.preds b.pred.0 atom.arity, are.each) in
      (slice_index_or comps.of b.pred.0 0, there comps.of b.pred.0 0 lt)

  pub call_is : (k : Clause) (b : Atom) → In k p.clauses → In b k.body → Calls p k.head.pred.0 b.pred.0
  call_is k b i j = any_in (λ (x : Clause). (x.head.pred.0 ≡ k.head.pred.0) × Any (λ (y : Atom). y.pred.0 ≡ b.pred.0) x.body) p.clauses k i (refl, any_in (λ (y : Atom). y.pred.0 ≡ b.pred.0) k.body b j refl)

  -- the predicates of a component's clause are in components up to it
  pub head_before : (c : ℕ) (k : Numbered) → In k (own c) → IsBefore (suc c) k.1.head.pred.0
  head_before c k i = (c, omega arith, (of_own c k i).1)

  pub body_before : (c : ℕ) (k : Numbered) → In k (own c) → (b : Atom) → In b k.1.body → IsBefore (suc c) b.pred.0
  body_before c k i b j =
      let there = in_counted 1 p.clauses k (of_own c k i).0 in
      let is = clause_is k.1 there in
      let at = placed k.1.vars b (of_all (IsAtom p.preds k.1.vars) k.1.body b is.body j) in
      let le = are.callees_first k.1.head.pred.0 b.pred.0 c at.0 (of_own c k i).1 at.1 (call_is k.1 b there j) in
      (at.0, omega arith, at.1)
