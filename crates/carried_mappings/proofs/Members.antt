-- The members of a component that stands for an old one, and whether it is recursive.
use Rattle.std.proofs.Common.{◌≡◌, ℕ, suc, ◌+◌, Bool, true, false, inl, inr, List, [], ◌∷◌, slice_get, Option, Some, refl, ap, sym, subst, ◌∙◌, arith}
use Rattle.std.specs.Prelude.{Any, IsTrue}
use Rattle.call_components.specs.Calls.{Calls}
use Rattle.call_components.specs.Partition.{Partition, AreComponents, IsIn}
use Rattle.call_components.proofs.Lists.{any_cases, any_here, any_there}
use Rattle.cti_terms.specs.Listing.{Listing, IsProgram}
use Rattle.cti_terms.specs.declared.atom_list.Atom.{Atom}
use Rattle.cti_terms.specs.declared.clauses.Clause.{Clause}
use Rattle.linear_rows.specs.Members.{In}
use Rattle.termination_model.specs.chains.Chain.{clauses_of}
use Rattle.component_laws.specs.Untouched.{NamedClause}
use Rattle.solved_program.specs.Kept.{AreKept}
use Rattle.solved_program.specs.Standing.{AreSameCalls, IsSameCall, StandsFor}
use Rattle.solved_program.proofs.Clauses.{Numbered, member_clause, of_program, own_clause, own_component}
use Rattle.solved_program.proofs.Names.{new_number}
use Rattle.solved_program.proofs.Pairs.{pair_back, pair_on, same_named, same_renamed}
use Rattle.carried_mappings.specs.Order.{HaveSameMembersIn}

-- ---- elements with a property
of_any : {X : Type 0} (P : X → Type 0) (xs : List X) → Any P xs → (x : X) × In x xs × P x
of_any P [] (k, y, l, e, p) = absurd (omega arith)
of_any P (x ∷ xs) a = elim (any_cases P x xs a) [
  | inl here ↦ (x, inl refl, here)
  | inr more ↦ let r = of_any P xs more in (r.0, inr r.1, r.2)
]

to_any : {X : Type 0} (P : X → Type 0) (xs : List X) (x : X) → In x xs → P x → Any P xs
to_any P [] x i h = absurd i
to_any P (y ∷ xs) x (inl e) h = any_here P y xs (subst P (sym e) h)
to_any P (y ∷ xs) x (inr i) h = any_there P y xs (to_any P xs x i h)

-- ---- calls of a component's members by its members
abbrev CallsItself : Listing → Partition → ℕ → Type 0
CallsItself p comps c = (a : ℕ) × (b : ℕ) × IsIn comps c a × IsIn comps c b × Calls p a b

-- a clause of the component with such a call
record HasOwnCall (p : Listing) (comps : Partition) (c : ℕ) : Type 0 where
  pub clause : Numbered
  pub own : In clause (clauses_of p comps c)
  pub atom : Atom
  pub at : In atom clause.1.body
  pub among : IsIn comps c atom.pred.0

module _ (p : Listing) (comps : Partition) (prog : IsProgram p) (are : AreComponents p comps) (c : ℕ) where
  own_call_of : CallsItself p comps c → HasOwnCall p comps c
  own_call_of (a, b, in_a, in_b, call) =
      let k = of_any (λ (z : Clause). (z.head.pred.0 ≡ a) × Any (λ (x : Atom). x.pred.0 ≡ b) z.body) p.clauses call in
      let at = place_of p.clauses k.0 k.1 in
      let x = of_any (λ (z : Atom). z.pred.0 ≡ b) k.0.body k.2.1 in
      record {
        clause = (1 + at.0, k.0);
        own = own_clause p comps prog are c at.0 k.0 at.1 (subst (IsIn comps c) (sym k.2.0) in_a);
        atom = x.0;
        at = x.1;
        among = subst (IsIn comps c) (sym x.2) in_b;
      }
    where
      place_of : (ks : List Clause) (k : Clause) → In k ks → (j : ℕ) × (slice_get ks j ≡ Some k)
      place_of [] k i = absurd i
      place_of (y ∷ ks) k (inl e) = (0, ap Some e)
      place_of (y ∷ ks) k (inr i) = let more = place_of ks k i in (suc more.0, more.1)

  calls_of_own : HasOwnCall p comps c → CallsItself p comps c
  calls_of_own o =
      let k = o.clause in (
        k.1.head.pred.0,
        o.atom.pred.0,
        own_component p comps prog are c k o.own,
        o.among,
        to_any (λ (z : Clause). (z.head.pred.0 ≡ k.1.head.pred.0) × Any (λ (x : Atom). x.pred.0 ≡ o.atom.pred.0) z.body) p.clauses k.1 (of_program p comps prog are c k o.own)
            (refl, to_any (λ (x : Atom). x.pred.0 ≡ o.atom.pred.0) k.1.body o.atom o.at refl),
      )

-- ---- a component that stands
module _ {X : Type 0} (p new : Listing) (comps new_comps : Partition) (prog : IsProgram p) (new_prog : IsProgram new) (are : AreComponents p comps) (new_are : AreComponents new new_comps)
    (kept : List (Option ℕ)) (are_kept : AreKept p new kept) (b c : ℕ) (old now : ℕ → X) (stands : StandsFor comps new_comps b c old now p new kept) where
  abbrev ks : List Numbered
  ks = clauses_of p comps b

  abbrev ls : List Numbered
  ls = clauses_of new new_comps c

  abbrev f : ℕ → ℕ
  f = new_number p.preds new.preds

  -- some clause
  some_clause : (l : Numbered) × In l ls
  some_clause = go ls stands.some
    where
      go : (xs : List Numbered) → (xs ≡ [] → ⊥) → (l : Numbered) × In l xs
      go [] some = absurd (some refl)
      go (l ∷ xs) some = (l, inl refl)

  some_before : (k : Numbered) × In k ks
  some_before = let l = some_clause in let k = pair_back p new comps new_comps prog new_prog are new_are kept are_kept b c old now ks ls stands.clauses l.0 l.1 in (k.0, k.1)

  -- a member is there under its name
  member_named : (q : ℕ) → IsIn comps b q → IsIn new_comps c (f q) × (slice_get new.preds (f q) ≡ slice_get p.preds q)
  member_named q i =
      let first = some_before in
      let k = member_clause p comps prog are b q first.0 first.1 i in
      let l = pair_on p new comps new_comps prog new_prog are new_are kept are_kept b c old now ks ls stands.clauses k.0 k.1 in
      let same = same_renamed p new comps new_comps prog new_prog are new_are kept are_kept b c old now k.0 l.0 k.1 l.1 l.2 in
      let number : l.0.1.head.pred.0 ≡ f q = ap (λ (z : Clause). z.head.pred.0) same ∙ ap f k.2 in
      let names = same_named p new comps new_comps prog new_prog are new_are kept are_kept b c old now k.0 l.0 k.1 l.1 l.2 in
      let name : slice_get p.preds k.0.1.head.pred.0 ≡ slice_get new.preds l.0.1.head.pred.0 = ap (λ (n : NamedClause). n.head.pred) names in (
        subst (IsIn new_comps c) number (own_component new new_comps new_prog new_are c l.0 l.1),
        ap (slice_get new.preds) (sym number) ∙ sym name ∙ ap (slice_get p.preds) k.2,
      )

  -- and there are no others
  member_before : (r : ℕ) → IsIn new_comps c r → (q : ℕ) × IsIn comps b q × (f q ≡ r)
  member_before r i =
      let first = some_clause in
      let l = member_clause new new_comps new_prog new_are c r first.0 first.1 i in
      let k = pair_back p new comps new_comps prog new_prog are new_are kept are_kept b c old now ks ls stands.clauses l.0 l.1 in
      let same = same_renamed p new comps new_comps prog new_prog are new_are kept are_kept b c old now k.0 l.0 k.1 l.1 k.2 in
      (k.0.1.head.pred.0, own_component p comps prog are b k.0 k.1, sym (ap (λ (z : Clause). z.head.pred.0) same) ∙ l.2)

  pub same_members : HaveSameMembersIn p new comps new_comps b c
  same_members = record {
    there = λ q i. let here = member_named q i in (f q, here.0, sym here.1);
    before = λ r i.
        let q = member_before r i in
        let here = member_named q.0 q.1 in
        (q.0, q.1, sym here.1 ∙ ap (slice_get new.preds) q.2);
  }

  -- ---- recursive components
  abbrev SameCalls : List Atom → List Atom → Type 0
  SameCalls = AreSameCalls comps new_comps b c old now

  call_on : (xs ys : List Atom) → SameCalls xs ys → (x : Atom) → In x xs → (y : Atom) × In y ys × IsSameCall comps new_comps b c old now x.pred.0 y.pred.0
  call_on [] ys h x i = absurd i
  call_on (z ∷ xs) [] h x i = absurd h
  call_on (z ∷ xs) (y ∷ ys) h x (inl e) = (y, inl refl, subst (λ (w : Atom). IsSameCall comps new_comps b c old now w.pred.0 y.pred.0) e h.0)
  call_on (z ∷ xs) (y ∷ ys) h x (inr i) = let more = call_on xs ys h.1 x i in (more.0, inr more.1, more.2)

  call_back : (xs ys : List Atom) → SameCalls xs ys → (y : Atom) → In y ys → (x : Atom) × In x xs × IsSameCall comps new_comps b c old now x.pred.0 y.pred.0
  call_back xs [] h y i = absurd i
  call_back [] (w ∷ ys) h y i = absurd h
  call_back (x ∷ xs) (w ∷ ys) h y (inl e) = (x, inl refl, subst (λ (z : Atom). IsSameCall comps new_comps b c old now x.pred.0 z.pred.0) e h.0)
  call_back (x ∷ xs) (w ∷ ys) h y (inr i) = let more = call_back xs ys h.1 y i in (more.0, inr more.1, more.2)

  own_there : HasOwnCall p comps b → HasOwnCall new new_comps c
  own_there o =
      let l = pair_on p new comps new_comps prog new_prog are new_are kept are_kept b c old now ks ls stands.clauses o.clause o.own in
      let y = call_on o.clause.1.body l.0.1.body l.2.calls o.atom o.at in
      record {
        clause = l.0;
        own = l.1;
        atom = y.0;
        at = y.1;
        among = elim y.2 [ inl both ↦ both.1 | inr out ↦ absurd (out.0 o.among) ];
      }

  own_here : HasOwnCall new new_comps c → HasOwnCall p comps b
  own_here o =
      let k = pair_back p new comps new_comps prog new_prog are new_are kept are_kept b c old now ks ls stands.clauses o.clause o.own in
      let x = call_back k.0.1.body o.clause.1.body k.2.calls o.atom o.at in
      record {
        clause = k.0;
        own = k.1;
        atom = x.0;
        at = x.1;
        among = elim x.2 [ inl both ↦ both.0 | inr out ↦ absurd (out.1 o.among) ];
      }

  -- both are recursive, or neither is
  pub recursive_alike : (t u : Bool) → slice_get comps.recursive b ≡ Some t → slice_get new_comps.recursive c ≡ Some u → t ≡ u
  recursive_alike t u at there = go t u (λ h. to (from h)) (λ h. from_new (to_old h))
    where
      from : IsTrue t → HasOwnCall p comps b
      from h = own_call_of p comps prog are b ((are.recursive b t at).0 h)

      to : HasOwnCall p comps b → IsTrue u
      to o = (new_are.recursive c u there).1 (calls_of_own new new_comps new_prog new_are c (own_there o))

      to_old : IsTrue u → HasOwnCall p comps b
      to_old h = own_here (own_call_of new new_comps new_prog new_are c ((new_are.recursive c u there).0 h))

      from_new : HasOwnCall p comps b → IsTrue t
      from_new o = (are.recursive b t at).1 (calls_of_own p comps prog are b o)

      go : (t u : Bool) → (IsTrue t → IsTrue u) → (IsTrue u → IsTrue t) → t ≡ u
      go true true h k = refl
      go false false h k = refl
      go true false h k = let e = h refl in cc
      go false true h k = let e = k refl in cc
