-- Where a component has the greatest preconditions of an old one: where it stands for that one, or where both are of
-- predicates without clauses.
use Rattle.std.proofs.Common.{◌≡◌, ℕ, Bool, true, false, if◌then◌else◌, IsSomeAnd, inl, inr, List, [], ◌∷◌, length, slice_get, Option, Some, ap, sym, subst, ◌∙◌}
use Rattle.call_components.specs.Partition.{Partition, IsIn}
use Rattle.cti_terms.specs.Arithmetic.{kind_of}
use Rattle.cti_terms.specs.Listing.{Listing, IsProgram}
use Rattle.cti_terms.specs.Tree.{Tree}
use Rattle.cti_terms.specs.declared.atom_list.Atom.{Atom}
use Rattle.cti_terms.specs.declared.predicates.Pred.{Pred}
use Rattle.termination_model.specs.chains.Chain.{clauses_of, component_of, is_member}
use Rattle.termination_model.specs.grounds.Grounds.{Family, HasArity}
use Rattle.termination_model.proofs.ChainLeaves.{number_is}
use Rattle.groundness.proofs.ComponentLaws.{number_of}
use Rattle.precond_fixpoint.specs.Greatest.{IsGreatestIn}
use Rattle.component_laws.specs.Carried.{KeepsArities}
use Rattle.component_laws.specs.Renaming.{AgreeOn, StandIn}
use Rattle.component_laws.proofs.UntouchedLaws.{one_number}
use Rattle.solved_program.specs.Kept.{IsEdit}
use Rattle.solved_program.specs.Standing.{AreSameCalls, AreSameClauses, KeepOwn, StandsFor}
use Rattle.solved_program.specs.declared.edit.Edit.{Edit}
use Rattle.solved_program.proofs.Clauses.{Numbered}
use Rattle.solved_program.proofs.Names.{finds_number, new_number}
use Rattle.solved_program.proofs.StandsIn.{IsShared, agree, off_member, stand_in}
use Rattle.carried_mappings.proofs.Members.{same_members}
use Rattle.carried_preconditions.specs.Same.{paired}
use Rattle.kept_clauses.specs.AllKept.{IsWithoutClause}
use Rattle.kept_program.proofs.Alone.{Itself, alone, stand_alone}
use Rattle.kept_program.proofs.SameRows.{outside, same_greatest}

-- ---- a component that stands by one value stands by another one that stays, too
module _ {X Y : Type 0} (comps new_comps : Partition) (b c : ℕ) (old now : ℕ → X) (other_old other_now : ℕ → Y)
    (stays : (q r : ℕ) → (IsIn comps b q → ⊥) → (IsIn new_comps c r → ⊥) → now r ≡ old q → other_now r ≡ other_old q) where
  other_calls : (xs ys : List Atom) → AreSameCalls comps new_comps b c old now xs ys → AreSameCalls comps new_comps b c other_old other_now xs ys
  other_calls [] [] h = tt
  other_calls [] (y ∷ ys) h = absurd h
  other_calls (x ∷ xs) [] h = absurd h
  other_calls (x ∷ xs) (y ∷ ys) h = (
    elim h.0 [
      | inl both ↦ inl both
      | inr out ↦ inr (out.0, out.1, stays x.pred.0 y.pred.0 out.0 out.1 out.2)
    ],
    other_calls xs ys h.1,
  )

  other_clauses : (kept : List (Option ℕ)) (ks ls : List Numbered) → AreSameClauses comps new_comps b c old now kept ks ls → AreSameClauses comps new_comps b c other_old other_now kept ks ls
  other_clauses kept [] [] h = tt
  other_clauses kept [] (l ∷ ls) h = absurd h
  other_clauses kept (k ∷ ks) [] h = absurd h
  other_clauses kept (k ∷ ks) (l ∷ ls) h = (record { kept_as = h.0.kept_as; calls = other_calls k.1.body l.1.body h.0.calls }, other_clauses kept ks ls h.1)

  pub stands_by : (p new : Listing) (kept : List (Option ℕ)) → StandsFor comps new_comps b c old now p new kept → StandsFor comps new_comps b c other_old other_now p new kept
  stands_by p new kept s = record { some = s.some; clauses = other_clauses kept (clauses_of p comps b) (clauses_of new new_comps c) s.clauses }

-- ---- what is shown of two components: greatest rows for the same coefficients are the same
module _ (truth : (ℕ → Bool) → Tree → Bool) (e : Edit) (b c : ℕ) (grounds allowed new_grounds new_allowed : Family) where
  abbrev pub KeepGreatest : Type 0
  KeepGreatest = (cs ds : ℕ → List ℕ) (pre new_pre : Family) → KeepOwn e c cs ds → IsGreatestIn truth e.before.now (is_member e.components_before.now b) allowed grounds cs pre
      → IsGreatestIn truth e.after.now (is_member e.components.now c) new_allowed new_grounds ds new_pre
      → (q r : ℕ) (x : Pred) → slice_get e.before.now.preds q ≡ Some x → slice_get e.after.now.preds r ≡ Some x → IsIn e.components.now c r → (row : List Bool) → x.arity ≡ length row → new_pre r row ≡ pre q row

-- ---- a component that stands
module _ {X : Type 0} (e : Edit) (prog : IsProgram e.before.now) (new_prog : IsProgram e.after.now) (is : IsEdit e) (b c : ℕ) (old now : ℕ → X)
    (stands : StandsFor e.components_before.now e.components.now b c old now e.before.now e.after.now e.kept.now) where
  -- a member was one of the old component
  pub member_back : (q r : ℕ) (x : Pred) → slice_get e.before.now.preds q ≡ Some x → slice_get e.after.now.preds r ≡ Some x → IsIn e.components.now c r → IsIn e.components_before.now b q
  member_back q r x here there i =
      let p = e.before.now in
      let new = e.after.now in
      let comps = e.components_before.now in
      let new_comps = e.components.now in
      let before = (same_members p new comps new_comps prog new_prog is.components_before is.components e.kept.now is.kept b c old now stands).before r i in
      let at : slice_get p.preds before.0 ≡ Some x = before.2 ∙ there in
      subst (IsIn comps b) (one_number p.preds prog.distinct before.0 q x at here) before.1

module _ (truth : (ℕ → Bool) → Tree → Bool) (e : Edit) (prog : IsProgram e.before.now) (new_prog : IsProgram e.after.now) (is : IsEdit e) (b c : ℕ) (G0 A0 G A : Family)
    (stands : StandsFor e.components_before.now e.components.now b c (paired G0 A0) (paired G A) e.before.now e.after.now e.kept.now) (own : KeepOwn e c G0 G) where
  abbrev p : Listing
  p = e.before.now

  abbrev new : Listing
  new = e.after.now

  abbrev comps : Partition
  comps = e.components_before.now

  abbrev new_comps : Partition
  new_comps = e.components.now

  abbrev M : ℕ → Bool
  M = is_member comps b

  abbrev N : ℕ → Bool
  N = is_member new_comps c

  abbrev old : ℕ → (List Bool → Bool) × (List Bool → Bool)
  old = paired G0 (outside M A0)

  abbrev now : ℕ → (List Bool → Bool) × (List Bool → Bool)
  now = paired G (outside N A)

  away : (m : ℕ → Bool) (f : Family) (q : ℕ) → m q ≡ false → outside m f q ≡ f q
  away m f q off = λ i row. if off i then false else f q row

  inside : (m n : ℕ → Bool) (f g : Family) (q r : ℕ) → m q ≡ true → n r ≡ true → outside n g r ≡ outside m f q
  inside m n f g q r on there = (λ i row. if there i then false else g r row) ∙ (λ i row. if sym on i then false else f q row)

  stands_outside : StandsFor comps new_comps b c old now p new e.kept.now
  stands_outside = stands_by comps new_comps b c (paired G0 A0) (paired G A) old now (λ q r off new_off same.
      let rows = away N A r (off_member new_comps c r new_off) ∙ ap (λ (v : (List Bool → Bool) × (List Bool → Bool)). v.1) same ∙ sym (away M A0 q (off_member comps b q off)) in
      λ i. ((same i).0, rows i)) p new e.kept.now stands

  members : (q r : ℕ) (x : Pred) → slice_get p.preds q ≡ Some x → slice_get new.preds r ≡ Some x → IsIn new_comps c r → now r ≡ old q
  members q r x here there i =
      let in_b = member_back e prog new_prog is b c (paired G0 A0) (paired G A) stands q r x here there i in
      let rows = inside M N A0 A q r (number_is b (component_of comps q) in_b) (number_is c (component_of new_comps r) i) in
      let same = own q r x here there i in
      λ j. (same j, rows j)

  abbrev Known : ℕ → Type 0
  Known = IsShared p new comps new_comps prog new_prog is.components_before is.components e.kept.now is.kept b c old now stands_outside members

  abbrev f : ℕ → ℕ
  f = new_number p.preds new.preds

  standing : StandIn Known f p new M N
  standing = stand_in p new comps new_comps prog new_prog is.components_before is.components e.kept.now is.kept b c old now stands_outside members

  agreeing : AgreeOn Known f old now
  agreeing = agree p new comps new_comps prog new_prog is.components_before is.components e.kept.now is.kept b c old now stands_outside members

  arities : KeepsArities Known f p new
  arities q n k = (
    λ (h : HasArity p.preds q n). subst (λ (o : Option Pred). IsSomeAnd o (λ (y : Pred). y.arity ≡ n)) (k.here ∙ sym k.there) h,
    λ (h : HasArity new.preds (f q) n). subst (λ (o : Option Pred). IsSomeAnd o (λ (y : Pred). y.arity ≡ n)) (k.there ∙ sym k.here) h,
  )

  pub standing_same : KeepGreatest truth e b c G0 A0 G A
  standing_same cs ds pre new_pre same was is_now q r x here there i row long =
      let found = finds_number p new new_prog q r x here there in
      let in_b = member_back e prog new_prog is b c (paired G0 A0) (paired G A) stands q r x here there i in
      let at : HasArity new.preds (f q) (length row) = subst (λ (o : Option Pred). IsSomeAnd o (λ (y : Pred). y.arity ≡ length row)) (sym (ap (slice_get new.preds) found ∙ there)) long in
      (λ j. new_pre (sym found j) row)
      ∙ same_greatest truth Known f (new_number new.preds p.preds) p new M N standing (λ t k. finds_number new p prog (f t) t k.pred k.there k.here) arities G0 G A0 A
      (λ t k. ap (λ (v : (List Bool → Bool) × (List Bool → Bool)). v.0) (agreeing t k)) (λ t k. ap (λ (v : (List Bool → Bool) × (List Bool → Bool)). v.1) (agreeing t k)) cs ds pre new_pre
      (λ t on. let k = standing.known t on in same t (f t) k.pred k.here k.there (number_of c (component_of new_comps (f t)) (k.alike ∙ on))) was is_now q row (number_is b (component_of comps q) in_b) at

-- ---- predicates without clauses
module _ (truth : (ℕ → Bool) → Tree → Bool) (e : Edit) (prog : IsProgram e.before.now) (new_prog : IsProgram e.after.now) (is : IsEdit e) (b c q0 r0 : ℕ) (y : Pred)
    (here0 : slice_get e.before.now.preds q0 ≡ Some y) (there0 : slice_get e.after.now.preds r0 ≡ Some y) (in_b : IsIn e.components_before.now b q0) (in_c : IsIn e.components.now c r0)
    (none : IsWithoutClause e.before.now q0) (new_none : IsWithoutClause e.after.now r0) (kind : kind_of e.after.now.arithmetic r0 ≡ kind_of e.before.now.arithmetic q0)
    (G0 A0 G A : Family) (own : G r0 ≡ G0 q0) where
  pub alone_back : (q r : ℕ) (x : Pred) → slice_get e.before.now.preds q ≡ Some x → slice_get e.after.now.preds r ≡ Some x → IsIn e.components.now c r → (q0 ≡ q) × (r0 ≡ r)
  alone_back q r x here there i =
      let at = alone e.after.now e.components.now new_prog is.components c r0 in_c new_none r i in
      let name : slice_get e.after.now.preds r0 ≡ Some x = ap (slice_get e.after.now.preds) at ∙ there in
      let pred : y ≡ x = cc in
      (one_number e.before.now.preds prog.distinct q0 q x (here0 ∙ ap Some pred) here, at)

  pub alone_same : KeepGreatest truth e b c G0 A0 G A
  alone_same cs ds pre new_pre same was is_now q r x here there i row long =
      let p = e.before.now in
      let new = e.after.now in
      let comps = e.components_before.now in
      let new_comps = e.components.now in
      let at = alone_back q r x here there i in
      let on : is_member comps b q ≡ true = ap (is_member comps b) (sym at.0) ∙ number_is b (component_of comps q0) in_b in
      let there_on : is_member new_comps c r0 ≡ true = number_is c (component_of new_comps r0) in_c in
      let wide : HasArity new.preds r0 (length row) = subst (λ (o : Option Pred). IsSomeAnd o (λ (z : Pred). z.arity ≡ length row)) (sym (ap (slice_get new.preds) at.1 ∙ there)) long in
      (λ j. new_pre (sym at.1 j) row)
      ∙ same_greatest truth (Itself p new comps new_comps prog new_prog is.components_before is.components b c q0 r0 in_b in_c none new_none kind) (λ t. r0) (λ t. q0) p new (is_member comps b) (is_member new_comps c)
      (stand_alone p new comps new_comps prog new_prog is.components_before is.components b c q0 r0 in_b in_c none new_none kind) (λ t k. sym k)
      (λ t n k. (
        λ (h : HasArity p.preds t n). subst (λ (o : Option Pred). IsSomeAnd o (λ (z : Pred). z.arity ≡ n)) (ap (slice_get p.preds) k ∙ here0 ∙ sym there0) h,
        λ (h : HasArity new.preds r0 n). subst (λ (o : Option Pred). IsSomeAnd o (λ (z : Pred). z.arity ≡ n)) (there0 ∙ sym here0 ∙ ap (slice_get p.preds) (sym k)) h,
      ))
      G0 G A0 A (λ t k. own ∙ ap G0 (sym k))
      (λ t k. (λ j u. if there_on j then false else A r0 u) ∙ (λ j u. if sym (ap (is_member comps b) k ∙ number_is b (component_of comps q0) in_b) j then false else A0 t u)) cs ds pre new_pre
      (λ t m.
      let k = alone p comps prog is.components_before b q0 in_b none t (number_of b (component_of comps t) m) in
      same t r0 y (ap (slice_get p.preds) (sym k) ∙ here0) there0 in_c) was is_now q row on wide
