-- Standing by marks is standing by values, where the marks are exact.
use Rattle.std.proofs.Common.{◌≡◌, ℕ, suc, ◌-◌, ◌<◌, Bool, inl, inr, List, [], ◌∷◌, map, slice_get, Some, refl, ap, sym, ◌∙◌, arith}
use Rattle.std.proofs.lemmas.Bool.{cases_eq}
use Rattle.call_components.specs.Partition.{Partition, IsIn}
use Rattle.cti_terms.specs.Listing.{Listing, IsProgram}
use Rattle.cti_terms.specs.declared.atom_list.Atom.{Atom}
use Rattle.cti_terms.specs.declared.predicates.Pred.{Pred}
use Rattle.linear_rows.specs.Members.{In}
use Rattle.termination_model.specs.chains.Chain.{clauses_of}
use Rattle.termination_model.proofs.ChainLeaves.{body_before}
use Rattle.component_laws.specs.Untouched.{NamedAtom, NamedClause, named, named_atom}
use Rattle.component_laws.proofs.NamedLaws.{pred_in}
use Rattle.solved_program.specs.Kept.{IsEdit}
use Rattle.solved_program.specs.Marks.{AreMarkedTo, StandsMarked, is_marked, itself}
use Rattle.solved_program.specs.Standing.{AreSameCalls, AreSameClauses, IsSameCall, IsSameClause, StandsFor}
use Rattle.solved_program.specs.declared.edit.Edit.{Edit}
use Rattle.solved_program.proofs.Clauses.{Numbered, of_program, own_at}

-- ---- where two pairs of values are the same for the same calls, a component stands by the one pair as by the other
module _ {X Y : Type 0} (e : Edit) (prog : IsProgram e.before.now) (new_prog : IsProgram e.after.now) (is : IsEdit e) (b c : ℕ) (old now : ℕ → X) (other_old other_now : ℕ → Y)
    (alike : (q r d : ℕ) (x : Pred) → slice_get e.before.now.preds q ≡ Some x → slice_get e.after.now.preds r ≡ Some x → IsIn e.components.now d r → d < c → now r ≡ old q → other_now r ≡ other_old q) where
  abbrev p : Listing
  p = e.before.now

  abbrev new : Listing
  new = e.after.now

  abbrev comps : Partition
  comps = e.components_before.now

  abbrev new_comps : Partition
  new_comps = e.components.now

  less : (r d : ℕ) → d < suc c → IsIn new_comps d r → (IsIn new_comps c r → ⊥) → d < c
  less r d lt at out = elim (cases_eq d c) [
    | inl same ↦ absurd (out (at ∙ ap Some same))
    | inr ne ↦ omega arith
  ]

  call_alike : (x : Pred) (q r : ℕ) → slice_get p.preds q ≡ Some x → slice_get new.preds r ≡ Some x → (d : ℕ) × (d < suc c) × IsIn new_comps d r
      → IsSameCall comps new_comps b c old now q r → IsSameCall comps new_comps b c other_old other_now q r
  call_alike x q r here there below h = elim h [
    | inl both ↦ inl both
    | inr apart ↦ inr (apart.0, apart.1, alike q r below.0 x here there below.2 (less r below.0 below.1 below.2 apart.1) apart.2)
  ]

  calls_alike : (bs es : List Atom) → map (named_atom p) bs ≡ map (named_atom new) es
      → ((a : Atom) → In a es → (x : Pred) × (slice_get new.preds a.pred.0 ≡ Some x)) → ((a : Atom) → In a es → (d : ℕ) × (d < suc c) × IsIn new_comps d a.pred.0)
      → AreSameCalls comps new_comps b c old now bs es → AreSameCalls comps new_comps b c other_old other_now bs es
  calls_alike [] [] n w v h = tt
  calls_alike [] (a ∷ es) n w v h = absurd h
  calls_alike (y ∷ bs) [] n w v h = absurd h
  calls_alike (y ∷ bs) (a ∷ es) n w v h =
      let first : named_atom p y ≡ named_atom new a = cc in
      let rest : map (named_atom p) bs ≡ map (named_atom new) es = cc in
      let x = w a (inl refl) in
      let here : slice_get p.preds y.pred.0 ≡ Some x.0 = ap (λ (m : NamedAtom). m.pred) first ∙ x.1 in
      (call_alike x.0 y.pred.0 a.pred.0 here x.1 (v a (inl refl)) h.0, calls_alike bs es rest (λ z i. w z (inr i)) (λ z i. v z (inr i)) h.1)

  clause_alike : (k l : Numbered) → In k (clauses_of p comps b) → In l (clauses_of new new_comps c) → IsSameClause comps new_comps b c old now e.kept.now k l → IsSameClause comps new_comps b c other_old other_now e.kept.now k l
  clause_alike k l i j h =
      let kept = is.kept.same (l.0 - 1) k.0 l.1 h.kept_as (own_at new new_comps new_prog is.components c l j) in
      let at = own_at p comps prog is.components_before b k i in
      let there = kept.at in
      let same : kept.clause ≡ k.1 = cc in
      let names : named p k.1 ≡ named new l.1 = ap (named p) (sym same) ∙ kept.same in
      record {
        kept_as = h.kept_as;
        calls = calls_alike k.1.body l.1.body (ap (λ (m : NamedClause). m.body) names) (λ a m. pred_in new new_prog l.1 (of_program new new_comps new_prog is.components c l j) a m)
            (λ a m. body_before new new_comps new_prog is.components c l j a m) h.calls;
      }

  clauses_alike : (ks ls : List Numbered) → ((k : Numbered) → In k ks → In k (clauses_of p comps b)) → ((l : Numbered) → In l ls → In l (clauses_of new new_comps c))
      → AreSameClauses comps new_comps b c old now e.kept.now ks ls → AreSameClauses comps new_comps b c other_old other_now e.kept.now ks ls
  clauses_alike [] [] i j h = tt
  clauses_alike [] (l ∷ ls) i j h = absurd h
  clauses_alike (k ∷ ks) [] i j h = absurd h
  clauses_alike (k ∷ ks) (l ∷ ls) i j h =
      (clause_alike k l (i k (inl refl)) (j l (inl refl)) h.0, clauses_alike ks ls (λ x m. i x (inr m)) (λ x m. j x (inr m)) h.1)

  pub stands_alike : StandsFor comps new_comps b c old now p new e.kept.now → StandsFor comps new_comps b c other_old other_now p new e.kept.now
  stands_alike h = record { some = h.some; clauses = clauses_alike (clauses_of p comps b) (clauses_of new new_comps c) (λ k i. i) (λ l i. i) h.clauses }

-- ---- marks
module _ {X : Type 0} (e : Edit) (prog : IsProgram e.before.now) (new_prog : IsProgram e.after.now) (is : IsEdit e) (c : ℕ) (old now : ℕ → X) (marks : List Bool) (marked : AreMarkedTo e c old now marks) (b : ℕ) where
  pub stands_by_value : StandsMarked e marks b c → StandsFor e.components_before.now e.components.now b c old now e.before.now e.after.now e.kept.now
  stands_by_value = stands_alike e prog new_prog is b c itself (is_marked marks) old now (λ q r d x here there i lt on_. (marked.exact q r d x here there i lt).0 on_)

  pub stands_by_mark : StandsFor e.components_before.now e.components.now b c old now e.before.now e.after.now e.kept.now → StandsMarked e marks b c
  stands_by_mark = stands_alike e prog new_prog is b c old now itself (is_marked marks) (λ q r d x here there i lt same. (marked.exact q r d x here there i lt).1 same)
