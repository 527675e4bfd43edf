-- Which values standing looks at, and where the first clause of a component that stands was before.
use Rattle.std.proofs.Common.{◌≡◌, ℕ, suc, ◌-◌, ◌<◌, Bool, inl, inr, List, [], ◌∷◌, ◌++◌, length, slice_get, Option, Some, refl, ap, sym, subst, ◌∙◌, arith}
use Rattle.std.proofs.lemmas.Bool.{cases_eq}
use Rattle.call_components.specs.Partition.{Partition, AreComponents, IsIn}
use Rattle.cti_terms.specs.Listing.{Listing, IsProgram}
use Rattle.cti_terms.specs.declared.atom_list.Atom.{Atom}
use Rattle.cti_terms.specs.declared.clauses.Clause.{Clause}
use Rattle.linear_rows.specs.Members.{In}
use Rattle.component_clauses.specs.Numbered.{paired, with_clauses}
use Rattle.termination_model.specs.chains.Chain.{clauses_of}
use Rattle.termination_model.proofs.ChainLeaves.{body_before}
use Rattle.solved_program.specs.Comparing.{AreNumbersIn}
use Rattle.solved_program.specs.EditClauses.{AreEditClauses, IsFirstKeptOf}
use Rattle.solved_program.specs.Marks.{StandsMarked, is_marked, itself}
use Rattle.solved_program.specs.Standing.{AreSameCalls, AreSameClauses, IsSameCall, IsSameClause, StandsFor}
use Rattle.solved_program.specs.declared.edit_clauses.EditClauses.{EditClauses}
use Rattle.solved_program.proofs.Clauses.{Numbered, own_at, own_component}
use Rattle.solved_program.proofs.Comparisons.{clause_at, has_clauses}

-- ---- the values of earlier components alone
module _ {X : Type 0} (p new : Listing) (comps new_comps : Partition) (new_prog : IsProgram new) (new_are : AreComponents new new_comps) (kept : List (Option ℕ)) (b c : ℕ) (old now other : ℕ → X)
    (same : (r e : ℕ) → IsIn new_comps e r → e < c → other r ≡ now r) where
  less : (r d : ℕ) → d < suc c → IsIn new_comps d r → (IsIn new_comps c r → ⊥) → d < c
  less r d lt at out = elim (cases_eq d c) [
    | inl is ↦ absurd (out (at ∙ ap Some is))
    | inr ne ↦ omega arith
  ]

  call_same : (q r : ℕ) → (d : ℕ) × (d < suc c) × IsIn new_comps d r → IsSameCall comps new_comps b c old now q r → IsSameCall comps new_comps b c old other q r
  call_same q r below h = elim h [
    | inl both ↦ inl both
    | inr apart ↦ inr (apart.0, apart.1, same r below.0 below.2 (less r below.0 below.1 below.2 apart.1) ∙ apart.2)
  ]

  calls_same : (bs es : List Atom) → ((e : Atom) → In e es → (d : ℕ) × (d < suc c) × IsIn new_comps d e.pred.0) → AreSameCalls comps new_comps b c old now bs es → AreSameCalls comps new_comps b c old other bs es
  calls_same [] [] w h = tt
  calls_same [] (e ∷ es) w h = absurd h
  calls_same (x ∷ bs) [] w h = absurd h
  calls_same (x ∷ bs) (e ∷ es) w h = (call_same x.pred.0 e.pred.0 (w e (inl refl)) h.0, calls_same bs es (λ y i. w y (inr i)) h.1)

  clauses_same : (ks ls : List Numbered) → ((l : Numbered) → In l ls → In l (clauses_of new new_comps c)) → AreSameClauses comps new_comps b c old now kept ks ls → AreSameClauses comps new_comps b c old other kept ks ls
  clauses_same [] [] w h = tt
  clauses_same [] (l ∷ ls) w h = absurd h
  clauses_same (k ∷ ks) [] w h = absurd h
  clauses_same (k ∷ ks) (l ∷ ls) w h =
      let calls = calls_same k.1.body l.1.body (λ e i. body_before new new_comps new_prog new_are c l (w l (inl refl)) e i) h.0.calls in
      (record { kept_as = h.0.kept_as; calls = calls }, clauses_same ks ls (λ m i. w m (inr i)) h.1)

  pub stands_same : StandsFor comps new_comps b c old now p new kept → StandsFor comps new_comps b c old other p new kept
  stands_same h = record { some = h.some; clauses = clauses_same (clauses_of p comps b) (clauses_of new new_comps c) (λ l i. i) h.clauses }

-- ---- the first clause
head_pair : {X : Type 0} (comps new_comps : Partition) (b c : ℕ) (old now : ℕ → X) (kept : List (Option ℕ)) (ks : List Numbered) (l : Numbered) (ls : List Numbered) → AreSameClauses comps new_comps b c old now kept ks (l ∷ ls)
    → (k : Numbered) × In k ks × IsSameClause comps new_comps b c old now kept k l
head_pair comps new_comps b c old now kept [] l ls h = absurd h
head_pair comps new_comps b c old now kept (k ∷ ks) l ls h = (k, inl refl, h.0)

module _ (s : EditClauses) (sources : AreEditClauses s) where
  abbrev p : Listing
  p = s.edit.now.before.now

  abbrev new : Listing
  new = s.edit.now.after.now

  abbrev comps : Partition
  comps = s.edit.now.components_before.now

  abbrev new_comps : Partition
  new_comps = s.edit.now.components.now

  abbrev AreSame : ℕ → ℕ → List Bool → List Numbered → List Numbered → Type 0
  AreSame b c marks = AreSameClauses comps new_comps b c itself (is_marked marks) s.edit.now.kept.now

  -- two components whose clauses have these numbers
  module _ (b c : ℕ) (marks : List Bool) (own_before own : List ℕ) (at_before : slice_get s.own_before.now b ≡ Some own_before) (at : slice_get s.own.now c ≡ Some own) where
    before_is : with_clauses p.clauses own_before ≡ clauses_of p comps b
    before_is = sources.own_before.clauses b own_before at_before

    after_is : with_clauses new.clauses own ≡ clauses_of new new_comps c
    after_is = sources.own.clauses c own at

    pub stands_of : 0 < length own → AreSame b c marks (with_clauses p.clauses own_before) (with_clauses new.clauses own) → StandsMarked s.edit.now marks b c
    stands_of some same = record {
      some = has_clauses new.clauses own (clauses_of new new_comps c) (sources.own.within c own at) some after_is;
      clauses = subst (λ ks. AreSame b c marks ks (clauses_of new new_comps c)) before_is (subst (AreSame b c marks (with_clauses p.clauses own_before)) after_is same);
    }

    pub of_stands : StandsMarked s.edit.now marks b c → AreSame b c marks (with_clauses p.clauses own_before) (with_clauses new.clauses own)
    of_stands h = subst (AreSame b c marks (with_clauses p.clauses own_before)) (sym after_is) (subst (λ ks. AreSame b c marks ks (clauses_of new new_comps c)) (sym before_is) h.clauses)

  -- the first clause of a component that stands was kept
  pub first_standing : IsProgram p → (b c : ℕ) (marks : List Bool) (own : List ℕ) → slice_get s.own.now c ≡ Some own → StandsMarked s.edit.now marks b c → IsFirstKeptOf s own b
  first_standing prog b c marks own at stands = go own (sources.own.within c own at) (sources.own.clauses c own at)
    where
      go : (own : List ℕ) → AreNumbersIn new own → with_clauses new.clauses own ≡ clauses_of new new_comps c → IsFirstKeptOf s own b
      go [] numbers is = absurd (stands.some (sym is))
      go (l ∷ own) numbers is =
          let y = clause_at new.clauses l numbers.0.0 numbers.0.1 in
          let first : with_clauses new.clauses (l ∷ own) ≡ (l, y.0) ∷ with_clauses new.clauses own = ap (λ (o : Option Clause). paired l o ++ with_clauses new.clauses own) y.1 in
          let pair = head_pair comps new_comps b c itself (is_marked marks) s.edit.now.kept.now (clauses_of p comps b) (l, y.0) (with_clauses new.clauses own)
          (subst (AreSame b c marks (clauses_of p comps b)) (sym is ∙ first) stands.clauses) in
          let k = pair.0 in
          record {
            number = l;
            number_before = k.0;
            clause = k.1;
            first = refl;
            kept_as = pair.2.kept_as;
            at = own_at p comps prog sources.edit.components_before b k pair.1;
            among = own_component p comps prog sources.edit.components_before b k pair.1;
          }

-- it was a clause of one component
pub one_first : (s : EditClauses) (own : List ℕ) (b d : ℕ) → IsFirstKeptOf s own b → IsFirstKeptOf s own d → b ≡ d
one_first s own b d x y =
    let first = x.first in
    let first_too = y.first in
    let number : x.number ≡ y.number = cc in
    let kept_as : slice_get s.edit.now.kept.now (x.number - 1) ≡ Some (Some y.number_before) = ap (λ (n : ℕ). slice_get s.edit.now.kept.now (n - 1)) number ∙ y.kept_as in
    let kept_too = x.kept_as in
    let before : x.number_before ≡ y.number_before = cc in
    let at : slice_get s.edit.now.before.now.clauses (x.number_before - 1) ≡ Some y.clause = ap (λ (n : ℕ). slice_get s.edit.now.before.now.clauses (n - 1)) before ∙ y.at in
    let at_too = x.at in
    let clause : x.clause ≡ y.clause = cc in
    let among : IsIn s.edit.now.components_before.now d x.clause.head.pred.0 = ap (λ (k : Clause). slice_get s.edit.now.components_before.now.of k.head.pred.0) clause ∙ y.among in
    let among_too = x.among in
    cc
