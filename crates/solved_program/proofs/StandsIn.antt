-- A component that stands for an old one: the members of the old one stand in the new program.
use Rattle.std.proofs.Common.{◌≡◌, ℕ, suc, Bool, true, false, inl, inr, List, [], ◌∷◌, map, slice_get, Option, None, Some, refl, ap, sym, subst, ◌∙◌}
use Rattle.std.specs.Prelude.{filter}
use Rattle.call_components.specs.Partition.{Partition, AreComponents, IsIn}
use Rattle.cti_terms.specs.Arithmetic.{kind_of}
use Rattle.cti_terms.specs.Listing.{Listing, IsProgram}
use Rattle.cti_terms.specs.declared.atom_list.Atom.{Atom}
use Rattle.cti_terms.specs.declared.clauses.Clause.{Clause}
use Rattle.cti_terms.specs.declared.predicates.Pred.{Pred}
use Rattle.linear_rows.specs.Members.{In}
use Rattle.linear_rows.proofs.Members.{of-map}
use Rattle.termination_model.specs.chains.Chain.{clauses_of, component_of, counted, is_number, is_member}
use Rattle.termination_model.proofs.ChainLeaves.{number_is}
use Rattle.groundness.proofs.ComponentLaws.{number_of}
use Rattle.component_laws.specs.Renaming.{renamed, AgreeOn, IsOver, KeepsApart, StandIn, own_clauses}
use Rattle.component_laws.specs.Runs.{AreRenamed}
use Rattle.component_laws.specs.Untouched.{NamedAtom, NamedClause, named}
use Rattle.component_laws.proofs.BlownLaws.{filter_map}
use Rattle.component_laws.proofs.NamedLaws.{head_in, pred_in}
use Rattle.component_laws.proofs.UntouchedLaws.{one_number}
use Rattle.solved_program.specs.Kept.{AreKept}
use Rattle.solved_program.specs.Standing.{IsSameClause, StandsFor}
use Rattle.solved_program.proofs.Clauses.{Numbered, head_kind, member_clause, of_program, own_component}
use Rattle.solved_program.proofs.Pairs.{all_renamed, body_pair, pair_back, pair_on, same_named}
use Rattle.solved_program.proofs.Names.{finds_number, new_number}

-- a component's clauses are those of its members, with their numbers
without_numbers : (n : ℕ) (ks : List Clause) → map (λ (k : Numbered). k.1) (counted n ks) ≡ ks
without_numbers n [] = refl
without_numbers n (k ∷ ks) = (let more = without_numbers (suc n) ks in λ i. k ∷ more i)

pub own_without : (p : Listing) (comps : Partition) (c : ℕ) → own_clauses p (is_member comps c) ≡ map (λ (k : Numbered). k.1) (clauses_of p comps c)
own_without p comps c =
    ap (filter (λ (k : Clause). is_member comps c k.head.pred.0)) (sym (without_numbers 1 p.clauses))
    ∙ filter_map (λ (k : Numbered). k.1) (λ (k : Numbered). is_number c (component_of comps k.1.head.pred.0)) (λ (k : Clause). is_member comps c k.head.pred.0) (counted 1 p.clauses) (λ x i. refl)

without_renamed : (f : ℕ → ℕ) (ks ls : List Numbered) → AreRenamed f ks ls → map (λ (l : Numbered). l.1) ls ≡ map (renamed f) (map (λ (k : Numbered). k.1) ks)
without_renamed f [] [] h = refl
without_renamed f [] (l ∷ ls) h = absurd h
without_renamed f (k ∷ ks) [] h = absurd h
without_renamed f (k ∷ ks) (l ∷ ls) h = (let more = without_renamed f ks ls h.1 in λ i. h.0 i ∷ more i)

pub off_member : (comps : Partition) (c q : ℕ) → (IsIn comps c q → ⊥) → is_member comps c q ≡ false
off_member comps c q off = go (is_member comps c q) refl
  where
    go : (b : Bool) → is_member comps c q ≡ b → b ≡ false
    go false e = refl
    go true e = absurd (off (number_of c (component_of comps q) e))

module _ {X : Type 0} (p new : Listing) (comps new_comps : Partition) (prog : IsProgram p) (new_prog : IsProgram new) (are : AreComponents p comps) (new_are : AreComponents new new_comps)
    (kept : List (Option ℕ)) (are_kept : AreKept p new kept) (c d : ℕ) (old now : ℕ → X) (stands : StandsFor comps new_comps c d old now p new kept)
    (members : (q r : ℕ) (x : Pred) → slice_get p.preds q ≡ Some x → slice_get new.preds r ≡ Some x → IsIn new_comps d r → now r ≡ old q) where
  abbrev ks : List Numbered
  ks = clauses_of p comps c

  abbrev ls : List Numbered
  ls = clauses_of new new_comps d

  abbrev pub f : ℕ → ℕ
  f = new_number p.preds new.preds

  abbrev SameClause : Numbered → Numbered → Type 0
  SameClause = IsSameClause comps new_comps c d old now kept

  -- ---- pairs
  pair_of : (k : Numbered) → In k ks → (l : Numbered) × In l ls × SameClause k l
  pair_of = pair_on p new comps new_comps prog new_prog are new_are kept are_kept c d old now ks ls stands.clauses

  pair_from : (l : Numbered) → In l ls → (k : Numbered) × In k ks × SameClause k l
  pair_from = pair_back p new comps new_comps prog new_prog are new_are kept are_kept c d old now ks ls stands.clauses

  names_same : (k l : Numbered) → In k ks → In l ls → SameClause k l → named p k.1 ≡ named new l.1
  names_same = same_named p new comps new_comps prog new_prog are new_are kept are_kept c d old now

  moves : (q r : ℕ) (x : Pred) → slice_get p.preds q ≡ Some x → slice_get new.preds r ≡ Some x → f q ≡ r
  moves = finds_number p new new_prog

  -- a predicate of both programs, of both components or of none, with the same value
  pub record IsShared (q : ℕ) : Type 0 where
    pub pred : Pred
    pub here : slice_get p.preds q ≡ Some pred
    pub there : slice_get new.preds (f q) ≡ Some pred
    pub alike : is_member new_comps d (f q) ≡ is_member comps c q
    pub same : now (f q) ≡ old q

  shared : (q r : ℕ) (x : Pred) → slice_get p.preds q ≡ Some x → slice_get new.preds r ≡ Some x → is_member new_comps d r ≡ is_member comps c q → now r ≡ old q → IsShared q
  shared q r x here there alike same =
      let is = moves q r x here there in
      record { pred = x; here = here; there = ap (slice_get new.preds) is ∙ there; alike = ap (is_member new_comps d) is ∙ alike; same = ap now is ∙ same }

  shared_member : (q r : ℕ) (x : Pred) → slice_get p.preds q ≡ Some x → slice_get new.preds r ≡ Some x → IsIn comps c q → IsIn new_comps d r → IsShared q
  shared_member q r x here there m n = shared q r x here there (number_is d (component_of new_comps r) n ∙ sym (number_is c (component_of comps q) m)) (members q r x here there n)

  shared_head : (k l : Numbered) → In k ks → In l ls → SameClause k l → IsShared k.1.head.pred.0
  shared_head k l i j s =
      let at = head_in p prog k.1 (of_program p comps prog are c k i) in
      let there = ap (λ (n : NamedClause). n.head.pred) (sym (names_same k l i j s)) ∙ at.1 in
      shared_member k.1.head.pred.0 l.1.head.pred.0 at.0 at.1 there (own_component p comps prog are c k i) (own_component new new_comps new_prog new_are d l j)

  shared_body : (k l : Numbered) → In k ks → In l ls → SameClause k l → (b : Atom) → In b k.1.body → IsShared b.pred.0
  shared_body k l i j s b m =
      let pair = body_pair p new comps new_comps prog new_prog are new_are kept are_kept c d old now k.1.body l.1.body (ap (λ (n : NamedClause). n.body) (names_same k l i j s)) s.calls b m in
      let e = pair.0 in
      let at = pred_in p prog k.1 (of_program p comps prog are c k i) b m in
      let there = ap (λ (n : NamedAtom). n.pred) (sym pair.2) ∙ at.1 in
      elim pair.3 [
        | inl both ↦ shared_member b.pred.0 e.pred.0 at.0 at.1 there both.0 both.1
        | inr other ↦ shared b.pred.0 e.pred.0 at.0 at.1 there (off_member new_comps d e.pred.0 other.1 ∙ sym (off_member comps c b.pred.0 other.0)) other.2
      ]

  first_of : (xs : List Numbered) → (xs ≡ [] → ⊥) → (x : Numbered) × In x xs
  first_of [] h = absurd (h refl)
  first_of (x ∷ xs) h = (x, inl refl)

  first : (l : Numbered) × In l ls
  first = first_of ls stands.some

  first_before : (k : Numbered) × In k ks
  first_before = let pair = pair_from first.0 first.1 in (pair.0, pair.1)

  known : (q : ℕ) → is_member comps c q ≡ true → IsShared q
  known q on_ =
      let h = member_clause p comps prog are c q first_before.0 first_before.1 (number_of c (component_of comps q) on_) in
      let pair = pair_of h.0 h.1 in
      subst IsShared h.2 (shared_head h.0 pair.0 h.1 pair.1 pair.2)

  pub apart : KeepsApart IsShared f
  apart q r a b e =
      let at : slice_get new.preds (f q) ≡ Some b.pred = ap (slice_get new.preds) e ∙ b.there in
      let there = a.there in
      let is : a.pred ≡ b.pred = cc in
      one_number p.preds prog.distinct q r b.pred (a.here ∙ ap Some is) b.here

  -- heads are not built in
  kind : (q : ℕ) → is_member comps c q ≡ true → kind_of p.arithmetic q ≡ None
  kind q on_ =
      let h = member_clause p comps prog are c q first_before.0 first_before.1 (number_of c (component_of comps q) on_) in
      ap (kind_of p.arithmetic) (sym h.2) ∙ head_kind p comps prog are h.0.1 (of_program p comps prog are c h.0 h.1)

  new_kind : (r : ℕ) → is_member new_comps d r ≡ true → kind_of new.arithmetic r ≡ None
  new_kind r on_ =
      let h = member_clause new new_comps new_prog new_are d r first.0 first.1 (number_of d (component_of new_comps r) on_) in
      ap (kind_of new.arithmetic) (sym h.2) ∙ head_kind new new_comps new_prog new_are h.0.1 (of_program new new_comps new_prog new_are d h.0 h.1)

  from : (r : ℕ) → is_member new_comps d r ≡ true → (q : ℕ) × IsShared q × (is_member comps c q ≡ true) × (f q ≡ r)
  from r on_ =
      let h = member_clause new new_comps new_prog new_are d r first.0 first.1 (number_of d (component_of new_comps r) on_) in
      let pair = pair_from h.0 h.1 in
      let k = pair.0 in
      let at = head_in p prog k.1 (of_program p comps prog are c k pair.1) in
      let there : slice_get new.preds h.0.1.head.pred.0 ≡ Some at.0 = ap (λ (n : NamedClause). n.head.pred) (sym (names_same k h.0 pair.1 h.1 pair.2)) ∙ at.1 in
      let in_c = own_component p comps prog are c k pair.1 in
      (k.1.head.pred.0, shared_head k h.0 pair.1 h.1 pair.2, number_is c (component_of comps k.1.head.pred.0) in_c, moves k.1.head.pred.0 h.0.1.head.pred.0 at.0 at.1 there ∙ h.2)

  clauses : own_clauses new (is_member new_comps d) ≡ map (renamed f) (own_clauses p (is_member comps c))
  clauses = own_without new new_comps d ∙ without_renamed f ks ls (all_renamed p new comps new_comps prog new_prog are new_are kept are_kept c d old now ks ls stands.clauses (λ k i. i) (λ l i. i)) ∙ sym (ap (map (renamed f)) (own_without p comps c))

  over : (k : Clause) → In k (own_clauses p (is_member comps c)) → IsOver IsShared k
  over k i =
      let there = of-map (λ (x : Numbered). x.1) ks k (subst (λ (xs : List Clause). In k xs) (own_without p comps c) i) in
      let pair = pair_of there.0 there.1 in
      subst (IsOver IsShared) there.2 (record { head = shared_head there.0 pair.0 there.1 pair.1 pair.2; body = λ b m. shared_body there.0 pair.0 there.1 pair.1 pair.2 b m })

  pub stand_in : StandIn IsShared f p new (is_member comps c) (is_member new_comps d)
  stand_in = record {
    known = known;
    apart = apart;
    members = λ q s. s.alike;
    kinds = λ q on_. new_kind (f q) ((known q on_).alike ∙ on_) ∙ sym (kind q on_);
    from = from;
    clauses = clauses;
    over = over;
  }

  pub agree : AgreeOn IsShared f old now
  agree q s = s.same
