-- The sets that are chosen for a clause, and the rule of preconditions that is tested with them.
use Rattle.std.proofs.Common.{◌≡◌, ◌↔◌, ◌⊎◌, inl, inr, ℕ, ◌<◌, ◌==◌, Bool, true, false, ◌&&◌, if◌then◌else◌, List, length, slice_get, slice_set, Option, None, Some, refl, ap, sym, subst, ◌∙◌}
use Rattle.std.proofs.lemmas.Bool.{cases_eq}
use Rattle.truth_rows.specs.Rules.{KeepsSets, same_rank}
use Rattle.truth_rows.specs.Sets.{AreSets, family_of, has_row}
use Rattle.truth_rows.proofs.CallerLemmas.{family_later}
use Rattle.termination_model.proofs.Lists.{indexed, place_below}
use Rattle.truth_rows.proofs.SetLaws.{some_is}
use Rattle.bool_diagrams.proofs.CallerLemmas.{holds_later}
use Rattle.bool_diagrams.specs.Cubes.{values_of}
use Rattle.bool_diagrams.specs.Rows.{IsDiagram, Keeps, ReadsBelow}
use Rattle.bool_diagrams.specs.Tree.{Tree as Rows}
use Rattle.bool_diagrams.specs.declared.diagram.Diagram.{Diagram}
use Rattle.call_components.proofs.Lists.{slice_get-set_same, slice_get-set_other}
use Rattle.cert_structure.specs.Shape.{items_of}
use Rattle.cti_terms.specs.Listing.{IsAtom, Listing}
use Rattle.cti_terms.specs.Tree.{Tree}
use Rattle.cti_terms.specs.declared.atom_list.Atom.{Atom}
use Rattle.cti_terms.specs.declared.clauses.Clause.{Clause}
use Rattle.cti_terms.specs.declared.predicates.Pred.{Pred}
use Rattle.termination_model.specs.grounds.Grounds.{Family, HasArity, IsGround, truth_row}
use Rattle.cert_modes.specs.Sets.{AreReady, KeepsEach, mapping_family, set_at}
use Rattle.cert_modes.specs.declared.sets.Sets.{Sets}
use Rattle.cert_modes.proofs.PlaceLaws.{absent}
use Rattle.cert_modes.proofs.SpellLaws.{arity_at}

-- a predicate that has its set keeps it
pub chosen_more : (chosen : List Diagram) (f : ℕ → Diagram) (r q : ℕ) → r < length chosen → slice_get chosen q ≡ Some (f q) → slice_get (slice_set chosen r (f r)) q ≡ Some (f q)
chosen_more chosen f r q lt e = elim (cases_eq q r) [
  | inl same ↦ ap (slice_get (slice_set chosen r (f r))) same ∙ slice_get-set_same chosen r (f r) lt ∙ ap (λ k. Some (f k)) (sym same)
  | inr other ↦ slice_get-set_other chosen r q (f r) other ∙ e
]

-- each predicate has its set, or the old one
pub chosen_others : (chosen old : List Diagram) (f : ℕ → Diagram) (r q : ℕ) → r < length chosen → (slice_get chosen q ≡ slice_get old q) ⊎ (slice_get chosen q ≡ Some (f q))
    → (slice_get (slice_set chosen r (f r)) q ≡ slice_get old q) ⊎ (slice_get (slice_set chosen r (f r)) q ≡ Some (f q))
chosen_others chosen old f r q lt h = elim (cases_eq q r) [
  | inl same ↦ inr (ap (slice_get (slice_set chosen r (f r))) same ∙ slice_get-set_same chosen r (f r) lt ∙ ap (λ k. Some (f k)) (sym same))
  | inr other ↦ elim h [
    | inl kept ↦ inl (slice_get-set_other chosen r q (f r) other ∙ kept)
    | inr set ↦ inr (slice_get-set_other chosen r q (f r) other ∙ set)
  ]
]

-- an atom's predicate is one of the program
pub atom_below : (preds : List Pred) (vars : ℕ) (b : Atom) → IsAtom preds vars b → b.pred.0 < length preds
atom_below preds vars b a = let s = some_is (λ (q : Pred). q.arity ≡ length b.args) (slice_get preds b.pred.0) a.arity in place_below preds b.pred.0 s.0 s.1

module _ (p : Listing) (T : List Rows) (sets : Sets) (R : AreReady p T sets) where
  -- the set of a mapping, or no rows
  at_known : (m q : ℕ) → IsDiagram T (set_at sets.preconditions sets.none m q)
  at_known m q = go (slice_get (items_of sets.preconditions q) m) refl
    where
      go : (o : Option Diagram) → slice_get (items_of sets.preconditions q) m ≡ o → IsDiagram T (set_at sets.preconditions sets.none m q)
      go None e = subst (IsDiagram T) (sym (absent (items_of sets.preconditions q) m sets.none e)) R.none
      go (Some d) e = subst (IsDiagram T) (sym (indexed (items_of sets.preconditions q) m d sets.none e)) (R.preconditions.known q m d e)

  at_reads : (m q n : ℕ) → HasArity p.preds q n → ReadsBelow T (set_at sets.preconditions sets.none m q) n
  at_reads m q n a = go (slice_get (items_of sets.preconditions q) m) refl
    where
      go : (o : Option Diagram) → slice_get (items_of sets.preconditions q) m ≡ o → ReadsBelow T (set_at sets.preconditions sets.none m q) n
      go None e = subst (λ (d : Diagram). ReadsBelow T d n) (sym (absent (items_of sets.preconditions q) m sets.none e)) (λ row other agree. R.no_rows row ∙ sym (R.no_rows other))
      go (Some d) e =
          let w = some_is (λ (x : Pred). x.arity ≡ n) (slice_get p.preds q) a in
          subst (λ (x : Diagram). ReadsBelow T x n) (sym (indexed (items_of sets.preconditions q) m d sets.none e))
          (subst (ReadsBelow T d) (arity_at p q w.0 w.1 ∙ w.2) (R.preconditions.reads q m d e))

  -- the sets that are chosen for a clause are sets of the table
  pub chosen_sets : (m : ℕ) (old new : List Diagram) → AreSets p.preds T old → length new ≡ length old
      → ((q : ℕ) → (slice_get new q ≡ slice_get old q) ⊎ (slice_get new q ≡ Some (set_at sets.preconditions sets.none m q))) → AreSets p.preds T new
  chosen_sets m old new S each others = record {
    each = each ∙ S.each;
    known = λ q d e. elim (others q) [
      | inl kept ↦ S.known q d (sym kept ∙ e)
      | inr set ↦
          let is : set_at sets.preconditions sets.none m q ≡ d = cc in
          subst (IsDiagram T) is (at_known m q)
    ];
    reads = λ q n d e a. elim (others q) [
      | inl kept ↦ S.reads q n d (sym kept ∙ e) a
      | inr set ↦
          let is : set_at sets.preconditions sets.none m q ≡ d = cc in
          subst (λ (x : Diagram). ReadsBelow T x n) is (at_reads m q n a)
    ];
  }

  no_row : (o : Option Pred) (row : List Bool) → has_row o T (Some sets.none) row ≡ has_row o T None row
  no_row None row = refl
  no_row (Some d) row = (λ i. (d.arity == length row) && R.no_rows (values_of row) i) ∙ ends (d.arity == length row)
    where
      ends : (b : Bool) → (b && false) ≡ false
      ends true = refl
      ends false = refl

  -- and have the rows of the mapping
  pub chosen_is : (m q : ℕ) (new : List Diagram) → slice_get new q ≡ Some (set_at sets.preconditions sets.none m q) → (row : List Bool)
      → family_of p.preds T new q row ≡ mapping_family p.preds T sets.preconditions m q row
  chosen_is m q new at row = ap (λ o. has_row (slice_get p.preds q) T o row) at ∙ go (slice_get (items_of sets.preconditions q) m) refl
    where
      go : (o : Option Diagram) → slice_get (items_of sets.preconditions q) m ≡ o
          → has_row (slice_get p.preds q) T (Some (set_at sets.preconditions sets.none m q)) row ≡ has_row (slice_get p.preds q) T (slice_get (items_of sets.preconditions q) m) row
      go None e = ap (λ d. has_row (slice_get p.preds q) T (Some d) row) (absent (items_of sets.preconditions q) m sets.none e) ∙ no_row (slice_get p.preds q) row ∙ sym (ap (λ o. has_row (slice_get p.preds q) T o row) e)
      go (Some d) e = ap (λ x. has_row (slice_get p.preds q) T (Some x) row) (indexed (items_of sets.preconditions q) m d sets.none e) ∙ sym (ap (λ o. has_row (slice_get p.preds q) T o row) e)

module _ (truth : (ℕ → Bool) → Tree → Bool) where
  -- the rule reads the sets of the clause's predicates alone
  pub keeps_agree : (k : Clause) (pre other allowed grounds : Family) (together alike : ℕ → Bool)
      → ((row : List Bool) → pre k.head.pred.0 row ≡ other k.head.pred.0 row)
      → ((j : ℕ) (b : Atom) → slice_get k.body j ≡ Some b → (row : List Bool) → pre b.pred.0 row ≡ other b.pred.0 row)
      → ((j : ℕ) (b : Atom) → slice_get k.body j ≡ Some b → together b.pred.0 ≡ alike b.pred.0)
      → KeepsSets truth pre allowed grounds together k → KeepsSets truth other allowed grounds alike k
  keeps_agree k pre other allowed grounds together alike of_head of_body same keeps v head j b at before =
      go (alike b.pred.0) (subst (λ (t : Bool). IsGround truth (if t then pre else allowed) v b) (same j b at) (keeps v (of_head (truth_row truth v k.head) ∙ head) j b at before))
    where
      go : (t : Bool) → IsGround truth (if t then pre else allowed) v b → IsGround truth (if t then other else allowed) v b
      go true g = sym (of_body j b at (truth_row truth v b)) ∙ g
      go false g = g

  -- where there is no such mapping, the head has no row
  pub keeps_none : (preds : List Pred) (T : List Rows) (sets : List (List Diagram)) (m : ℕ) (allowed grounds : Family) (together : ℕ → Bool) (k : Clause)
      → slice_get (items_of sets k.head.pred.0) m ≡ None → KeepsSets truth (mapping_family preds T sets m) allowed grounds together k
  keeps_none preds T sets m allowed grounds together k e v head j b at before =
      absurd (never (slice_get preds k.head.pred.0) (ap (λ o. has_row (slice_get preds k.head.pred.0) T o (truth_row truth v k.head)) (sym e) ∙ head))
    where
      never : (o : Option Pred) → has_row o T None (truth_row truth v k.head) ≡ true → ⊥
      never None h = cc
      never (Some d) h = cc

  module _ (p : Listing) (T T2 : List Rows) (K : Keeps T T2) (sets : Sets) (R : AreReady p T sets) (chosen : List Diagram) (C : AreSets p.preds T chosen)
      (allowed grounds : List Diagram) (A : allowed ≡ sets.allowed.items) (G : grounds ≡ sets.grounds.items) (together : ℕ → Bool) (k : Clause) where
    chosen_later : family_of p.preds T2 chosen ≡ family_of p.preds T chosen
    chosen_later = family_later p.preds T T2 K chosen C.known

    allowed_later : family_of p.preds T2 allowed ≡ family_of p.preds T sets.allowed.items
    allowed_later = ap (family_of p.preds T2) A ∙ family_later p.preds T T2 K sets.allowed.items R.allowed.known

    grounds_later : family_of p.preds T2 grounds ≡ family_of p.preds T sets.grounds.items
    grounds_later = ap (family_of p.preds T2) G ∙ family_later p.preds T T2 K sets.grounds.items R.grounds.known

    -- the test with the sets that are chosen is that of the mapping
    pub kept_here : (m : ℕ) → slice_get chosen k.head.pred.0 ≡ Some (set_at sets.preconditions sets.none m k.head.pred.0)
        → ((j : ℕ) (b : Atom) → slice_get k.body j ≡ Some b → slice_get chosen b.pred.0 ≡ Some (set_at sets.preconditions sets.none m b.pred.0))
        → KeepsSets truth (family_of p.preds T2 chosen) (family_of p.preds T2 allowed) (family_of p.preds T2 grounds) together k
        ↔ KeepsSets truth (mapping_family p.preds T sets.preconditions m) (family_of p.preds T sets.allowed.items) (family_of p.preds T sets.grounds.items) together k
    kept_here m at_head at_body = (
      λ h. keeps_agree k (family_of p.preds T chosen) (mapping_family p.preds T sets.preconditions m) (family_of p.preds T sets.allowed.items) (family_of p.preds T sets.grounds.items) together together
          (chosen_is p T sets R m k.head.pred.0 chosen at_head) (λ j b at. chosen_is p T sets R m b.pred.0 chosen (at_body j b at)) (λ j b at. refl)
          (subst (λ (f : Family). KeepsSets truth f (family_of p.preds T sets.allowed.items) (family_of p.preds T sets.grounds.items) together k) chosen_later
          (subst (λ (f : Family). KeepsSets truth (family_of p.preds T2 chosen) f (family_of p.preds T sets.grounds.items) together k) allowed_later
          (subst (λ (f : Family). KeepsSets truth (family_of p.preds T2 chosen) (family_of p.preds T2 allowed) f together k) grounds_later h))),
      λ h.
          let back = keeps_agree k (mapping_family p.preds T sets.preconditions m) (family_of p.preds T chosen) (family_of p.preds T sets.allowed.items) (family_of p.preds T sets.grounds.items) together together
          (λ row. sym (chosen_is p T sets R m k.head.pred.0 chosen at_head row)) (λ j b at row. sym (chosen_is p T sets R m b.pred.0 chosen (at_body j b at) row)) (λ j b at. refl) h in
          subst (λ (f : Family). KeepsSets truth (family_of p.preds T2 chosen) (family_of p.preds T2 allowed) f together k) (sym grounds_later)
          (subst (λ (f : Family). KeepsSets truth (family_of p.preds T2 chosen) f (family_of p.preds T sets.grounds.items) together k) (sym allowed_later)
          (subst (λ (f : Family). KeepsSets truth f (family_of p.preds T sets.allowed.items) (family_of p.preds T sets.grounds.items) together k) (sym chosen_later) back)),
    )

  has_row_later : (T T2 : List Rows) → Keeps T T2 → (o : Option Pred) (b : Option Diagram) → ((d : Diagram) → b ≡ Some d → IsDiagram T d) → (row : List Bool) → has_row o T2 b row ≡ has_row o T b row
  has_row_later T T2 K None b known row = refl
  has_row_later T T2 K (Some d) None known row = refl
  has_row_later T T2 K (Some d) (Some x) known row = λ i. (d.arity == length row) && holds_later T T2 x K (known x refl) (values_of row) i

  -- the rule in each mapping does not hang on later diagrams
  pub each_later : (p : Listing) (T T2 : List Rows) → Keeps T T2 → (sets : Sets) → AreReady p T sets → (ranks : List ℕ) (k : Clause) → KeepsEach truth p T2 ranks sets k ↔ KeepsEach truth p T ranks sets k
  each_later p T T2 K sets R ranks k = (
    λ h m.
        subst (λ (f : Family). KeepsSets truth f (family_of p.preds T sets.allowed.items) (family_of p.preds T sets.grounds.items) together k) (mappings m)
        (subst (λ (f : Family). KeepsSets truth (mapping_family p.preds T2 sets.preconditions m) f (family_of p.preds T sets.grounds.items) together k) allowed
        (subst (λ (f : Family). KeepsSets truth (mapping_family p.preds T2 sets.preconditions m) (family_of p.preds T2 sets.allowed.items) f together k) grounds (h m))),
    λ h m.
        subst (λ (f : Family). KeepsSets truth (mapping_family p.preds T2 sets.preconditions m) (family_of p.preds T2 sets.allowed.items) f together k) (sym grounds)
        (subst (λ (f : Family). KeepsSets truth (mapping_family p.preds T2 sets.preconditions m) f (family_of p.preds T sets.grounds.items) together k) (sym allowed)
        (subst (λ (f : Family). KeepsSets truth f (family_of p.preds T sets.allowed.items) (family_of p.preds T sets.grounds.items) together k) (sym (mappings m)) (h m))),
  )
    where
      together : ℕ → Bool
      together = λ q. same_rank ranks q k.head.pred.0

      mappings : (m : ℕ) → mapping_family p.preds T2 sets.preconditions m ≡ mapping_family p.preds T sets.preconditions m
      mappings m = λ i q row. has_row_later T T2 K (slice_get p.preds q) (slice_get (items_of sets.preconditions q) m) (R.preconditions.known q m) row i

      allowed : family_of p.preds T2 sets.allowed.items ≡ family_of p.preds T sets.allowed.items
      allowed = family_later p.preds T T2 K sets.allowed.items R.allowed.known

      grounds : family_of p.preds T2 sets.grounds.items ≡ family_of p.preds T sets.grounds.items
      grounds = family_later p.preds T T2 K sets.grounds.items R.grounds.known
