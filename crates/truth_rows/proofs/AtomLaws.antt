-- What an atom and the first atoms of a body have in the sets, while the table grows and in the words of families.
use Rattle.std.proofs.Common.{◌≡◌, ◌↔◌, ℕ, zero, suc, ◌+◌, Bool, true, false, IsTrue, List, [], ◌∷◌, length, take, slice_get, slice_index_or, Some, if◌then◌else◌, refl, sym, subst, ◌∙◌, arith}
use Rattle.std.specs.List.{AllByRecursion}
use Rattle.std.proofs.lemmas.List.{length-map}
use Rattle.bool_diagrams.specs.declared.diagram.Diagram.{Diagram}
use Rattle.bool_diagrams.specs.Cubes.{truth_rows, values_of}
use Rattle.bool_diagrams.specs.Rows.{Keeps}
use Rattle.bool_diagrams.specs.Tree.{Tree as Rows}
use Rattle.bool_diagrams.proofs.CallerLemmas.{holds_later, known_later}
use Rattle.cti_terms.specs.declared.atom_list.Atom.{Atom}
use Rattle.cti_terms.specs.declared.clauses.Clause.{Clause}
use Rattle.cti_terms.specs.declared.predicates.Pred.{Pred}
use Rattle.cti_terms.specs.Listing.{Listing, IsAtom, IsClause, IsProgram}
use Rattle.cti_terms.specs.Tree.{Tree}
use Rattle.termination_model.specs.grounds.Grounds.{IsClosedUnder, IsGround, truth_row}
use Rattle.truth_rows.specs.Ready.{HasAtom, HasAtoms, IsReady}
use Rattle.truth_rows.specs.Rules.{KeepsSets}
use Rattle.truth_rows.specs.Sets.{AreSets, family_of}
use Rattle.truth_rows.proofs.ListLaws.{up_to_more}
use Rattle.termination_model.proofs.Lists.{by_places, from_places, place_below, there}
use Rattle.truth_rows.proofs.SetLaws.{none, some_is, family_in, family_put, atom_there}

module _ (T T2 : List Rows) (K : Keeps T T2) (sets : List Diagram) (vars : ℕ) (b : Atom) (ready : IsReady T sets vars b) where
  pub ready_later : IsReady T2 sets vars b
  ready_later = record {
    there = ready.there;
    known = λ d e.
        let k = ready.known d e in (
          known_later T T2 d K k.0,
          λ row other agree. holds_later T T2 d K k.0 row ∙ k.1 row other agree ∙ sym (holds_later T T2 d K k.0 other),
        );
    narrow = ready.narrow;
    below = ready.below;
    small = ready.small;
  }

  pub atom_later : (truth : (ℕ → Bool) → Tree → Bool) (v : ℕ → Bool) → HasAtom truth T2 sets v b ↔ HasAtom truth T sets v b
  atom_later truth v = (
    λ h d e. sym (holds_later T T2 d K (ready.known d e).0 (values_of (truth_row truth v b))) ∙ h d e,
    λ h d e. holds_later T T2 d K (ready.known d e).0 (values_of (truth_row truth v b)) ∙ h d e,
  )

pub chosen_ready : (T : List Rows) (pre allowed : List Diagram) (vars : ℕ) (b : Atom) (t : Bool) → IsReady T pre vars b → IsReady T allowed vars b → IsReady T (if t then pre else allowed) vars b
chosen_ready T pre allowed vars b true p a = p
chosen_ready T pre allowed vars b false p a = a

module _ (truth : (ℕ → Bool) → Tree → Bool) (p : Listing) (trees : List Rows) (sets : List Diagram) (S : AreSets p.preds trees sets) (program : IsProgram p) (vars : ℕ) (v : ℕ → Bool) where
  pub ground_is : (b : Atom) → IsAtom p.preds vars b → HasAtom truth trees sets v b ↔ IsGround truth (family_of p.preds trees sets) v b
  ground_is b a = (forth, back)
    where
      forth : HasAtom truth trees sets v b → IsGround truth (family_of p.preds trees sets) v b
      forth h =
          let w = some_is (λ (q : Pred). q.arity ≡ length b.args) (slice_get p.preds b.pred.0) a.arity in
          let d = slice_index_or sets b.pred.0 none in
          let e = there sets b.pred.0 none (atom_there p program trees sets S vars b a) in
          family_put p.preds trees sets b.pred.0 (truth_row truth v b) w.0 d w.1 e (w.2 ∙ sym (length-map b.args (truth v))) (h d e)

      back : IsGround truth (family_of p.preds trees sets) v b → HasAtom truth trees sets v b
      back g d e =
          let f = family_in p.preds trees sets b.pred.0 (truth_row truth v b) g in
          let in_sets = f.3 in
          let is : f.1 ≡ d = cc in
          subst (λ (y : Diagram). IsTrue (truth_rows trees y (truth_row truth v b))) is f.5

  pub grounds_are : (body : List Atom) → AllByRecursion (IsAtom p.preds vars) body → HasAtoms truth trees sets v body (length body) ↔ AllByRecursion (IsGround truth (family_of p.preds trees sets) v) body
  grounds_are body all = (
    λ h. from_places (IsGround truth (family_of p.preds trees sets) v) body (λ j b at. (ground_is b (by_places (IsAtom p.preds vars) body all j b at)).0 (h j b (place_below body j b at) at)),
    λ g j b lt at. (ground_is b (by_places (IsAtom p.preds vars) body all j b at)).1 (by_places (IsGround truth (family_of p.preds trees sets) v) body g j b at),
  )

  pub first_are : (body : List Atom) → AllByRecursion (IsAtom p.preds vars) body → (n : ℕ) → AllByRecursion (IsGround truth (family_of p.preds trees sets) v) (take n body) → HasAtoms truth trees sets v body n
  first_are [] all n g j b lt e = cc
  first_are (b ∷ bs) all zero g j x lt e = absurd (omega arith)
  first_are (b ∷ bs) all (suc n) g zero x lt e = let same : b ≡ x = cc in subst (HasAtom truth trees sets v) same ((ground_is b all.0).1 g.0)
  first_are (b ∷ bs) all (suc n) g (suc j) x lt e = first_are bs all.1 n g.1 j x (omega arith) e

  pub are_first : (body : List Atom) → AllByRecursion (IsAtom p.preds vars) body → (n : ℕ) → HasAtoms truth trees sets v body n → AllByRecursion (IsGround truth (family_of p.preds trees sets) v) (take n body)
  are_first [] all zero h = tt
  are_first [] all (suc n) h = tt
  are_first (b ∷ bs) all zero h = tt
  are_first (b ∷ bs) all (suc n) h = ((ground_is b all.0).0 (h 0 b (omega arith) refl), are_first bs all.1 n (λ j x lt e. h (suc j) x (omega arith) e))

-- an atom has the same on rows that give it one truth row
pub atom_same : (truth : (ℕ → Bool) → Tree → Bool) (trees : List Rows) (sets : List Diagram) (b : Atom) (v w : ℕ → Bool) → truth_row truth v b ≡ truth_row truth w b → HasAtom truth trees sets v b → HasAtom truth trees sets w b
atom_same truth trees sets b v w same h d e = subst (λ (xs : List Bool). IsTrue (truth_rows trees d xs)) same (h d e)

-- one more atom
pub atoms_more : (truth : (ℕ → Bool) → Tree → Bool) (trees : List Rows) (sets : List Diagram) (v : ℕ → Bool) (body : List Atom) (n : ℕ) (b : Atom) → slice_get body n ≡ Some b
    → (HasAtoms truth trees sets v body n × HasAtom truth trees sets v b) ↔ HasAtoms truth trees sets v body (n + 1)
atoms_more truth trees sets v body n b at = (
  λ h. up_to_more (λ (j : ℕ) (x : Atom). HasAtom truth trees sets v x) body n b at h.0 h.1,
  λ h. (λ j x lt e. h j x (omega arith) e, h n b (omega arith) at),
)

-- in the words of families: closed under a clause
pub closed_is : (truth : (ℕ → Bool) → Tree → Bool) (p : Listing) (trees : List Rows) (sets : List Diagram) → AreSets p.preds trees sets → IsProgram p → (k : Clause) → IsClause p.preds k
    → ((v : ℕ → Bool) → HasAtoms truth trees sets v k.body (length k.body) → HasAtom truth trees sets v k.head) ↔ IsClosedUnder truth (family_of p.preds trees sets) k
closed_is truth p trees sets S program k c = (
  λ h v g. (ground_is truth p trees sets S program k.vars v k.head c.head).0 (h v ((grounds_are truth p trees sets S program k.vars v k.body c.body).1 g)),
  λ closed v h. (ground_is truth p trees sets S program k.vars v k.head c.head).1 (closed v ((grounds_are truth p trees sets S program k.vars v k.body c.body).0 h)),
)

-- in the words of families: calls stay in sets
module _ (truth : (ℕ → Bool) → Tree → Bool) (p : Listing) (trees : List Rows) (program : IsProgram p) (pre allowed grounds : List Diagram)
    (P : AreSets p.preds trees pre) (A : AreSets p.preds trees allowed) (G : AreSets p.preds trees grounds) (k : Clause) (c : IsClause p.preds k) where
  chosen : (t : Bool) (v : ℕ → Bool) (b : Atom) → IsAtom p.preds k.vars b → HasAtom truth trees (if t then pre else allowed) v b ↔ IsGround truth (if t then family_of p.preds trees pre else family_of p.preds trees allowed) v b
  chosen true v b a = ground_is truth p trees pre P program k.vars v b a
  chosen false v b a = ground_is truth p trees allowed A program k.vars v b a

  pub rule_is : (together : ℕ → Bool)
      → ((v : ℕ → Bool) → HasAtom truth trees pre v k.head → (j : ℕ) (b : Atom) → slice_get k.body j ≡ Some b → HasAtoms truth trees grounds v k.body j → HasAtom truth trees (if together b.pred.0 then pre else allowed) v b)
      ↔ KeepsSets truth (family_of p.preds trees pre) (family_of p.preds trees allowed) (family_of p.preds trees grounds) together k
  rule_is together = (
    λ h v head j b at before.
        (chosen (together b.pred.0) v b (by_places (IsAtom p.preds k.vars) k.body c.body j b at)).0
        (h v ((ground_is truth p trees pre P program k.vars v k.head c.head).1 head) j b at (first_are truth p trees grounds G program k.vars v k.body c.body j before)),
    λ rule v head j b at before.
        (chosen (together b.pred.0) v b (by_places (IsAtom p.preds k.vars) k.body c.body j b at)).1
        (rule v ((ground_is truth p trees pre P program k.vars v k.head c.head).0 head) j b at (are_first truth p trees grounds G program k.vars v k.body c.body j before)),
  )
