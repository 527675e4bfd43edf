-- The sets that a search for the least family begins with: they have the rows of what is built in, and no others.
use Rattle.std.proofs.Common.{◌≡◌, ℕ, zero, suc, ◌+◌, ◌<◌, ◌&&◌, Bool, true, false, IsTrue, inl, inr, List, [], ◌∷◌, map, length, slice_get, slice_set, Option, None, Some, Contains, refl, ap, sym, subst, ◌∙◌, arith}
use Rattle.std.proofs.lemmas.Bool.{and_parts, cases_eq}
use Rattle.std.proofs.lemmas.List.{length-set}
use Rattle.bool_diagrams.specs.declared.diagram.Diagram.{Diagram}
use Rattle.bool_diagrams.specs.Cubes.{truth_rows, values_of}
use Rattle.bool_diagrams.specs.Rows.{IsDiagram, ReadsBelow}
use Rattle.bool_diagrams.specs.Tree.{Tree as Rows}
use Rattle.call_components.specs.Numbers.{number_of as pred_number}
use Rattle.call_components.specs.Partition.{Partition, AreComponents}
use Rattle.cti_terms.specs.Arithmetic.{Arithmetic, kind_of}
use Rattle.cti_terms.specs.Listing.{IsProgram, Listing}
use Rattle.cti_terms.specs.declared.builtins.Builtin.{Builtin}
use Rattle.cti_terms.specs.declared.predicates.Pred.{Pred}
use Rattle.cti_terms.specs.declared.predicates.PredId.{PredId}
use Rattle.termination_model.specs.chains.Chain.{component_of, is_member}
use Rattle.termination_model.specs.grounds.Grounds.{Family, HasArity}
use Rattle.termination_model.proofs.ChainLeaves.{number_is}
use Rattle.termination_model.proofs.Lists.{place_below}
use Rattle.truth_rows.specs.Sets.{AreSets, family_of}
use Rattle.truth_rows.proofs.ListLaws.{set_elsewhere, set_there}
use Rattle.truth_rows.proofs.SetLaws.{family_in, family_put, some_is}
use Rattle.groundness.specs.Components.{HaveStartRows}
use Rattle.groundness.specs.Sets.{AreBegun, AreFirst, set_as}
use Rattle.groundness.proofs.ComponentLaws.{member_place, number_of}

-- a row of two values that are true
two_true : (row : List Bool) → length row ≡ 2 → (values_of row 0 && values_of row 1) ≡ true → row ≡ true ∷ (true ∷ [])
two_true [] long h = absurd (omega arith)
two_true (a ∷ []) long h = absurd (omega arith)
two_true (a ∷ (b ∷ [])) long h = let p = and_parts a b h in λ i. p.0 i ∷ (p.1 i ∷ [])
two_true (a ∷ (b ∷ (c ∷ row))) long h = absurd (omega arith)

module _ (p : Listing) (program : IsProgram p) (m : ℕ → Bool) (T : List Rows) (none both : Diagram) (F : AreFirst T none both) (old sets : List Diagram) (S : AreSets p.preds T old)
    (s : AreBegun p.arithmetic m none both old sets) where
  two : (q : ℕ) (b : Builtin) → kind_of p.arithmetic q ≡ Some b → (n : ℕ) → HasArity p.preds q n → n ≡ 2
  two q b is n arity =
      let one = some_is (λ (d : Pred). d.arity ≡ 2) (slice_get p.preds q) (program.binary q b is) in
      let other = some_is (λ (d : Pred). d.arity ≡ n) (slice_get p.preds q) arity in
      let same : one.0 ≡ other.0 = let e = one.1 in let f = other.1 in cc in
      sym other.2 ∙ ap (λ (d : Pred). d.arity) (sym same) ∙ one.2

  known_as : (o : Option Builtin) → IsDiagram T (set_as none both o)
  known_as None = F.none_known
  known_as (Some b) = F.both_known

  reads_none : (n : ℕ) → ReadsBelow T none n
  reads_none n = λ row other agree. F.off row ∙ sym (F.off other)

  reads_both : (n : ℕ) → n ≡ 2 → ReadsBelow T both n
  reads_both n two = λ row other agree.
      let first : row 0 ≡ other 0 = agree 0 (omega (arith, two)) in
      let second : row 1 ≡ other 1 = agree 1 (omega (arith, two)) in
      F.on row ∙ (λ i. first i && second i) ∙ sym (F.on other)

  reads_as : (q n : ℕ) → HasArity p.preds q n → (o : Option Builtin) → kind_of p.arithmetic q ≡ o → ReadsBelow T (set_as none both o) n
  reads_as q n arity None is = reads_none n
  reads_as q n arity (Some b) is = reads_both n (two q b is n arity)

  pub begun_sets : AreSets p.preds T sets
  begun_sets = record {
    each = s.each ∙ S.each;
    known = λ q d at. known q d at (m q) refl;
    reads = λ q n d at arity. reads q n d at arity (m q) refl;
  }
    where
      known : (q : ℕ) (d : Diagram) → slice_get sets q ≡ Some d → (b : Bool) → m q ≡ b → IsDiagram T d
      known q d at true on_ = subst (IsDiagram T) (sym (s.members q d on_ at)) (known_as (kind_of p.arithmetic q))
      known q d at false off = S.known q d (sym (s.others q off) ∙ at)

      reads : (q n : ℕ) (d : Diagram) → slice_get sets q ≡ Some d → HasArity p.preds q n → (b : Bool) → m q ≡ b → ReadsBelow T d n
      reads q n d at arity true on_ = subst (λ (x : Diagram). ReadsBelow T x n) (sym (s.members q d on_ at)) (reads_as q n arity (kind_of p.arithmetic q) refl)
      reads q n d at arity false off = S.reads q n d (sym (s.others q off) ∙ at) arity

  begun_have : (q : ℕ) (b : Builtin) → kind_of p.arithmetic q ≡ Some b → m q ≡ true → IsTrue (family_of p.preds T sets q (true ∷ (true ∷ [])))
  begun_have q b is member =
      let one = some_is (λ (d : Pred). d.arity ≡ 2) (slice_get p.preds q) (program.binary q b is) in
      let there = placed (slice_get sets q) refl (within p.preds q one.0 one.1) in
      family_put p.preds T sets q (true ∷ (true ∷ [])) one.0 there.0 one.1 there.1 one.2
      (subst (λ (x : Diagram). IsTrue (truth_rows T x (true ∷ (true ∷ [])))) (sym (s.members q there.0 member there.1 ∙ ap (set_as none both) is)) (F.on (values_of (true ∷ (true ∷ [])))))
    where
      within : {X : Type 0} (xs : List X) (i : ℕ) (x : X) → slice_get xs i ≡ Some x → i < length xs
      within [] i x e = cc
      within (y ∷ xs) zero x e = omega arith
      within (y ∷ xs) (suc i) x e = omega (arith, within xs i x e)

      outside : {X : Type 0} (xs : List X) (i : ℕ) → slice_get xs i ≡ None → i < length xs → ⊥
      outside [] i e lt = omega (arith, lt)
      outside (y ∷ xs) zero e lt = cc
      outside (y ∷ xs) (suc i) e lt = outside xs i e (omega (arith, lt))

      placed : (o : Option Diagram) → slice_get sets q ≡ o → q < length p.preds → (d : Diagram) × (slice_get sets q ≡ Some d)
      placed None e lt = absurd (outside sets q e (omega (arith, lt, s.each, S.each)))
      placed (Some d) e lt = (d, e)

  -- each family that has a built-in predicate's row has its first rows
  begun_needed : (other : Family) (q : ℕ) (row : List Bool) → ((b : Builtin) → kind_of p.arithmetic q ≡ Some b → IsTrue (other q (true ∷ (true ∷ [])))) → m q ≡ true → IsTrue (family_of p.preds T sets q row) → IsTrue (other q row)
  begun_needed other q row has member t = go (kind_of p.arithmetic q) refl
    where
      go : (o : Option Builtin) → kind_of p.arithmetic q ≡ o → IsTrue (other q row)
      go None is =
          let f = family_in p.preds T sets q row t in
          let on = subst (λ (x : Diagram). IsTrue (truth_rows T x row)) (s.members q f.1 member f.3 ∙ ap (set_as none both) is) f.5 in
          let off = F.off (values_of row) in
          cc
      go (Some b) is =
          let f = family_in p.preds T sets q row t in
          let on = subst (λ (x : Diagram). IsTrue (truth_rows T x row)) (s.members q f.1 member f.3 ∙ ap (set_as none both) is) f.5 in
          let long : length row ≡ 2 = two q b is (length row) (rw f.2 f.4) in
          let pair = two_true row long (sym (F.on (values_of row)) ∙ on) in
          subst (λ (xs : List Bool). IsTrue (other q xs)) (sym pair) (has b is)

  pub begun_start : HaveStartRows p.arithmetic m (family_of p.preds T sets)
  begun_start = record {
    builtins = begun_have;
    alone = λ other has q row member t. begun_needed other q row (λ b is. has q b is member) member t;
  }

-- ---- members by their places, one after the other
module _ (ar : Arithmetic) (none both : Diagram) (members : List PredId) (old : List Diagram) where
  -- the first n of these members have their first sets
  pub record AreBegunTo (n : ℕ) (sets : List Diagram) : Type 0 where
    pub each : length sets ≡ length old
    pub done : (j : ℕ) (a : PredId) → j < n → slice_get members j ≡ Some a → slice_get sets a.0 ≡ Some (set_as none both (kind_of ar a.0))
    pub others : (q : ℕ) → ((j : ℕ) (a : PredId) → slice_get members j ≡ Some a → (q ≡ a.0) → ⊥) → slice_get sets q ≡ slice_get old q

  pub begun_next : (n : ℕ) (sets : List Diagram) (a : PredId) → slice_get members n ≡ Some a → a.0 < length sets → AreBegunTo n sets → AreBegunTo (n + 1) (slice_set sets a.0 (set_as none both (kind_of ar a.0)))
  begun_next n sets a at lt b = record {
    each = length-set sets a.0 (set_as none both (kind_of ar a.0)) ∙ b.each;
    done = λ j x below there. elim (cases_eq x.0 a.0) [
      | inl same ↦
          ap (slice_get (slice_set sets a.0 (set_as none both (kind_of ar a.0)))) same ∙ set_there sets a.0 (set_as none both (kind_of ar a.0)) lt
          ∙ ap (λ (k : ℕ). Some (set_as none both (kind_of ar k))) (sym same)
      | inr other ↦
          set_elsewhere sets a.0 x.0 (set_as none both (kind_of ar a.0)) other ∙ b.done j x (earlier j x below there other) there
    ];
    others = λ q off. set_elsewhere sets a.0 q (set_as none both (kind_of ar a.0)) (off n a at) ∙ b.others q off;
  }
    where
      earlier : (j : ℕ) (x : PredId) → j < n + 1 → slice_get members j ≡ Some x → ((x.0 ≡ a.0) → ⊥) → j < n
      earlier j x below there other = elim (cases_eq j n) [
        | inl same ↦
            let e : slice_get members n ≡ Some x = ap (slice_get members) (sym same) ∙ there in
            let is : x ≡ a = cc in
            absurd (other (ap (λ (y : PredId). y.0) is))
        | inr ne ↦ omega (arith, below, ne)
      ]

contained : (members : List PredId) (j : ℕ) (a : PredId) → slice_get members j ≡ Some a → Contains (map pred_number members) a.0
contained [] j a at = cc
contained (x ∷ members) zero a at = (let is : x ≡ a = cc in (0, omega arith, ap pred_number is))
contained (x ∷ members) (suc j) a at = (let r = contained members j a at in (suc r.0, omega (arith, r.1), r.2))

module _ (p : Listing) (comps : Partition) (are : AreComponents p comps) (c : ℕ) (members : List PredId) (is : slice_get comps.members c ≡ Some (map pred_number members)) where
  pub begun_all : (none both : Diagram) (old sets : List Diagram) → AreBegunTo p.arithmetic none both members old (length members) sets → AreBegun p.arithmetic (is_member comps c) none both old sets
  begun_all none both old sets b = record {
    each = b.each;
    members = λ q d on_ at.
        let own = number_of c (component_of comps q) on_ in
        let place = member_place members q ((are.members c (map pred_number members) is q).1 own) in
        let there = b.done place.0 place.1 (place_below members place.0 place.1 place.2) place.2 in
        let here : slice_get sets q ≡ Some (set_as none both (kind_of p.arithmetic q)) = subst (λ (k : ℕ). slice_get sets k ≡ Some (set_as none both (kind_of p.arithmetic k))) (sym place.3) there in
        cc;
    others = λ q off. b.others q (λ j a at same.
        let own = member_within j a at in
        let on_ : is_member comps c q ≡ true = ap (is_member comps c) same ∙ number_is c (component_of comps a.0) own in
        cc);
  }
    where
      member_within : (j : ℕ) (a : PredId) → slice_get members j ≡ Some a → component_of comps a.0 ≡ Some c
      member_within j a at = (are.members c (map pred_number members) is a.0).0 (contained members j a at)

  pub member_there : (j : ℕ) (a : PredId) → slice_get members j ≡ Some a → a.0 < length p.preds
  member_there j a at =
      let own = (are.members c (map pred_number members) is a.0).0 (contained members j a at) in
      omega (arith, place_below comps.of a.0 c own, are.each)
