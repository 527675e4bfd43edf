-- Members of a component get their marks, one after the other.
use Rattle.std.proofs.Common.{◌≡◌, ◌↔◌, ℕ, zero, suc, ◌+◌, ◌<◌, Bool, true, false, inl, inr, List, [], ◌∷◌, map, length, slice_get, slice_set, Option, None, Some, Contains, refl, ap, sym, subst, ◌∙◌, arith}
use Rattle.std.proofs.lemmas.Bool.{cases_eq}
use Rattle.std.proofs.lemmas.List.{length-set}
use Rattle.call_components.specs.Numbers.{number_of}
use Rattle.call_components.specs.Partition.{Partition, AreComponents, IsIn}
use Rattle.call_components.proofs.Lists.{slice_get-set_same, slice_get-set_other}
use Rattle.cti_terms.specs.Listing.{Listing}
use Rattle.cti_terms.specs.declared.predicates.Pred.{Pred}
use Rattle.cti_terms.specs.declared.predicates.PredId.{PredId}
use Rattle.termination_model.proofs.Lists.{one_element, place_below}
use Rattle.groundness.proofs.ComponentLaws.{member_place}
use Rattle.solved_program.specs.Marks.{AreMarked, AreMarkedTo, is_marked}
use Rattle.solved_program.specs.declared.edit.Edit.{Edit}

abbrev index_or : Option Bool → Bool
index_or None = false
index_or (Some b) = b

mark_is : (marks : List Bool) (r : ℕ) → is_marked marks r ≡ index_or (slice_get marks r)
mark_is [] r = refl
mark_is (b ∷ marks) zero = refl
mark_is (b ∷ marks) (suc r) = mark_is marks r

module _ (HasStayed : ℕ → Type 0) (members : List PredId) (old : List Bool) where
  -- the first n of these members have their marks
  pub record AreMarkedUpTo (n : ℕ) (marks : List Bool) : Type 0 where
    pub each : length marks ≡ length old
    pub done : (j : ℕ) (a : PredId) → j < n → slice_get members j ≡ Some a → (is_marked marks a.0 ≡ true) ↔ HasStayed a.0
    pub others : (r : ℕ) → ((j : ℕ) (a : PredId) → slice_get members j ≡ Some a → (r ≡ a.0) → ⊥) → is_marked marks r ≡ is_marked old r

  pub marked_next : (n : ℕ) (marks : List Bool) (a : PredId) (b : Bool) → slice_get members n ≡ Some a → a.0 < length marks → ((b ≡ true) ↔ HasStayed a.0) → AreMarkedUpTo n marks → AreMarkedUpTo (n + 1) (slice_set marks a.0 b)
  marked_next n marks a b at lt iff m = record {
    each = length-set marks a.0 b ∙ m.each;
    done = λ j x below there. elim (cases_eq x.0 a.0) [
      | inl same ↦
          let here : is_marked (slice_set marks a.0 b) x.0 ≡ b = mark_is (slice_set marks a.0 b) x.0 ∙ ap (λ (k : ℕ). index_or (slice_get (slice_set marks a.0 b) k)) same ∙ ap index_or (slice_get-set_same marks a.0 b lt) in
          subst (λ (k : ℕ). (is_marked (slice_set marks a.0 b) x.0 ≡ true) ↔ HasStayed k) (sym same) (λ e. iff.0 (sym here ∙ e), λ h. here ∙ iff.1 h)
      | inr other ↦
          let kept : is_marked (slice_set marks a.0 b) x.0 ≡ is_marked marks x.0 = mark_is (slice_set marks a.0 b) x.0 ∙ ap index_or (slice_get-set_other marks a.0 x.0 b other) ∙ sym (mark_is marks x.0) in
          let before = m.done j x (earlier j x below there other) there in
          (λ e. before.0 (sym kept ∙ e), λ h. kept ∙ before.1 h)
    ];
    others = λ r off. mark_is (slice_set marks a.0 b) r ∙ ap index_or (slice_get-set_other marks a.0 r b (off n a at)) ∙ sym (mark_is marks r) ∙ m.others r off;
  }
    where
      earlier : (j : ℕ) (x : PredId) → j < n + 1 → slice_get members j ≡ Some x → ((x.0 ≡ a.0) → ⊥) → j < n
      earlier j x below there other = elim (cases_eq j n) [
        | inl same ↦
            let e : slice_get members n ≡ Some x = ap (slice_get members) (sym same) ∙ there in
            let is : x ≡ a = cc in
            absurd (other (ap (λ (y : PredId). y.0) is))
        | inr ne ↦ omega (arith, below, ne)
      ]

contained : (members : List PredId) (j : ℕ) (a : PredId) → slice_get members j ≡ Some a → Contains (map number_of members) a.0
contained [] j a at = cc
contained (x ∷ members) zero a at = (let is : x ≡ a = cc in (0, omega arith, ap number_of is))
contained (x ∷ members) (suc j) a at = (let r = contained members j a at in (suc r.0, omega (arith, r.1), r.2))

module _ (p : Listing) (comps : Partition) (are : AreComponents p comps) (c : ℕ) (members : List PredId) (is : slice_get comps.members c ≡ Some (map number_of members)) where
  pub own_member : (j : ℕ) (a : PredId) → slice_get members j ≡ Some a → IsIn comps c a.0
  own_member j a at = (are.members c (map number_of members) is a.0).0 (contained members j a at)

  pub member_below : (j : ℕ) (a : PredId) → slice_get members j ≡ Some a → a.0 < length p.preds
  member_below j a at = omega (arith, place_below comps.of a.0 c (own_member j a at), are.each)

  pub marked_all : (HasStayed : ℕ → Type 0) (old marks : List Bool) → AreMarkedUpTo HasStayed members old (length members) marks → AreMarked comps c HasStayed old marks
  marked_all HasStayed old marks m = record {
    each = m.each;
    members = λ r own.
        let place = member_place members r ((are.members c (map number_of members) is r).1 own) in
        subst (λ (k : ℕ). (is_marked marks k ≡ true) ↔ HasStayed k) (sym place.3) (m.done place.0 place.1 (place_below members place.0 place.1 place.2) place.2);
    others = λ r off. m.others r (λ j a at same. off (ap (slice_get comps.of) same ∙ own_member j a at));
  }

-- one more component has its marks
pub marked_more : {X : Type 0} (e : Edit) (c : ℕ) (old now new : ℕ → X) (marks more : List Bool) (HasStayed : ℕ → Type 0) → AreMarkedTo e c old now marks → AreMarked e.components.now c HasStayed marks more
    → ((r : ℕ) → (IsIn e.components.now c r → ⊥) → new r ≡ now r)
    → ((q r : ℕ) (x : Pred) → slice_get e.before.now.preds q ≡ Some x → slice_get e.after.now.preds r ≡ Some x → IsIn e.components.now c r → HasStayed r ↔ (new r ≡ old q))
    → AreMarkedTo e (c + 1) old new more
marked_more e c old now new marks more HasStayed to is kept stayed = record {
  each = is.each ∙ to.each;
  exact = λ q r d x here there own lt. elim (cases_eq d c) [
    | inl same ↦
        let mine : IsIn e.components.now c r = own ∙ ap Some same in
        let m = is.members r mine in
        let s = stayed q r x here there mine in
        (λ t. s.0 (m.0 t), λ h. m.1 (s.1 h))
    | inr ne ↦
        let off : IsIn e.components.now c r → ⊥ = λ mine. ne (one_element e.components.now.of r d c own mine) in
        let before = to.exact q r d x here there own (omega (arith, lt, ne)) in
        let mark = is.others r off in
        (λ t. kept r off ∙ before.0 (sym mark ∙ t), λ h. mark ∙ before.1 (sym (kept r off) ∙ h))
  ];
}
