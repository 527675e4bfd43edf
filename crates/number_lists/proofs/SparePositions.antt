-- Supports of lists in a large component, without one position after another.
use Rattle.std.proofs.Common.{◌≡◌, ◌↔◌, ◌⊎◌, inl, inr, ℕ, suc, ◌+◌, ◌<◌, ◌≤◌, true, IsTrue, List, [], ◌∷◌, ◌++◌, take, slice_get, length, None, Some, refl, ap, sym, subst, arith}
use Rattle.transitions.specs.Transitions.{Transition}
use Rattle.number_lists.specs.declared.position.Position.{Position}
use Rattle.level_systems.specs.Found.{without_number}
use Rattle.number_lists.specs.FoundLists.{AreFoundLists, MayBeMissing, count, support_of_list}
use Rattle.linear_rows.specs.Members.{In}
use Rattle.linear_rows.proofs.Members.{in-left, in-right, of-append}
use Rattle.termination_model.specs.grounds.Minimal.{IsSet}
use Rattle.termination_model.specs.grounds.Modes.{is_part}
use Rattle.termination_model.proofs.Lists.{taken_more}
use Rattle.level_systems.specs.Subsequences.{AreOnce}
use Rattle.level_dual.proofs.LargeLaws.{not_before, not_within, place_in, take_whole, taken_in, without_in, without_not, without_set}
use Rattle.level_dual.proofs.Subsequences.{once_push}
use Rattle.number_lists.specs.Found.{IsVoid}
use Rattle.number_lists.specs.Large.{AreTried, IsHadList, IsLeftOut}
use Rattle.number_lists.specs.declared.large.LeftOut.TheVariants.{None as NoneLeft}
use Rattle.number_lists.specs.declared.measure_list.MeasureList.{MeasureList}
use Rattle.number_lists.proofs.ListSupports.{list_sets}

module _ (members : List ℕ) (positions : List Position) (τs : List Transition) (width : ℕ → ℕ) where
  abbrev void : List ℕ → Type 0
  void = IsVoid members positions τs width

  abbrev given_up_at : List ℕ → Type 0
  given_up_at = MayBeMissing members positions τs

  abbrev tried_to : List ℕ → ℕ → List (List ℕ) → Type 0
  tried_to = AreTried members positions τs width

  abbrev many : ℕ
  many = count members positions τs

  pub none_tried : (s : List ℕ) → tried_to s 0 []
  none_tried s = record { tried = λ i k. absurd k; tested = λ t k. absurd k; given_up = λ t k. absurd k; once = tt }

  module _ (s : List ℕ) (k i : ℕ) (at : slice_get s k ≡ Some i) (blown : List (List ℕ)) (h : tried_to s k blown) where
    one_more : (j : ℕ) → In j (take (k + 1) s) → In j (take k s) ⊎ (i ≡ j)
    one_more j m = elim (of-append (take k s) (i ∷ []) j (subst (In j) (taken_more s k i at) m)) [
      | inl old ↦ inl old
      | inr new ↦ elim new [ inl e ↦ inr e | inr none ↦ absurd none ]
    ]

    old_more : (j : ℕ) → In j (take k s) → In j (take (k + 1) s)
    old_more j m = subst (In j) (sym (taken_more s k i at)) (in-left (take k s) (i ∷ []) j m)

    new_more : In i (take (k + 1) s)
    new_more = subst (In i) (sym (taken_more s k i at)) (in-right (take k s) (i ∷ []) i (inl refl))

    pub void_too : void (without_number i s) → tried_to s (k + 1) blown
    void_too e = record {
      tried = λ j m. elim (one_more j m) [
        | inl old ↦ h.tried j old
        | inr same ↦ inr (subst (λ (n : ℕ). void (without_number n s)) same e)
      ];
      tested = λ t m. let w = h.tested t m in (w.0, old_more w.0 w.1, w.2);
      given_up = h.given_up;
      once = h.once;
    }

    not_yet : AreOnce s → In (without_number i s) blown → ⊥
    not_yet once m =
        let w = h.tested (without_number i s) m in
        let differ : w.0 ≡ i → ⊥ = λ e. not_before s k i once at (subst (λ n. In n (take k s)) e w.1) in
        without_not i s (subst (In i) (sym w.2) (without_in w.0 s i (place_in s k i at) differ))

    pub given_up_too : AreOnce s → given_up_at (without_number i s) → tried_to s (k + 1) (blown ++ without_number i s ∷ [])
    given_up_too once here = record {
      tried = λ j m. elim (one_more j m) [
        | inl old ↦ elim (h.tried j old) [ inl b ↦ inl (in-left blown (without_number i s ∷ []) (without_number j s) b) | inr e ↦ inr e ]
        | inr same ↦ inl (in-right blown (without_number i s ∷ []) (without_number j s) (inl (ap (λ n. without_number n s) same)))
      ];
      tested = λ t m. elim (of-append blown (without_number i s ∷ []) t m) [
        | inl old ↦ let w = h.tested t old in (w.0, old_more w.0 w.1, w.2)
        | inr new ↦ elim new [ inl e ↦ (i, new_more, sym e) | inr none ↦ absurd none ]
      ];
      given_up = λ t m. elim (of-append blown (without_number i s ∷ []) t m) [
        | inl old ↦ h.given_up t old
        | inr (inl e) ↦ subst given_up_at e here
        | inr (inr none) ↦ absurd none
      ];
      once = once_push blown (without_number i s) h.once (not_yet once);
    }

  pub all_tried : (s : List ℕ) (k : ℕ) (blown : List (List ℕ)) → length s ≤ k → tried_to s k blown → IsLeftOut members positions τs width s (NoneLeft blown)
  all_tried s k blown l h = ((λ i m. h.tried i (subst (In i) (sym (take_whole s k l)) m)), h.given_up, h.once, λ t m. let w = h.tested t m in (w.0, w.2, taken_in s k w.0 w.1))

  -- what is found where no position of a list can be left out
  pub spare_found : IsTrue true ↔ (12 < many) → (l : MeasureList) → IsHadList members positions τs width l → (blown : List (List ℕ))
      → IsLeftOut members positions τs width (support_of_list members positions τs width l) (NoneLeft blown) → AreFoundLists members positions τs width (record { lists = l ∷ []; stuck = None; blown = blown; large = true })
  spare_found large l had_list blown left =
      let s = support_of_list members positions τs width l in
      let set = list_sets members positions τs s had_list.has in
      record {
        large = large;
        lists = (had_list.list, tt);
        small = λ e. cc;
        more = λ _. record {
          few = omega arith;
          single = (had_list.single, tt);
          spare = (left.0, tt);
          decided = inl (omega arith);
          given_up = left.1;
          left_out = λ u m t i. elim m [
            | inl e ↦ subst (λ (z : List ℕ). (k : ℕ) × In k z × (t ≡ without_number k z)) e (let w = left.3 t i in (w.0, w.2, w.1))
            | inr none ↦ absurd none
          ];
        };
        stuck = ((λ k. absurd (k refl)), λ k. absurd (k.0 s had_list.has));
        shown = λ r e. cc;
        sets = λ t i. let w = left.3 t i in subst (IsSet 1 (suc many)) (sym w.1) (without_set 1 (suc many) w.0 s set);
        once = left.2;
        apart = λ t i above. elim above.1 [
          | inl e ↦ let w = left.3 t i in not_within w.0 s w.2 (subst (λ (u : List ℕ). is_part s u ≡ true) w.1 (subst (λ (u : List ℕ). is_part u t ≡ true) (sym e) above.2))
          | inr none ↦ absurd none
        ];
      }
