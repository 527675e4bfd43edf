-- One more component of an edited program has its ground rows.
use Rattle.std.proofs.Common.{◌≡◌, ◌↔◌, ℕ, ◌+◌, ◌<◌, ◌≤◌, ◌==◌, ◌&&◌, Bool, true, false, IsTrue, inl, inr, List, length, slice_get, slice_index_or, Option, None, Some, IsSomeAnd, refl, ap, sym, subst, ◌∙◌, arith, eq-eqb}
use Rattle.std.proofs.lemmas.Bool.{cases_eq}
use Rattle.bool_diagrams.specs.declared.diagram.Diagram.{Diagram}
use Rattle.bool_diagrams.specs.Cubes.{truth_rows, values_of}
use Rattle.bool_diagrams.specs.Rows.{HaveSameRows, IsDiagram, Keeps, ReadsBelow, holds}
use Rattle.bool_diagrams.specs.Tree.{Tree as Rows}
use Rattle.call_components.specs.Partition.{Partition, AreComponents, IsIn}
use Rattle.cti_terms.specs.Listing.{Listing, IsProgram}
use Rattle.cti_terms.specs.Tree.{Tree}
use Rattle.cti_terms.specs.declared.predicates.Pred.{Pred}
use Rattle.termination_model.specs.chains.Chain.{is_member, component_of}
use Rattle.termination_model.specs.grounds.LeastOver.{IsLeastOver}
use Rattle.groundness.specs.Sets.{KeepsOtherSets}
use Rattle.groundness.proofs.ComponentLaws.{AreLeastTo as AreFoundTo, least_more}
use Rattle.groundness.proofs.RoundLaws.{kept_later}
use Rattle.termination_model.specs.grounds.Grounds.{Family, HasArity}
use Rattle.termination_model.proofs.Lists.{one_element, place_below, there}
use Rattle.truth_rows.specs.Sets.{AreSets, family_of, has_row}
use Rattle.truth_rows.proofs.CallerLemmas.{family_later, sets_later}
use Rattle.truth_rows.proofs.RowLaws.{first_row, first_values, length-first}
use Rattle.truth_rows.proofs.SetLaws.{family_in}
use Rattle.component_laws.proofs.LeastLaws.{carried, least_by_components}
use Rattle.solved_program.specs.Carried.{AreCarriedValues}
use Rattle.solved_program.specs.Grounds.{AreCarriedSets, AreGroundsTo, AreLeastTo, AreSolvedGrounds, SolvedGroundsAreLeast}
use Rattle.solved_program.specs.Kept.{IsEdit}
use Rattle.solved_program.specs.Marks.{Always, AreMarked, AreMarkedTo, StandsMarked}
use Rattle.solved_program.specs.Standing.{KeepValuesTo, StandsFor}
use Rattle.solved_program.specs.declared.edit.Edit.{Edit}
use Rattle.solved_program.proofs.MemberMarks.{marked_more}
use Rattle.solved_program.proofs.Marks.{stands_by_mark, stands_by_value}
use Rattle.solved_program.proofs.Stands.{stands_same}
use Rattle.solved_program.proofs.StandsIn.{IsShared, agree, f, off_member, stand_in}

-- a predicate of no component has no rows
no_others : (p : Listing) (comps : Partition) → IsProgram p → AreComponents p comps → (T : List Rows) (sets : List Diagram) (q : ℕ) (row : List Bool) → component_of comps q ≡ None → IsTrue (family_of p.preds T sets q row) → ⊥
no_others p comps prog are T sets q row none t =
    let f = family_in p.preds T sets q row t in
    let below = place_below p.preds q f.0 f.2 in
    let at = there comps.of q 0 (omega (arith, below, are.each)) in
    cc

pub solved_grounds_are_least : SolvedGroundsAreLeast
solved_grounds_are_least truth p comps T sets prog are s = (least_by_components truth p comps (family_of p.preds T sets) prog are (no_others p comps prog are T sets)).1 s.least

-- ---- the same rows, and the same family
module _ (preds : List Pred) (T : List Rows) (sets other : List Diagram) (S : AreSets preds T sets) (O : AreSets preds T other) (r : ℕ) (x : Pred) (at : slice_get preds r ≡ Some x) (d e : Diagram) (here : slice_get sets r ≡ Some d) (there' : slice_get other r ≡ Some e) where
  row_here : (row : List Bool) → family_of preds T sets r row ≡ ((x.arity == length row) && truth_rows T d row)
  row_here row = λ i. has_row (at i) T (here i) row

  row_there : (row : List Bool) → family_of preds T other r row ≡ ((x.arity == length row) && truth_rows T e row)
  row_there row = λ i. has_row (at i) T (there' i) row

  pub family_of_rows : HaveSameRows T d e → family_of preds T sets r ≡ family_of preds T other r
  family_of_rows same = λ i row. (row_here row ∙ ap (λ (b : Bool). (x.arity == length row) && b) (same (values_of row)) ∙ sym (row_there row)) i

  arity : HasArity preds r x.arity
  arity = subst (λ (o : Option Pred). IsSomeAnd o (λ (y : Pred). y.arity ≡ x.arity)) (sym at) refl

  on_first : (row : ℕ → Bool) (b : Bool) → (((x.arity == length (first_row x.arity row)) && b) ≡ b)
  on_first row b = ap (λ (t : Bool). t && b) (eq-eqb x.arity (length (first_row x.arity row)) (sym (length-first x.arity row)))

  pub rows_of_family : family_of preds T sets r ≡ family_of preds T other r → HaveSameRows T d e
  rows_of_family same = λ row.
      let us = first_row x.arity row in
      S.reads r x.arity d here arity row (values_of us) (λ v lt. sym (first_values x.arity row v lt))
      ∙ sym (row_here us ∙ on_first row (truth_rows T d us))
      ∙ ap (λ (g : List Bool → Bool). g us) same
      ∙ (row_there us ∙ on_first row (truth_rows T e us))
      ∙ sym (O.reads r x.arity e there' arity row (values_of us) (λ v lt. sym (first_values x.arity row v lt)))

nobody : Pred
nobody = record { name = record { 0 = 0 }; arity = 0 }

-- a comparison of two places is one of their rows
pub same_places : (preds : List Pred) (T : List Rows) (sets other : List Diagram) → AreSets preds T sets → AreSets preds T other → (r : ℕ) → r < length preds → (d e : Diagram) → slice_get sets r ≡ Some d → slice_get other r ≡ Some e
    → (b : Bool) → (IsTrue b ↔ HaveSameRows T d e) → ((b ≡ true) ↔ (family_of preds T sets r ≡ family_of preds T other r))
same_places preds T sets other S O r lt d e here there' b iff =
    let x = slice_index_or preds r nobody in
    let at = there preds r nobody lt in
    (λ t. family_of_rows preds T sets other S O r x at d e here there' (iff.0 t), λ h. iff.1 (rows_of_family preds T sets other S O r x at d e here there' h))

-- ---- what was there before, under the new numbers
pub same_family : (preds new_preds : List Pred) (T : List Rows) (old carried : List Diagram) (q r : ℕ) (x : Pred) → slice_get preds q ≡ Some x → slice_get new_preds r ≡ Some x → slice_get carried r ≡ slice_get old q
    → family_of new_preds T carried r ≡ family_of preds T old q
same_family preds new_preds T old carried q r x here there' same = λ i row. has_row ((there' ∙ sym here) i) T (same i) row

-- ---- one more component
module _ (truth : (ℕ → Bool) → Tree → Bool) (e : Edit) (prog : IsProgram e.before.now) (new_prog : IsProgram e.after.now) (is : IsEdit e) (old first : List Diagram) (c : ℕ) (T : List Rows) (sets : List Diagram) (marks more : List Bool)
    (O : AreSets e.before.now.preds T old) (F : AreCarriedSets e T old first) (to : AreGroundsTo truth e old first c T sets marks) where
  abbrev p : Listing
  p = e.before.now

  abbrev new : Listing
  new = e.after.now

  abbrev comps : Partition
  comps = e.components_before.now

  abbrev new_comps : Partition
  new_comps = e.components.now

  abbrev before : Family
  before = family_of p.preds T old

  abbrev now : Family
  now = family_of new.preds T sets

  -- members of components to come have the rows that they had
  later_rows : (q r d : ℕ) (x : Pred) → slice_get p.preds q ≡ Some x → slice_get new.preds r ≡ Some x → IsIn new_comps d r → c ≤ d → now r ≡ before q
  later_rows q r d x here there' i le = same_family p.preds new.preds T old sets q r x here there' (to.later r d i le ∙ F.same q r x here there')

  -- ---- taken over
  module _ (solved : AreSolvedGrounds truth p comps T old) (b : ℕ) (below : b < length comps.members) (stands : StandsMarked e marks b c) (marked : AreMarked new_comps c Always marks more) where
    by_value : StandsFor comps new_comps b c before now p new e.kept.now
    by_value = stands_by_value e prog new_prog is c before now marks to.marked b stands

    members : (q r : ℕ) (x : Pred) → slice_get p.preds q ≡ Some x → slice_get new.preds r ≡ Some x → IsIn new_comps c r → now r ≡ before q
    members q r x here there' i = later_rows q r c x here there' i (omega arith)

    abbrev Known : ℕ → Type 0
    Known = IsShared p new comps new_comps prog new_prog is.components_before is.components e.kept.now is.kept b c before now by_value members

    one_least : IsLeastOver truth new (is_member new_comps c) now now
    one_least =
        carried truth Known (f p new comps new_comps prog new_prog is.components_before is.components e.kept.now is.kept b c before now by_value members) p new (is_member comps b) (is_member new_comps c)
        (stand_in p new comps new_comps prog new_prog is.components_before is.components e.kept.now is.kept b c before now by_value members) before before now now
        (agree p new comps new_comps prog new_prog is.components_before is.components e.kept.now is.kept b c before now by_value members)
        (agree p new comps new_comps prog new_prog is.components_before is.components e.kept.now is.kept b c before now by_value members) (solved.least b below)

    pub ground_carried : AreGroundsTo truth e old first (c + 1) T sets more
    ground_carried = record {
      sets_are = to.sets_are;
      least = λ d lt. elim (cases_eq d c) [
        | inl same ↦ subst (λ (k : ℕ). IsLeastOver truth new (is_member new_comps k) now now) (sym same) one_least
        | inr ne ↦ to.least d (omega (arith, lt, ne))
      ];
      marked = marked_more e c before now now marks more Always to.marked marked (λ r off. refl) (λ q r x here there' i. (λ any. members q r x here there' i, λ same. tt));
      stayed = λ a d lt h q r x here there' i. elim (cases_eq d c) [
        | inl same ↦ members q r x here there' (i ∙ ap Some same)
        | inr ne ↦ to.stayed a d (omega (arith, lt, ne)) h q r x here there' i
      ];
      later = λ r d i le. to.later r d i (omega (arith, le));
    }

  -- ---- solved
  module _ (T2 : List Rows) (K : Keeps T T2) (sets2 : List Diagram) (S2 : AreSets new.preds T2 sets2) (others : KeepsOtherSets (is_member new_comps c) sets sets2)
      (least : IsLeastOver truth new (is_member new_comps c) now (family_of new.preds T2 sets2)) (none : (b : ℕ) → StandsMarked e marks b c → ⊥)
      (marked : AreMarked new_comps c (λ r. family_of new.preds T2 sets2 r ≡ family_of new.preds T2 first r) marks more) where
    abbrev after : Family
    after = family_of new.preds T2 sets2

    kept : (r : ℕ) → is_member new_comps c r ≡ false → after r ≡ now r
    kept r off = kept_later new.preds T T2 K sets to.sets_are.known sets2 r (others r off)

    kept_row : (r : ℕ) → (IsIn new_comps c r → ⊥) → after r ≡ now r
    kept_row r off = kept r (off_member new_comps c r off)

    outside : (r d : ℕ) → IsIn new_comps d r → ((d ≡ c) → ⊥) → IsIn new_comps c r → ⊥
    outside r d i ne j = ne (one_element new_comps.of r d c i j)

    before_same : family_of p.preds T2 old ≡ before
    before_same = family_later p.preds T T2 K old O.known

    found : AreFoundTo truth new new_comps c now
    found = record { least = to.least; none = no_others new new_comps new_prog is.components T sets }

    all_least : AreLeastTo truth new new_comps (c + 1) after
    all_least = (least_more truth new new_comps new_prog is.components c now after found kept least).least

    -- what stands now stood before this component was solved
    stood : (b d : ℕ) → d < c + 1 → StandsFor comps new_comps b d before after p new e.kept.now → StandsFor comps new_comps b d before now p new e.kept.now
    stood b d lt h = stands_same p new comps new_comps new_prog is.components e.kept.now b d before after now (λ r k i less. sym (kept_row r (outside r k i (λ same. absurd (omega (arith, lt, less, same)))))) h

    stays : KeepValuesTo e (c + 1) before after
    stays b d lt h q r x here there' i = elim (cases_eq d c) [
      | inl same ↦
          let mine : StandsFor comps new_comps b c before now p new e.kept.now = subst (λ (k : ℕ). StandsFor comps new_comps b k before now p new e.kept.now) same (stood b d lt h) in
          absurd (none b (stands_by_mark e prog new_prog is c before now marks to.marked b mine))
      | inr ne ↦ kept_row r (outside r d i ne) ∙ to.stayed b d (omega (arith, lt, ne)) (stood b d lt h) q r x here there' i
    ]

    first_rows : (q r : ℕ) (x : Pred) → slice_get p.preds q ≡ Some x → slice_get new.preds r ≡ Some x → family_of new.preds T2 first r ≡ before q
    first_rows q r x here there' = same_family p.preds new.preds T2 old first q r x here there' (F.same q r x here there') ∙ ap (λ (g : Family). g q) before_same

    marks_are : AreMarkedTo e (c + 1) before after more
    marks_are = marked_more e c before now after marks more (λ r. after r ≡ family_of new.preds T2 first r) to.marked marked kept_row
        (λ q r x here there' i. (λ same. same ∙ first_rows q r x here there', λ same. same ∙ sym (first_rows q r x here there')))

    pub ground_solved : AreGroundsTo truth e old first (c + 1) T2 sets2 more
    ground_solved = record {
      sets_are = S2;
      least = all_least;
      marked = subst (λ (g : Family). AreMarkedTo e (c + 1) g after more) (sym before_same) marks_are;
      stayed = subst (λ (g : Family). KeepValuesTo e (c + 1) g after) (sym before_same) stays;
      later = λ r d i le. others r (off_member new_comps c r (outside r d i (λ same. absurd (omega (arith, le, same))))) ∙ to.later r d i (omega (arith, le));
    }

-- ---- nothing is found yet
pub grounds_begin : (truth : (ℕ → Bool) → Tree → Bool) (e : Edit) (old first : List Diagram) (T : List Rows) (marks : List Bool) → AreCarriedSets e T old first → length marks ≡ length e.after.now.preds → AreGroundsTo truth e old first 0 T first marks
grounds_begin truth e old first T marks F each = record {
  sets_are = F.sets_are;
  least = λ c lt. absurd (omega (arith, lt));
  marked = record { each = each; exact = λ q r d x here there' i lt. absurd (omega (arith, lt)) };
  stayed = λ b c lt h q r x here there' i. absurd (omega (arith, lt));
  later = λ r d i le. refl;
}

-- what sources need of a table stays while it grows
pub carried_later : (e : Edit) (T T2 : List Rows) → Keeps T T2 → (old first : List Diagram) → AreCarriedSets e T old first → AreCarriedSets e T2 old first
carried_later e T T2 K old first F = record { sets_are = sets_later e.after.now.preds T T2 K first F.sets_are; same = F.same }

pub solved_later : (truth : (ℕ → Bool) → Tree → Bool) (p : Listing) (comps : Partition) (T T2 : List Rows) → Keeps T T2 → (old : List Diagram) → AreSolvedGrounds truth p comps T old → AreSolvedGrounds truth p comps T2 old
solved_later truth p comps T T2 K old s = record {
  sets_are = sets_later p.preds T T2 K old s.sets_are;
  least = subst (AreLeastTo truth p comps (length comps.members)) (sym (family_later p.preds T T2 K old s.sets_are.known)) s.least;
}

-- ---- diagrams under new numbers
pub carried_all : (e : Edit) (T : List Rows) (old : List Diagram) (none : Diagram) (sets : List Diagram) → IsDiagram T none → ((row : ℕ → Bool) → holds T none row ≡ false) → AreSets e.before.now.preds T old → length sets ≡ length e.after.now.preds
    → AreCarriedValues e old none sets → AreCarriedSets e T old sets
carried_all e T old none sets known off O each all = record {
  sets_are = record {
    each = each;
    known = λ r d at. elim (all r d at).from [
      | inl is ↦ subst (IsDiagram T) (sym is) known
      | inr was ↦ O.known was.0 d was.4
    ];
    reads = λ r n d at arity. elim (all r d at).from [
      | inl is ↦ subst (λ (x : Diagram). ReadsBelow T x n) (sym is) (λ row other agree. off row ∙ sym (off other))
      | inr was ↦ O.reads was.0 n d was.4 (subst (λ (o : Option Pred). IsSomeAnd o (λ (x : Pred). x.arity ≡ n)) (was.3 ∙ sym was.2) arity)
    ];
  };
  same = λ q r x here there'.
      let at = there sets r none (omega (arith, each, place_below e.after.now.preds r x there')) in
      at ∙ sym ((all r _ at).same q x here there');
}
