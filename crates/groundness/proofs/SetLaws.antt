-- What it does to the family of the sets that the rows of a clause are added.
use Rattle.std.proofs.Common.{◌≡◌, ◌↔◌, inl, inr, ℕ, ◌<◌, Bool, ◌||◌, IsTrue, List, length, slice_get, slice_set, slice_index_or, Option, Some, refl, ap, sym, subst, ◌∙◌, arith}
use Rattle.std.proofs.lemmas.Bool.{cases_eq, or_cases, or_left, or_right}
use Rattle.std.proofs.lemmas.List.{length-map}
use Rattle.bool_diagrams.specs.declared.diagram.Diagram.{Diagram}
use Rattle.bool_diagrams.specs.Cubes.{truth_rows, values_of}
use Rattle.bool_diagrams.specs.Rows.{IsDiagram, Keeps, HaveSameRows, ReadsBelow, holds}
use Rattle.bool_diagrams.specs.Tree.{Tree as Rows}
use Rattle.bool_diagrams.proofs.CallerLemmas.{holds_later, keeps_twice}
use Rattle.call_components.proofs.Lists.{slice_get-set_same, slice_get-set_other}
use Rattle.cti_terms.specs.declared.clauses.Clause.{Clause}
use Rattle.cti_terms.specs.declared.predicates.Pred.{Pred}
use Rattle.cti_terms.specs.Listing.{Listing, IsAtom, IsClause, IsProgram}
use Rattle.cti_terms.specs.Tree.{Tree}
use Rattle.termination_model.specs.grounds.Grounds.{Family, HasArity, IsClosedUnder, IsGround, IsInside, truth_row}
use Rattle.truth_rows.specs.Ready.{HasAtoms}
use Rattle.truth_rows.specs.Sets.{AreSets, family_of, has_row}
use Rattle.groundness.specs.Sets.{AddsOnlyNeeded, Gives}
use Rattle.groundness.specs.Marks.{IsApart}
use Rattle.groundness.specs.Missing.{all_missing}
use Rattle.truth_rows.proofs.CallerLemmas.{family_later, sets_later, sets_with}
use Rattle.truth_rows.proofs.SetLaws.{none, some_is, family_in, family_put, row_is, truths_of, atom_there}
use Rattle.groundness.proofs.MissingLaws.{all_missing_set, missing_less}
use Rattle.termination_model.proofs.Lists.{by_places, from_places, place_below, there}
use Rattle.truth_rows.proofs.RowLaws.{same_bool, first_row, first_values, length-first}

module _ (p : Listing) (program : IsProgram p) (trees : List Rows) (sets : List Diagram) (S : AreSets p.preds trees sets) where
  module _ (truth : (ℕ → Bool) → Tree → Bool) (T1 T2 : List Rows) (K1 : Keeps trees T1) (K2 : Keeps T1 T2) (k : Clause) (c : IsClause p.preds k) (given joined : Diagram) (known : IsDiagram T2 joined)
      (G : (row : ℕ → Bool) → IsTrue (holds T1 given row) ↔ Gives truth trees sets k row) (J : (row : ℕ → Bool) → holds T2 joined row ≡ (holds T1 (slice_index_or sets k.head.pred.0 none) row || holds T1 given row)) where
    q : ℕ
    q = k.head.pred.0

    d0 : Diagram
    d0 = slice_index_or sets k.head.pred.0 none

    at_q : slice_get sets k.head.pred.0 ≡ Some (slice_index_or sets k.head.pred.0 none)
    at_q = there sets k.head.pred.0 none (atom_there p program trees sets S k.vars k.head c.head)

    -- the old set of the head, in the later tables
    pub old_now : (row : ℕ → Bool) → holds T1 (slice_index_or sets k.head.pred.0 none) row ≡ holds trees (slice_index_or sets k.head.pred.0 none) row
    old_now row = holds_later trees T1 _ K1 (S.known k.head.pred.0 _ at_q) row

    pub added_sets : AreSets p.preds T2 (slice_set sets k.head.pred.0 joined)
    added_sets = sets_with p.preds T2 sets (sets_later p.preds trees T2 (keeps_twice trees T1 T2 K1 K2) sets S) k.head.pred.0 joined (atom_there p program trees sets S k.vars k.head c.head) known joined_reads
      where
        gives_other : (n : ℕ) → length k.head.args ≡ n → (row row' : ℕ → Bool) → ((v : ℕ) → v < n → row v ≡ row' v) → Gives truth trees sets k row → Gives truth trees sets k row'
        gives_other n l row row' agree s = (s.0, s.1, λ j t lt at. sym (agree j (omega arith)) ∙ s.2 j t lt at)

        joined_reads : (n : ℕ) → HasArity p.preds k.head.pred.0 n → ReadsBelow T2 joined n
        joined_reads n ar = λ row row' agree.
            let a = some_is (λ (x : Pred). x.arity ≡ length k.head.args) (slice_get p.preds k.head.pred.0) c.head.arity in
            let b = some_is (λ (x : Pred). x.arity ≡ n) (slice_get p.preds k.head.pred.0) ar in
            let is : a.0 ≡ b.0 = cc in
            let l : length k.head.args ≡ n = sym a.2 ∙ ap (λ (x : Pred). x.arity) is ∙ b.2 in
            let left = old_now row ∙ S.reads k.head.pred.0 n _ at_q ar row row' agree ∙ sym (old_now row') in
            let right = same_bool (holds T1 given row) (holds T1 given row') (λ t. (G row').1 (gives_other n l row row' agree ((G row).0 t))) (λ t. (G row).1 (gives_other n l row' row (λ v lt. sym (agree v lt)) ((G row').0 t))) in
            J row ∙ (λ i. left i || right i) ∙ sym (J row')

    -- what the clause gives is in each family that is closed under it and has the old rows
    pub given_inside : (other : Family) → IsClosedUnder truth other k → IsInside (family_of p.preds trees sets) other → (row : List Bool) → length row ≡ length k.head.args → Gives truth trees sets k (values_of row) → IsTrue (other k.head.pred.0 row)
    given_inside other closed inside row long s =
        let is = row_is truth s.0 row k.head.args long s.2 in
        subst (λ xs. IsTrue (other k.head.pred.0 xs)) (sym is)
        (closed s.0 (from_places (IsGround truth other s.0) k.body (λ j b at.
        let a = by_places (IsAtom p.preds k.vars) k.body c.body j b at in
        let w = some_is (λ (x : Pred). x.arity ≡ length b.args) (slice_get p.preds b.pred.0) a.arity in
        let d = slice_index_or sets b.pred.0 none in
        let e = there sets b.pred.0 none (atom_there p program trees sets S k.vars b a) in
        inside b.pred.0 (truth_row truth s.0 b) (family_put p.preds trees sets b.pred.0 (truth_row truth s.0 b) w.0 d w.1 e (w.2 ∙ sym (length-map b.args (truth s.0))) (s.1 j b (place_below k.body j b at) at d e)))))

    pub added_needed : AddsOnlyNeeded truth k (family_of p.preds trees sets) (family_of p.preds T2 (slice_set sets k.head.pred.0 joined))
    added_needed = λ other closed inside r row h.
        let f = family_in p.preds T2 (slice_set sets k.head.pred.0 joined) r row h in
        elim (cases_eq r k.head.pred.0) [
          | inl same ↦ here other closed inside r row same f.0 f.1 f.2 f.3 f.4 f.5
          | inr different ↦
              let e = sym (slice_get-set_other sets k.head.pred.0 r joined different) ∙ f.3 in
              inside r row (family_put p.preds trees sets r row f.0 f.1 f.2 e f.4 (sym (holds_later trees T2 f.1 (keeps_twice trees T1 T2 K1 K2) (S.known r f.1 e) (values_of row)) ∙ f.5))
        ]
      where
        here : (other : Family) → IsClosedUnder truth other k → IsInside (family_of p.preds trees sets) other → (r : ℕ) (row : List Bool) → r ≡ k.head.pred.0 → (x : Pred) (d : Diagram) → slice_get p.preds r ≡ Some x → slice_get (slice_set sets k.head.pred.0 joined) r ≡ Some d → x.arity ≡ length row → IsTrue (truth_rows T2 d row) → IsTrue (other r row)
        here other closed inside r row same x d ex ed ar t =
            let f : slice_get (slice_set sets k.head.pred.0 joined) r ≡ Some joined = ap (slice_get (slice_set sets k.head.pred.0 joined)) same ∙ slice_get-set_same sets k.head.pred.0 joined (atom_there p program trees sets S k.vars k.head c.head) in
            let is : d ≡ joined = cc in
            let ex' : slice_get p.preds k.head.pred.0 ≡ Some x = ap (slice_get p.preds) (sym same) ∙ ex in
            let a = some_is (λ (y : Pred). y.arity ≡ length k.head.args) (slice_get p.preds k.head.pred.0) c.head.arity in
            let px : a.0 ≡ x = cc in
            let long : length row ≡ length k.head.args = sym ar ∙ ap (λ (y : Pred). y.arity) (sym px) ∙ a.2 in
            let t' : IsTrue (holds T2 joined (values_of row)) = subst (λ (y : Diagram). IsTrue (holds T2 y (values_of row))) is t in
            subst (λ m. IsTrue (other m row)) (sym same)
            (elim (or_cases _ _ (sym (J (values_of row)) ∙ t')) [
              | inl l ↦ inside k.head.pred.0 row (family_put p.preds trees sets k.head.pred.0 row x _ ex' at_q ar (sym (old_now (values_of row)) ∙ l))
              | inr g ↦ given_inside other closed inside row long ((G (values_of row)).0 g)
            ])

    pub added_closed : HaveSameRows T2 (slice_index_or sets k.head.pred.0 none) joined → IsClosedUnder truth (family_of p.preds T2 sets) k
    added_closed same = λ v body.
        let row = truth_row truth v k.head in
        let a = some_is (λ (x : Pred). x.arity ≡ length k.head.args) (slice_get p.preds k.head.pred.0) c.head.arity in
        let kk = keeps_twice trees T1 T2 K1 K2 in
        let atoms : HasAtoms truth trees sets v k.body (length k.body) = λ j b lt at d e.
        (let f = family_in p.preds T2 sets b.pred.0 (truth_row truth v b) (by_places (IsGround truth (family_of p.preds T2 sets) v) k.body body j b at) in
        let g = f.3 in
        let is : f.1 ≡ d = cc in
        sym (holds_later trees T2 d kk (S.known b.pred.0 d e) (values_of (truth_row truth v b))) ∙ subst (λ (y : Diagram). IsTrue (truth_rows T2 y (truth_row truth v b))) is f.5) in
        let gives = (G (values_of row)).1 (v, atoms, truths_of truth v k.head.args) in
        family_put p.preds T2 sets k.head.pred.0 row a.0 (slice_index_or sets k.head.pred.0 none) a.1 at_q (a.2 ∙ sym (length-map k.head.args (truth v)))
        (same (values_of row) ∙ J (values_of row) ∙ or_right _ _ gives)

    -- the sets of the other predicates stay, and that of the head grows
    pub added_others : (r : ℕ) → ((r ≡ k.head.pred.0) → ⊥) → family_of p.preds T2 (slice_set sets k.head.pred.0 joined) r ≡ family_of p.preds trees sets r
    added_others r ne = λ i row.
        (ap (λ (o : Option Diagram). has_row (slice_get p.preds r) T2 o row) (slice_get-set_other sets k.head.pred.0 r joined ne)
        ∙ ap (λ (f : Family). f r row) (family_later p.preds trees T2 (keeps_twice trees T1 T2 K1 K2) sets S.known)) i

    put_joined : (row : List Bool) → length row ≡ length k.head.args → IsTrue (holds T2 joined (values_of row)) → IsTrue (family_of p.preds T2 (slice_set sets k.head.pred.0 joined) k.head.pred.0 row)
    put_joined row long t =
        let a = some_is (λ (x : Pred). x.arity ≡ length k.head.args) (slice_get p.preds k.head.pred.0) c.head.arity in
        family_put p.preds T2 (slice_set sets k.head.pred.0 joined) k.head.pred.0 row a.0 joined a.1 (slice_get-set_same sets k.head.pred.0 joined (atom_there p program trees sets S k.vars k.head c.head)) (a.2 ∙ sym long) t

    pub added_inside : IsInside (family_of p.preds trees sets) (family_of p.preds T2 (slice_set sets k.head.pred.0 joined))
    added_inside r row t = elim (cases_eq r k.head.pred.0) [
      | inl same ↦ subst (λ m. IsTrue (family_of p.preds T2 (slice_set sets k.head.pred.0 joined) m row)) (sym same) (own (subst (λ m. IsTrue (family_of p.preds trees sets m row)) same t))
      | inr other ↦ ap (λ (f : List Bool → Bool). f row) (added_others r other) ∙ t
    ]
      where
        own : IsTrue (family_of p.preds trees sets k.head.pred.0 row) → IsTrue (family_of p.preds T2 (slice_set sets k.head.pred.0 joined) k.head.pred.0 row)
        own h =
            let f = family_in p.preds trees sets k.head.pred.0 row h in
            let a = some_is (λ (x : Pred). x.arity ≡ length k.head.args) (slice_get p.preds k.head.pred.0) c.head.arity in
            let e = f.2 in
            let g = a.1 in
            let px : f.0 ≡ a.0 = cc in
            let u = f.3 in
            let w = at_q in
            let is : f.1 ≡ slice_index_or sets k.head.pred.0 none = cc in
            put_joined row (sym f.4 ∙ ap (λ (x : Pred). x.arity) px ∙ a.2)
            (J (values_of row) ∙ or_left _ _ (old_now (values_of row) ∙ subst (λ (y : Diagram). IsTrue (truth_rows trees y row)) is f.5))

    -- a clause whose body does not ask for its head gives nothing more
    pub added_apart : IsApart k k.head.pred.0 → IsClosedUnder truth (family_of p.preds T2 (slice_set sets k.head.pred.0 joined)) k
    added_apart apart = λ v body.
        let row = truth_row truth v k.head in
        let atoms : HasAtoms truth trees sets v k.body (length k.body) = λ j b lt at d e.
        (let t = by_places (IsGround truth (family_of p.preds T2 (slice_set sets k.head.pred.0 joined)) v) k.body body j b at in
        let f = family_in p.preds trees sets b.pred.0 (truth_row truth v b) (ap (λ (f : List Bool → Bool). f (truth_row truth v b)) (sym (added_others b.pred.0 (apart j b at))) ∙ t) in
        let g = f.3 in
        let is : f.1 ≡ d = cc in
        subst (λ (y : Diagram). IsTrue (truth_rows trees y (truth_row truth v b))) is f.5) in
        let gives = (G (values_of row)).1 (v, atoms, truths_of truth v k.head.args) in
        put_joined row (length-map k.head.args (truth v)) (J (values_of row) ∙ or_right _ _ gives)

    pub added_less : (HaveSameRows T2 (slice_index_or sets k.head.pred.0 none) joined → ⊥) → all_missing p.preds T2 (slice_set sets k.head.pred.0 joined) < all_missing p.preds trees sets
    added_less apart =
        let a = some_is (λ (x : Pred). x.arity ≡ length k.head.args) (slice_get p.preds k.head.pred.0) c.head.arity in
        all_missing_set p.preds trees T2 (keeps_twice trees T1 T2 K1 K2) sets k.head.pred.0 a.0 (slice_index_or sets k.head.pred.0 none) joined a.1 at_q S.known
        (missing_less a.0.arity (truth_rows trees (slice_index_or sets k.head.pred.0 none)) (truth_rows T2 joined) (λ row t. grows (values_of row) t) (λ back. apart (λ row. fewer a.0 a.1 back row)))
      where
        grows : (row : ℕ → Bool) → IsTrue (holds trees (slice_index_or sets k.head.pred.0 none) row) → IsTrue (holds T2 joined row)
        grows row t = J row ∙ or_left _ _ (old_now row ∙ t)

        fewer : (x : Pred) → slice_get p.preds k.head.pred.0 ≡ Some x → ((row : List Bool) → length row ≡ x.arity → IsTrue (truth_rows T2 joined row) → IsTrue (truth_rows trees (slice_index_or sets k.head.pred.0 none) row)) → (row : ℕ → Bool) → holds T2 (slice_index_or sets k.head.pred.0 none) row ≡ holds T2 joined row
        fewer x ex back row =
            let kk = keeps_twice trees T1 T2 K1 K2 in
            let ar : HasArity p.preds k.head.pred.0 x.arity = rw ex refl in
            let late = holds_later trees T2 (slice_index_or sets k.head.pred.0 none) kk (S.known k.head.pred.0 _ at_q) row in
            let agree = λ (v : ℕ) (lt : v < x.arity). sym (first_values x.arity row v lt) in
            let e1 = added_sets.reads k.head.pred.0 x.arity joined (slice_get-set_same sets k.head.pred.0 joined (atom_there p program trees sets S k.vars k.head c.head)) ar row (values_of (first_row x.arity row)) agree in
            let e2 = S.reads k.head.pred.0 x.arity _ at_q ar row (values_of (first_row x.arity row)) agree in
            same_bool _ _ (λ t. grows row (sym late ∙ t)) (λ t. late ∙ e2 ∙ back (first_row x.arity row) (length-first x.arity row) (sym e1 ∙ t))
