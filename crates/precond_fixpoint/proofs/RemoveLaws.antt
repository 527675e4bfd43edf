-- What removing the broken rows of a clause does to the families.
use Rattle.std.proofs.Common.{◌≡◌, ◌↔◌, inl, inr, ◌⊎◌, ℕ, zero, suc, ◌<◌, [], ◌∷◌, Bool, true, false, ◌&&◌, not, if◌then◌else◌, IsTrue, List, length, take, slice_get, slice_set, slice_index_or, Some, refl, ap, sym, subst, ◌∙◌, arith}
use Rattle.std.proofs.lemmas.Bool.{cases_eq}
use Rattle.std.specs.List.{AllByRecursion}
use Rattle.bool_diagrams.specs.declared.diagram.Diagram.{Diagram}
use Rattle.bool_diagrams.specs.Cubes.{truth_rows, values_of}
use Rattle.bool_diagrams.specs.Rows.{IsDiagram, Keeps, HaveSameRows, ReadsBelow, holds}
use Rattle.bool_diagrams.specs.Tree.{Tree as Rows}
use Rattle.bool_diagrams.proofs.CallerLemmas.{holds_later}
use Rattle.call_components.proofs.Lists.{slice_get-set_same, slice_get-set_other}
use Rattle.cti_terms.specs.declared.atom_list.Atom.{Atom}
use Rattle.cti_terms.specs.declared.clauses.Clause.{Clause}
use Rattle.cti_terms.specs.declared.predicates.Pred.{Pred}
use Rattle.cti_terms.specs.Listing.{Listing, IsAtom, IsClause, IsProgram}
use Rattle.cti_terms.specs.Tree.{Tree}
use Rattle.termination_model.specs.grounds.Grounds.{Family, HasArity, IsGround, IsInside, truth_row}
use Rattle.truth_rows.specs.Ready.{HasAtom, HasAtoms, HasTruths}
use Rattle.truth_rows.specs.Rules.{KeepsSets, same_rank}
use Rattle.truth_rows.specs.Sets.{AreSets, family_of}
use Rattle.truth_rows.proofs.AtomLaws.{are_first, first_are, ground_is, rule_is}
use Rattle.truth_rows.proofs.CallerLemmas.{family_later, sets_later, sets_with}
use Rattle.truth_rows.proofs.SetLaws.{none, some_is, family_in, family_put, row_is, truths_of, atom_there}
use Rattle.termination_model.proofs.Lists.{by_places, there}
use Rattle.truth_rows.proofs.RowLaws.{both, same_bool, first_row, first_values, length-first}
use Rattle.precond_fixpoint.proofs.FamilyLaws.{family_elsewhere}
use Rattle.precond_fixpoint.specs.Breaking.{Breaks}
use Rattle.precond_fixpoint.specs.Greatest.{IsBroken}
use Rattle.precond_fixpoint.specs.Removing.{RemovesBroken, all_present}
use Rattle.groundness.specs.Marks.{IsApart}
use Rattle.groundness.specs.Missing.{missing}
use Rattle.groundness.proofs.MissingLaws.{missing_less}

rows_later : (T T2 : List Rows) → Keeps T T2 → (d : Diagram) → IsDiagram T d → truth_rows T2 d ≡ truth_rows T d
rows_later T T2 K d known = λ i row. holds_later T T2 d K known (values_of row) i

pub all_present_kept : (preds : List Pred) (T T2 : List Rows) → Keeps T T2 → (sets : List Diagram) → ((r : ℕ) (d : Diagram) → slice_get sets r ≡ Some d → IsDiagram T d) → all_present preds T2 sets ≡ all_present preds T sets
unfolding all_present
all_present_kept [] T T2 K sets known = refl
all_present_kept (p ∷ preds) T T2 K [] known = refl
all_present_kept (p ∷ preds) T T2 K (d ∷ sets) known =
    let e = ap (λ (f : List Bool → Bool). missing p.arity (λ row. not (f row))) (rows_later T T2 K d (known 0 d refl)) in
    let r = all_present_kept preds T T2 K sets (λ r d h. known (suc r) d h) in
    omega (arith, e, r)

all_present_set : (preds : List Pred) (T T2 : List Rows) → Keeps T T2 → (sets : List Diagram) (q : ℕ) (x : Pred) (old new : Diagram) → slice_get preds q ≡ Some x → slice_get sets q ≡ Some old → ((r : ℕ) (d : Diagram) → slice_get sets r ≡ Some d → IsDiagram T d)
    → missing x.arity (λ row. not (truth_rows T2 new row)) < missing x.arity (λ row. not (truth_rows T old row)) → all_present preds T2 (slice_set sets q new) < all_present preds T sets
unfolding all_present
all_present_set [] T T2 K sets q x old new e f known less = cc
all_present_set (p ∷ preds) T T2 K [] q x old new e f known less = cc
all_present_set (p ∷ preds) T T2 K (d ∷ sets) zero x old new e f known less =
    let ip : p ≡ x = cc in
    let id : d ≡ old = cc in
    let a = ap (λ (y : Pred). missing y.arity (λ row. not (truth_rows T2 new row))) ip in
    let b = ap (λ (y : Pred). missing y.arity (λ row. not (truth_rows T d row))) ip in
    let b' = ap (λ (y : Diagram). missing x.arity (λ row. not (truth_rows T y row))) id in
    let r = all_present_kept preds T T2 K sets (λ r d h. known (suc r) d h) in
    omega (arith, a, b, b', r, less)
all_present_set (p ∷ preds) T T2 K (d ∷ sets) (suc q) x old new e f known less =
    let h = ap (λ (g : List Bool → Bool). missing p.arity (λ row. not (g row))) (rows_later T T2 K d (known 0 d refl)) in
    let r = all_present_set preds T T2 K sets q x old new e f (λ r d h. known (suc r) d h) less in
    omega (arith, h, r)

-- the value of a test, with its equation
value : (b : Bool) → (b ≡ true) ⊎ (b ≡ false)
value true = inl refl
value false = inr refl

not_true : (b : Bool) → b ≡ false → not b ≡ true
not_true b h = ap not h

module _ (p : Listing) (program : IsProgram p) (trees : List Rows) (sets grounds allowed : List Diagram) (S : AreSets p.preds trees sets) (GS : AreSets p.preds trees grounds) (AS : AreSets p.preds trees allowed)
    (truth : (ℕ → Bool) → Tree → Bool) (ranks : List ℕ) (T2 : List Rows) (K : Keeps trees T2) (k : Clause) (c : IsClause p.preds k) (kept : Diagram) (known : IsDiagram T2 kept) (B : (ℕ → Bool) → Bool)
    (G : (row : ℕ → Bool) → IsTrue (B row) ↔ ((v : ℕ → Bool) × Breaks truth trees ranks grounds sets allowed k v × HasTruths truth v row k.head.args (length k.head.args)))
    (J : (row : ℕ → Bool) → holds T2 kept row ≡ (holds trees (slice_index_or sets k.head.pred.0 none) row && not (B row))) where
  at_q : slice_get sets k.head.pred.0 ≡ Some (slice_index_or sets k.head.pred.0 none)
  at_q = there sets k.head.pred.0 none (atom_there p program trees sets S k.vars k.head c.head)

  broken_other : (n : ℕ) → length k.head.args ≡ n → (row row' : ℕ → Bool) → ((v : ℕ) → v < n → row v ≡ row' v) → IsTrue (B row) → IsTrue (B row')
  broken_other n l row row' agree t = let s = (G row).0 t in (G row').1 (s.0, s.1, λ j u lt at. sym (agree j (omega arith)) ∙ s.2 j u lt at)

  kept_reads : (n : ℕ) → HasArity p.preds k.head.pred.0 n → ReadsBelow T2 kept n
  kept_reads n ar = λ row row' agree.
      let a = some_is (λ (x : Pred). x.arity ≡ length k.head.args) (slice_get p.preds k.head.pred.0) c.head.arity in
      let b = some_is (λ (x : Pred). x.arity ≡ n) (slice_get p.preds k.head.pred.0) ar in
      let is : a.0 ≡ b.0 = cc in
      let l : length k.head.args ≡ n = sym a.2 ∙ ap (λ (x : Pred). x.arity) is ∙ b.2 in
      let left = S.reads k.head.pred.0 n _ at_q ar row row' agree in
      let right = same_bool (B row) (B row') (broken_other n l row row' agree) (broken_other n l row' row (λ v lt. sym (agree v lt))) in
      J row ∙ (λ i. left i && not (right i)) ∙ sym (J row')

  pub removed_sets : AreSets p.preds T2 (slice_set sets k.head.pred.0 kept)
  removed_sets = sets_with p.preds T2 sets (sets_later p.preds trees T2 K sets S) k.head.pred.0 kept (atom_there p program trees sets S k.vars k.head c.head) known kept_reads

  abbrev pre_family : Family
  pre_family = family_of p.preds trees sets

  chosen_atom : (t : Bool) (v : ℕ → Bool) (b : Atom) → IsAtom p.preds k.vars b → HasAtom truth trees (if t then sets else allowed) v b ↔ IsGround truth (if t then pre_family else family_of p.preds trees allowed) v b
  chosen_atom true v b a = ground_is truth p trees sets S program k.vars v b a
  chosen_atom false v b a = ground_is truth p trees allowed AS program k.vars v b a

  -- a broken row, in the words of families
  broken_is : (row : List Bool) → length row ≡ length k.head.args → IsTrue (B (values_of row))
      → IsBroken truth p (λ r. same_rank ranks r k.head.pred.0) (family_of p.preds trees allowed) (family_of p.preds trees grounds) pre_family k row
  broken_is row long t =
      let s = (G (values_of row)).0 t in
      let one = s.1.1.1 in
      let a = by_places (IsAtom p.preds k.vars) k.body c.body s.1.1.0 one.call one.there in
      record {
        values = s.0;
        head = sym (row_is truth s.0 row k.head.args long s.2);
        place = s.1.1.0;
        call = one.call;
        there = one.there;
        reached = are_first truth p trees grounds GS program k.vars s.0 k.body c.body s.1.1.0 one.reached;
        outside = λ g. one.outside ((chosen_atom (same_rank ranks one.call.pred.0 k.head.pred.0) s.0 one.call a).1 g);
      }

  pub removed_only : RemovesBroken truth p trees T2 ranks grounds allowed sets (slice_set sets k.head.pred.0 kept) k
  removed_only r row h =
      let f = family_in p.preds trees sets r row h in
      elim (cases_eq r k.head.pred.0) [
        | inl same ↦ here r row same f.0 f.1 f.2 f.3 f.4 f.5
        | inr different ↦
            inl (family_put p.preds T2 (slice_set sets k.head.pred.0 kept) r row f.0 f.1 f.2 (slice_get-set_other sets k.head.pred.0 r kept different ∙ f.3) f.4
            (holds_later trees T2 f.1 K (S.known r f.1 f.3) (values_of row) ∙ f.5))
      ]
    where
      here : (r : ℕ) (row : List Bool) → r ≡ k.head.pred.0 → (x : Pred) (d : Diagram) → slice_get p.preds r ≡ Some x → slice_get sets r ≡ Some d → x.arity ≡ length row → IsTrue (truth_rows trees d row)
          → IsTrue (family_of p.preds T2 (slice_set sets k.head.pred.0 kept) r row)
          ⊎ ((r ≡ k.head.pred.0) × IsBroken truth p (λ r. same_rank ranks r k.head.pred.0) (family_of p.preds trees allowed) (family_of p.preds trees grounds) pre_family k row)
      here r row same x d ex ed ar t =
          let ed' : slice_get sets k.head.pred.0 ≡ Some d = ap (slice_get sets) (sym same) ∙ ed in
          let own = at_q in
          let is : d ≡ slice_index_or sets k.head.pred.0 none = cc in
          let ex' : slice_get p.preds k.head.pred.0 ≡ Some x = ap (slice_get p.preds) (sym same) ∙ ex in
          let a = some_is (λ (y : Pred). y.arity ≡ length k.head.args) (slice_get p.preds k.head.pred.0) c.head.arity in
          let px : a.0 ≡ x = cc in
          let long : length row ≡ length k.head.args = sym ar ∙ ap (λ (y : Pred). y.arity) (sym px) ∙ a.2 in
          let t' : holds trees (slice_index_or sets k.head.pred.0 none) (values_of row) ≡ true = subst (λ (y : Diagram). IsTrue (holds trees y (values_of row))) is t in
          elim (value (B (values_of row))) [
            | inl b ↦ inr (same, broken_is row long b)
            | inr b ↦
                inl (subst (λ (m : ℕ). IsTrue (family_of p.preds T2 (slice_set sets k.head.pred.0 kept) m row)) (sym same)
                (family_put p.preds T2 (slice_set sets k.head.pred.0 kept) k.head.pred.0 row x kept ex' (slice_get-set_same sets k.head.pred.0 kept (atom_there p program trees sets S k.vars k.head c.head)) ar
                (J (values_of row) ∙ both (holds trees (slice_index_or sets k.head.pred.0 none) (values_of row)) (not (B (values_of row))) t' (not_true (B (values_of row)) b))))
          ]

  -- what stays was there
  pub removed_inside : IsInside (family_of p.preds T2 (slice_set sets k.head.pred.0 kept)) pre_family
  removed_inside r row h =
      let f = family_in p.preds T2 (slice_set sets k.head.pred.0 kept) r row h in
      elim (cases_eq r k.head.pred.0) [
        | inl same ↦ here r row same f.0 f.1 f.2 f.3 f.4 f.5
        | inr different ↦
            let e : slice_get sets r ≡ Some f.1 = sym (slice_get-set_other sets k.head.pred.0 r kept different) ∙ f.3 in
            family_put p.preds trees sets r row f.0 f.1 f.2 e f.4 (sym (holds_later trees T2 f.1 K (S.known r f.1 e) (values_of row)) ∙ f.5)
      ]
    where
      left_of : (a b : Bool) → (a && b) ≡ true → a ≡ true
      left_of true b h = refl
      left_of false b h = cc

      here : (r : ℕ) (row : List Bool) → r ≡ k.head.pred.0 → (x : Pred) (d : Diagram) → slice_get p.preds r ≡ Some x → slice_get (slice_set sets k.head.pred.0 kept) r ≡ Some d → x.arity ≡ length row → IsTrue (truth_rows T2 d row)
          → IsTrue (family_of p.preds trees sets r row)
      here r row same x d ex ed ar t =
          let own = slice_get-set_same sets k.head.pred.0 kept (atom_there p program trees sets S k.vars k.head c.head) in
          let ed' : slice_get (slice_set sets k.head.pred.0 kept) k.head.pred.0 ≡ Some d = ap (slice_get (slice_set sets k.head.pred.0 kept)) (sym same) ∙ ed in
          let is : d ≡ kept = cc in
          let t' : holds T2 kept (values_of row) ≡ true = subst (λ (y : Diagram). IsTrue (holds T2 y (values_of row))) is t in
          family_put p.preds trees sets r row x (slice_index_or sets k.head.pred.0 none) ex (ap (slice_get sets) same ∙ at_q) ar
          (left_of (holds trees (slice_index_or sets k.head.pred.0 none) (values_of row)) (not (B (values_of row))) (sym (J (values_of row)) ∙ t'))

  and_left_only : (a b : Bool) → a ≡ true → (a && not b) ≡ a → b ≡ true → ⊥
  and_left_only a true h e t = let f : false ≡ true = none_and a ∙ e ∙ h in cc
    where
      none_and : (a : Bool) → false ≡ (a && not true)
      none_and true = refl
      none_and false = refl
  and_left_only a false h e t = cc

  -- where nothing is removed the rule is kept
  pub same_keeps : ((row : ℕ → Bool) → holds T2 kept row ≡ holds trees (slice_index_or sets k.head.pred.0 none) row)
      → KeepsSets truth pre_family (family_of p.preds trees allowed) (family_of p.preds trees grounds) (λ q. same_rank ranks q k.head.pred.0) k
  same_keeps same = (rule_is truth p trees program sets allowed grounds S AS GS k c (λ q. same_rank ranks q k.head.pred.0)).0 stays
    where
      stays : (v : ℕ → Bool) → HasAtom truth trees sets v k.head → (j : ℕ) (b : Atom) → slice_get k.body j ≡ Some b → HasAtoms truth trees grounds v k.body j
          → HasAtom truth trees (if same_rank ranks b.pred.0 k.head.pred.0 then sets else allowed) v b
      stays v head j b at before d e = elim (value (truth_rows trees d (truth_row truth v b))) [
        | inl on ↦ on
        | inr off ↦ absurd (no_break (head, (j, record { call = b; there = at; reached = before; outside = λ has. contradiction (has d e) off })))
      ]
        where
          contradiction : IsTrue (truth_rows trees d (truth_row truth v b)) → truth_rows trees d (truth_row truth v b) ≡ false → ⊥
          contradiction t f = let x : true ≡ false = sym t ∙ f in cc

          no_break : Breaks truth trees ranks grounds sets allowed k v → ⊥
          no_break breaks =
              let row = values_of (truth_row truth v k.head) in
              let b = (G row).1 (v, breaks, truths_of truth v k.head.args) in
              and_left_only (holds trees (slice_index_or sets k.head.pred.0 none) row) (B row) (head (slice_index_or sets k.head.pred.0 none) at_q) (sym (J row) ∙ same row) b

  pub removed_others : (r : ℕ) → ((r ≡ k.head.pred.0) → ⊥) → family_of p.preds T2 (slice_set sets k.head.pred.0 kept) r ≡ family_of p.preds trees sets r
  removed_others = family_elsewhere trees T2 K p.preds sets S.known k.head.pred.0 kept

  -- from a row that stays no values break the rule
  no_break : (v : ℕ → Bool) → IsGround truth (family_of p.preds T2 (slice_set sets k.head.pred.0 kept)) v k.head → Breaks truth trees ranks grounds sets allowed k v → ⊥
  no_break v head breaks =
      let row = truth_row truth v k.head in
      let f = family_in p.preds T2 (slice_set sets k.head.pred.0 kept) k.head.pred.0 row head in
      let own = slice_get-set_same sets k.head.pred.0 kept (atom_there p program trees sets S k.vars k.head c.head) in
      let found = f.3 in
      let is : f.1 ≡ kept = cc in
      let t : holds T2 kept (values_of row) ≡ true = subst (λ (y : Diagram). IsTrue (holds T2 y (values_of row))) is f.5 in
      right_off (holds trees (slice_index_or sets k.head.pred.0 none) (values_of row)) (B (values_of row)) (sym (J (values_of row)) ∙ t) ((G (values_of row)).1 (v, breaks, truths_of truth v k.head.args))
    where
      right_off : (a b : Bool) → (a && not b) ≡ true → b ≡ true → ⊥
      right_off true true h t = cc
      right_off true false h t = cc
      right_off false b h t = cc

  -- so each call is in its set as it was
  stays : (v : ℕ → Bool) → IsGround truth (family_of p.preds T2 (slice_set sets k.head.pred.0 kept)) v k.head → (j : ℕ) (b : Atom) → slice_get k.body j ≡ Some b
      → AllByRecursion (IsGround truth (family_of p.preds trees grounds) v) (take j k.body)
      → (t : Bool) → same_rank ranks b.pred.0 k.head.pred.0 ≡ t → IsGround truth (if t then pre_family else family_of p.preds trees allowed) v b
  stays v head j b at before t e = elim (value ((if t then pre_family else family_of p.preds trees allowed) b.pred.0 (truth_row truth v b))) [
    | inl on ↦ on
    | inr off ↦
        absurd (no_break v head (
          (ground_is truth p trees sets S program k.vars v k.head c.head).1 (removed_inside k.head.pred.0 (truth_row truth v k.head) head),
          (
            j,
            record {
              call = b;
              there = at;
              reached = first_are truth p trees grounds GS program k.vars v k.body c.body j before;
              outside = λ has.
                  let g : IsGround truth (if t then pre_family else family_of p.preds trees allowed) v b =
                  (chosen_atom t v b (by_places (IsAtom p.preds k.vars) k.body c.body j b at)).0 (subst (λ (x : Bool). HasAtom truth trees (if x then sets else allowed) v b) e has) in
                  let x : true ≡ false = sym g ∙ off in
                  cc;
            },
          ),
        ))
  ]

  -- the rule is kept then, if no call of the clause has the head's predicate
  pub removed_keeps : IsApart k k.head.pred.0 → KeepsSets truth (family_of p.preds T2 (slice_set sets k.head.pred.0 kept)) (family_of p.preds trees allowed) (family_of p.preds trees grounds) (λ q. same_rank ranks q k.head.pred.0) k
  removed_keeps apart v head j b at before = moved (same_rank ranks b.pred.0 k.head.pred.0) (stays v head j b at before (same_rank ranks b.pred.0 k.head.pred.0) refl)
    where
      moved : (t : Bool) → IsGround truth (if t then pre_family else family_of p.preds trees allowed) v b → IsGround truth (if t then family_of p.preds T2 (slice_set sets k.head.pred.0 kept) else family_of p.preds trees allowed) v b
      moved true h = ap (λ (f : List Bool → Bool). f (truth_row truth v b)) (removed_others b.pred.0 (apart j b at)) ∙ h
      moved false h = h

  -- where something is removed there are fewer rows
  pub removed_less : (HaveSameRows T2 (slice_index_or sets k.head.pred.0 none) kept → ⊥) → all_present p.preds T2 (slice_set sets k.head.pred.0 kept) < all_present p.preds trees sets
  removed_less apart =
      let a = some_is (λ (x : Pred). x.arity ≡ length k.head.args) (slice_get p.preds k.head.pred.0) c.head.arity in
      all_present_set p.preds trees T2 K sets k.head.pred.0 a.0 (slice_index_or sets k.head.pred.0 none) kept a.1 at_q S.known
      (missing_less a.0.arity (λ row. not (truth_rows trees (slice_index_or sets k.head.pred.0 none) row)) (λ row. not (truth_rows T2 kept row)) (λ row t. not_sub (values_of row) t) (λ back. apart (λ row. fewer a.0 a.1 back row)))
    where
      shrinks : (row : ℕ → Bool) → holds T2 kept row ≡ true → holds trees (slice_index_or sets k.head.pred.0 none) row ≡ true
      shrinks row t = first_of (holds trees (slice_index_or sets k.head.pred.0 none) row) (not (B row)) (sym (J row) ∙ t)
        where
          first_of : (a b : Bool) → (a && b) ≡ true → a ≡ true
          first_of true b h = refl
          first_of false b h = cc

      not_sub : (row : ℕ → Bool) → not (holds trees (slice_index_or sets k.head.pred.0 none) row) ≡ true → not (holds T2 kept row) ≡ true
      not_sub row t = contra (holds trees (slice_index_or sets k.head.pred.0 none) row) (holds T2 kept row) (shrinks row) t
        where
          contra : (a b : Bool) → (b ≡ true → a ≡ true) → not a ≡ true → not b ≡ true
          contra true b h t = cc
          contra false true h t = let x = h refl in cc
          contra false false h t = refl

      fewer : (x : Pred) → slice_get p.preds k.head.pred.0 ≡ Some x
          → ((row : List Bool) → length row ≡ x.arity → IsTrue (not (truth_rows T2 kept row)) → IsTrue (not (truth_rows trees (slice_index_or sets k.head.pred.0 none) row)))
          → (row : ℕ → Bool) → holds T2 (slice_index_or sets k.head.pred.0 none) row ≡ holds T2 kept row
      fewer x ex back row =
          let ar : HasArity p.preds k.head.pred.0 x.arity = rw ex refl in
          let late = holds_later trees T2 (slice_index_or sets k.head.pred.0 none) K (S.known k.head.pred.0 _ at_q) row in
          let agree = λ (v : ℕ) (lt : v < x.arity). sym (first_values x.arity row v lt) in
          let e1 = removed_sets.reads k.head.pred.0 x.arity kept (slice_get-set_same sets k.head.pred.0 kept (atom_there p program trees sets S k.vars k.head c.head)) ar row (values_of (first_row x.arity row)) agree in
          let e2 = S.reads k.head.pred.0 x.arity _ at_q ar row (values_of (first_row x.arity row)) agree in
          late ∙ e2 ∙ bools (holds trees (slice_index_or sets k.head.pred.0 none) (values_of (first_row x.arity row))) (holds T2 kept (values_of (first_row x.arity row)))
          (back (first_row x.arity row) (length-first x.arity row)) (shrinks (values_of (first_row x.arity row))) ∙ sym e1
        where
          bools : (a b : Bool) → (IsTrue (not b) → IsTrue (not a)) → (b ≡ true → a ≡ true) → a ≡ b
          bools true true f g = refl
          bools true false f g = let x = f refl in cc
          bools false true f g = let x = g refl in cc
          bools false false f g = refl

-- sets that stay have the same rows in later tables
pub same_inside : (preds : List Pred) (T T2 : List Rows) → Keeps T T2 → (sets : List Diagram) → AreSets preds T sets → IsInside (family_of preds T2 sets) (family_of preds T sets)
same_inside preds T T2 K sets S q row h = subst (λ (f : Family). IsTrue (f q row)) (family_later preds T T2 K sets S.known) h
