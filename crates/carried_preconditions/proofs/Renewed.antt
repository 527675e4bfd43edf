-- One more component of an edited program has its preconditions.
use Rattle.std.proofs.Common.{◌≡◌, ℕ, ◌+◌, ◌<◌, ℤ, Bool, inl, inr, List, [], ◌∷◌, length, slice_get, Option, Some, refl, ap, sym, subst, ◌∙◌, arith}
use Rattle.std.proofs.lemmas.Bool.{cases_eq}
use Rattle.bool_diagrams.specs.declared.diagram.Diagram.{Diagram}
use Rattle.bool_diagrams.specs.Rows.{Keeps}
use Rattle.bool_diagrams.specs.Tree.{Tree as Rows}
use Rattle.call_components.specs.Partition.{Partition, AreComponents, IsIn}
use Rattle.cti_terms.specs.Listing.{Listing, IsProgram}
use Rattle.cti_terms.specs.Tree.{Tree}
use Rattle.linear_rows.specs.Members.{In}
use Rattle.precond_fixpoint.specs.Solving.{AreMappingSets, AreUnions, IsSolved, is_member}
use Rattle.precond_fixpoint.proofs.ComponentLaws.{solved_after}
use Rattle.precond_fixpoint.proofs.FamilyLaws.{allowed_after}
use Rattle.precond_fixpoint.proofs.PlaceLaws.{is_at_of}
use Rattle.termination_model.specs.chains.Chain.{clauses_of}
use Rattle.termination_model.specs.grounds.Grounds.{Family}
use Rattle.termination_model.proofs.Lists.{one_element}
use Rattle.truth_rows.specs.Sets.{family_of}
use Rattle.truth_rows.proofs.CallerLemmas.{family_later}
use Rattle.component_laws.specs.Renaming.{StandIn}
use Rattle.solved_program.specs.Kept.{IsEdit}
use Rattle.solved_program.specs.Marks.{AreMarked, AreMarkedTo}
use Rattle.solved_program.specs.Standing.{AreSameClauses, KeepOwn, StandsFor}
use Rattle.solved_program.specs.declared.edit.Edit.{Edit}
use Rattle.solved_program.proofs.Clauses.{Numbered, own_component}
use Rattle.solved_program.proofs.Marks.{stands_by_mark, stands_by_value}
use Rattle.solved_program.proofs.MemberMarks.{marked_more}
use Rattle.solved_program.proofs.Stands.{stands_same}
use Rattle.solved_program.proofs.StandsIn.{IsShared, f, stand_in}
use Rattle.carried_preconditions.specs.Resolving.{AreOld, AreSolvedTo, AreSources, HasStayed, MembersHaveStayed, StandsKept, values_before, values_now}
use Rattle.carried_preconditions.specs.Same.{input_values}
use Rattle.carried_preconditions.specs.Solved.{KeepSetsTo}
use Rattle.carried_preconditions.specs.declared.sources.PreconditionSources.{PreconditionSources}
use Rattle.carried_preconditions.proofs.Greatest.{allowed_same, carried_solved}
use Rattle.carried_preconditions.proofs.Later.{inputs_same, rows_same}
use Rattle.carried_preconditions.proofs.Same.{same_here}

abbrev Rows2 : Type 0
Rows2 = (List Bool → Bool) × (List Bool → Bool)

abbrev InputValue : Type 0
InputValue = (List Bool → Bool) × List (List ℤ)

-- an old component for which one stands is there
pub stands_below : {X : Type 0} (p new : Listing) (comps new_comps : Partition) → IsProgram p → AreComponents p comps → (kept : List (Option ℕ)) (b c : ℕ) (old now : ℕ → X) → StandsFor comps new_comps b c old now p new kept → b < length comps.members
stands_below p new comps new_comps prog are kept b c old now h = go (clauses_of p comps b) (clauses_of new new_comps c) (λ k i. i) h.some h.clauses
  where
    go : (ks ls : List Numbered) → ((k : Numbered) → In k ks → In k (clauses_of p comps b)) → (ls ≡ [] → ⊥) → AreSameClauses comps new_comps b c old now kept ks ls → b < length comps.members
    go ks [] w some same = absurd (some refl)
    go [] (l ∷ ls) w some same = absurd same
    go (k ∷ ks) (l ∷ ls) w some same = are.within b k.1.head.pred.0 (own_component p comps prog are b k (w k (inl refl)))

module _ {N : Type 0} (truth : (ℕ → Bool) → Tree → Bool) (s : PreconditionSources N) (prog : IsProgram s.clauses.now.edit.now.before.now) (new_prog : IsProgram s.clauses.now.edit.now.after.now) (c : ℕ) (T : List Rows)
    (S : AreSources s T) (O : AreOld truth s T) (sets : List (List Diagram)) (allowed : List Diagram) (marks : List Bool) (to : AreSolvedTo truth s c T sets allowed)
    (marked : AreMarkedTo s.clauses.now.edit.now c (values_before s T) (values_now s T allowed) marks) where
  abbrev e : Edit
  e = s.clauses.now.edit.now

  abbrev p : Listing
  p = e.before.now

  abbrev new : Listing
  new = e.after.now

  abbrev comps : Partition
  comps = e.components_before.now

  abbrev new_comps : Partition
  new_comps = e.components.now

  abbrev G0 : Family
  G0 = family_of p.preds T s.before.now.inputs.grounds.now

  abbrev A0 : Family
  A0 = family_of p.preds T s.before.now.solved.now.allowed

  abbrev G : Family
  G = family_of new.preds T s.inputs.now.grounds.now

  abbrev A : Family
  A = family_of new.preds T allowed

  abbrev old_sets : List (List Diagram)
  old_sets = s.before.now.solved.now.sets

  abbrev V0 : ℕ → Rows2
  V0 = values_before s T

  abbrev V : ℕ → Rows2
  V = values_now s T allowed

  abbrev I0 : ℕ → InputValue
  I0 = input_values p.preds T s.before.now.inputs

  abbrev I : ℕ → InputValue
  I = input_values new.preds T s.inputs.now

  is : IsEdit e
  is = S.clauses.edit

  -- the component is still to come: its members have the diagrams that they had
  put : KeepOwn e c (slice_get old_sets) (slice_get sets)
  put q r x here there i = to.later q r c x here there i (omega arith)

  own_allowed : KeepOwn e c A0 A
  own_allowed q r x here there i =
      ap (λ (g : Family). g r) to.allowed_are.rows
      ∙ allowed_same p.preds new.preds T old_sets sets q r x here there (put q r x here there i)
      ∙ sym (ap (λ (g : Family). g q) O.allowed_are.rows)

  -- so they have the values that they had, where they have the ground rows that they had
  values_kept : KeepOwn e c I0 I → KeepOwn e c V0 V
  values_kept own q r x here there i =
      let g = ap (λ (v : InputValue). v.0) (own q r x here there i) in
      let a = own_allowed q r x here there i in
      λ j. (g j, a j)

  -- ---- taken over
  own_kept : MembersHaveStayed s T c → KeepOwn e c I0 I
  own_kept h q r x here there i = same_here e I0 I prog r (h r i) q x here there

  pub taken_over : StandsKept s T marks c → AreSolvedTo truth s (c + 1) T sets allowed
  taken_over k = record {
    sets_are = to.sets_are;
    allowed_are = to.allowed_are;
    greatest = λ d lt. elim (cases_eq d c) [
      | inl same ↦ subst (λ (n : ℕ). IsSolved truth new new_comps G s.inputs.now.levels.now T sets n) (sym same) here
      | inr ne ↦ to.greatest d (omega (arith, lt, ne))
    ];
    kept = λ b d lt h own. elim (cases_eq d c) [
      | inl same ↦ λ q r x at there i. put q r x at there (i ∙ ap Some same)
      | inr ne ↦ to.kept b d (omega (arith, lt, ne)) h own
    ];
    later = λ q r d x at there i le. to.later q r d x at there i (omega (arith, le));
  }
    where
      own : KeepOwn e c I0 I
      own = own_kept k.own

      by_value : StandsFor comps new_comps k.component c V0 V p new e.kept.now
      by_value = stands_by_value e prog new_prog is c V0 V marks marked k.component k.stands

      here : IsSolved truth new new_comps G s.inputs.now.levels.now T sets c
      here = carried_solved truth e prog new_prog is k.component c T G0 A0 G A s.before.now.inputs.levels.now s.inputs.now.levels.now old_sets sets by_value (values_kept own)
          (λ q r x at there i. ap (λ (v : InputValue). v.1) (own q r x at there i)) put O.allowed_are.rows to.allowed_are.rows
          (O.greatest k.component (stands_below p new comps new_comps prog is.components_before e.kept.now k.component c V0 V by_value))

  -- ---- each member was there
  were_there : (b : ℕ) → StandsFor comps new_comps b c V0 V p new e.kept.now → KeepOwn e c I0 I → MembersHaveStayed s T c
  were_there b h own r i =
      let members = values_kept own in
      let standing : StandIn (IsShared p new comps new_comps prog new_prog is.components_before is.components e.kept.now is.kept b c V0 V h members) (f p new comps new_comps prog new_prog is.components_before is.components e.kept.now is.kept b c V0 V h members) p new (is_member comps b) (is_member new_comps c)
      = stand_in p new comps new_comps prog new_prog is.components_before is.components e.kept.now is.kept b c V0 V h members in
      let from = standing.from r (is_at_of (slice_get new_comps.of r) c i) in
      let k = from.1 in
      let there : slice_get new.preds r ≡ Some k.pred = ap (slice_get new.preds) (sym from.3) ∙ k.there in
      record { number = from.0; pred = k.pred; here = k.here; there = there; same = own from.0 r k.pred k.here there i }

  -- ---- solved, with what it is in the table after that
  module _ (T2 : List Rows) (K : Keeps T T2) (sets2 : List (List Diagram)) (allowed2 : List Diagram) (S2 : AreMappingSets new.preds T2 sets2) (U2 : AreUnions new.preds T2 sets2 allowed2)
      (others : (r : ℕ) → (IsIn new_comps c r → ⊥) → slice_get sets2 r ≡ slice_get sets r) where
    outside : (r d : ℕ) → IsIn new_comps d r → ((d ≡ c) → ⊥) → IsIn new_comps c r → ⊥
    outside r d i ne j = ne (one_element new_comps.of r d c i j)

    grounds_same : family_of new.preds T2 s.inputs.now.grounds.now ≡ G
    grounds_same = family_later new.preds T T2 K s.inputs.now.grounds.now S.inputs.grounds_are.known

    before_same : values_before s T2 ≡ V0
    before_same = rows_same p.preds T T2 K s.before.now.inputs S.before.grounds_are s.before.now.solved.now.allowed O.allowed_are.sets

    other_value : (r : ℕ) → (IsIn new_comps c r → ⊥) → values_now s T2 allowed2 r ≡ V r
    other_value r off =
        let g = ap (λ (h : Family). h r) grounds_same in
        let a = ap (λ (h : Family). h r) U2.rows ∙ allowed_after T T2 K new.preds sets sets2 to.sets_are r (others r off) ∙ sym (ap (λ (h : Family). h r) to.allowed_are.rows) in
        λ i. (g i, a i)

    stood : (b d : ℕ) → d < c + 1 → StandsFor comps new_comps b d (values_before s T2) (values_now s T2 allowed2) p new e.kept.now → StandsFor comps new_comps b d V0 V p new e.kept.now
    stood b d lt h =
        stands_same p new comps new_comps new_prog is.components e.kept.now b d V0 (values_now s T2 allowed2) V (λ r k i less. sym (other_value r (outside r k i (λ same. absurd (omega (arith, lt, less, same))))))
        (subst (λ (v : ℕ → Rows2). StandsFor comps new_comps b d v (values_now s T2 allowed2) p new e.kept.now) before_same h)

    had : (d : ℕ) → KeepOwn e d (input_values p.preds T2 s.before.now.inputs) (input_values new.preds T2 s.inputs.now) → KeepOwn e d I0 I
    had d own =
        subst (λ (v : ℕ → InputValue). KeepOwn e d I0 v) (inputs_same new.preds T T2 K s.inputs.now S.inputs.grounds_are)
        (subst (λ (v : ℕ → InputValue). KeepOwn e d v (input_values new.preds T2 s.inputs.now)) (inputs_same p.preds T T2 K s.before.now.inputs S.before.grounds_are) own)

    module _ (solved : IsSolved truth new new_comps G s.inputs.now.levels.now T2 sets2 c) (lost : StandsKept s T marks c → ⊥) where
      all_solved : (d : ℕ) → d < c + 1 → IsSolved truth new new_comps G s.inputs.now.levels.now T2 sets2 d
      all_solved d lt = elim (cases_eq d c) [
        | inl same ↦ subst (λ (n : ℕ). IsSolved truth new new_comps G s.inputs.now.levels.now T2 sets2 n) (sym same) solved
        | inr ne ↦
            let less : d < c = omega (arith, lt, ne) in
            solved_after truth new new_comps G s.inputs.now.levels.now T T2 K sets sets2 to.sets_are c others new_prog is.components d less (to.greatest d less)
      ]

      none_lost : (b : ℕ) → StandsFor comps new_comps b c V0 V p new e.kept.now → KeepOwn e c I0 I → ⊥
      none_lost b h own = lost (record { component = b; stands = stands_by_mark e prog new_prog is c V0 V marks marked b h; own = were_there b h own })

      keeps : KeepSetsTo e (c + 1) T2 T2 s.before.now s.inputs.now sets2 allowed2
      keeps b d lt h own = elim (cases_eq d c) [
        | inl same ↦ absurd (none_lost b (subst (λ (n : ℕ). StandsFor comps new_comps b n V0 V p new e.kept.now) same (stood b d lt h)) (subst (λ (n : ℕ). KeepOwn e n I0 I) same (had d own)))
        | inr ne ↦ λ q r x at there i. others r (outside r d i ne) ∙ to.kept b d (omega (arith, lt, ne)) (stood b d lt h) (had d own) q r x at there i
      ]

      pub solved_anew : AreSolvedTo truth s (c + 1) T2 sets2 allowed2
      solved_anew = record {
        sets_are = S2;
        allowed_are = U2;
        greatest = λ d lt. subst (λ (g : Family). IsSolved truth new new_comps g s.inputs.now.levels.now T2 sets2 d) (sym grounds_same) (all_solved d lt);
        kept = keeps;
        later = λ q r d x at there i le. others r (outside r d i (λ same. absurd (omega (arith, le, same)))) ∙ to.later q r d x at there i (omega (arith, le));
      }

    -- ---- and marks
    pub marks_more : (more : List Bool) → AreMarked new_comps c (HasStayed s T2 allowed2) marks more → AreMarkedTo e (c + 1) (values_before s T2) (values_now s T2 allowed2) more
    marks_more more M =
        marked_more e c (values_before s T2) V (values_now s T2 allowed2) marks more (HasStayed s T2 allowed2)
        (subst (λ (v : ℕ → Rows2). AreMarkedTo e c v V marks) (sym before_same) marked) M other_value
        (λ q r x at there i. (
          λ h. same_here e (values_before s T2) (values_now s T2 allowed2) prog r h q x at there,
          λ same. record { number = q; pred = x; here = at; there = there; same = same },
        ))

-- ---- all of them, by what was so in an earlier table
pub kept_first : {N : Type 0} (truth : (ℕ → Bool) → Tree → Bool) (s : PreconditionSources N) (T T2 : List Rows) → Keeps T T2 → AreSources s T → AreOld truth s T → (n : ℕ) (sets : List (List Diagram)) (allowed : List Diagram)
    → KeepSetsTo s.clauses.now.edit.now n T2 T2 s.before.now s.inputs.now sets allowed → KeepSetsTo s.clauses.now.edit.now n T T2 s.before.now s.inputs.now sets allowed
kept_first truth s T T2 K S O n sets allowed k b c lt h own =
    let e = s.clauses.now.edit.now in
    k b c lt
    (subst (λ (v : ℕ → Rows2). StandsFor e.components_before.now e.components.now b c v (values_now s T2 allowed) e.before.now e.after.now e.kept.now)
    (sym (rows_same e.before.now.preds T T2 K s.before.now.inputs S.before.grounds_are s.before.now.solved.now.allowed O.allowed_are.sets)) h)
    (subst (λ (v : ℕ → InputValue). KeepOwn e c v (input_values e.after.now.preds T2 s.inputs.now)) (sym (inputs_same e.before.now.preds T T2 K s.before.now.inputs S.before.grounds_are)) own)
