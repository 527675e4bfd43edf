-- An edit leaves untouched predicates what they had: size rows, ground rows, and measures with their preconditions.
use Rattle.std.proofs.Common.{◌≡◌, ◌<◌, ℕ, ℤ, Bool, true, false, List, length, slice_get, slice_index_or, Some, refl, ap, sym, subst, ◌∙◌, arith}
use Rattle.std.specs.Prelude.{◌↔◌}
use Rattle.bool_diagrams.specs.Tree.{Tree as Rows}
use Rattle.bool_diagrams.specs.declared.cube.Cell.{Cell}
use Rattle.call_components.specs.Partition.{Partition, IsIn}
use Rattle.cert_assembly.proofs.SetParts.{listed_at}
use Rattle.cert_assembly.specs.Spelled.{spelled}
use Rattle.cert_structure.specs.declared.parts.Parts.{Parts}
use Rattle.cti_terms.specs.Listing.{IsProgram, Listing}
use Rattle.cti_terms.specs.Tree.{truth}
use Rattle.cti_terms.specs.declared.predicates.Pred.{Pred}
use Rattle.exact128.specs.Fits.{fits}
use Rattle.linear_rows.specs.Blown.{all_of}
use Rattle.number_tests.specs.declared.level_part.LevelPart.{LevelPart}
use Rattle.precond_fixpoint.proofs.PlaceLaws.{some_at}
use Rattle.precond_fixpoint.specs.Solving.{IsSolved, allowed_family}
use Rattle.cert_structure.specs.Shape.{is_recursive}
use Rattle.report.specs.Levels.{level_list}
use Rattle.report.specs.Solution.{solution_parts}
use Rattle.solved_program.specs.Kept.{IsEdit}
use Rattle.solved_program.specs.Standing.{StandsFor}
use Rattle.solved_program.specs.declared.edit.Edit.{Edit}
use Rattle.term_size.specs.Occurrences.{size_row}
use Rattle.termination_model.specs.chains.Chain.{start_as}
use Rattle.termination_model.specs.grounds.Grounds.{Family}
use Rattle.termination_model.specs.sizes.Sizes.{rows_of}
use Rattle.termination_model.proofs.Lists.{place_below, there as at_there}
use Rattle.truth_rows.specs.Sets.{family_of, has_row}
use Rattle.carried_mappings.proofs.Members.{recursive_alike}
use Rattle.carried_preconditions.specs.Same.{paired}
use Rattle.component_laws.specs.Untouched.{AreUntouched}
use Rattle.kept_clauses.specs.AllKept.{AllKept, IsWithoutClause}
use Rattle.kept_clauses.proofs.UntouchedValues.{untouched_hold}
use Rattle.kept_program.specs.Kept.{IsKept, IsResolvedFrom, findings_in, parts_of}
use Rattle.kept_program.specs.Untouched.{AreBuiltAlike, HasMeasure, HasSameParts, KeepsUntouched}
use Rattle.kept_program.specs.declared.kept.Kept.{Kept}
use Rattle.kept_program.proofs.Alone.{not_recursive, same_ground_rows, starts}
use Rattle.kept_program.proofs.SameLevels.{AreSameLevels, recursive_in, same_mappings, same_plain}
use Rattle.kept_program.proofs.SameMeasures.{same_cubes}
use Rattle.kept_program.proofs.SameParts.{allowed_same, measures_same}
use Rattle.kept_program.proofs.Standing.{KeepGreatest, alone_back, alone_same, member_back, standing_same, stands_by}

-- the size rows of a predicate, its ground rows, and what is allowed of it
abbrev Value : Type 0
Value = List (List ℤ) × ((List Bool → Bool) × (List Bool → Bool))

module _ (e : Edit) (T T' : List Rows) (old now : Kept) (prog : IsProgram e.before.now) (new_prog : IsProgram e.after.now) (is : IsEdit e) (had : IsKept e.before.now e.components_before.now T old)
    (has : IsKept e.after.now e.components.now T' now) (from : IsResolvedFrom e T T' old now) (set : Pred → Bool) (un : AreUntouched e.before.now e.after.now set) (all : AllKept e.before.now e.after.now set e.kept.now)
    (built : AreBuiltAlike e.before.now e.after.now set) where
  abbrev p : Listing
  p = e.before.now

  abbrev new : Listing
  new = e.after.now

  abbrev comps : Partition
  comps = e.components_before.now

  abbrev new_comps : Partition
  new_comps = e.components.now

  abbrev R0 : ℕ → List (List ℤ)
  R0 = rows_of old.numbers.sizes.sizes.rows

  abbrev R : ℕ → List (List ℤ)
  R = rows_of now.numbers.sizes.sizes.rows

  abbrev G0 : Family
  G0 = family_of p.preds T old.sets.grounds.items

  abbrev G : Family
  G = family_of new.preds T' now.sets.grounds.items

  abbrev A0 : Family
  A0 = allowed_family p.preds T old.sets.preconditions.sets

  abbrev A : Family
  A = allowed_family new.preds T' now.sets.preconditions.sets

  abbrev old_value : ℕ → Value
  old_value q = (R0 q, paired G0 A0 q)

  abbrev value : ℕ → Value
  value r = (R r, paired G A r)

  abbrev old_levels : List (List LevelPart)
  old_levels = level_list p comps old.numbers.found

  abbrev levels : List (List LevelPart)
  levels = level_list new new_comps now.numbers.found

  abbrev old_parts : Parts
  old_parts = solution_parts p comps (findings_in T old)

  abbrev parts : Parts
  parts = solution_parts new new_comps (findings_in T' now)

  -- what is shown of each predicate of the set
  record Holds (q r : ℕ) : Type 0 where
    same : value r ≡ old_value q
    measures : (part : LevelPart) (own : List (List Cell)) → HasMeasure parts r part own ↔ HasMeasure old_parts q part own

  -- ---- each component has its greatest rows
  solved : (b : ℕ) → b < length comps.members → IsSolved truth p comps G0 old_levels T old.sets.preconditions.sets b
  solved b lt = subst (λ (ls : List (List LevelPart)). IsSolved truth p comps G0 ls T old.sets.preconditions.sets b) had.numbers.levels (had.sets.greatest b lt)

  new_solved : (c : ℕ) → c < length new_comps.members → IsSolved truth new new_comps G levels T' now.sets.preconditions.sets c
  new_solved c lt = subst (λ (ls : List (List LevelPart)). IsSolved truth new new_comps G ls T' now.sets.preconditions.sets c) has.numbers.levels (has.sets.greatest c lt)

  -- so it is enough to know of rows and mappings
  holds_by : (b c : ℕ) → KeepGreatest truth e b c G0 A0 G A → AreSameLevels e c old_levels levels → (q r : ℕ) (x : Pred) → slice_get p.preds q ≡ Some x → slice_get new.preds r ≡ Some x → IsIn comps b q → IsIn new_comps c r
      → R r ≡ R0 q → G r ≡ G0 q → Holds q r
  holds_by b c keep same q r x here there in_b in_c rows grounds =
      let s = solved b (is.components_before.within b q in_b) in
      let s' = new_solved c (is.components.within c r in_c) in
      let allowed = allowed_same truth e b c T T' old_levels levels old.sets.preconditions.sets now.sets.preconditions.sets G0 G keep same s s' q r x here there in_b in_c in
      record {
        same = λ i. (rows i, (grounds i, allowed i));
        measures = measures_same truth e b c T T' old_levels levels old.sets.preconditions.sets now.sets.preconditions.sets G0 G keep same s s' q r x here there in_b in_c old_parts parts refl refl refl refl;
      }

  -- ---- a component that stands
  module _ (b c : ℕ) (lt : c < length new_comps.members) (stands : StandsFor comps new_comps b c old_value value p new e.kept.now) where
    stands_rows : StandsFor comps new_comps b c R0 R p new e.kept.now
    stands_rows = stands_by comps new_comps b c old_value value R0 R (λ q r off new_off same. ap (λ (v : Value). v.0) same) p new e.kept.now stands

    stands_sets : StandsFor comps new_comps b c (paired G0 A0) (paired G A) p new e.kept.now
    stands_sets = stands_by comps new_comps b c old_value value (paired G0 A0) (paired G A) (λ q r off new_off same. ap (λ (v : Value). v.1) same) p new e.kept.now stands

    stands_grounds : StandsFor comps new_comps b c G0 G p new e.kept.now
    stands_grounds = stands_by comps new_comps b c old_value value G0 G (λ q r off new_off same. ap (λ (v : Value). v.1.0) same) p new e.kept.now stands

    back : (q r : ℕ) (x : Pred) → slice_get p.preds q ≡ Some x → slice_get new.preds r ≡ Some x → IsIn new_comps c r → IsIn comps b q
    back = member_back e prog new_prog is b c old_value value stands

    levels_stand : b < length comps.members → AreSameLevels e c old_levels levels
    levels_stand inner = go (slice_index_or comps.recursive b true) (slice_index_or new_comps.recursive c true) was is_now alike
      where
        was : slice_get comps.recursive b ≡ Some (slice_index_or comps.recursive b true)
        was = at_there comps.recursive b true (let n = is.components_before.answers in omega arith)

        is_now : slice_get new_comps.recursive c ≡ Some (slice_index_or new_comps.recursive c true)
        is_now = at_there new_comps.recursive c true (let n = is.components.answers in omega arith)

        alike : slice_index_or comps.recursive b true ≡ slice_index_or new_comps.recursive c true
        alike = recursive_alike p new comps new_comps prog new_prog is.components_before is.components e.kept.now is.kept b c old_value value stands (slice_index_or comps.recursive b true) (slice_index_or new_comps.recursive c true) was is_now

        go : (t u : Bool) → slice_get comps.recursive b ≡ Some t → slice_get new_comps.recursive c ≡ Some u → t ≡ u → AreSameLevels e c old_levels levels
        go true true so new_so same =
            let x = some_at old.numbers.found b (let n = had.numbers.found.each in omega arith) in
            let f = some_at now.numbers.found c (let n = has.numbers.found.each in omega arith) in
            same_mappings e b c old.numbers.found now.numbers.found back x.0 f.0 x.1 f.1 so new_so (from.numbers.found c f.0 f.1 b x.0 stands_rows x.1).mappings
        go false false so new_so same = same_plain e b c old.numbers.found now.numbers.found back (λ q r x here there i. (recursive_in comps b q false (back q r x here there i) so, recursive_in new_comps c r false i new_so))
        go true false so new_so same = cc
        go false true so new_so same = cc

    holds_standing : (q r : ℕ) (x : Pred) → slice_get p.preds q ≡ Some x → slice_get new.preds r ≡ Some x → set x ≡ true → IsIn new_comps c r → Holds q r
    holds_standing q r x here there among i =
        let in_b = back q r x here there i in
        holds_by b c (standing_same truth e prog new_prog is b c G0 A0 G A stands_sets (from.grounds b c lt stands_grounds)) (levels_stand (is.components_before.within b q in_b)) q r x here there in_b i
        (from.numbers.rows b c lt stands_rows q r x here there i) (from.grounds b c lt stands_grounds q r x here there i)

  -- ---- a predicate without clauses
  module _ (b c q r : ℕ) (x : Pred) (here : slice_get p.preds q ≡ Some x) (there : slice_get new.preds r ≡ Some x) (among : set x ≡ true) (none : IsWithoutClause p q) (new_none : IsWithoutClause new r)
      (in_b : IsIn comps b q) (in_c : IsIn new_comps c r) where
    inner : b < length comps.members
    inner = is.components_before.within b q in_b

    new_inner : c < length new_comps.members
    new_inner = is.components.within c r in_c

    rows_alone : R r ≡ R0 q
    rows_alone =
        let own = some_at old.numbers.sizes.steps b (let n = had.numbers.sizes.each in omega (arith, inner)) in
        let own' = some_at now.numbers.sizes.steps c (let n = has.numbers.sizes.each in omega (arith, new_inner)) in
        let run = (had.numbers.sizes.parts b own.0 own.1).run in
        let run' = (has.numbers.sizes.parts c own'.0 own'.1).run in
        starts new new_comps new_prog is.components c r in_c new_none (all_of fits) size_row R (has.numbers.sizes.parts c own'.0 own'.1).passes R run'
        ∙ (λ i. start_as (built q r x here there among i) ((there ∙ sym here) i))
        ∙ sym (starts p comps prog is.components_before b q in_b none (all_of fits) size_row R0 (had.numbers.sizes.parts b own.0 own.1).passes R0 run)

    grounds_alone : G r ≡ G0 q
    grounds_alone = same_ground_rows p new comps new_comps prog new_prog is.components_before is.components b c q r in_b in_c none new_none (built q r x here there among) truth G0 G
        (had.sets.grounds.least b inner) (has.sets.grounds.least c new_inner)

    both : (s t : ℕ) (y : Pred) → slice_get p.preds s ≡ Some y → slice_get new.preds t ≡ Some y → IsIn new_comps c t → (q ≡ s) × (r ≡ t)
    both = alone_back truth e prog new_prog is b c q r x here there in_b in_c none new_none (built q r x here there among) G0 A0 G A grounds_alone

    levels_alone : AreSameLevels e c old_levels levels
    levels_alone = same_plain e b c old.numbers.found now.numbers.found (λ s t y h w i. subst (λ (u : ℕ). IsIn comps b u) (both s t y h w i).0 in_b)
        (λ s t y h w i. (
          subst (λ (u : ℕ). is_recursive comps u ≡ false) (both s t y h w i).0 (not_recursive p comps prog is.components_before b q in_b none),
          subst (λ (u : ℕ). is_recursive new_comps u ≡ false) (both s t y h w i).1 (not_recursive new new_comps new_prog is.components c r in_c new_none),
        ))

    holds_alone : Holds q r
    holds_alone =
        holds_by b c (alone_same truth e prog new_prog is b c q r x here there in_b in_c none new_none (built q r x here there among) G0 A0 G A grounds_alone) levels_alone q r x here there in_b in_c rows_alone grounds_alone

  placed : (comps : Partition) (preds : List Pred) (q : ℕ) (x : Pred) → length comps.of ≡ length preds → slice_get preds q ≡ Some x → (b : ℕ) × IsIn comps b q
  placed comps preds q x each at = (slice_index_or comps.of q 0, at_there comps.of q 0 (let lt = place_below preds q x at in omega arith))

  holds : (q r : ℕ) (x : Pred) → slice_get p.preds q ≡ Some x → slice_get new.preds r ≡ Some x → set x ≡ true → Holds q r
  holds = untouched_hold e set old_value value prog new_prog is un all Holds (λ q r h. h.same) (λ b c lt of_set stands. holds_standing b c lt stands) (λ q r x here there among none new_none.
      let b = placed comps p.preds q x is.components_before.each here in
      let c = placed new_comps new.preds r x is.components.each there in
      holds_alone b.0 c.0 q r x here there among none new_none b.1 c.1)

  -- ---- the parts of certificates
  cubes_same : (q r : ℕ) (x : Pred) → slice_get p.preds q ≡ Some x → slice_get new.preds r ≡ Some x → G r ≡ G0 q → spelled (slice_get new.preds r) T' (slice_get now.sets.grounds.items r) ≡ spelled (slice_get p.preds q) T (slice_get old.sets.grounds.items q)
  cubes_same q r x here there same =
      let d = some_at old.sets.grounds.items q (let n = had.sets.grounds.sets_are.each in let lt = place_below p.preds q x here in omega arith) in
      let d' = some_at now.sets.grounds.items r (let n = has.sets.grounds.sets_are.each in let lt = place_below new.preds r x there in omega arith) in
      (λ i. spelled (there i) T' (d'.1 i))
      ∙ same_cubes x T T' d.0 d'.0 ((λ i. has_row (sym there i) T' (sym d'.1 i)) ∙ same ∙ (λ i. has_row (here i) T (d.1 i)))
      ∙ (λ i. spelled (sym here i) T (sym d.1 i))

  pub untouched_parts : (q r : ℕ) (x : Pred) → slice_get p.preds q ≡ Some x → slice_get new.preds r ≡ Some x → set x ≡ true → HasSameParts old_parts parts q r
  untouched_parts q r x here there among =
      let h = holds q r x here there among in
      record {
        rows = ap (λ (v : Value). v.0) h.same;
        grounds = listed_at (λ (s : ℕ). spelled (slice_get new.preds s) T' (slice_get now.sets.grounds.items s)) (length new.preds) r (place_below new.preds r x there)
            ∙ cubes_same q r x here there (ap (λ (v : Value). v.1.0) h.same)
            ∙ sym (listed_at (λ (s : ℕ). spelled (slice_get p.preds s) T (slice_get old.sets.grounds.items s)) (length p.preds) q (place_below p.preds q x here));
        measures = h.measures;
      }

-- so it is with all that contracts see of the two programs
pub keeps_untouched : {e : Edit} {T T' : List Rows} {old now : Kept} → IsResolvedFrom e T T' old now → IsProgram e.before.now → IsProgram e.after.now → IsEdit e → IsKept e.before.now e.components_before.now T old
    → IsKept e.after.now e.components.now T' now → (set : Pred → Bool) → AreUntouched e.before.now e.after.now set → AllKept e.before.now e.after.now set e.kept.now → AreBuiltAlike e.before.now e.after.now set
    → KeepsUntouched (parts_of e.before.now e.components_before.now T old) (parts_of e.after.now e.components.now T' now) set
keeps_untouched {e = e} {T = T} {T' = T'} {old = old} {now = now} from prog new_prog is had has set un all built =
    untouched_parts e T T' old now prog new_prog is had has from set un all built
