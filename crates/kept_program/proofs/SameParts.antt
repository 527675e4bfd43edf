-- Members of two components have the same measures, and the same is allowed of them, where greatest rows for the same
-- coefficients are the same and mappings are.
use Rattle.std.proofs.Common.{◌≡◌, ◌<◌, ℕ, Bool, List, length, slice_get, Some, ap, sym, ◌∙◌}
use Rattle.std.specs.Prelude.{◌↔◌}
use Rattle.std.specs.List.{list_any}
use Rattle.bool_diagrams.specs.Tree.{Tree as Rows}
use Rattle.bool_diagrams.specs.declared.cube.Cell.{Cell}
use Rattle.bool_diagrams.specs.declared.diagram.Diagram.{Diagram}
use Rattle.call_components.specs.Partition.{IsIn}
use Rattle.cert_assembly.proofs.SetParts.{listed_at}
use Rattle.cert_assembly.specs.Spelled.{spelled_each, spelled_lists}
use Rattle.cert_structure.specs.declared.parts.Parts.{Parts}
use Rattle.cti_terms.specs.Tree.{Tree}
use Rattle.cti_terms.specs.declared.predicates.Pred.{Pred}
use Rattle.number_tests.specs.Levels.{coefficients_of, items_of, naturals}
use Rattle.number_tests.specs.declared.level_part.LevelPart.{LevelPart}
use Rattle.precond_fixpoint.specs.Solving.{IsSolved, allowed_family, pre_family}
use Rattle.solved_program.specs.declared.edit.Edit.{Edit}
use Rattle.termination_model.specs.grounds.Grounds.{Family}
use Rattle.termination_model.specs.mappings.View.{all_upper}
use Rattle.termination_model.proofs.Lists.{place_below}
use Rattle.truth_rows.proofs.RowLaws.{same_bool}
use Rattle.truth_rows.specs.Sets.{has_row}
use Rattle.kept_program.specs.Untouched.{HasMeasure}
use Rattle.kept_program.proofs.SameLevels.{AreSameLevels, IsSameMapping}
use Rattle.kept_program.proofs.SameMeasures.{AreThere, allowed_there, measure_there, same_rows}
use Rattle.kept_program.proofs.Standing.{KeepGreatest}

module _ (truth : (ℕ → Bool) → Tree → Bool) (e : Edit) (b c : ℕ) (T T' : List Rows) (old_levels levels : List (List LevelPart)) (old_sets sets : List (List Diagram)) (G0 G : Family)
    (keep : KeepGreatest truth e b c G0 (allowed_family e.before.now.preds T old_sets) G (allowed_family e.after.now.preds T' sets))
    (same : AreSameLevels e c old_levels levels)
    (solved : IsSolved truth e.before.now e.components_before.now G0 old_levels T old_sets b) (new_solved : IsSolved truth e.after.now e.components.now G levels T' sets c)
    (q r : ℕ) (x : Pred) (here : slice_get e.before.now.preds q ≡ Some x) (there : slice_get e.after.now.preds r ≡ Some x) (in_b : IsIn e.components_before.now b q) (in_c : IsIn e.components.now c r) where
  abbrev preds : List Pred
  preds = e.before.now.preds

  abbrev new_preds : List Pred
  new_preds = e.after.now.preds

  -- one mapping
  rows_at : (m k : ℕ) → IsSameMapping e c old_levels levels m k → m < length (items_of old_levels q) → k < length (items_of levels r) → (d d' : Diagram) → slice_get (items_of old_sets q) m ≡ Some d → slice_get (items_of sets r) k ≡ Some d'
      → has_row (Some x) T' (Some d') ≡ has_row (Some x) T (Some d)
  rows_at m k is lt lt' d d' at at' = same_rows x T T' d d' (λ row long.
      (λ j. has_row (sym there j) T' (sym at' j) row)
      ∙ keep (coefficients_of old_levels m) (coefficients_of levels k) (pre_family preds T old_sets m) (pre_family new_preds T' sets k) (λ s t y h w i. ap naturals (is s t y h w i))
      (solved.greatest q m in_b lt) (new_solved.greatest r k in_c lt') q r x here there in_c row long
      ∙ (λ j. has_row (here j) T (at j) row))

  on : AreThere x T T' (items_of old_levels q) (items_of levels r) (items_of old_sets q) (items_of sets r)
  on m part at =
      let k = same.there q r x here there in_c m part at in
      let at' : slice_get (items_of levels r) k.0 ≡ Some part = k.1 q r x here there in_c ∙ at in
      (k.0, at', λ d d' f g. rows_at m k.0 k.1 (place_below (items_of old_levels q) m part at) (place_below (items_of levels r) k.0 part at') d d' f g)

  back : AreThere x T' T (items_of levels r) (items_of old_levels q) (items_of sets r) (items_of old_sets q)
  back k part at =
      let m = same.before q r x here there in_c k part at in
      let at' : slice_get (items_of old_levels q) m.0 ≡ Some part = sym (m.1 q r x here there in_c) ∙ at in
      (m.0, at', λ d d' f g. sym (rows_at m.0 k m.1 (place_below (items_of old_levels q) m.0 part at') (place_below (items_of levels r) k part at) d' d g f))

  -- the same is allowed
  pub allowed_same : allowed_family new_preds T' sets r ≡ allowed_family preds T old_sets q
  allowed_same = λ j row. at row j
    where
      at : (row : List Bool) → allowed_family new_preds T' sets r row ≡ allowed_family preds T old_sets q row
      at row =
          (λ j. list_any (λ d. all_upper (has_row (there j) T' (Some d)) row) (items_of sets r))
          ∙ same_bool (list_any (λ d. all_upper (has_row (Some x) T' (Some d)) row) (items_of sets r)) (list_any (λ d. all_upper (has_row (Some x) T (Some d)) row) (items_of old_sets q))
          (allowed_there x T' T (items_of levels r) (items_of old_levels q) (items_of sets r) (items_of old_sets q) (new_solved.counts r in_c) (solved.counts q in_b) back row)
          (allowed_there x T T' (items_of old_levels q) (items_of levels r) (items_of old_sets q) (items_of sets r) (solved.counts q in_b) (new_solved.counts r in_c) on row)
          ∙ (λ j. list_any (λ d. all_upper (has_row (sym here j) T (Some d)) row) (items_of old_sets q))

  -- the measures are the same
  spelled_here : items_of (spelled_lists preds T old_sets) q ≡ spelled_each preds T (Some x) (items_of old_sets q)
  spelled_here = listed_at (λ (s : ℕ). spelled_each preds T (slice_get preds s) (items_of old_sets s)) (length preds) q (place_below preds q x here) ∙ (λ j. spelled_each preds T (here j) (items_of old_sets q))

  spelled_there : items_of (spelled_lists new_preds T' sets) r ≡ spelled_each new_preds T' (Some x) (items_of sets r)
  spelled_there = listed_at (λ (s : ℕ). spelled_each new_preds T' (slice_get new_preds s) (items_of sets s)) (length new_preds) r (place_below new_preds r x there) ∙ (λ j. spelled_each new_preds T' (there j) (items_of sets r))

  pub measures_same : (old new : Parts) → old.levels ≡ old_levels → new.levels ≡ levels → old.preconditions ≡ spelled_lists preds T old_sets → new.preconditions ≡ spelled_lists new_preds T' sets
      → (part : LevelPart) (own : List (List Cell)) → HasMeasure new r part own ↔ HasMeasure old q part own
  measures_same old new l l' s s' part own =
      let l1 = ap (λ (ls : List (List LevelPart)). items_of ls q) l in
      let l2 = ap (λ (ls : List (List LevelPart)). items_of ls r) l' in
      let s1 = ap (λ (ls : List (List (List (List Cell)))). items_of ls q) s ∙ spelled_here in
      let s2 = ap (λ (ls : List (List (List (List Cell)))). items_of ls r) s' ∙ spelled_there in (
        measure_there x T' T (items_of levels r) (items_of old_levels q) (items_of sets r) (items_of old_sets q) (new_solved.counts r in_c) (solved.counts q in_b) back new_preds preds new old r q l2 l1 s2 s1 part own,
        measure_there x T T' (items_of old_levels q) (items_of levels r) (items_of old_sets q) (items_of sets r) (solved.counts q in_b) (new_solved.counts r in_c) on preds new_preds old new q r l1 l2 s1 s2 part own,
      )
