-- Predicates of two programs that have the same measures, with the same preconditions.
use Rattle.std.proofs.Common.{◌≡◌, ◌==◌, ◌&&◌, ◌||◌, ℕ, zero, suc, Bool, true, false, List, [], ◌∷◌, length, map, slice_get, Some, refl, ap, sym, ◌∙◌, arith, eqb-true, eq-eqb}
use Rattle.std.specs.List.{list_any}
use Rattle.bool_diagrams.proofs.CallerLemmas.{cubes_at}
use Rattle.bool_diagrams.specs.Cubes.{truth_rows}
use Rattle.bool_diagrams.specs.Tree.{Tree as Rows}
use Rattle.bool_diagrams.specs.declared.cube.Cell.{Cell}
use Rattle.bool_diagrams.specs.declared.diagram.Diagram.{Diagram}
use Rattle.cert_assembly.specs.Spelled.{spelled, spelled_each}
use Rattle.cert_structure.specs.declared.parts.Parts.{Parts}
use Rattle.cti_terms.specs.declared.predicates.Pred.{Pred}
use Rattle.number_tests.specs.Levels.{items_of}
use Rattle.number_tests.specs.declared.level_part.LevelPart.{LevelPart}
use Rattle.precond_fixpoint.proofs.PlaceLaws.{some_at}
use Rattle.termination_model.specs.mappings.View.{all_upper}
use Rattle.termination_model.proofs.Lists.{mapped_place, place_below}
use Rattle.truth_rows.specs.Sets.{has_row}
use Rattle.kept_program.specs.Untouched.{HasMeasure}

-- ---- small laws
pub from_map : {X Y : Type 0} (g : X → Y) (xs : List X) (i : ℕ) (y : Y) → slice_get (map g xs) i ≡ Some y → (x : X) × (slice_get xs i ≡ Some x) × (g x ≡ y)
from_map g [] i y e = cc
from_map g (x ∷ xs) zero y e = (let is : g x ≡ y = cc in (x, refl, is))
from_map g (x ∷ xs) (suc i) y e = from_map g xs i y e

from_any : {X : Type 0} (f : X → Bool) (xs : List X) → list_any f xs ≡ true → (m : ℕ) × (x : X) × (slice_get xs m ≡ Some x) × (f x ≡ true)
from_any f [] h = cc
from_any {X = X} f (x ∷ xs) h = go (f x) refl h (from_any f xs)
  where
    go : (t : Bool) → f x ≡ t → (t || list_any f xs) ≡ true → (list_any f xs ≡ true → (m : ℕ) × (y : X) × (slice_get xs m ≡ Some y) × (f y ≡ true))
        → (m : ℕ) × (y : X) × (slice_get (x ∷ xs) m ≡ Some y) × (f y ≡ true)
    go true e h later = (0, x, refl, e)
    go false e h later = let more = later h in (suc more.0, more.1, more.2, more.3)

or_true : (t : Bool) → (t || true) ≡ true
or_true true = refl
or_true false = refl

to_any : {X : Type 0} (f : X → Bool) (xs : List X) (m : ℕ) (x : X) → slice_get xs m ≡ Some x → f x ≡ true → list_any f xs ≡ true
to_any f [] m x e h = cc
to_any f (y ∷ xs) zero x e h = (let same : y ≡ x = cc in λ i. (ap f same ∙ h) i || list_any f xs)
to_any f (y ∷ xs) (suc m) x e h = (let more = to_any f xs m x e h in (λ i. f y || more i) ∙ or_true (f y))

where_true : (b s t : Bool) → (b ≡ true → s ≡ t) → (b && s) ≡ (b && t)
where_true true s t h = h refl
where_true false s t h = refl

-- ---- one set
module _ (x : Pred) (T T' : List Rows) (d d' : Diagram) where
  pub same_rows : ((row : List Bool) → x.arity ≡ length row → has_row (Some x) T' (Some d') row ≡ has_row (Some x) T (Some d) row) → has_row (Some x) T' (Some d') ≡ has_row (Some x) T (Some d)
  same_rows h = λ i row. at row i
    where
      at : (row : List Bool) → has_row (Some x) T' (Some d') row ≡ has_row (Some x) T (Some d) row
      at row = go (x.arity == length row) refl
        where
          go : (b : Bool) → (x.arity == length row) ≡ b → ((x.arity == length row) && truth_rows T' d' row) ≡ ((x.arity == length row) && truth_rows T d row)
          go true e = h row (eqb-true x.arity (length row) e)
          go false e = (λ i. e i && truth_rows T' d' row) ∙ (λ i. sym e i && truth_rows T d row)

  pub same_cubes : has_row (Some x) T' (Some d') ≡ has_row (Some x) T (Some d) → spelled (Some x) T' (Some d') ≡ spelled (Some x) T (Some d)
  same_cubes h = cubes_at x.arity (truth_rows T' d') (truth_rows T d) (λ row long.
      let on : (x.arity == length row) ≡ true = eq-eqb x.arity (length row) (sym long) in
      (λ i. sym on i && truth_rows T' d' row) ∙ (λ i. h i row) ∙ (λ i. on i && truth_rows T d row))

-- ---- all measures of a predicate: each is one there
abbrev pub AreThere : Pred → List Rows → List Rows → List LevelPart → List LevelPart → List Diagram → List Diagram → Type 0
AreThere x T T' parts new_parts sets new_sets = (m : ℕ) (part : LevelPart) → slice_get parts m ≡ Some part
    → (k : ℕ) × (slice_get new_parts k ≡ Some part)
    × ((d d' : Diagram) → slice_get sets m ≡ Some d → slice_get new_sets k ≡ Some d' → has_row (Some x) T' (Some d') ≡ has_row (Some x) T (Some d))

module _ (x : Pred) (T T' : List Rows) (parts new_parts : List LevelPart) (sets new_sets : List Diagram) (count : length sets ≡ length parts) (new_count : length new_sets ≡ length new_parts)
    (there : AreThere x T T' parts new_parts sets new_sets) where
  -- a set of this number
  set_at : (k : ℕ) (part : LevelPart) → slice_get new_parts k ≡ Some part → (d : Diagram) × (slice_get new_sets k ≡ Some d)
  set_at k part e = some_at new_sets k (omega (arith, new_count, place_below new_parts k part e))

  part_at : (m : ℕ) (d : Diagram) → slice_get sets m ≡ Some d → (part : LevelPart) × (slice_get parts m ≡ Some part)
  part_at m d e = some_at parts m (omega (arith, count, place_below sets m d e))

  pub measure_there : (preds new_preds : List Pred) (old new : Parts) (q r : ℕ) → items_of old.levels q ≡ parts → items_of new.levels r ≡ new_parts → items_of old.preconditions q ≡ spelled_each preds T (Some x) sets → items_of new.preconditions r ≡ spelled_each new_preds T' (Some x) new_sets
      → (part : LevelPart) (own : List (List Cell)) → HasMeasure old q part own → HasMeasure new r part own
  measure_there preds new_preds old new q r l l' s s' part own h =
      let d = from_map (λ (d : Diagram). spelled (Some x) T (Some d)) sets h.mapping own (sym (ap (λ (o : List (List (List Cell))). slice_get o h.mapping) s) ∙ h.cubes_are) in
      let k = there h.mapping part (sym (ap (λ (o : List LevelPart). slice_get o h.mapping) l) ∙ h.part_is) in
      let d' = set_at k.0 part k.1 in
      record {
        mapping = k.0;
        part_is = ap (λ (o : List LevelPart). slice_get o k.0) l' ∙ k.1;
        cubes_are = ap (λ (o : List (List (List Cell))). slice_get o k.0) s' ∙ mapped_place (λ (d : Diagram). spelled (Some x) T' (Some d)) new_sets k.0 d'.0 d'.1
            ∙ ap Some (same_cubes x T T' d.0 d'.0 (k.2 d.0 d'.0 d.1 d'.1) ∙ d.2);
      }

  pub allowed_there : (row : List Bool) → list_any (λ (d : Diagram). all_upper (has_row (Some x) T (Some d)) row) sets ≡ true → list_any (λ (d : Diagram). all_upper (has_row (Some x) T' (Some d)) row) new_sets ≡ true
  allowed_there row h =
      let d = from_any (λ (d : Diagram). all_upper (has_row (Some x) T (Some d)) row) sets h in
      let part = part_at d.0 d.1 d.2 in
      let k = there d.0 part.0 part.1 in
      let d' = set_at k.0 part.0 k.1 in
      to_any (λ (d : Diagram). all_upper (has_row (Some x) T' (Some d)) row) new_sets k.0 d'.0 d'.1
      (ap (λ (g : List Bool → Bool). all_upper g row) (k.2 d.1 d'.0 d.2 d'.1) ∙ d.3)
