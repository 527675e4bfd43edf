-- Sets whose rows are true at positive coefficients.
use Rattle.std.proofs.Common.{◌≡◌, ◌↔◌, ℕ, ℤ, nat_lt, Bool, IsTrue, List, [], ◌∷◌, length, map, slice_get, Some, refl, ap, sym, ◌∙◌}
use Rattle.std.proofs.lemmas.List.{length-map}
use Rattle.truth_rows.proofs.CallerLemmas.{reads_later}
use Rattle.bool_diagrams.proofs.CallerLemmas.{holds_later, known_later}
use Rattle.bool_diagrams.specs.Cubes.{truth_rows, values_of}
use Rattle.bool_diagrams.specs.Rows.{IsDiagram, Keeps}
use Rattle.bool_diagrams.specs.Tree.{Tree as Rows}
use Rattle.bool_diagrams.specs.declared.diagram.Diagram.{Diagram}
use Rattle.number_tests.specs.declared.level_part.LevelPart.{LevelPart}
use Rattle.termination_model.specs.sizes.Rows.{Covers}
use Rattle.cert_modes.specs.Modes.{natural}
use Rattle.cert_modes.specs.Sets.{AreCovered, HaveLevels, is_positive}

pub signs_of : (xs : List ℤ) → map (nat_lt 0) (map natural xs) ≡ map is_positive xs
signs_of [] = refl
signs_of (x ∷ xs) = let rest = signs_of xs in λ i. is_positive x ∷ rest i

module _ (T T2 : List Rows) (K : Keeps T T2) where
  -- the rows of one mapping, in a later table
  pub covered_here : (coeffs : List ℤ) (d : Diagram) → IsDiagram T d → (positive : List Bool) → map (nat_lt 0) (map natural coeffs) ≡ positive → (covered : Bool)
      → ((cs : List ℕ) → map (nat_lt 0) cs ≡ positive → IsTrue covered ↔ ((row : List Bool) → length row ≡ length positive → IsTrue (truth_rows T2 d row) → Covers cs row))
      → IsTrue covered ↔ ((row : List Bool) → length row ≡ length coeffs → IsTrue (truth_rows T d row) → Covers (map natural coeffs) row)
  covered_here coeffs d known positive signs covered e =
      let h = e (map natural coeffs) signs in
      let long : length positive ≡ length coeffs = sym (ap length signs) ∙ length-map (map natural coeffs) (nat_lt 0) ∙ length-map coeffs natural in (
        λ t row l r. h.0 t row (l ∙ sym long) (holds_later T T2 d K known (values_of row) ∙ r),
        λ all. h.1 (λ row l r. all row (l ∙ long) (sym (holds_later T T2 d K known (values_of row)) ∙ r)),
      )

  pub levels_later : (width : ℕ) (levels : List LevelPart) (sets : List Diagram) → HaveLevels T width levels sets → HaveLevels T2 width levels sets
  levels_later width levels sets h = record {
    few = h.few;
    each = h.each;
    wide = h.wide;
    known = λ m d e. known_later T T2 d K (h.known m d e);
    reads = λ m d e. reads_later T T2 K d (h.known m d e) width (h.reads m d e);
  }

  pub covered_later : (levels : List LevelPart) (sets : List Diagram) → ((m : ℕ) (d : Diagram) → slice_get sets m ≡ Some d → IsDiagram T d) → AreCovered T2 levels sets ↔ AreCovered T levels sets
  covered_later levels sets known = (
    λ h m level d e f row l r. h m level d e f row l (holds_later T T2 d K (known m d f) (values_of row) ∙ r),
    λ h m level d e f row l r. h m level d e f row l (sym (holds_later T T2 d K (known m d f) (values_of row)) ∙ r),
  )
