use Rattle.std.proofs.Common.{◌≡◌, ◌∙◌, ℕ, Bool, IsTrue, List, length, map, slice_get, slice_index_or, Some, refl, ap, sym, subst, arith}
use Rattle.termination_model.proofs.Lists.{at_place, place_below, there}
use Rattle.truth_rows.proofs.SetLaws.{none}
use Rattle.bool_diagrams.proofs.CallerLemmas.{keeps_twice}
use Rattle.bool_diagrams.specs.Cubes.{truth_rows}
use Rattle.bool_diagrams.specs.declared.diagram.Diagram.{Diagram}
use Rattle.number_tests.specs.declared.level_part.LevelPart.{LevelPart}
use Rattle.termination_model.specs.sizes.Rows.{Covers}
use Rattle.cert_modes.specs.Modes.{naturals}
use Rattle.cert_modes.specs.Sets.{is_positive}
use Rattle.cert_modes.proofs.CoverLaws.{covered_here, signs_of}
use Rattle.cert_modes.proofs.PlaceLaws.{below_more}
use Rattle.cert_modes.proofs.covering.are_covered.Goals as goal

pub returns-then-not-covered-clause-covered : goal.returns-then-not-covered-clause-covered
returns-then-not-covered-clause-covered c =
    let n = c.loop-mapping.mapping in
    let level = c.index-levels-mapping.result in
    let d = slice_index_or c.args.sets.now n none in
    let h = c.requires.1 in
    let at : slice_get c.args.levels.now n ≡ Some level = at_place c.args.levels.now n level c.loop-mapping-test.true c.index-levels-mapping.is in
    let f = there c.args.sets.now n none (omega (arith, h.each, place_below c.args.levels.now n level at)) in
    let signs = signs_of level.coeffs ∙ ap (map is_positive) (sym c.as_slice.ensures) ∙ sym c.in_ok-positive.ensures ∙ sym c.as_slice-in-loop-mapping.ensures.value in
    let here = covered_here c.args.table.now c.loop-mapping.table c.loop-mapping.invariant.keeps level.coeffs d (h.known n d f) c.as_slice-in-loop-mapping.result.now signs c.in_ok-covered.covered c.in_ok-covered.ensures.covered in
    (λ t. cc, λ all. sym c.if-not-covered.true ∙ here.1 (λ row. all n level d at f row))

pub loop-mapping-preserved : goal.loop-mapping-preserved
loop-mapping-preserved c =
    let n = c.loop-mapping.mapping in
    let level = c.index-levels-mapping.result in
    let d = slice_index_or c.args.sets.now n none in
    let h = c.requires.1 in
    let at : slice_get c.args.levels.now n ≡ Some level = at_place c.args.levels.now n level c.loop-mapping-test.true c.index-levels-mapping.is in
    let f = there c.args.sets.now n none (omega (arith, h.each, place_below c.args.levels.now n level at)) in
    let signs = signs_of level.coeffs ∙ ap (map is_positive) (sym c.as_slice.ensures) ∙ sym c.in_ok-positive.ensures ∙ sym c.as_slice-in-loop-mapping.ensures.value in
    let here = covered_here c.args.table.now c.loop-mapping.table c.loop-mapping.invariant.keeps level.coeffs d (h.known n d f) c.as_slice-in-loop-mapping.result.now signs c.in_ok-covered.covered c.in_ok-covered.ensures.covered in
    record {
      keeps = keeps_twice _ _ _ c.loop-mapping.invariant.keeps c.is_covered.ensures.keeps;
      covered = below_more (λ (m : ℕ). (l : LevelPart) (s : Diagram) → slice_get c.args.levels.now m ≡ Some l → slice_get c.args.sets.now m ≡ Some s
          → (row : List Bool) → length row ≡ length l.coeffs → IsTrue (truth_rows c.args.table.now s row) → Covers (naturals (Some l)) row) n c.loop-mapping.invariant.covered
          (λ l s e g.
          let same : level ≡ l = cc in
          let same_set : d ≡ s = cc in
          subst (λ (x : LevelPart). (row : List Bool) → length row ≡ length x.coeffs → IsTrue (truth_rows c.args.table.now s row) → Covers (naturals (Some x)) row) same
          (subst (λ (y : Diagram). (row : List Bool) → length row ≡ length level.coeffs → IsTrue (truth_rows c.args.table.now y row) → Covers (naturals (Some level)) row) same_set
          (here.0 c.if-not-covered.false)));
    }

pub returns-clause-covered : goal.returns-clause-covered
returns-clause-covered c = (
  λ t m level d e f row. c.loop-mapping.invariant.covered m (omega (arith, place_below c.args.levels.now m level e, c.loop-mapping-test.false)) level d e f row,
  λ all. refl,
)
