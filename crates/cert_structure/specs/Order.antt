-- To believe, for the modes.
-- The facts of parts, in the order of the format.
--
-- To believe: all of this file.
use Rattle.std.specs.Prelude.{ℕ, suc, pos, Bool, true, false, List, [], ◌∷◌, ◌++◌, map, length, Option, None, Some, unwrap_or, slice_get}
use Rattle.bool_diagrams.specs.declared.cube.Cell.{Cell}
use Rattle.bool_diagrams.specs.declared.cube.Cell.TheVariants as side
use Rattle.certificate.specs.declared.cell.CertCell.{CertCell}
use Rattle.certificate.specs.declared.cell.CertCell.TheVariants as cell
use Rattle.certificate.specs.declared.norm.CertNorm.{CertNorm}
use Rattle.certificate.specs.declared.pred_text.PredText.{PredText}
use Rattle.certificate.specs.declared.fact.Fact.{Fact}
use Rattle.certificate.specs.declared.fact.Fact.TheVariants as fact
use Rattle.cti_terms.specs.declared.predicates.Pred.{Pred}
use Rattle.cti_terms.specs.Listing.{Listing}
use Rattle.linear_rows.specs.declared.multipliers.Multipliers.{Multipliers}
use Rattle.linear_rows.specs.declared.row.Row.{Row}
use Rattle.linear_rows.specs.declared.row.Rows.{Rows}
use Rattle.number_tests.specs.declared.level_part.LevelPart.{LevelPart}
use Rattle.linear_rows.specs.declared.point.Point.{Point}
use Rattle.number_tests.specs.declared.pair_point.PairPoint.{PairPoint}
use Rattle.number_tests.specs.declared.refutation.Refutation.{Refutation}
use Rattle.cert_structure.specs.declared.parts.Parts.{Parts}
use Rattle.fact_reading.specs.Numbered.{facts_from, lines_from}

-- a predicate by its name's text; where there is none, no name and no arguments
abbrev pub text_or_none : List (List ℕ) → Option Pred → PredText
text_or_none names None = record { name = []; arity = 0 }
text_or_none names (Some q) = record { name = unwrap_or (slice_get names q.name.0) []; arity = q.arity }

-- the predicate of this number
abbrev pub pred_text : Listing → List (List ℕ) → ℕ → PredText
pred_text p names a = text_or_none names (slice_get p.preds a)

abbrev pub cell_of : Cell → CertCell
cell_of side.Zero = cell.Zero
cell_of side.One = cell.One
cell_of side.Any = cell.Any

abbrev pub size_line : PredText → ℕ → Row → Fact
size_line pred i row = fact.Size pred (suc i) (row.constant ∷ row.coeffs)

abbrev pub by_line : ℕ → ℕ → Multipliers → Fact
by_line k i m = fact.By (suc k) (suc i) m.scale m.list

abbrev pub grounds_line : PredText → ℕ → List Cell → Fact
grounds_line pred i cube = fact.Grounds pred (suc i) (map cell_of cube)

abbrev pub measure_line : PredText → ℕ → LevelPart → Fact
measure_line pred m level = fact.Measure pred (suc m) level.coeffs level.offset

abbrev pub falls_line : ℕ → ℕ → ℕ → Multipliers → Fact
falls_line k j m x = fact.Falls (suc k) (suc j) (suc m) x.scale x.list

abbrev pub pre_line : PredText → ℕ → ℕ → List Cell → Fact
pre_line pred m i cube = fact.Pre pred (suc m) (suc i) (map cell_of cube)

-- the second point of a pair, if there is one
abbrev pub at_facts : ℕ → ℕ → Option Point → List Fact
at_facts clause call None = []
at_facts clause call (Some x) = fact.At clause call x.t x.w ∷ []

abbrev pub point_facts : PairPoint → List Fact
point_facts x = fact.Point x.clause x.call x.point.t x.point.w ∷ at_facts x.clause x.call x.at

-- the facts of points, if there are any: one that says how many there are, then those of each
abbrev pub counted_points : {F : Type 0} → (ℕ → F) → (ℕ → PairPoint → List F) → Option Refutation → List F
counted_points count facts None = []
counted_points count facts (Some r) = count (length r.points) ∷ facts_from 0 facts r.points

abbrev pub refutation_facts : PredText → Option Refutation → List Fact
refutation_facts pred r = counted_points (λ n. fact.Refuted pred n) (λ _ x. point_facts x) r

-- the facts of each predicate, of each clause
module _ (p : Listing) (names : List (List ℕ)) where
  abbrev pub mode_facts : List (List (List ℕ)) → List Fact
  mode_facts modes = lines_from 0 (λ a ms. fact.Terminates (pred_text p names a) ms) modes

  abbrev pub size_facts : List Rows → List Fact
  size_facts rows = facts_from 0 (λ a r. lines_from 0 (size_line (pred_text p names a)) r.list) rows

  abbrev pub ground_facts : List (List (List Cell)) → List Fact
  ground_facts cubes = facts_from 0 (λ a cs. lines_from 0 (grounds_line (pred_text p names a)) cs) cubes

  abbrev pub level_facts : List (List LevelPart) → List Fact
  level_facts levels = facts_from 0 (λ a ls. lines_from 0 (measure_line (pred_text p names a)) ls) levels

  abbrev pub pre_facts : List (List (List (List Cell))) → List Fact
  pre_facts cubes = facts_from 0 (λ a ms. facts_from 0 (λ m cs. lines_from 0 (pre_line (pred_text p names a) m) cs) ms) cubes

  abbrev pub refuted_facts : List (Option Refutation) → List Fact
  refuted_facts refutations = facts_from 0 (λ a r. refutation_facts (pred_text p names a) r) refutations

abbrev pub proof_facts : List (List Multipliers) → List Fact
proof_facts proofs = facts_from 0 (λ k ms. lines_from 0 (by_line k) ms) proofs

abbrev pub fall_facts : List (List (List Multipliers)) → List Fact
fall_facts falls = facts_from 0 (λ k calls. facts_from 0 (λ j ms. lines_from 0 (falls_line k j) ms) calls) falls

-- the version of the format, and the norm: version 1 names none, and is of term size
abbrev pub head_facts : Option CertNorm → List Fact
head_facts None = fact.Cti (pos 1) ∷ []
head_facts (Some norm) = fact.Cti (pos 2) ∷ fact.Norm norm ∷ []

-- the facts of the parts, and the notes after them
abbrev pub listed : Listing → List (List ℕ) → Parts → List Fact → List Fact
listed p names parts notes =
    head_facts parts.norm
    ++ (mode_facts p names parts.modes
    ++ (size_facts p names parts.rows
    ++ (proof_facts parts.row_proofs
    ++ (ground_facts p names parts.grounds
    ++ (level_facts p names parts.levels
    ++ (fall_facts parts.falls
    ++ (pre_facts p names parts.preconditions
    ++ (refuted_facts p names parts.refutations
    ++ notes))))))))

-- the notes, which stand last
abbrev pub is_note : Fact → Bool
is_note (fact.Image step clause pred rows) = true
is_note (fact.Step step pred how rows) = true
is_note (fact.WeakImage step) = true
is_note (fact.WeakStep step) = true
is_note (fact.Blown pred support) = true
is_note (fact.Large pred positions) = true
is_note _ = false
