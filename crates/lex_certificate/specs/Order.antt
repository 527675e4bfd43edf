-- To believe, for the modes by lists of mappings.
-- The facts of parts, in the order of the format.
--
-- To believe: all of this file.
use Rattle.std.specs.Prelude.{ℕ, suc, pos, Bool, true, false, List, [], ◌∷◌, ◌++◌, map, Option}
use Rattle.bool_diagrams.specs.declared.cube.Cell.{Cell}
use Rattle.cert_structure.specs.Order.{pred_text, cell_of, counted_points}
use Rattle.certificate.specs.declared.pred_text.PredText.{PredText}
use Rattle.cti_terms.specs.Listing.{Listing}
use Rattle.linear_rows.specs.declared.multipliers.Multipliers.{Multipliers}
use Rattle.linear_rows.specs.declared.row.Row.{Row}
use Rattle.linear_rows.specs.declared.row.Rows.{Rows}
use Rattle.number_tests.specs.declared.level_part.LevelPart.{LevelPart}
use Rattle.number_tests.specs.declared.pair_point.PairPoint.{PairPoint}
use Rattle.number_tests.specs.declared.refutation.Refutation.{Refutation}
use Rattle.fact_reading.specs.Numbered.{facts_from, lines_from}
use Rattle.lex_certificate.specs.declared.fact.LexFact.{LexFact}
use Rattle.lex_certificate.specs.declared.fact.LexFact.TheVariants as lex
use Rattle.lex_certificate.specs.declared.parts.LexParts.{LexParts}

abbrev pub size_line : PredText → ℕ → Row → LexFact
size_line pred i row = lex.Size pred (suc i) (row.constant ∷ row.coeffs)

abbrev pub by_line : ℕ → ℕ → Multipliers → LexFact
by_line k i x = lex.By (suc k) (suc i) x.scale x.list

abbrev pub grounds_line : PredText → ℕ → List Cell → LexFact
grounds_line pred i cube = lex.Grounds pred (suc i) (map cell_of cube)

-- measure i of list m
abbrev pub level_line : PredText → ℕ → ℕ → LevelPart → LexFact
level_line pred m i level = lex.Level pred (suc m) (suc i) level.coeffs level.offset

abbrev pub drops_line : ℕ → ℕ → ℕ → ℕ → Multipliers → LexFact
drops_line k j m i x = lex.Drops (suc k) (suc j) (suc m) (suc i) x.scale x.list

abbrev pub pre_line : PredText → ℕ → ℕ → List Cell → LexFact
pre_line pred m i cube = lex.Pre pred (suc m) (suc i) (map cell_of cube)

abbrev pub point_line : PairPoint → LexFact
point_line x = lex.Point x.clause x.call x.point.t x.point.w

abbrev pub stuck_lines : PredText → Option Refutation → List LexFact
stuck_lines pred r = counted_points (λ n. lex.Refuted pred n) (λ _ x. point_line x ∷ []) r

-- the facts of each predicate
module _ (p : Listing) (names : List (List ℕ)) where
  abbrev pub mode_facts : List (List (List ℕ)) → List LexFact
  mode_facts modes = lines_from 0 (λ a ms. lex.Terminates (pred_text p names a) ms) modes

  abbrev pub size_facts : List Rows → List LexFact
  size_facts rows = facts_from 0 (λ a r. lines_from 0 (size_line (pred_text p names a)) r.list) rows

  abbrev pub ground_facts : List (List (List Cell)) → List LexFact
  ground_facts cubes = facts_from 0 (λ a cs. lines_from 0 (grounds_line (pred_text p names a)) cs) cubes

  abbrev pub level_facts : List (List (List LevelPart)) → List LexFact
  level_facts lists = facts_from 0 (λ a own. facts_from 0 (λ m ls. lines_from 0 (level_line (pred_text p names a) m) ls) own) lists

  abbrev pub pre_facts : List (List (List (List Cell))) → List LexFact
  pre_facts cubes = facts_from 0 (λ a own. facts_from 0 (λ m cs. lines_from 0 (pre_line (pred_text p names a) m) cs) own) cubes

  abbrev pub stuck_facts : List (Option Refutation) → List LexFact
  stuck_facts stuck = facts_from 0 (λ a o. stuck_lines (pred_text p names a) o) stuck

-- the facts of each clause
abbrev pub proof_facts : List (List Multipliers) → List LexFact
proof_facts proofs = facts_from 0 (λ k ms. lines_from 0 (by_line k) ms) proofs

abbrev pub drop_facts : List (List (List (List Multipliers))) → List LexFact
drop_facts drops = facts_from 0 (λ k calls. facts_from 0 (λ j lists. facts_from 0 (λ m ms. lines_from 0 (drops_line k j m) ms) lists) calls) drops

-- the facts of the parts, and the notes after them
abbrev pub listed : Listing → List (List ℕ) → LexParts → List LexFact → List LexFact
listed p names parts notes =
    lex.Ctilex (pos 1)
    ∷ (mode_facts p names parts.modes
    ++ (size_facts p names parts.rows
    ++ (proof_facts parts.row_proofs
    ++ (ground_facts p names parts.grounds
    ++ (level_facts p names parts.lists
    ++ (drop_facts parts.drops
    ++ (pre_facts p names parts.preconditions
    ++ (stuck_facts p names parts.stuck
    ++ notes))))))))

-- the notes, which stand last
abbrev pub is_note : LexFact → Bool
is_note (lex.Image step clause pred rows) = true
is_note (lex.Step step pred how rows) = true
is_note (lex.WeakImage step) = true
is_note (lex.WeakStep step) = true
is_note (lex.Blown pred) = true
is_note _ = false
