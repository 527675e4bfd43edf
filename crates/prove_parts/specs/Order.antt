-- Private.
-- To believe, for the modes by measures with numbers.
-- The facts of parts, in the order of the format.
--
-- To believe: all of this file.
use Rattle.std.specs.Prelude.{ℕ, suc, pos, Bool, true, false, if◌then◌else◌, List, [], ◌∷◌, ◌++◌, map, flat_map, length, Option, None, Some}
use Rattle.bool_diagrams.specs.declared.cube.Cell.{Cell}
use Rattle.cert_structure.specs.Order.{pred_text, cell_of}
use Rattle.certificate.specs.declared.pred_text.PredText.{PredText}
use Rattle.cti_terms.specs.Listing.{Listing}
use Rattle.fact_reading.specs.Numbered.{facts_from, lines_from}
use Rattle.linear_rows.specs.declared.multipliers.Multipliers.{Multipliers}
use Rattle.linear_rows.specs.declared.point.Point.{Point}
use Rattle.linear_rows.specs.declared.row.Row.{Row}
use Rattle.linear_rows.specs.declared.row.Rows.{Rows}
use Rattle.number_tests.specs.declared.level_part.LevelPart.{LevelPart}
use Rattle.prove_certificate.specs.declared.fact.ProveFact.{ProveFact}
use Rattle.prove_certificate.specs.declared.fact.ProveFact.TheVariants as fact
use Rattle.prove_certificate.specs.declared.kind.CertKind.{CertKind}
use Rattle.prove_parts.specs.declared.parts.ProveParts.{ProveParts}
use Rattle.prove_parts.specs.declared.stuck.GroupPoint.{GroupPoint}
use Rattle.prove_parts.specs.declared.stuck.StuckGroup.{StuckGroup}
use Rattle.prove_parts.specs.declared.stuck.StuckSet.{StuckSet}

-- a predicate of which it is said that it fails
abbrev pub fails_lines : PredText → Bool → List ProveFact
fails_lines pred fails = if fails then fact.Fails pred ∷ [] else []

abbrev pub size_line : PredText → ℕ → Row → ProveFact
size_line pred i row = fact.Size pred (suc i) (row.constant ∷ row.coeffs)

abbrev pub by_line : ℕ → ℕ → Multipliers → ProveFact
by_line k i x = fact.By (suc k) (suc i) x.scale x.list

abbrev pub grounds_line : PredText → ℕ → List Cell → ProveFact
grounds_line pred i cube = fact.Grounds pred (suc i) (map cell_of cube)

-- measure i of list m
abbrev pub level_line : PredText → ℕ → ℕ → LevelPart → ProveFact
level_line pred m i level = fact.Level pred (suc m) (suc i) level.coeffs level.offset

abbrev pub drops_line : ℕ → ℕ → ℕ → ℕ → Multipliers → ProveFact
drops_line k j m i x = fact.Drops (suc k) (suc j) (suc m) (suc i) x.scale x.list

abbrev pub floors_line : ℕ → ℕ → ℕ → Multipliers → ProveFact
floors_line k j m x = fact.Floors (suc k) (suc j) (suc m) x.scale x.list

abbrev pub pre_line : PredText → ℕ → ℕ → List Cell → ProveFact
pre_line pred m i cube = fact.Pre pred (suc m) (suc i) (map cell_of cube)

abbrev pub point_line : GroupPoint → ProveFact
point_line x = fact.Point x.clause x.call x.point.t x.point.w

-- the floor of a pair, if there is one
abbrev pub floor_lines : ℕ → ℕ → Option Point → List ProveFact
floor_lines clause call None = []
floor_lines clause call (Some x) = fact.Floor clause call x.t x.w ∷ []

-- a pair, the points of its group, and its floor
abbrev pub group_lines : StuckGroup → List ProveFact
group_lines g = fact.Group g.clause g.call ∷ (map point_line g.points ++ floor_lines g.clause g.call g.floor)

-- how many groups there are, and then each of them
abbrev pub stuck_lines : PredText → Option StuckSet → List ProveFact
stuck_lines pred None = []
stuck_lines pred (Some r) = fact.Refuted pred (length r.groups) ∷ flat_map group_lines r.groups

-- the facts of each predicate
module _ (p : Listing) (names : List (List ℕ)) where
  abbrev pub mode_facts : List (List (List ℕ)) → List ProveFact
  mode_facts modes = lines_from 0 (λ a ms. fact.Terminates (pred_text p names a) ms) modes

  abbrev pub kind_facts : List (List CertKind) → List ProveFact
  kind_facts kinds = lines_from 0 (λ a ks. fact.Kinds (pred_text p names a) ks) kinds

  abbrev pub fails_facts : List Bool → List ProveFact
  fails_facts fails = facts_from 0 (λ a b. fails_lines (pred_text p names a) b) fails

  abbrev pub size_facts : List Rows → List ProveFact
  size_facts rows = facts_from 0 (λ a r. lines_from 0 (size_line (pred_text p names a)) r.list) rows

  abbrev pub ground_facts : List (List (List Cell)) → List ProveFact
  ground_facts cubes = facts_from 0 (λ a cs. lines_from 0 (grounds_line (pred_text p names a)) cs) cubes

  abbrev pub level_facts : List (List (List LevelPart)) → List ProveFact
  level_facts lists = facts_from 0 (λ a own. facts_from 0 (λ m ls. lines_from 0 (level_line (pred_text p names a) m) ls) own) lists

  abbrev pub pre_facts : List (List (List (List Cell))) → List ProveFact
  pre_facts cubes = facts_from 0 (λ a own. facts_from 0 (λ m cs. lines_from 0 (pre_line (pred_text p names a) m) cs) own) cubes

  abbrev pub stuck_facts : List (Option StuckSet) → List ProveFact
  stuck_facts stuck = facts_from 0 (λ a o. stuck_lines (pred_text p names a) o) stuck

-- the facts of each clause
abbrev pub proof_facts : List (List Multipliers) → List ProveFact
proof_facts proofs = facts_from 0 (λ k ms. lines_from 0 (by_line k) ms) proofs

abbrev pub drop_facts : List (List (List (List Multipliers))) → List ProveFact
drop_facts drops = facts_from 0 (λ k calls. facts_from 0 (λ j lists. facts_from 0 (λ m ms. lines_from 0 (drops_line k j m) ms) lists) calls) drops

abbrev pub floor_facts : List (List (List Multipliers)) → List ProveFact
floor_facts floors = facts_from 0 (λ k calls. facts_from 0 (λ j ms. lines_from 0 (floors_line k j) ms) calls) floors

-- the facts of the parts, and the notes after them
abbrev pub listed : Listing → List (List ℕ) → ProveParts → List ProveFact → List ProveFact
listed p names parts notes =
    fact.Ctiprove (pos 1)
    ∷ (mode_facts p names parts.modes
    ++ (kind_facts p names parts.kinds
    ++ (fails_facts p names parts.fails
    ++ (size_facts p names parts.rows
    ++ (proof_facts parts.row_proofs
    ++ (ground_facts p names parts.grounds
    ++ (level_facts p names parts.lists
    ++ (drop_facts parts.drops
    ++ (floor_facts parts.floors
    ++ (pre_facts p names parts.preconditions
    ++ (stuck_facts p names parts.stuck
    ++ notes)))))))))))

-- the notes, which stand last
abbrev pub is_note : ProveFact → Bool
is_note (fact.Image step clause pred rows) = true
is_note (fact.Step step pred how rows) = true
is_note (fact.WeakImage step) = true
is_note (fact.WeakStep step) = true
is_note (fact.Blown pred support) = true
is_note _ = false
