-- Private.
-- How the parts of a certificate of lists come from what the engines give.
--
-- Nothing here has to be believed.
use Rattle.std.specs.Prelude.{◌≡◌, ℕ, ℤ, Bool, true, List, [], length, map, slice_get, Option, None, Some, IfSome}
use Rattle.std.specs.List.{AllByRecursion}
use Rattle.call_components.specs.Partition.{Partition}
use Rattle.cert_assembly.specs.Assembly.{HaveSets}
use Rattle.cert_assembly.specs.Ranges.{AreMultipliersBelow, IsPartBelow, IsRefutationBelow}
use Rattle.cert_structure.specs.declared.parts.Parts.{Parts}
use Rattle.cti_terms.specs.Listing.{Listing}
use Rattle.cti_terms.specs.Tree.{Tree, truth}
use Rattle.lex_certificate.specs.Flat.{flat, union_part}
use Rattle.lex_certificate.specs.Shape.{HaveShape}
use Rattle.lex_certificate.specs.Structure.{AreNotes}
use Rattle.lex_certificate.specs.declared.parts.LexParts.{LexParts}
use Rattle.lex_checker.specs.Valid.{PartsHold}
use Rattle.lex_turns.specs.FoundLists.{AreFoundLists}
use Rattle.lex_turns.specs.declared.found_lists.FoundLists.{FoundLists}
use Rattle.linear_rows.specs.declared.multipliers.Multipliers.{Multipliers}
use Rattle.linear_rows.specs.declared.row.Rows.{Rows}
use Rattle.number_tests.specs.declared.level_part.LevelPart.{LevelPart}
use Rattle.number_tests.specs.declared.refutation.Refutation.{Refutation}
use Rattle.term_size.specs.Occurrences.{size_row}
use Rattle.termination_model.specs.sizes.Sizes.{rows_of}
use Rattle.termination_model.specs.declared.sizes.Sizes.{Sizes}
use Rattle.lex_measures.specs.Exact.{IsExactOf}
use Rattle.lex_measures.specs.Lists.{printed_drops, printed_lists, printed_stuck}
use Rattle.lex_measures.specs.declared.assembling.Assembled.{Assembled}

-- what is found of each recursive component
pub record AreFound (expression : ℕ → Tree → List ℤ) (p : Listing) (comps : Partition) (rows : List Rows) (found : List FoundLists) : Type 0 where
  pub each : length found ≡ length comps.members
  pub are : (c : ℕ) (f : FoundLists) → slice_get found c ≡ Some f → slice_get comps.recursive c ≡ Some true → AreFoundLists expression p comps (rows_of rows) c f

-- the parts with one mapping for each list, of what the model of sizes gives, and of lists and stuck sets
pub record IsFlatOf (truth : (ℕ → Bool) → Tree → Bool) (p : Listing) (comps : Partition) (sizes : Sizes) (lists : List (List (List LevelPart))) (stuck : List (Option Refutation)) (parts : Parts) : Type 0 where
  pub norm : parts.norm ≡ None
  pub rows : parts.rows ≡ sizes.rows
  pub row_proofs : parts.row_proofs ≡ sizes.proofs
  pub levels : parts.levels ≡ map (map union_part) lists
  pub falls : parts.falls ≡ []
  pub refutations : parts.refutations ≡ stuck
  pub sets : HaveSets truth p comps parts

-- the parts with lists and drops in the place of mappings and falls
abbrev pub with_lists : Parts → List (List (List LevelPart)) → List (List (List (List Multipliers))) → LexParts
with_lists parts lists drops = record {
  modes = parts.modes;
  rows = parts.rows;
  row_proofs = parts.row_proofs;
  grounds = parts.grounds;
  lists = lists;
  drops = drops;
  preconditions = parts.preconditions;
  stuck = parts.refutations;
}

-- the parts of what the model of sizes and the search for lists give
pub record ArePartsOf (truth : (ℕ → Bool) → Tree → Bool) (p : Listing) (comps : Partition) (sizes : Sizes) (found : List FoundLists) (parts : LexParts) : Type 0 where
  pub rows : parts.rows ≡ sizes.rows
  pub row_proofs : parts.row_proofs ≡ sizes.proofs
  pub lists : parts.lists ≡ printed_lists p comps found
  pub drops : parts.drops ≡ printed_drops p comps found
  pub stuck : parts.stuck ≡ printed_stuck p comps found
  pub sets : HaveSets truth p comps (flat parts)

-- all numbers are below 2^127
pub record AreBounded (parts : LexParts) : Type 0 where
  pub row_proofs : AllByRecursion (AllByRecursion AreMultipliersBelow) parts.row_proofs
  pub lists : AllByRecursion (AllByRecursion (AllByRecursion IsPartBelow)) parts.lists
  pub drops : AllByRecursion (AllByRecursion (AllByRecursion (AllByRecursion AreMultipliersBelow))) parts.drops
  pub stuck : AllByRecursion (λ (o : Option Refutation). IfSome o IsRefutationBelow) parts.stuck

-- what makes a certificate valid and exact
pub record IsAssembled (p : Listing) (names : List (List ℕ)) (comps : Partition) (a : Assembled) : Type 0 where
  pub are_notes : AreNotes a.notes
  pub shape : HaveShape p comps a.parts
  pub hold : PartsHold truth size_row p comps a.parts
  pub exact : IsExactOf p names comps a.parts a.notes
