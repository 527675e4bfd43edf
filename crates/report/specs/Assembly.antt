-- Private.
-- How the parts of a certificate come from what the engines give.
--
-- Nothing here has to be believed.
use Rattle.std.specs.Prelude.{◌≡◌, ◌++◌, ℕ, ℤ, true, List, length, map, slice_get, Option, Some, IfSome}
use Rattle.std.specs.List.{AllByRecursion}
use Rattle.call_components.specs.Partition.{Partition}
use Rattle.cert_checker.specs.Norms.{norm_in}
use Rattle.cert_structure.specs.Order.{listed}
use Rattle.cert_structure.specs.Structure.{AreNotes}
use Rattle.cert_structure.specs.declared.parts.Parts.{Parts}
use Rattle.certificate.specs.declared.fact.Fact.{Fact}
use Rattle.certificate.specs.declared.norm.CertNorm.{CertNorm}
use Rattle.cti_terms.specs.Listing.{Listing}
use Rattle.cti_terms.specs.Tree.{Tree}
use Rattle.level_systems.specs.Found.{IsFound}
use Rattle.level_systems.specs.declared.found.Found.{Found}
use Rattle.linear_rows.specs.declared.row.Rows.{Rows as SizeRows}
use Rattle.number_tests.specs.declared.refutation.Refutation.{Refutation}
use Rattle.term_size.specs.AnyNorm.{any_row, any_truth}
use Rattle.term_size.specs.declared.any_norm.AnyNorm.{AnyNorm}
use Rattle.termination_model.specs.sizes.Sizes.{rows_of}
use Rattle.termination_model.specs.declared.sizes.Sizes.{Sizes}
use Rattle.report.specs.Assembled.{NumbersHold}
use Rattle.report.specs.Exact.{IsExactOf}
use Rattle.numeric_model.specs.States.{plain_step}
use Rattle.cert_assembly.specs.Assembly.{HaveSets}
use Rattle.cert_assembly.specs.ChainNotes.{chain_notes}
use Rattle.cert_assembly.specs.ExactModes.{AreCounted}
use Rattle.report.specs.Levels.{fall_list, given_up, level_list, refutation_list}
use Rattle.report.specs.SupportNotes.{support_notes}
use Rattle.cert_assembly.specs.Ranges.{AreMultipliersBelow, IsPartBelow, IsRefutationBelow}
use Rattle.report.specs.declared.assembling.Assembled.{Assembled}

-- what is found of each recursive component
pub record AreFound (expression : ℕ → Tree → List ℤ) (p : Listing) (comps : Partition) (rows : List SizeRows) (found : List Found) : Type 0 where
  pub each : length found ≡ length comps.members
  pub are : (c : ℕ) (f : Found) → slice_get found c ≡ Some f → slice_get comps.recursive c ≡ Some true → IsFound expression p comps (rows_of rows) c f

-- the parts with other mappings
abbrev pub with_mappings : Listing → Partition → List Found → Parts → Parts
with_mappings p comps found parts = record {
  norm = parts.norm;
  modes = parts.modes;
  rows = parts.rows;
  row_proofs = parts.row_proofs;
  grounds = parts.grounds;
  levels = level_list p comps found;
  falls = fall_list p comps found;
  preconditions = parts.preconditions;
  refutations = refutation_list p comps found;
}

-- the parts of what the model of sizes and the search for mappings give, under a norm that is named so
pub record ArePartsOf (n : AnyNorm) (named : Option CertNorm) (p : Listing) (comps : Partition) (sizes : Sizes) (found : List Found) (parts : Parts) : Type 0 where
  pub norm : parts.norm ≡ named
  pub rows : parts.rows ≡ sizes.rows
  pub row_proofs : parts.row_proofs ≡ sizes.proofs
  pub levels : parts.levels ≡ level_list p comps found
  pub falls : parts.falls ≡ fall_list p comps found
  pub refutations : parts.refutations ≡ refutation_list p comps found
  pub sets : HaveSets (any_truth n) p comps parts

-- all numbers are below 2^127
pub record AreBounded (parts : Parts) : Type 0 where
  pub row_proofs : AllByRecursion (AllByRecursion AreMultipliersBelow) parts.row_proofs
  pub levels : AllByRecursion (AllByRecursion IsPartBelow) parts.levels
  pub falls : AllByRecursion (AllByRecursion (AllByRecursion AreMultipliersBelow)) parts.falls
  pub refutations : AllByRecursion (λ (o : Option Refutation). IfSome o IsRefutationBelow) parts.refutations

-- the notes of a certificate: of its chain, and of what was found of its components
abbrev pub notes_in : Listing → List (List ℕ) → Partition → Assembled → List Fact
notes_in p names comps a = chain_notes p names (map plain_step a.steps) ++ support_notes p names comps (given_up a.found)

-- its facts
abbrev pub facts_in : Listing → List (List ℕ) → Partition → Assembled → List Fact
facts_in p names comps a = listed p names a.parts (notes_in p names comps a)

-- what makes a certificate valid and exact
pub record IsAssembled (p : Listing) (names : List (List ℕ)) (comps : Partition) (a : Assembled) : Type 0 where
  pub each : length a.found ≡ length comps.members
  pub are_notes : AreNotes (notes_in p names comps a)
  pub counted : AreCounted p comps a.parts
  pub numbers : NumbersHold (any_row (norm_in names a.parts.norm)) p comps a.parts
  pub exact : IsExactOf p names comps a.parts (notes_in p names comps a)
