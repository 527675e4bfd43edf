-- Private.
-- What is kept of a program, and that it is right: each component has what makes its part of a certificate, by term
-- size.
--
-- To believe: nothing of this file, since what follows for the certificate is proved (`KeptProgram::certified`).
use Rattle.std.specs.Prelude.{◌≡◌, ◌<◌, ℕ, List, [], length}
use Rattle.std.specs.List.{AllByRecursion}
use Rattle.bool_diagrams.specs.Tree.{Tree as Rows}
use Rattle.bool_diagrams.specs.declared.diagram.Diagram.{Diagram}
use Rattle.call_components.specs.Partition.{Partition, AreComponents}
use Rattle.carried_mappings.specs.FoundMappings.{AreFound, KeepFound}
use Rattle.carried_preconditions.specs.declared.preconditions.SolvedPreconditions.{SolvedPreconditions}
use Rattle.cert_assembly.specs.Ranges.{AreMultipliersBelow, IsFoundBelow}
use Rattle.cti_terms.specs.Listing.{Listing}
use Rattle.cti_terms.specs.Tree.{truth}
use Rattle.exact128.specs.Fits.{fits}
use Rattle.linear_rows.specs.Blown.{all_of}
use Rattle.number_tests.specs.declared.level_part.LevelPart.{LevelPart}
use Rattle.precond_fixpoint.specs.Solving.{AreLevels, AreMappingSets, AreModes, AreUnions, IsSolved, allowed_family}
use Rattle.precond_fixpoint.specs.declared.mode.Mode.{Mode}
use Rattle.report.specs.Levels.{level_list}
use Rattle.report.specs.Solution.{Findings, solution_parts}
use Rattle.solved_program.specs.Grounds.{AreSolvedGrounds}
use Rattle.solved_program.specs.Solved.{AreSolved}
use Rattle.solved_program.specs.Standing.{KeepValues}
use Rattle.solved_program.specs.declared.edit.Edit.{Edit}
use Rattle.term_size.specs.Occurrences.{size_row}
use Rattle.termination_model.specs.sizes.Sizes.{rows_of}
use Rattle.truth_rows.specs.Sets.{family_of}
use Rattle.kept_program.specs.ProgramParts.{ProgramParts}
use Rattle.kept_program.specs.declared.kept.Kept.{Kept}
use Rattle.kept_program.specs.declared.kept.KeptNumbers.{KeptNumbers}
use Rattle.kept_program.specs.declared.kept.KeptSets.{KeptSets}

module _ (p : Listing) (comps : Partition) where
  -- size rows with their proofs and steps, what is found of mappings, and the parts that predicates have in these; all
  -- numbers are below 2^127
  pub record AreKeptNumbers (k : KeptNumbers) : Type 0 where
    pub sizes : AreSolved (all_of fits) size_row p comps k.sizes
    pub found : AreFound size_row p comps (rows_of k.sizes.sizes.rows) k.found
    pub levels : k.levels ≡ level_list p comps k.found
    pub levels_are : AreLevels p comps k.levels
    pub proofs_below : AllByRecursion (AllByRecursion AreMultipliersBelow) k.sizes.sizes.proofs
    pub found_below : AllByRecursion IsFoundBelow k.found

  -- the least ground rows, the greatest preconditions for these mappings, and the minimal modes
  pub record AreSetsOf (levels : List (List LevelPart)) (trees : List Rows) (ground_sets : List Diagram) (pre : SolvedPreconditions) (lists : List (List Mode)) : Type 0 where
    pub grounds : AreSolvedGrounds truth p comps trees ground_sets
    pub mapping_sets : AreMappingSets p.preds trees pre.sets
    pub allowed : AreUnions p.preds trees pre.sets pre.allowed
    pub greatest : (c : ℕ) → c < length comps.members → IsSolved truth p comps (family_of p.preds trees ground_sets) levels trees pre.sets c
    pub modes : AreModes p.preds (allowed_family p.preds trees pre.sets) lists

  abbrev pub AreKeptSets : List (List LevelPart) → List Rows → KeptSets → Type 0
  AreKeptSets levels trees k = AreSetsOf levels trees k.grounds.items k.preconditions k.modes

  -- both
  pub record IsKept (trees : List Rows) (k : Kept) : Type 0 where
    pub numbers : AreKeptNumbers k.numbers
    pub sets : AreKeptSets k.numbers.levels trees k.sets

  -- of the components of a program
  pub record HasKept (trees : List Rows) (k : Kept) : Type 0 where
    pub components : AreComponents p comps
    pub kept : IsKept trees k

-- nothing is kept
pub record IsNothing (k : Kept) : Type 0 where
  pub steps : k.numbers.sizes.steps ≡ []
  pub rows : k.numbers.sizes.sizes.rows ≡ []
  pub proofs : k.numbers.sizes.sizes.proofs ≡ []
  pub found : k.numbers.found ≡ []
  pub levels : k.numbers.levels ≡ []
  pub grounds : k.sets.grounds.items ≡ []
  pub sets : k.sets.preconditions.sets ≡ []
  pub allowed : k.sets.preconditions.allowed ≡ []
  pub modes : k.sets.modes ≡ []

-- what is found, in the words of certificates
abbrev pub findings_in : List Rows → Kept → Findings
findings_in trees k = record {
  steps = k.numbers.sizes.steps;
  sizes = k.numbers.sizes.sizes;
  found = k.numbers.found;
  levels = k.numbers.levels;
  table = trees;
  grounds = k.sets.grounds.items;
  sets = k.sets.preconditions.sets;
  modes = k.sets.modes;
}

-- what contracts see of it
abbrev pub parts_of : Listing → Partition → List Rows → Kept → ProgramParts
parts_of p comps trees k = record {
  program = p;
  components = comps;
  parts = solution_parts p comps (findings_in trees k);
  steps = k.numbers.sizes.steps;
  found = k.numbers.found;
}

-- components that stand for old ones have the size rows and the mappings that they had
pub record AreNumbersFrom (e : Edit) (old now : KeptNumbers) : Type 0 where
  pub rows : KeepValues e (rows_of old.sizes.sizes.rows) (rows_of now.sizes.sizes.rows)
  pub found : KeepFound e (rows_of old.sizes.sizes.rows) (rows_of now.sizes.sizes.rows) old.found now.found

-- components that stand for old ones have the ground rows that they had
abbrev pub AreGroundsFrom : Edit → List Rows → List Rows → KeptSets → KeptSets → Type 0
AreGroundsFrom e old_trees trees old now =
    KeepValues e (family_of e.before.now.preds old_trees old.grounds.items) (family_of e.after.now.preds trees now.grounds.items)

-- they have all of these
pub record IsResolvedFrom (e : Edit) (old_trees trees : List Rows) (old now : Kept) : Type 0 where
  pub numbers : AreNumbersFrom e old.numbers now.numbers
  pub grounds : AreGroundsFrom e old_trees trees old.sets now.sets
