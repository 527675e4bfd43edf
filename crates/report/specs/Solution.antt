-- Private.
-- What the engines have found of a program, by term size, and the facts of the certificate that it makes.
--
-- Each part is a function of what is found, so that it is known without being made.
--
-- To believe: `IsSolution`, `SolutionsAreExact`, `SolutionsPrintModes`.
use Rattle.std.specs.Prelude.{◌≡◌, ◌≢◌, ℕ, suc, ℤ, List, [], ◌++◌, map, slice_get, None, Some}
use Rattle.std.specs.List.{AllByRecursion, AllPairs, flat_map}
use Rattle.bool_diagrams.specs.Tree.{Tree as Rows}
use Rattle.bool_diagrams.specs.declared.diagram.Diagram.{Diagram}
use Rattle.call_components.specs.Partition.{AreComponents, Partition}
use Rattle.cert_assembly.specs.Assembly.{SetsAreSolved}
use Rattle.cert_assembly.specs.ChainNotes.{chain_notes}
use Rattle.cert_assembly.specs.Ranges.{AreMultipliersBelow, IsFoundBelow}
use Rattle.cert_assembly.specs.Sizing.{IsSolvedChain}
use Rattle.cert_assembly.specs.Spelled.{mode_lists, spelled_list, spelled_lists}
use Rattle.cert_checker.specs.Bounding.{ModesAreBounded}
use Rattle.cert_checker.specs.Valid.{IsValid}
use Rattle.cert_structure.specs.Order.{listed, pred_text}
use Rattle.cert_structure.specs.Structure.{AreNamed}
use Rattle.cert_structure.specs.declared.parts.Parts.{Parts}
use Rattle.certificate.specs.declared.fact.Fact.{Fact}
use Rattle.certificate.specs.declared.fact.Fact.TheVariants.{Terminates}
use Rattle.cti_terms.specs.Listing.{IsProgram, Listing}
use Rattle.cti_terms.specs.Tree.{Tree, truth}
use Rattle.level_systems.specs.declared.found.Found.{Found}
use Rattle.linear_rows.specs.declared.row.Rows.{Rows as SizeRows}
use Rattle.number_tests.specs.declared.level_part.LevelPart.{LevelPart}
use Rattle.numeric_model.specs.States.{plain_step}
use Rattle.numeric_model.specs.declared.chain.Chain.{Chain}
use Rattle.numeric_model.specs.declared.step.Step.{Step}
use Rattle.precond_fixpoint.specs.Solving.{AreLevels, arguments_of}
use Rattle.precond_fixpoint.specs.declared.mode.Mode.{Mode}
use Rattle.report.specs.Assembly.{AreFound}
use Rattle.report.specs.Exact.{IsExact}
use Rattle.report.specs.Levels.{fall_list, given_up, level_list, refutation_list}
use Rattle.report.specs.OfNorm.{IsOfNorm}
use Rattle.report.specs.SupportNotes.{support_notes}
use Rattle.report.specs.declared.solution.Solution.{Solution}
use Rattle.term_size.specs.Occurrences.{size_row}
use Rattle.term_size.specs.declared.any_norm.NormName.TheVariants as norm
use Rattle.termination_model.specs.declared.sizes.Sizes.{Sizes}

-- what a solution has, wherever it is kept
pub record Findings : Type 0 where
  pub steps : List (List Step)
  pub sizes : Sizes
  pub found : List Found
  pub levels : List (List LevelPart)
  pub table : List Rows
  pub grounds : List Diagram
  pub sets : List (List Diagram)
  pub modes : List (List Mode)

abbrev pub findings : Solution → Findings
findings s = record {
  steps = s.steps.now;
  sizes = s.sizes.now;
  found = s.found.now;
  levels = s.levels.now;
  table = s.table.now;
  grounds = s.grounds.now;
  sets = s.sets.now;
  modes = s.modes.now;
}

-- the chain of the steps of all components, one after the other
abbrev pub chain_in : Findings → Chain
chain_in s = record { steps = flat_map (λ own. own) s.steps; sizes = s.sizes }

-- all numbers that are kept are below 2^127
pub record AreFindingsBelow (s : Findings) : Type 0 where
  pub proofs : AllByRecursion (AllByRecursion AreMultipliersBelow) s.sizes.proofs
  pub found : AllByRecursion IsFoundBelow s.found

-- what the engines find of a program by term size
pub record IsSolution (p : Listing) (comps : Partition) (s : Findings) : Type 0 where
  -- the steps are a legal chain that ends with the size rows, which are proved and fit
  pub chain : IsSolvedChain size_row p comps (chain_in s)
  -- the mappings of each recursive component
  pub found : AreFound size_row p comps s.sizes.rows s.found
  pub levels : s.levels ≡ level_list p comps s.found
  -- least ground rows, greatest preconditions, and all minimal modes, all in one table
  pub sets : SetsAreSolved truth p comps s.levels s.table s.table s.grounds s.sets s.modes
  pub below : AreFindingsBelow s

-- parts with the cubes and modes of a solution
abbrev pub with_sets : Listing → Findings → Parts → Parts
with_sets p s parts = record {
  norm = parts.norm;
  modes = mode_lists s.modes;
  rows = parts.rows;
  row_proofs = parts.row_proofs;
  grounds = spelled_list p.preds s.table s.grounds;
  levels = parts.levels;
  falls = parts.falls;
  preconditions = spelled_lists p.preds s.table s.sets;
  refutations = parts.refutations;
}

-- the parts of its certificate: those of its sizes and mappings, with its cubes and modes
abbrev pub solution_parts : Listing → Partition → Findings → Parts
solution_parts p comps s = with_sets p s (record {
  norm = None;
  modes = [];
  rows = s.sizes.rows;
  row_proofs = s.sizes.proofs;
  grounds = [];
  levels = level_list p comps s.found;
  falls = fall_list p comps s.found;
  preconditions = [];
  refutations = refutation_list p comps s.found;
})

module _ (p : Listing) (names : List (List ℕ)) (comps : Partition) where
  -- the notes of the steps of all components, and of supports that were given up
  abbrev pub notes_of : List (List Step) → List Found → List Fact
  notes_of steps found = chain_notes p names (map plain_step (flat_map (λ own. own) steps)) ++ support_notes p names comps (given_up found)

  -- the facts of a certificate with these parts
  abbrev pub facts_with : Parts → List (List Step) → List Found → List Fact
  facts_with parts steps found = listed p names parts (notes_of steps found)

  -- those of a solution
  abbrev pub solution_notes : Findings → List Fact
  solution_notes s = notes_of s.steps s.found

  abbrev pub solution_facts : Findings → List Fact
  solution_facts s = facts_with (solution_parts p comps s) s.steps s.found

-- parts of mappings have their shape, wherever the mappings are right
abbrev pub HaveShapeOfFound : Listing → Partition → List Found → List (List LevelPart) → Type 0
HaveShapeOfFound p comps found levels = (expression : ℕ → Tree → List ℤ) (rows : List SizeRows) → AreFound expression p comps rows found → AreLevels p comps levels

-- the facts of a solution are a valid and exact certificate by term size, whose modes bound their queries
pub record IsExactCertificate (p : Listing) (names : List (List ℕ)) (facts : List Fact) : Type 0 where
  pub valid : IsValid p names facts
  pub exact : IsExact p names facts
  pub bounded : ModesAreBounded p names facts
  pub of_term_size : IsOfNorm norm.Term facts

-- the names are those of the program's predicates, and no two are alike
abbrev pub SolutionsAreExact : Type 0
SolutionsAreExact = (p : Listing) (names : List (List ℕ)) (comps : Partition) (s : Findings)
    → IsProgram p → AreComponents p comps → AreNamed names p.preds → AllPairs (λ a b. a ≢ b) names → IsSolution p comps s
    → IsExactCertificate p names (solution_facts p names comps s)

-- the modes of each predicate stand among these facts, in the order of predicates after the first fact
abbrev pub SolutionsPrintModes : Type 0
SolutionsPrintModes = (p : Listing) (names : List (List ℕ)) (comps : Partition) (s : Findings) (q : ℕ) (own : List Mode)
    → slice_get s.modes q ≡ Some own
    → slice_get (solution_facts p names comps s) (suc q) ≡ Some (Terminates (pred_text p names q) (map arguments_of own))
