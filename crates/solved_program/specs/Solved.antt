-- Private.
-- What is kept of a program's size rows, and that it is right.
--
-- Each component has its part of a legal chain above the last rows of the predicates that it calls, and its clauses
-- have their proofs. So a part is a fact of one component over whole tables.
--
-- To believe: `AreSolved`, `SolvedSizesAreProved`.
use Rattle.std.specs.Prelude.{◌≡◌, ℕ, ℤ, Bool, List, length, map, slice_get, All, true, Some}
use Rattle.std.specs.List.{flat_map}
use Rattle.call_components.specs.Partition.{Partition, AreComponents}
use Rattle.cti_terms.specs.Listing.{Listing, IsProgram}
use Rattle.cti_terms.specs.Tree.{Tree}
use Rattle.linear_rows.specs.Replacing.{row_fits}
use Rattle.numeric_model.specs.Parts.{IsPartOf}
use Rattle.numeric_model.specs.Proved.{AreProved}
use Rattle.numeric_model.specs.States.{plain_step}
use Rattle.numeric_model.specs.declared.step.Step.{Step}
use Rattle.termination_model.specs.chains.Chain.{IsLegalChain}
use Rattle.termination_model.specs.sizes.Sizes.{AreSizes, rows_of}
use Rattle.solved_program.specs.declared.solved_sizes.SolvedSizes.{SolvedSizes}

module _ (speaks : List ℤ → Bool) (expression : ℕ → Tree → List ℤ) (p : Listing) (comps : Partition) where
  -- these steps are the part of a component
  abbrev pub IsPartAt : SolvedSizes → ℕ → List Step → Type 0
  IsPartAt s c own = IsPartOf speaks expression p comps c (rows_of s.sizes.rows) (record { steps = own; sizes = s.sizes })

  -- the components below n are solved
  pub record AreSolvedTo (n : ℕ) (s : SolvedSizes) : Type 0 where
    pub rows : AreSizes p.preds s.sizes.rows
    pub proofs : length s.sizes.proofs ≡ length p.clauses
    pub each : length s.steps ≡ n
    pub parts : (c : ℕ) (own : List Step) → slice_get s.steps c ≡ Some own → IsPartAt s c own

  -- all of them are
  abbrev pub AreSolved : SolvedSizes → Type 0
  AreSolved s = AreSolvedTo (length comps.members) s

-- the steps of all components are a legal chain that ends with these rows, and these are proved
abbrev pub SolvedSizesAreProved : Type 0
SolvedSizesAreProved = (speaks : List ℤ → Bool) (expression : ℕ → Tree → List ℤ) (p : Listing) (comps : Partition) (s : SolvedSizes) → IsProgram p → AreComponents p comps
    → AreSolved speaks expression p comps s
    → IsLegalChain speaks expression p comps (map plain_step (flat_map (λ own. own) s.steps)) (rows_of s.sizes.rows)
    × AreProved expression (rows_of s.sizes.rows) p.clauses s.sizes.proofs
    × ((q : ℕ) → All (λ r. row_fits r ≡ true) (rows_of s.sizes.rows q))
