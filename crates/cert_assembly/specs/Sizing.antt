-- Private.
-- What the model of sizes gives to the parts of a certificate.
--
-- Nothing here has to be believed.
use Rattle.std.specs.Prelude.{◌≡◌, ℕ, ℤ, List, All, Some, length, map, slice_get, true}
use Rattle.std.specs.List.{AllByRecursion}
use Rattle.call_components.specs.Partition.{Partition}
use Rattle.cert_structure.specs.Numbered.{AreEach}
use Rattle.cert_structure.specs.Shape.{arity_in, HaveMultipliers, body_of, head_of, IsSizeRow, rows_of, rows_of_atoms}
use Rattle.cert_structure.specs.declared.parts.Parts.{Parts}
use Rattle.cti_terms.specs.Listing.{Listing}
use Rattle.cti_terms.specs.Tree.{Tree}
use Rattle.cti_terms.specs.declared.clauses.Clause.{Clause}
use Rattle.exact128.specs.Fits.{fits}
use Rattle.linear_rows.specs.Blown.{all_of}
use Rattle.linear_rows.specs.Replacing.{row_fits}
use Rattle.linear_rows.specs.declared.multipliers.Multipliers.{Multipliers}
use Rattle.linear_rows.specs.declared.row.Rows.{Rows}
use Rattle.number_tests.specs.Proved.{RowsAreKept}
use Rattle.number_tests.specs.Shape.{list_at}
use Rattle.numeric_model.specs.Proved.{AreProved}
use Rattle.numeric_model.specs.States.{plain_step}
use Rattle.numeric_model.specs.declared.chain.Chain.{Chain}
use Rattle.termination_model.specs.chains.Chain.{IsLegalChain}
use Rattle.termination_model.specs.sizes.Sizes.{AreSizes, rows_of as size_rows_of}
use Rattle.termination_model.specs.sizes.Stated.{AreStated}
use Rattle.termination_model.specs.declared.sizes.Sizes.{Sizes}

-- a chain as the model of sizes gives it
pub record IsSolvedChain (expression : ℕ → Tree → List ℤ) (p : Listing) (comps : Partition) (chain : Chain) : Type 0 where
  pub legal : IsLegalChain (all_of fits) expression p comps (map plain_step chain.steps) (size_rows_of chain.sizes.rows)
  pub sizes : AreSizes p.preds chain.sizes.rows
  pub proofs : AreProved expression (size_rows_of chain.sizes.rows) p.clauses chain.sizes.proofs
  pub fits : (q : ℕ) → All (λ r. row_fits r ≡ true) (size_rows_of chain.sizes.rows q)

-- what the model of sizes gives: the shape of its parts, that built-in predicates have their stated rows, and that its
-- numbers hold
pub record SizesHold (expression : ℕ → Tree → List ℤ) (p : Listing) (rows : List Rows) (proofs : List (List Multipliers)) : Type 0 where
  pub shape : AreEach (length p.preds) (λ a r. (r.width ≡ arity_in p a) × AllByRecursion (IsSizeRow (arity_in p a)) r.list) rows
  pub proofs_shape : AreEach (length p.clauses) (λ k. AreEach (rows_of rows (head_of p k)) (λ _. HaveMultipliers (rows_of_atoms rows (body_of p k)))) proofs
  pub stated : AreStated p.arithmetic (size_rows_of rows)
  pub hold : (k : ℕ) (c : Clause) → slice_get p.clauses k ≡ Some c → RowsAreKept expression rows c (list_at proofs k)

-- the parts with other size rows
abbrev pub with_sizes : Sizes → Parts → Parts
with_sizes sizes parts = record {
  norm = parts.norm;
  modes = parts.modes;
  rows = sizes.rows;
  row_proofs = sizes.proofs;
  grounds = parts.grounds;
  levels = parts.levels;
  falls = parts.falls;
  preconditions = parts.preconditions;
  refutations = parts.refutations;
}
