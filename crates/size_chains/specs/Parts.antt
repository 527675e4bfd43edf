-- Private.
-- What a component's run gives: its rows and steps, with its proofs.
--
-- To believe: `IsPartOf`, over `IsRunOf`.
use Rattle.std.specs.Prelude.{◌≡◌, ℕ, ◌-◌, ℤ, Bool, true, List, length, map, slice_get, All, Some}
use Rattle.std.specs.List.{flat_map}
use Rattle.call_components.specs.Partition.{Partition, IsIn}
use Rattle.cti_terms.specs.Listing.{Listing}
use Rattle.cti_terms.specs.declared.clauses.Clause.{Clause}
use Rattle.linear_rows.specs.Members.{In}
use Rattle.linear_rows.specs.Replacing.{row_fits}
use Rattle.linear_rows.specs.declared.multipliers.Multipliers.{Multipliers}
use Rattle.termination_model.specs.chains.Chain.{clauses_of, component_of}
use Rattle.termination_model.specs.chains.ChainSteps.{Step}
use Rattle.termination_model.specs.chains.Runs.{is_before}
use Rattle.termination_model.specs.sizes.Sizes.{rows_of}
use Rattle.size_chains.specs.Proved.{IsProved}
use Rattle.size_chains.specs.States.{plain_step}
use Rattle.size_chains.specs.declared.chain.Chain.{Chain}
use Rattle.size_chains.specs.Chains.{IsRunOf}
use Rattle.size_chains.specs.Systems.{AreSizes, Systems}

-- a component's run, with its proofs, in whole tables. Later predicates' rows and other clauses' proofs count nothing
pub record IsPartOf (speaks : List ℤ → Bool) (systems : Systems) (p : Listing) (comps : Partition) (c : ℕ) (below : ℕ → List (List ℤ)) (part : Chain) : Type 0 where
  pub sizes : AreSizes systems p.preds part.sizes.rows
  pub count : length part.sizes.proofs ≡ length p.clauses
  pub others : (q : ℕ) → is_before c (component_of comps q) ≡ true → rows_of part.sizes.rows q ≡ below q
  pub passes : List (List Step)
  pub steps_are : map plain_step part.steps ≡ flat_map (λ ss. ss) passes
  pub run : IsRunOf speaks systems p comps c below passes (rows_of part.sizes.rows)
  pub proved : (k : ℕ × Clause) → In k (clauses_of p comps c) → (by : List Multipliers) → slice_get part.sizes.proofs (k.0 - 1) ≡ Some by → IsProved systems (rows_of part.sizes.rows) k.1 by
  pub fits : (q : ℕ) → IsIn comps c q → All (λ r. row_fits r ≡ true) (rows_of part.sizes.rows q)
