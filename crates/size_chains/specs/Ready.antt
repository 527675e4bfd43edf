-- Private.
-- A state in which the components of a program are solved one after another.
--
-- To believe: `IsReady`, `KeepsOtherRows`.
use Rattle.std.specs.Prelude.{◌≡◌, ℕ, ◌+◌, ℤ, false, List, []}
use Rattle.call_components.specs.Partition.{Partition, IsIn}
use Rattle.cti_terms.specs.Listing.{Listing}
use Rattle.termination_model.specs.chains.Chain.{component_of}
use Rattle.termination_model.specs.chains.Runs.{is_before}
use Rattle.size_chains.specs.Running.{rows_in}
use Rattle.size_chains.specs.States.{IsState, own_from}
use Rattle.size_chains.specs.declared.chain.Chain.{Chain}
use Rattle.component_clauses.specs.declared.component.ComponentClauses.{ComponentClauses}
use Rattle.size_chains.specs.declared.state.State.{State}
use Rattle.size_chains.specs.declared.step.Step.{Step}
use Rattle.size_chains.specs.Chains.{start_rows}
use Rattle.size_chains.specs.Systems.{Systems}

module _ {D : Type 0} (width : D → ℕ) (listed : D → List (List ℤ)) (systems : Systems) where
  -- the state of a chain at a component: predicates of earlier ones need no values
  abbrev pub IsStateFor : ComponentClauses → State D → Type 0
  IsStateFor own s = IsState width listed systems (own_from own.comps.now own.number) own.program.now s

  -- The components below c are done. Predicates of no such component have the rows of the start, and there are no steps
  pub record IsReady (p : Listing) (comps : Partition) (c : ℕ) (s : State D) : Type 0 where
    pub state : IsState width listed systems (own_from comps c) p s
    pub others : (q : ℕ) → is_before c (component_of comps q) ≡ false → rows_in s q ≡ start_rows systems p q
    pub none : s.steps ≡ []

  -- a component is the next one
  abbrev pub IsReadyFor : ComponentClauses → State D → Type 0
  IsReadyFor own s = IsReady own.program.now own.comps.now own.number s

  -- it is done
  abbrev pub IsReadyAfter : ComponentClauses → State D → Type 0
  IsReadyAfter own s = IsReady own.program.now own.comps.now (own.number + 1) s

-- predicates that are no members of a component keep their rows
abbrev pub KeepsOtherRows : {D : Type 0} → ComponentClauses → State D → State D → Type 0
KeepsOtherRows own old new = (q : ℕ) → (IsIn own.comps.now own.number q → ⊥) → rows_in new q ≡ rows_in old q

-- steps with the rows and the proofs of the state after them
abbrev pub chain_of : {D : Type 0} → List Step → State D → Chain
chain_of steps s = record { steps = steps; sizes = record { rows = s.sizes.rows; proofs = s.proofs.items } }
