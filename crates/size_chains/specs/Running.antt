-- Private.
-- What a step, a pass, and the passes of a component do to the state of a chain.
use Rattle.std.specs.Prelude.{All, ◌≡◌, ◌≢◌, ℕ, ◌-◌, ◌<◌, ℤ, Bool, true, false, List, [], ◌∷◌, ◌++◌, map, slice_get, slice_set, Some}
use Rattle.std.specs.List.{flat_map}
use Rattle.call_components.specs.Partition.{Partition}
use Rattle.cti_terms.specs.Listing.{Listing}
use Rattle.cti_terms.specs.declared.clauses.Clause.{Clause}
use Rattle.linear_rows.specs.Members.{In}
use Rattle.linear_rows.specs.declared.multipliers.Multipliers.{Multipliers}
use Rattle.linear_rows.specs.Replacing.{row_fits}
use Rattle.linear_rows.specs.Step.{columns}
use Rattle.termination_model.specs.chains.Chain.{after, after_pass, after_passes, after_runs, clauses_of, AreUnchanged}
use Rattle.termination_model.specs.chains.ChainSteps.{Step as PlainStep}
use Rattle.termination_model.specs.sizes.Sizes.{rows_of}
use Rattle.size_chains.specs.Proved.{IsProved}
use Rattle.size_chains.specs.States.{plain_step, weights}
use Rattle.size_chains.specs.declared.state.State.{State}
use Rattle.size_chains.specs.declared.step.Step.{Step}
use Rattle.size_chains.specs.Chains.{ArePasses, AreRuns, AreSteps, start_rows}
use Rattle.size_chains.specs.Steps.{IsLegalStep}
use Rattle.size_chains.specs.Systems.{Systems}

-- the size rows in a state
abbrev pub rows_in : {D : Type 0} → State D → ℕ → List (List ℤ)
rows_in s = rows_of s.sizes.rows

module _ {D : Type 0} (width : D → ℕ) (listed : D → List (List ℤ)) (speaks : List ℤ → Bool) (systems : Systems) where
  -- a step on the clause of a number; `changed` says whether rows changed
  pub record IsTaken (pass : ℕ) (k : ℕ × Clause) (old new : State D) (changed : Bool) : Type 0 where
    pub step : Step
    pub by : List Multipliers
    pub steps : new.steps ≡ old.steps ++ step ∷ []
    pub clause : step.clause ≡ k.0
    pub legal : IsLegalStep speaks systems pass (rows_in old) k.1 (plain_step step)
    pub rows : rows_in new ≡ after k.1 (plain_step step) (rows_in old)
    pub unchanged : changed ≡ false → (plain_step step).rows ≡ rows_in old k.1.head.pred.0
    pub changes : changed ≡ true → (plain_step step).rows ≢ rows_in old k.1.head.pred.0
    -- after the third pass less is left to do
    pub less : 3 < pass → changed ≡ true → weights width listed new.values.items < weights width listed old.values.items
    pub same : changed ≡ false → weights width listed new.values.items ≡ weights width listed old.values.items
    pub proofs : new.proofs.items ≡ slice_set old.proofs.items (k.0 - 1) by
    pub proved : changed ≡ false → IsProved systems (rows_in old) k.1 by

  -- proofs other than those of these clauses stay
  abbrev pub KeepsOthers : List (ℕ × Clause) → State D → State D → Type 0
  KeepsOthers ks old new = (j : ℕ) → ((k : ℕ × Clause) → In k ks → k.0 - 1 ≢ j) → slice_get new.proofs.items j ≡ slice_get old.proofs.items j

  -- these clauses have proofs
  abbrev pub HaveProofs : List (ℕ × Clause) → State D → Type 0
  HaveProofs ks s = (k : ℕ × Clause) → In k ks → (by : List Multipliers) → slice_get s.proofs.items (k.0 - 1) ≡ Some by → IsProved systems (rows_in s) k.1 by

  -- a step for each of these clauses, in order
  pub record IsPassed (pass : ℕ) (ks : List (ℕ × Clause)) (old new : State D) (changed : Bool) : Type 0 where
    pub steps : List Step
    pub steps_are : new.steps ≡ old.steps ++ steps
    pub legal : AreSteps speaks systems pass (rows_in old) ks (map plain_step steps)
    pub rows : rows_in new ≡ after_pass (rows_in old) ks (map plain_step steps)
    pub unchanged : changed ≡ false → AreUnchanged (rows_in old) ks (map plain_step steps)
    pub changes : changed ≡ true → AreUnchanged (rows_in old) ks (map plain_step steps) → ⊥
    pub less : 3 < pass → changed ≡ true → weights width listed new.values.items < weights width listed old.values.items
    pub same : changed ≡ false → weights width listed new.values.items ≡ weights width listed old.values.items
    pub others : KeepsOthers ks old new
    pub proved : changed ≡ false → HaveProofs ks new

  -- passes over these clauses until one changes nothing
  pub record IsRun (ks : List (ℕ × Clause)) (old new : State D) : Type 0 where
    pub passes : List (List PlainStep)
    pub steps : List Step
    pub steps_are : new.steps ≡ old.steps ++ steps
    pub by_pass : map plain_step steps ≡ flat_map (λ ss. ss) passes
    pub legal : ArePasses speaks systems 1 (rows_in old) ks passes
    pub rows : rows_in new ≡ after_passes (rows_in old) ks passes
    pub others : KeepsOthers ks old new
    pub proved : HaveProofs ks new

  -- the components below this one have gone through their passes
  pub record IsChained (p : Listing) (comps : Partition) (c : ℕ) (s : State D) : Type 0 where
    pub runs : List (List (List PlainStep))
    pub legal : AreRuns speaks systems (start_rows systems p) (map (clauses_of p comps) (columns 0 c)) runs
    pub steps_are : map plain_step s.steps ≡ flat_map (flat_map (λ ss. ss)) runs
    pub rows : rows_in s ≡ after_runs (start_rows systems p) (map (clauses_of p comps) (columns 0 c)) runs
    pub proved : (d : ℕ) → d < c → HaveProofs (clauses_of p comps d) s
    pub fits : (d q : ℕ) → d < c → slice_get comps.of q ≡ Some d → All (λ r. row_fits r ≡ true) (rows_in s q)
