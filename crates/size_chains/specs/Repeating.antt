-- Private.
-- Steps that can be repeated: those that would read the same rows as the last one on their clause, so that the image is
-- the same.
use Rattle.std.specs.Prelude.{◌≡◌, ℕ, suc, ◌-◌, ◌≤◌, ℤ, Bool, true, false, List, length, slice_get, slice_set, Some}
use Rattle.std.specs.List.{AllByRecursion}
use Rattle.cti_terms.specs.Listing.{Listing}
use Rattle.cti_terms.specs.declared.atom_list.Atom.{Atom}
use Rattle.cti_terms.specs.declared.clauses.Clause.{Clause}
use Rattle.termination_model.specs.chains.ChainSteps.{Step as PlainStep}
use Rattle.size_chains.specs.declared.filled.Filled.TheVariants.{Inhabited}
use Rattle.size_chains.specs.declared.state.State.{State}
use Rattle.size_chains.specs.declared.step.Step.{Step}
use Rattle.size_chains.specs.Noting.{HasRowsOf}
use Rattle.size_chains.specs.Running.{rows_in}
use Rattle.size_chains.specs.States.{plain_step}
use Rattle.size_chains.specs.Steps.{IsLegalStep}
use Rattle.size_chains.specs.Systems.{Systems}

-- the rows of these atoms' predicates changed last before the step at this place
abbrev pub HaveStayed : List ℕ → ℕ → List Atom → Type 0
HaveStayed changes place body = AllByRecursion (λ (a : Atom). (n : ℕ) × (slice_get changes a.pred.0 ≡ Some n) × (n ≤ place)) body

-- a step on a clause, since which the rows of these atoms' predicates did not change
pub record IsLastStep {D : Type 0} (s : State D) (k : ℕ) (body : List Atom) (step : Step) : Type 0 where
  pub place : ℕ
  pub at : slice_get s.steps place ≡ Some step
  pub clause : step.clause ≡ k
  pub stayed : HaveStayed s.latest.changes.items place body

-- the last step is noted as the last change of a predicate's rows, if it changed them
pub record IsMarked {D : Type 0} (q : ℕ) (old new : State D) (changed : Bool) : Type 0 where
  pub same : changed ≡ false → new.latest.changes.items ≡ old.latest.changes.items
  pub set : changed ≡ true → new.latest.changes.items ≡ slice_set old.latest.changes.items q (suc (length old.steps))

module _ (speaks : List ℤ → Bool) (systems : Systems) where
  -- a step was legal in some pass, over some rows
  pub record WasLegal (c : Clause) (step : PlainStep) : Type 0 where
    pub pass : ℕ
    pub rows : ℕ → List (List ℤ)
    pub legal : IsLegalStep speaks systems pass rows c step

  -- so was each step, and where rows did not change since then it read the present ones
  abbrev pub WereLegal : {D : Type 0} → Listing → State D → Type 0
  WereLegal p s = (i : ℕ) (step : Step) → slice_get s.steps i ≡ Some step → (c : Clause) → slice_get p.clauses (step.clause - 1) ≡ Some c
      → (was : WasLegal c (plain_step step)) × ((q n : ℕ) → slice_get s.latest.changes.items q ≡ Some n → n ≤ i → was.rows q ≡ rows_in s q)

  -- the rows of the head have a point, and the step was a legal one on this clause, over the present rows of its body
  pub record IsRepeatable (rows : ℕ → List (List ℤ)) (c : Clause) (width : ℕ) (listed : List (List ℤ)) (step : Step) : Type 0 where
    pub head : HasRowsOf (length (systems.heads c)) rows c Inhabited width listed
    pub was_legal : WasLegal c (plain_step step)
    pub same : AllByRecursion (λ (a : Atom). was_legal.rows a.pred.0 ≡ rows a.pred.0) c.body
