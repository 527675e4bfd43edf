-- Private.
-- How the size rows of predicates come about: legal chains of steps, and the run of a component.
--
-- As Chain.antt and Runs.antt of termination_model, over the systems of clauses in the place of a norm.
--
-- To believe: `start_rows`, `AreSteps`, `ArePasses`, `IsLegalChain`, `IsRunOf`.
use Rattle.std.specs.Prelude.{◌≡◌, ℕ, suc, ℤ, Bool, if◌then◌else◌, List, [], ◌∷◌, map, length, slice_get, Option, None, Some}
use Rattle.std.specs.List.{flat_map}
use Rattle.call_components.specs.Partition.{Partition, IsIn}
use Rattle.cti_terms.specs.Arithmetic.{kind_of}
use Rattle.cti_terms.specs.Listing.{Listing}
use Rattle.cti_terms.specs.declared.builtins.Builtin.{Builtin}
use Rattle.cti_terms.specs.declared.clauses.Clause.{Clause}
use Rattle.cti_terms.specs.declared.predicates.Pred.{Pred}
use Rattle.linear_rows.specs.Step.{columns}
use Rattle.termination_model.specs.chains.Chain.{after, after_pass, after_passes, after_runs, clauses_of, component_of, AreUnchanged}
use Rattle.termination_model.specs.chains.ChainRows.{bottom_row}
use Rattle.termination_model.specs.chains.ChainSteps.{Step}
use Rattle.termination_model.specs.chains.Runs.{is_before}
use Rattle.size_chains.specs.Steps.{IsLegalStep}
use Rattle.size_chains.specs.Systems.{Systems}

-- what a predicate starts with that is not built in: its rows hold nowhere
abbrev pub start_or_none : Systems → ℕ → Option Pred → List (List ℤ)
start_or_none systems q None = []
start_or_none systems q (Some p) = bottom_row (systems.width q) ∷ []

-- what a predicate of this kind, if it is built in, starts with: its stated rows
abbrev pub start_as : Systems → ℕ → Option Builtin → Option Pred → List (List ℤ)
start_as systems q None o = start_or_none systems q o
start_as systems q (Some b) o = systems.stated b

-- the rows that a predicate starts with
abbrev pub start_rows : Systems → Listing → ℕ → List (List ℤ)
start_rows systems p q = start_as systems q (kind_of p.arithmetic q) (slice_get p.preds q)

module _ (speaks : List ℤ → Bool) (systems : Systems) where
  -- a pass: one step for each of these clauses, which have their numbers
  abbrev pub AreSteps : ℕ → (ℕ → List (List ℤ)) → List (ℕ × Clause) → List Step → Type 0
  AreSteps pass rows [] [] = Unit {0}
  AreSteps pass rows [] (s ∷ ss) = ⊥
  AreSteps pass rows (k ∷ ks) [] = ⊥
  AreSteps pass rows (k ∷ ks) (s ∷ ss) = (s.clause ≡ k.0) × IsLegalStep speaks systems pass rows k.1 s × AreSteps pass (after k.1 s rows) ks ss

  -- passes, counted on from this number: the last one changes no rows, and each other one changes some
  abbrev pub ArePasses : ℕ → (ℕ → List (List ℤ)) → List (ℕ × Clause) → List (List Step) → Type 0
  ArePasses pass rows ks [] = ⊥
  ArePasses pass rows ks (ss ∷ []) = AreSteps pass rows ks ss × AreUnchanged rows ks ss
  ArePasses pass rows ks (ss ∷ (ts ∷ tss)) =
      AreSteps pass rows ks ss × (AreUnchanged rows ks ss → ⊥) × ArePasses (suc pass) (after_pass rows ks ss) ks (ts ∷ tss)

  -- components, one after the other, each given by its clauses
  abbrev pub AreRuns : (ℕ → List (List ℤ)) → List (List (ℕ × Clause)) → List (List (List Step)) → Type 0
  AreRuns rows [] [] = Unit {0}
  AreRuns rows [] (r ∷ rs) = ⊥
  AreRuns rows (ks ∷ kss) [] = ⊥
  AreRuns rows (ks ∷ kss) (r ∷ rs) = ArePasses 1 rows ks r × AreRuns (after_passes rows ks r) kss rs

-- the steps of components, callees first, and the rows that they end with
pub record IsLegalChain (speaks : List ℤ → Bool) (systems : Systems) (p : Listing) (comps : Partition) (steps : List Step) (last : ℕ → List (List ℤ)) : Type 0 where
  -- the steps by component and pass
  pub runs : List (List (List Step))
  pub legal : AreRuns speaks systems (start_rows systems p) (map (clauses_of p comps) (columns 0 (length comps.members))) runs
  pub steps_are : steps ≡ flat_map (flat_map (λ ss. ss)) runs
  pub last_are : (q : ℕ) → last q ≡ after_runs (start_rows systems p) (map (clauses_of p comps) (columns 0 (length comps.members))) runs q

-- ---- one component
-- the rows above which a component runs: earlier components have these rows, and the others are empty
abbrev pub starting : Systems → Listing → Partition → ℕ → (ℕ → List (List ℤ)) → ℕ → List (List ℤ)
starting systems p comps c below q = if is_before c (component_of comps q) then below q else start_rows systems p q

-- the passes of a component above the last rows of the predicates that it calls, and its members' rows after them
pub record IsRunOf (speaks : List ℤ → Bool) (systems : Systems) (p : Listing) (comps : Partition) (c : ℕ) (below : ℕ → List (List ℤ)) (passes : List (List Step)) (last : ℕ → List (List ℤ)) : Type 0 where
  pub legal : ArePasses speaks systems 1 (starting systems p comps c below) (clauses_of p comps c) passes
  pub last_are : (q : ℕ) → IsIn comps c q → last q ≡ after_passes (starting systems p comps c below) (clauses_of p comps c) passes q
