-- To believe, for the modes.
-- How the size rows of a program's predicates come about: legal chains of steps.
--
-- A built-in predicate starts with its stated rows, and every other one starts empty: with the one row of constant -1
-- and zeros, which no size obeys. Components go callees first, and each goes through passes. A pass takes the clauses
-- of the component's predicates in program order, one step for each, and the passes end with the first one that changes
-- no rows.
--
-- To believe: `AreSteps`, `ArePasses`, `IsLegalChain`, over the words of `ChainSteps.antt`.
-- Source: the fixpoint of size relations with widening, as in Mesnard and Neumerkel 2001.
use Rattle.std.specs.Prelude.{◌≡◌, ℕ, suc, ◌==◌, ℤ, Bool, false, if◌then◌else◌, List, [], ◌∷◌, map, filter, length, slice_get, Option, None, Some}
use Rattle.std.specs.List.{flat_map}
use Rattle.call_components.specs.Partition.{Partition}
use Rattle.cti_terms.specs.Tree.{Tree}
use Rattle.cti_terms.specs.Arithmetic.{kind_of}
use Rattle.cti_terms.specs.declared.builtins.Builtin.{Builtin}
use Rattle.cti_terms.specs.declared.clauses.Clause.{Clause}
use Rattle.cti_terms.specs.declared.predicates.Pred.{Pred}
use Rattle.cti_terms.specs.Listing.{Listing}
use Rattle.linear_rows.specs.Step.{columns}
use Rattle.termination_model.specs.chains.ChainRows.{bottom_row}
use Rattle.termination_model.specs.chains.ChainSteps.{Step, IsLegalStep}
use Rattle.termination_model.specs.sizes.Stated.{stated_rows}

-- the rows after a step: those of the head's predicate are new
abbrev pub after : Clause → Step → (ℕ → List (List ℤ)) → ℕ → List (List ℤ)
after k s rows q = if k.head.pred.0 == q then s.rows else rows q

-- the rows after a pass over these clauses, whose steps these are
abbrev pub after_pass : (ℕ → List (List ℤ)) → List (ℕ × Clause) → List Step → ℕ → List (List ℤ)
after_pass rows [] ss = rows
after_pass rows (k ∷ ks) [] = rows
after_pass rows (k ∷ ks) (s ∷ ss) = after_pass (after k.1 s rows) ks ss

-- a pass changes no rows
abbrev pub AreUnchanged : (ℕ → List (List ℤ)) → List (ℕ × Clause) → List Step → Type 0
AreUnchanged rows [] ss = Unit {0}
AreUnchanged rows (k ∷ ks) [] = Unit {0}
AreUnchanged rows (k ∷ ks) (s ∷ ss) = (s.rows ≡ rows k.1.head.pred.0) × AreUnchanged rows ks ss

-- the rows after the passes over these clauses, and after the runs of components: a run is the passes of one
abbrev pub after_passes : (ℕ → List (List ℤ)) → List (ℕ × Clause) → List (List Step) → ℕ → List (List ℤ)
after_passes rows ks [] = rows
after_passes rows ks (ss ∷ sss) = after_passes (after_pass rows ks ss) ks sss

abbrev pub after_runs : (ℕ → List (List ℤ)) → List (List (ℕ × Clause)) → List (List (List Step)) → ℕ → List (List ℤ)
after_runs rows [] rs = rows
after_runs rows (ks ∷ kss) [] = rows
after_runs rows (ks ∷ kss) (r ∷ rs) = after_runs (after_passes rows ks r) kss rs

module _ (speaks : List ℤ → Bool) (expression : ℕ → Tree → List ℤ) where
  -- a pass: one step for each of these clauses, which have their numbers
  abbrev pub AreSteps : ℕ → (ℕ → List (List ℤ)) → List (ℕ × Clause) → List Step → Type 0
  AreSteps pass rows [] [] = Unit {0}
  AreSteps pass rows [] (s ∷ ss) = ⊥
  AreSteps pass rows (k ∷ ks) [] = ⊥
  AreSteps pass rows (k ∷ ks) (s ∷ ss) = (s.clause ≡ k.0) × IsLegalStep speaks expression pass rows k.1 s × AreSteps pass (after k.1 s rows) ks ss

  -- passes, counted on from this number: the last one changes no rows, and each other one changes some
  abbrev pub ArePasses : ℕ → (ℕ → List (List ℤ)) → List (ℕ × Clause) → List (List Step) → Type 0
  ArePasses pass rows ks [] = ⊥
  ArePasses pass rows ks (ss ∷ []) = AreSteps pass rows ks ss × AreUnchanged rows ks ss
  ArePasses pass rows ks (ss ∷ (ts ∷ tss)) =
      AreSteps pass rows ks ss × (AreUnchanged rows ks ss → ⊥) × ArePasses (suc pass) (after_pass rows ks ss) ks (ts ∷ tss)

  -- components, one after the other, each given by its clauses
  abbrev pub AreRuns : (ℕ → List (List ℤ)) → List (List (ℕ × Clause)) → List (List (List Step)) → Type 0
  AreRuns rows [] [] = Unit {0}
  AreRuns rows [] (r ∷ rs) = ⊥
  AreRuns rows (ks ∷ kss) [] = ⊥
  AreRuns rows (ks ∷ kss) (r ∷ rs) = ArePasses 1 rows ks r × AreRuns (after_passes rows ks r) kss rs

-- clauses with their numbers, from this one on
abbrev pub counted : ℕ → List Clause → List (ℕ × Clause)
counted n [] = []
counted n (k ∷ ks) = (n, k) ∷ counted (suc n) ks

-- the component of a predicate, if it is one
abbrev pub component_of : Partition → ℕ → Option ℕ
component_of comps q = slice_get comps.of q

-- there is a number, and it is this one
abbrev pub is_number : ℕ → Option ℕ → Bool
is_number c None = false
is_number c (Some d) = d == c

-- whether a predicate is in the component
abbrev pub is_member : Partition → ℕ → ℕ → Bool
is_member comps c q = is_number c (component_of comps q)

-- the clauses of a component's predicates, in program order
abbrev pub clauses_of : Listing → Partition → ℕ → List (ℕ × Clause)
clauses_of p comps c = filter (λ k. is_number c (component_of comps k.1.head.pred.0)) (counted 1 p.clauses)

-- what a predicate starts with that is not built in
abbrev pub start_or_none : Option Pred → List (List ℤ)
start_or_none None = []
start_or_none (Some p) = bottom_row p.arity ∷ []

-- what a predicate of this kind, if it is built in, starts with: its stated rows
abbrev pub start_as : Option Builtin → Option Pred → List (List ℤ)
start_as None o = start_or_none o
start_as (Some b) o = stated_rows b

-- the rows that a predicate starts with
abbrev pub start_rows : Listing → ℕ → List (List ℤ)
start_rows p q = start_as (kind_of p.arithmetic q) (slice_get p.preds q)

-- the steps of components, callees first, and the rows that they end with
pub record IsLegalChain (speaks : List ℤ → Bool) (expression : ℕ → Tree → List ℤ) (p : Listing) (comps : Partition) (steps : List Step) (last : ℕ → List (List ℤ)) : Type 0 where
  -- the steps by component and pass
  pub runs : List (List (List Step))
  pub legal : AreRuns speaks expression (start_rows p) (map (clauses_of p comps) (columns 0 (length comps.members))) runs
  pub steps_are : steps ≡ flat_map (flat_map (λ ss. ss)) runs
  pub last_are : (q : ℕ) → last q ≡ after_runs (start_rows p) (map (clauses_of p comps) (columns 0 (length comps.members))) runs q
