-- Private.
-- What a legal chain is for: clauses keep its last rows.
--
-- To believe: `KeepsRows`, that each size row of a clause's head holds where the size rows of its body do.
use Rattle.std.specs.Prelude.{◌≡◌, ℕ, suc, true, ℤ, Bool, List, Some}
use Rattle.std.specs.List.{AllByRecursion}
use Rattle.cti_terms.specs.Tree.{Tree}
use Rattle.cti_terms.specs.Arithmetic.{kind_of}
use Rattle.cti_terms.specs.declared.builtins.Builtin.{Builtin}
use Rattle.cti_terms.specs.declared.clauses.Clause.{Clause}
use Rattle.cti_terms.specs.Listing.{Listing, IsProgram}
use Rattle.call_components.specs.Partition.{Partition, AreComponents}
use Rattle.linear_rows.specs.Rows.{HoldsOn}
use Rattle.term_size.specs.Norm.{IsNorm}
use Rattle.termination_model.specs.sizes.Systems.{row_over, system}
use Rattle.termination_model.specs.chains.Chain.{IsLegalChain}
use Rattle.termination_model.specs.chains.ChainRows.{bottom_row}
use Rattle.termination_model.specs.chains.ChainSteps.{Step}
use Rattle.termination_model.specs.sizes.Stated.{stated_rows}

abbrev pub KeepsRows : (ℕ → Tree → List ℤ) → (ℕ → List (List ℤ)) → Clause → Type 0
KeepsRows expression rows k =
    AllByRecursion (λ (r : List ℤ). HoldsOn (suc k.vars) (system expression rows k.vars k.body) (row_over expression k.vars k.head.args r)) (rows k.head.pred.0)

abbrev pub ChainsKeep : Type 0
ChainsKeep =
    (speaks : List ℤ → Bool) (size : (ℕ → ℕ) → Tree → ℕ) (truth : (ℕ → Bool) → Tree → Bool) (expression : ℕ → Tree → List ℤ)
    (p : Listing) (comps : Partition) (steps : List Step) (last : ℕ → List (List ℤ))
    → IsNorm size truth expression → ((n : ℕ) → speaks (bottom_row n) ≡ true) → IsProgram p → AreComponents p comps
    → IsLegalChain speaks expression p comps steps last → AllByRecursion (KeepsRows expression last) p.clauses

-- and the last rows of built-in predicates are the stated ones
abbrev pub ChainsState : Type 0
ChainsState =
    (speaks : List ℤ → Bool) (expression : ℕ → Tree → List ℤ) (p : Listing) (comps : Partition) (steps : List Step) (last : ℕ → List (List ℤ))
    → IsProgram p → IsLegalChain speaks expression p comps steps last
    → (q : ℕ) (b : Builtin) → kind_of p.arithmetic q ≡ Some b → last q ≡ stated_rows b
