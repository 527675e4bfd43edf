-- Private.
-- What a legal chain is for: clauses keep its last rows.
--
-- To believe: `KeepsRows`, that each size row of a clause's head holds where the size rows of its body do, whatever
-- naturals the columns without an expression are.
use Rattle.std.specs.Prelude.{◌≡◌, ℕ, suc, true, ℤ, Bool, List, Some}
use Rattle.std.specs.List.{AllByRecursion}
use Rattle.call_components.specs.Partition.{Partition, AreComponents}
use Rattle.cti_terms.specs.Arithmetic.{kind_of}
use Rattle.cti_terms.specs.Listing.{Listing, IsProgram}
use Rattle.cti_terms.specs.declared.builtins.Builtin.{Builtin}
use Rattle.cti_terms.specs.declared.clauses.Clause.{Clause}
use Rattle.linear_rows.specs.Rows.{HoldsOn}
use Rattle.termination_model.specs.chains.ChainRows.{bottom_row}
use Rattle.termination_model.specs.chains.ChainSteps.{Step}
use Rattle.size_chains.specs.Chains.{IsLegalChain}
use Rattle.size_chains.specs.Systems.{Systems, AreSystems, at_head, body_of, naturals_of}

abbrev pub KeepsRows : Systems → (ℕ → List (List ℤ)) → Clause → Type 0
KeepsRows s rows k = AllByRecursion (λ (r : List ℤ). HoldsOn (suc (naturals_of s k)) (body_of s rows k) (at_head s k r)) (rows k.head.pred.0)

abbrev pub LastRowsAreKept : Type 0
LastRowsAreKept =
    (speaks : List ℤ → Bool) (s : Systems) (p : Listing) (comps : Partition) (steps : List Step) (last : ℕ → List (List ℤ))
    → ((n : ℕ) → speaks (bottom_row n) ≡ true) → IsProgram p → AreSystems p s → AreComponents p comps
    → IsLegalChain speaks s p comps steps last → AllByRecursion (KeepsRows s last) p.clauses

-- and the last rows of built-in predicates are the stated ones
abbrev pub LastRowsAreStated : Type 0
LastRowsAreStated =
    (speaks : List ℤ → Bool) (s : Systems) (p : Listing) (comps : Partition) (steps : List Step) (last : ℕ → List (List ℤ))
    → IsProgram p → IsLegalChain speaks s p comps steps last
    → (q : ℕ) (b : Builtin) → kind_of p.arithmetic q ≡ Some b → last q ≡ s.stated b
