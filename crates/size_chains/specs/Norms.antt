-- Private.
-- Systems over a norm: one column for each argument, which is its size.
--
-- To believe: `norm_systems`. The law `norms_have_these_chains` says that its chains are those of termination_model.
use Rattle.std.specs.Prelude.{ℕ, ◌↔◌, ℤ, Bool, List, map, slice_get, Option, None, Some}
use Rattle.call_components.specs.Partition.{Partition}
use Rattle.cti_terms.specs.Listing.{Listing}
use Rattle.cti_terms.specs.Tree.{Tree}
use Rattle.cti_terms.specs.declared.predicates.Pred.{Pred}
use Rattle.termination_model.specs.chains.Chain.{IsLegalChain as HasChain}
use Rattle.termination_model.specs.chains.ChainSteps.{Step}
use Rattle.termination_model.specs.sizes.Stated.{stated_rows}
use Rattle.termination_model.specs.sizes.Systems.{row_over}
use Rattle.size_chains.specs.Chains.{IsLegalChain}
use Rattle.size_chains.specs.Systems.{Systems}

abbrev pub arity_or_none : Option Pred → ℕ
arity_or_none None = 0
arity_or_none (Some p) = p.arity

-- each column has an expression
abbrev pub all_some : List (List ℤ) → List (Option (List ℤ))
all_some es = map (λ e. Some e) es

abbrev pub norm_systems : Listing → (ℕ → Tree → List ℤ) → Systems
norm_systems p expression = record {
  width = λ q. arity_or_none (slice_get p.preds q);
  naturals = λ k. k.vars;
  over = λ k b r. row_over expression k.vars b.args r;
  heads = λ k. all_some (map (expression k.vars) k.head.args);
  stated = stated_rows;
}

-- over a norm the chains of termination_model are these
abbrev pub NormsHaveTheseChains : Type 0
NormsHaveTheseChains =
    (speaks : List ℤ → Bool) (expression : ℕ → Tree → List ℤ) (p : Listing) (comps : Partition) (steps : List Step) (last : ℕ → List (List ℤ))
    → HasChain speaks expression p comps steps last ↔ IsLegalChain speaks (norm_systems p expression) p comps steps last
