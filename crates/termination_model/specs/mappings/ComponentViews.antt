-- To believe, for the modes.
-- The view of a component that its program, the components and size rows alone give.
--
-- Ground rows and preconditions count nothing for mappings, so here they are not there: a law says that the decreasing
-- mappings are those of any view with these size rows.
--
-- To believe: all of this file, where the mappings of a component are spoken of.
use Rattle.std.specs.Prelude.{ℕ, ℤ, Bool, true, false, List, [], length, slice_index_or}
use Rattle.cti_terms.specs.Listing.{Listing}
use Rattle.cti_terms.specs.Tree.{Tree}
use Rattle.call_components.specs.Partition.{Partition}
use Rattle.termination_model.specs.claims.Claims.{Claims}
use Rattle.termination_model.specs.mappings.OwnCalls.{Position}
use Rattle.termination_model.specs.mappings.Ready.{arity_in, itself, positions_by}
use Rattle.termination_model.specs.mappings.Supports.{HasSupport}
use Rattle.termination_model.specs.mappings.View.{Rule, view_of}

-- the component of a predicate
abbrev pub rank_in : Partition → ℕ → ℕ
rank_in comps q = slice_index_or comps.of q (length comps.members)

-- the members of a component, by their numbers
abbrev pub members_in : Partition → ℕ → List ℕ
members_in comps c = slice_index_or comps.members c []

-- the argument positions of a component, by predicate and argument
abbrev pub positions_in : Listing → Partition → ℕ → List Position
positions_in p comps c = positions_by (arity_in p) (members_in comps c)

-- no term is true: a word for what does not count
abbrev pub no_truth : (ℕ → Bool) → Tree → Bool
no_truth v t = false

module _ (expression : ℕ → Tree → List ℤ) (p : Listing) (comps : Partition) (rows : ℕ → List (List ℤ)) where
  -- claims of size rows alone
  abbrev pub size_claims : Claims
  size_claims = record {
    size = λ s t. 0;
    truth = no_truth;
    rank = rank_in comps;
    expression = expression;
    rows = rows;
    grounds = λ q bs. true;
    measures = λ r. [];
  }

  abbrev pub component_view : ℕ → List Rule
  component_view c = view_of p size_claims c itself

  -- a decreasing mapping of the component has exactly this support
  abbrev pub HasSupportIn : ℕ → List ℕ → Type 0
  HasSupportIn c s = HasSupport expression (component_view c) (positions_in p comps c) s
