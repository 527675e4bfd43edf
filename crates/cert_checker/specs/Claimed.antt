-- To believe, for the modes.
-- The claims of a certificate: what its parts say of the program's predicates, as functions on their numbers.
--
-- A predicate's rank is the number of its component. The component r has one measure for each mapping of its members,
-- with that mapping alone. The sets of truth rows are given: `grounds` for the ground rows, and `pre m` for the
-- preconditions for mapping m, counted from 0. A number that names no predicate has a rank without measures.
--
-- To believe: nothing, where only `Bounded` is wanted.
use Rattle.std.specs.Prelude.{ℕ, zero, suc, ℤ, Bool, List, [], ◌∷◌, length, slice_get, slice_index_or}
use Rattle.cti_terms.specs.Tree.{Tree}
use Rattle.call_components.specs.Partition.{Partition}
pub use Rattle.number_tests.specs.Levels.{natural_coefficients, natural_offset}
use Rattle.cert_structure.specs.declared.parts.Parts.{Parts}
use Rattle.termination_model.specs.grounds.Grounds.{Family}
use Rattle.termination_model.specs.claims.Claims.{Mapping, Measure, Claims}
use Rattle.termination_model.specs.sizes.Sizes.{rows_of}
use Rattle.number_tests.specs.Shape.{list_at}
use Rattle.termination_model.specs.mappings.ComponentViews.{rank_in}

module _ (parts : Parts) where
  -- the mapping of number m
  abbrev pub mapping_of : ℕ → Mapping
  mapping_of m = record {
    coefficients = λ q. natural_coefficients (slice_get (list_at parts.levels q) m);
    offset = λ q. natural_offset (slice_get (list_at parts.levels q) m);
  }

  -- how many mappings a component with these members has
  abbrev pub mapping_count : List ℕ → ℕ
  mapping_count [] = 0
  mapping_count (q ∷ qs) = length (list_at parts.levels q)

  module _ (pre : ℕ → Family) where
    abbrev pub measure_of : ℕ → Measure
    measure_of m = record { mappings = mapping_of m ∷ []; pre = pre m }

    -- n measures, from number m on
    abbrev pub measures_from : ℕ → ℕ → List Measure
    measures_from m zero = []
    measures_from m (suc n) = measure_of m ∷ measures_from (suc m) n

module _ (size : (ℕ → ℕ) → Tree → ℕ) (truth : (ℕ → Bool) → Tree → Bool) (expression : ℕ → Tree → List ℤ) where
  abbrev pub claims_of : Partition → Parts → Family → (ℕ → Family) → Claims
  claims_of comps parts grounds pre = record {
    size = size;
    truth = truth;
    rank = rank_in comps;
    expression = expression;
    rows = rows_of parts.rows;
    grounds = grounds;
    measures = λ r. measures_from parts pre 0 (mapping_count parts (list_at comps.members r));
  }
