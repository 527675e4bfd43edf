-- Private.
-- The claims of a certificate of lists: what its parts say of the program's predicates, as functions on their numbers.
--
-- A predicate's rank is the number of its component. A component has one measure for each list of its members, with the
-- list's mappings. Nothing here has to be believed.
use Rattle.std.specs.Prelude.{ℕ, zero, suc, ℤ, Bool, List, [], ◌∷◌, map, length, slice_get}
use Rattle.call_components.specs.Partition.{Partition}
use Rattle.cti_terms.specs.Tree.{Tree}
use Rattle.lex_certificate.specs.declared.parts.LexParts.{LexParts}
use Rattle.number_tests.specs.Levels.{natural_coefficients, natural_offset}
use Rattle.number_tests.specs.Shape.{list_at}
use Rattle.termination_model.specs.claims.Claims.{Mapping, Measure, Claims}
use Rattle.termination_model.specs.grounds.Grounds.{Family}
use Rattle.termination_model.specs.sizes.Sizes.{rows_of}
use Rattle.termination_model.specs.mappings.ComponentViews.{rank_in}

module _ (parts : LexParts) where
  -- measure i of the list of number m
  abbrev pub list_mapping : ℕ → ℕ → Mapping
  list_mapping m i = record {
    coefficients = λ q. natural_coefficients (slice_get (list_at (list_at parts.lists q) m) i);
    offset = λ q. natural_offset (slice_get (list_at (list_at parts.lists q) m) i);
  }

  -- n measures, from number i on
  abbrev pub mappings_from : ℕ → ℕ → ℕ → List Mapping
  mappings_from m i zero = []
  mappings_from m i (suc n) = list_mapping m i ∷ mappings_from m (suc i) n

  -- how many measures the lists of a component with these members have
  abbrev pub lengths_by : List ℕ → List ℕ
  lengths_by [] = []
  lengths_by (q ∷ qs) = map length (list_at parts.lists q)

  module _ (pre : ℕ → Family) where
    abbrev pub measure_of : ℕ → ℕ → Measure
    measure_of m n = record { mappings = mappings_from m 0 n; pre = pre m }

    -- lists of these lengths, from number m on
    abbrev pub measures_from : ℕ → List ℕ → List Measure
    measures_from m [] = []
    measures_from m (n ∷ ns) = measure_of m n ∷ measures_from (suc m) ns

module _ (size : (ℕ → ℕ) → Tree → ℕ) (truth : (ℕ → Bool) → Tree → Bool) (expression : ℕ → Tree → List ℤ) where
  abbrev pub claims_of : Partition → LexParts → Family → (ℕ → Family) → Claims
  claims_of comps parts grounds pre = record {
    size = size;
    truth = truth;
    rank = rank_in comps;
    expression = expression;
    rows = rows_of parts.rows;
    grounds = grounds;
    measures = λ r. measures_from parts pre 0 (lengths_by parts (list_at comps.members r));
  }
