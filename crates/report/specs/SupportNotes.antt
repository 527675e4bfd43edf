-- To believe, for the modes.
-- The notes of components: the supports that were given up, and which components have many argument positions.
--
-- To believe: all of this file.
use Rattle.std.specs.Prelude.{◌+◌, ℕ, zero, suc, if◌then◌else◌, List, [], ◌∷◌, ◌++◌, map, length, nat_eq, nat_lt, Option, None, Some}
use Rattle.std.specs.List.{flat_map, list_any}
use Rattle.call_components.specs.Partition.{Partition}
use Rattle.cert_assembly.specs.Leading.{led_by}
use Rattle.cert_structure.specs.Order.{pred_text}
use Rattle.cert_structure.specs.Shape.{arity_in}
use Rattle.certificate.specs.declared.fact.Fact.{Fact}
use Rattle.certificate.specs.declared.fact.Fact.TheVariants as fact
use Rattle.cti_terms.specs.Listing.{Listing}
use Rattle.linear_rows.specs.Step.{columns}
use Rattle.termination_model.specs.mappings.ComponentViews.{members_in, positions_in}

-- of n arguments, the first of which is position i and has number a, those whose positions are in the set
abbrev pub arguments_in : List ℕ → ℕ → ℕ → ℕ → List ℕ
arguments_in s i a zero = []
arguments_in s i a (suc n) = (if list_any (λ x. nat_eq i x) s then a ∷ [] else []) ++ arguments_in s (suc i) (suc a) n

-- one list of arguments for each member
abbrev pub arguments_by_member : Listing → List ℕ → ℕ → List ℕ → List (List ℕ)
arguments_by_member p s i [] = []
arguments_by_member p s i (q ∷ qs) = arguments_in s i 1 (arity_in p q) ∷ arguments_by_member p s (i + arity_in p q) qs

-- the notes of all components, by their first members
module _ (p : Listing) (names : List (List ℕ)) (comps : Partition) where
  -- a support of the component c, whose first member is q, was given up
  abbrev pub blown_note : ℕ → ℕ → List ℕ → Fact
  blown_note c q s = fact.Blown (pred_text p names q) (arguments_by_member p s 1 (members_in comps c))

  abbrev pub blown_at : (ℕ → List (List ℕ)) → ℕ → Option ℕ → List Fact
  blown_at blown q None = []
  blown_at blown q (Some c) = map (blown_note c q) (blown c)

  -- the component has more than 12 positions
  abbrev pub large_at : ℕ → Option ℕ → List Fact
  large_at q None = []
  large_at q (Some c) = if nat_lt 12 (length (positions_in p comps c)) then fact.Large (pred_text p names q) (length (positions_in p comps c)) ∷ [] else []

  abbrev pub blown_notes : (ℕ → List (List ℕ)) → List Fact
  blown_notes blown = flat_map (λ q. blown_at blown q (led_by comps q)) (columns 0 (length p.preds))

  abbrev pub large_notes : List Fact
  large_notes = flat_map (λ q. large_at q (led_by comps q)) (columns 0 (length p.preds))

  abbrev pub support_notes : (ℕ → List (List ℕ)) → List Fact
  support_notes blown = blown_notes blown ++ large_notes
