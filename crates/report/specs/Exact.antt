-- To believe, for the modes.
-- When a certificate of a program is exact: it says the most that may be said by its method.
--
-- Its size rows come from a legal chain, whose steps it notes; its ground rows, preconditions and modes are exact; each
-- component has all mappings with minimal supports, or a refutation; and what was given up is noted. All of this is by
-- the norm that the certificate names.
--
-- To believe: all of this file, over ChainNotes.antt, SupportNotes.antt, ExactModes.antt and ExactMappings.antt.
use Rattle.std.specs.Prelude.{◌≡◌, ◌≤◌, ◌<◌, ℕ, suc, ℤ, true, IsTrue, List, ◌++◌, length, slice_get, Some, ◌⊎◌, ◌↔◌}
use Rattle.call_components.specs.Partition.{Partition, AreComponents, IsIn}
use Rattle.cert_checker.specs.Norms.{norm_in}
use Rattle.certificate.specs.declared.fact.Fact.{Fact}
use Rattle.cert_structure.specs.Shape.{first_of, is_recursive, items_of}
use Rattle.cert_structure.specs.Structure.{IsStructured}
use Rattle.cert_structure.specs.declared.parts.Parts.{Parts}
use Rattle.cti_terms.specs.Listing.{Listing}
use Rattle.cti_terms.specs.Tree.{Tree}
use Rattle.exact128.specs.Fits.{fits}
use Rattle.level_systems.specs.Found.{without_number}
use Rattle.level_systems.specs.Subsequences.{AreOnce}
use Rattle.linear_rows.specs.Members.{In}
use Rattle.linear_rows.specs.Step.{columns}
use Rattle.number_tests.specs.declared.refutation.Refutation.{Refutation}
use Rattle.linear_rows.specs.Blown.{all_of}
use Rattle.term_size.specs.AnyNorm.{any_row, any_truth}
use Rattle.termination_model.specs.mappings.BlownSupports.{IsBlownAt}
use Rattle.termination_model.specs.mappings.ComponentViews.{positions_in}
use Rattle.termination_model.specs.mappings.Excluding.{IsZeroOutside}
use Rattle.termination_model.specs.grounds.Minimal.{IsExcluded, IsSet}
use Rattle.termination_model.specs.grounds.Modes.{is_part}
use Rattle.termination_model.specs.mappings.Ready.{arity_in}
use Rattle.termination_model.specs.mappings.Refutation.{Decreases}
use Rattle.termination_model.specs.mappings.Supports.{picked_from}
use Rattle.cert_assembly.specs.ChainNotes.{IsChain}
use Rattle.report.specs.ExactMappings.{HasMapping, MappingsAreExact, mapping_in, printed_support, view}
use Rattle.cert_assembly.specs.ExactModes.{ModesAreExact}
use Rattle.report.specs.SupportNotes.{support_notes}

-- a predicate has a refutation
abbrev pub IsRefuted : Parts → ℕ → Type 0
IsRefuted parts q = (r : Refutation) × (slice_get parts.refutations q ≡ Some (Some r))

module _ (expression : ℕ → Tree → List ℤ) (p : Listing) (comps : Partition) (parts : Parts) where
  -- all positions of a component
  abbrev pub full : ℕ → List ℕ
  full c = columns 1 (length (positions_in p comps c))

  -- a component of more than 12 positions: one mapping at most, none of whose positions can be left out, or a
  -- refutation
  pub record LargeIsExact (c q : ℕ) (blown : List (List ℕ)) : Type 0 where
    pub few : length (items_of parts.levels q) ≤ 1
    pub at : (m : ℕ) → m < length (items_of parts.levels q) → IsZeroOutside (positions_in p comps c) (mapping_in expression p comps parts c m)
    pub decreases : (m : ℕ) → m < length (items_of parts.levels q) → Decreases expression (view expression p comps parts c) (mapping_in expression p comps parts c m)
    pub decided : (1 ≤ length (items_of parts.levels q)) ⊎ IsRefuted parts q ⊎ In (full c) blown
    pub needed : (m i : ℕ) → m < length (items_of parts.levels q) → In i (printed_support expression p comps parts c m)
        → In (without_number i (printed_support expression p comps parts c m)) blown
        ⊎ IsExcluded (HasMapping expression p comps parts c) (without_number i (printed_support expression p comps parts c m))
    -- where a mapping is printed, each set that was given up is its support without one of its positions
    pub left_out : (m : ℕ) → m < length (items_of parts.levels q) → (s : List ℕ) → In s blown
        → (i : ℕ) × In i (printed_support expression p comps parts c m) × (s ≡ without_number i (printed_support expression p comps parts c m))

  -- a recursive component whose first member is q
  pub record ComponentIsExact (c q : ℕ) (blown : List (List ℕ)) : Type 0 where
    pub small : length (positions_in p comps c) ≤ 12 → MappingsAreExact expression p comps parts c q blown
    pub large : 12 < length (positions_in p comps c) → LargeIsExact c q blown
    -- a refutation stands exactly where no mapping decreases and the full support was not given up
    pub refuted : IsRefuted parts q ↔ (((s : List ℕ) → HasMapping expression p comps parts c s → ⊥) × (In (full c) blown → ⊥))
    -- what was given up are sets of positions. Each stands once, and is blown: elimination is, or a number does not fit
    -- in the check of what it finds
    pub sets : (s : List ℕ) → In s blown → IsSet 1 (suc (length (positions_in p comps c))) s
    pub once : AreOnce blown
    -- no such set is above the support of a printed mapping
    pub apart : (s : List ℕ) → In s blown → (m : ℕ) → m < length (items_of parts.levels q) → is_part (printed_support expression p comps parts c m) s ≡ true → ⊥
    pub given_up : (s : List ℕ) → In s blown → IsBlownAt expression (view expression p comps parts c) (arity_in p) (picked_from 1 (positions_in p comps c) s)

-- the parts and the notes are exact
pub record IsExactOf (p : Listing) (names : List (List ℕ)) (comps : Partition) (parts : Parts) (notes : List Fact) : Type 0 where
  pub modes : ModesAreExact (any_truth (norm_in names parts.norm)) p comps parts
  pub blown : ℕ → List (List ℕ)
  pub components : (c q : ℕ) → IsIn comps c q → IsTrue (is_recursive comps q) → first_of comps q ≡ q → ComponentIsExact (any_row (norm_in names parts.norm)) p comps parts c q (blown c)
  pub steps : List Fact
  pub chain : IsChain (all_of fits) (any_row (norm_in names parts.norm)) p comps names parts.rows steps
  pub are : notes ≡ steps ++ support_notes p names comps blown

-- the facts are those of parts that are exact
pub record IsExact (p : Listing) (names : List (List ℕ)) (facts : List Fact) : Type 0 where
  pub comps : Partition
  pub components : AreComponents p comps
  pub parts : Parts
  pub structured : IsStructured p names comps parts facts
  pub exact : IsExactOf p names comps parts structured.notes
