-- The parts with one mapping for each list, and the parts with the lists themselves.
use Rattle.std.proofs.Common.{◌≡◌, ℕ, Bool, List, Option, subst, sym, ◌∙◌}
use Rattle.call_components.specs.Partition.{Partition}
use Rattle.cert_assembly.specs.Assembly.{HaveSets}
use Rattle.cert_structure.specs.declared.parts.Parts.{Parts}
use Rattle.cti_terms.specs.Listing.{Listing}
use Rattle.cti_terms.specs.Tree.{Tree}
use Rattle.lex_certificate.specs.Flat.{flat}
use Rattle.lex_certificate.specs.declared.parts.LexParts.{LexParts}
use Rattle.lex_turns.specs.declared.found_lists.FoundLists.{FoundLists}
use Rattle.linear_rows.specs.declared.multipliers.Multipliers.{Multipliers}
use Rattle.number_tests.specs.declared.level_part.LevelPart.{LevelPart}
use Rattle.number_tests.specs.declared.refutation.Refutation.{Refutation}
use Rattle.termination_model.specs.declared.sizes.Sizes.{Sizes}
use Rattle.lex_measures.specs.Assembly.{ArePartsOf, IsFlatOf, with_lists}
use Rattle.lex_measures.specs.Lists.{printed_drops, printed_lists, printed_stuck}

module _ (truth : (ℕ → Bool) → Tree → Bool) (p : Listing) (comps : Partition) (sizes : Sizes) where
  -- without lists they are the flat parts again
  flat_again : (lists : List (List (List LevelPart))) (drops : List (List (List (List Multipliers)))) (stuck : List (Option Refutation)) (parts : Parts)
      → IsFlatOf truth p comps sizes lists stuck parts → parts ≡ flat (with_lists parts lists drops)
  flat_again lists drops stuck parts is = λ i. record {
    norm = is.norm i;
    modes = parts.modes;
    rows = parts.rows;
    row_proofs = parts.row_proofs;
    grounds = parts.grounds;
    levels = is.levels i;
    falls = is.falls i;
    preconditions = parts.preconditions;
    refutations = parts.refutations;
  }

  pub are_parts : (found : List FoundLists) (lists : List (List (List LevelPart))) (drops : List (List (List (List Multipliers)))) (stuck : List (Option Refutation)) (parts : Parts)
      → IsFlatOf truth p comps sizes lists stuck parts → lists ≡ printed_lists p comps found → drops ≡ printed_drops p comps found → stuck ≡ printed_stuck p comps found
      → (whole : LexParts) → whole ≡ with_lists parts lists drops → ArePartsOf truth p comps sizes found whole
  are_parts found lists drops stuck parts is is_lists is_drops is_stuck whole same = subst (ArePartsOf truth p comps sizes found) (sym same) (record {
    rows = is.rows;
    row_proofs = is.row_proofs;
    lists = is_lists;
    drops = is_drops;
    stuck = is.refutations ∙ is_stuck;
    sets = subst (HaveSets truth p comps) (flat_again lists drops stuck parts is) is.sets;
  })
