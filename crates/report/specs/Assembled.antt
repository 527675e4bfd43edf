-- Private.
-- How a valid certificate is put together: the parts that the engines give have their shape, their numbers hold, and
-- their modes are exact.
use Rattle.std.specs.Prelude.{◌≡◌, ℕ, ℤ, List, length, take, slice_get}
use Rattle.std.specs.List.{AllByRecursion}
use Rattle.call_components.specs.Partition.{Partition, AreComponents}
use Rattle.certificate.specs.declared.fact.Fact.{Fact}
use Rattle.cert_structure.specs.Numbered.{AreEach}
use Rattle.cert_structure.specs.Order.{listed}
use Rattle.cert_structure.specs.Shape.{arity_in, HaveMultipliers, body_of, head_of, IsLevel, IsRefutation, mappings_of, proofs_of_call, rows_of_atoms}
use Rattle.cert_structure.specs.Structure.{AreNotes}
use Rattle.cert_structure.specs.declared.parts.Parts.{Parts}
use Rattle.cert_checker.specs.Norms.{norm_in}
use Rattle.cert_checker.specs.Proved.{FallsHold, MeasuresAreZero}
use Rattle.cert_checker.specs.Refuting.{RefutationsHold}
use Rattle.cert_checker.specs.Valid.{IsValid}
use Rattle.cti_terms.specs.Listing.{Listing, IsProgram}
use Rattle.cti_terms.specs.Tree.{Tree}
use Rattle.term_size.specs.AnyNorm.{any_row, any_truth}
use Rattle.cert_assembly.specs.Sizing.{SizesHold}
use Rattle.cert_assembly.specs.ExactModes.{AreCounted, ModesAreExact}

-- what the search for mappings gives
pub record MappingsHold (expression : ℕ → Tree → List ℤ) (p : Listing) (comps : Partition) (parts : Parts) : Type 0 where
  pub levels : AreEach (length p.preds) (λ a ls. (length ls ≡ mappings_of comps parts.levels a) × AllByRecursion (IsLevel (arity_in p a)) ls) parts.levels
  pub falls : AreEach (length p.clauses)
      (λ k. AreEach (length (body_of p k)) (λ j. AreEach (proofs_of_call comps parts.levels (head_of p k) (slice_get (body_of p k) j)) (λ _. HaveMultipliers (rows_of_atoms parts.rows (take j (body_of p k))))))
      parts.falls
  pub refutations : AreEach (length p.preds) (IsRefutation p comps parts.levels) parts.refutations
  pub measures_hold : MeasuresAreZero comps parts
  pub falls_hold : FallsHold expression p comps parts
  pub refutations_hold : RefutationsHold expression p comps parts

-- the shape and the numbers of all parts but modes and truth rows
pub record NumbersHold (expression : ℕ → Tree → List ℤ) (p : Listing) (comps : Partition) (parts : Parts) : Type 0 where
  pub sizes : SizesHold expression p parts.rows parts.row_proofs
  pub mappings : MappingsHold expression p comps parts

-- the facts of such parts, by the norm that they name, are a valid certificate, with any notes
abbrev pub PartsAreValid : Type 0
PartsAreValid = (p : Listing) (names : List (List ℕ)) (comps : Partition) (parts : Parts) (notes : List Fact)
    → IsProgram p → AreComponents p comps → AreNotes notes → AreCounted p comps parts
    → NumbersHold (any_row (norm_in names parts.norm)) p comps parts → ModesAreExact (any_truth (norm_in names parts.norm)) p comps parts
    → IsValid p names (listed p names parts notes)
