-- To believe, for the command.
-- When a certificate of a program is valid.
--
-- Its facts are those of some parts, and what the parts claim holds: their modes, that built-in predicates have stated
-- size rows alone, and the numbers that prove size rows, mappings and refutations. Sizes are by the norm of the parts.
-- It does not matter how the components are numbered.
--
-- To believe: `IsValid`, over the definitions that it names, where a Yes is to mean that the certificate is valid. That
-- queries end asks for none of this: see Bounding.antt.
use Rattle.std.specs.Prelude.{ℕ, ℤ, Bool, List}
use Rattle.cti_terms.specs.Listing.{Listing}
use Rattle.cti_terms.specs.Tree.{Tree}
use Rattle.call_components.specs.Partition.{Partition, AreComponents}
use Rattle.certificate.specs.declared.fact.Fact.{Fact}
use Rattle.cert_structure.specs.Structure.{IsStructured}
use Rattle.cert_structure.specs.declared.parts.Parts.{Parts}
use Rattle.cert_modes.specs.Modes.{ModesHold}
use Rattle.term_size.specs.AnyNorm.{any_row, any_truth}
use Rattle.termination_model.specs.sizes.Sizes.{rows_of}
use Rattle.termination_model.specs.sizes.Stated.{AreStated}
use Rattle.cert_checker.specs.Norms.{norm_in}
use Rattle.cert_checker.specs.Proved.{ByHold, FallsHold, MeasuresAreZero}
use Rattle.cert_checker.specs.Refuting.{RefutationsHold}

-- what the parts claim holds
pub record PartsHold (truth : (ℕ → Bool) → Tree → Bool) (expression : ℕ → Tree → List ℤ) (p : Listing) (comps : Partition) (parts : Parts) : Type 0 where
  pub modes : ModesHold truth p comps parts
  pub stated : AreStated p.arithmetic (rows_of parts.rows)
  pub rows : ByHold expression p parts
  pub measures : MeasuresAreZero comps parts
  pub falls : FallsHold expression p comps parts
  pub refutations : RefutationsHold expression p comps parts

-- the same by the norm of the parts
abbrev pub ClaimsHold : Listing → List (List ℕ) → Partition → Parts → Type 0
ClaimsHold p names comps parts = PartsHold (any_truth (norm_in names parts.norm)) (any_row (norm_in names parts.norm)) p comps parts

-- the same without the modes. Nothing here has to be believed.
pub record NumbersHold (expression : ℕ → Tree → List ℤ) (p : Listing) (comps : Partition) (parts : Parts) : Type 0 where
  pub stated : AreStated p.arithmetic (rows_of parts.rows)
  pub rows : ByHold expression p parts
  pub measures : MeasuresAreZero comps parts
  pub falls : FallsHold expression p comps parts
  pub refutations : RefutationsHold expression p comps parts

-- the facts are those of parts that hold
pub record IsValid (p : Listing) (names : List (List ℕ)) (facts : List Fact) : Type 0 where
  pub comps : Partition
  pub components : AreComponents p comps
  pub parts : Parts
  pub structured : IsStructured p names comps parts facts
  pub hold : ClaimsHold p names comps parts
