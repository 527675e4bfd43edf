-- To believe, for the modes by lists of mappings.
-- When a certificate of lists is valid.
--
-- Its facts are those of some parts, and what the parts claim holds: their modes, that built-in predicates have stated
-- size rows alone, and the numbers that prove size rows, lists and stuck sets. Sizes are term sizes. It does not matter
-- how the components are numbered.
--
-- To believe: `IsValid`, over the definitions that it names. That queries end asks for none of this: see Bounding.antt.
use Rattle.std.specs.Prelude.{ℕ, ℤ, Bool, List}
use Rattle.call_components.specs.Partition.{Partition, AreComponents}
use Rattle.cert_checker.specs.Proved.{ByHold}
use Rattle.cert_checker.specs.Refuting.{RefutationsHold}
use Rattle.cert_modes.specs.Modes.{ModesHold}
use Rattle.cert_structure.specs.declared.parts.Parts.{Parts}
use Rattle.cti_terms.specs.Listing.{Listing}
use Rattle.cti_terms.specs.Tree.{Tree, truth}
use Rattle.lex_certificate.specs.Flat.{flat}
use Rattle.lex_certificate.specs.Structure.{IsStructured}
use Rattle.lex_certificate.specs.declared.fact.LexFact.{LexFact}
use Rattle.lex_certificate.specs.declared.parts.LexParts.{LexParts}
use Rattle.term_size.specs.Occurrences.{size_row}
use Rattle.termination_model.specs.sizes.Sizes.{rows_of}
use Rattle.termination_model.specs.sizes.Stated.{AreStated}
use Rattle.lex_checker.specs.Proved.{DropsHold, ListsAreZero}

-- what the parts claim holds. A stuck set is a refutation whose points all have a t of at least 1, as its shape asks
pub record PartsHold (truth : (ℕ → Bool) → Tree → Bool) (expression : ℕ → Tree → List ℤ) (p : Listing) (comps : Partition) (parts : LexParts) : Type 0 where
  pub modes : ModesHold truth p comps (flat parts)
  pub stated : AreStated p.arithmetic (rows_of parts.rows)
  pub rows : ByHold expression p (flat parts)
  pub zero : ListsAreZero comps parts
  pub drops : DropsHold expression p comps parts
  pub stuck : RefutationsHold expression p comps (flat parts)

-- the same of flat parts, without lists. Nothing here has to be believed
pub record FlatHolds (truth : (ℕ → Bool) → Tree → Bool) (expression : ℕ → Tree → List ℤ) (p : Listing) (comps : Partition) (parts : Parts) : Type 0 where
  pub modes : ModesHold truth p comps parts
  pub stated : AreStated p.arithmetic (rows_of parts.rows)
  pub rows : ByHold expression p parts
  pub stuck : RefutationsHold expression p comps parts

-- the facts are those of parts that hold
pub record IsValid (p : Listing) (names : List (List ℕ)) (facts : List LexFact) : Type 0 where
  pub comps : Partition
  pub components : AreComponents p comps
  pub parts : LexParts
  pub structured : IsStructured p names comps parts facts
  pub hold : PartsHold truth size_row p comps parts
