-- Private.
-- To believe, for the modes by measures with numbers.
-- What the facts of a certificate of measures with numbers say of a program, and with which parts.
--
-- To believe: `IsStructured`, and below it Order.antt and Shape.antt.
use Rattle.std.specs.Prelude.{◌≡◌, ℕ, IsTrue, List}
use Rattle.std.specs.List.{AllByRecursion}
use Rattle.call_components.specs.Partition.{Partition}
use Rattle.cti_terms.specs.Listing.{Listing}
use Rattle.prove_parts.specs.Order.{listed, is_note}
use Rattle.prove_parts.specs.Shape.{HaveShape}
use Rattle.prove_certificate.specs.declared.fact.ProveFact.{ProveFact}
use Rattle.prove_parts.specs.declared.parts.ProveParts.{ProveParts}

abbrev pub AreNotes : List ProveFact → Type 0
AreNotes facts = AllByRecursion (λ f. IsTrue (is_note f)) facts

-- the facts are those of these parts, which have the shape of the program, and notes after them
pub record IsStructured (p : Listing) (names : List (List ℕ)) (comps : Partition) (parts : ProveParts) (facts : List ProveFact) : Type 0 where
  pub notes : List ProveFact
  pub are_notes : AreNotes notes
  pub shape : HaveShape p comps parts
  pub is : facts ≡ listed p names parts notes
