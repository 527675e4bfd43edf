-- To believe, for the modes by lists of mappings.
-- What the facts of a certificate of lists say of a program, and with which parts.
--
-- To believe: `IsStructured`, and below it Order.antt and Shape.antt.
use Rattle.std.specs.Prelude.{◌≡◌, ℕ, IsTrue, List}
use Rattle.std.specs.List.{AllByRecursion}
use Rattle.call_components.specs.Partition.{Partition}
use Rattle.cti_terms.specs.Listing.{Listing}
use Rattle.lex_certificate.specs.Order.{listed, is_note}
use Rattle.lex_certificate.specs.Shape.{HaveShape}
use Rattle.lex_certificate.specs.declared.fact.LexFact.{LexFact}
use Rattle.lex_certificate.specs.declared.parts.LexParts.{LexParts}

abbrev pub AreNotes : List LexFact → Type 0
AreNotes facts = AllByRecursion (λ f. IsTrue (is_note f)) facts

-- the facts are those of these parts, which have the shape of the program, and notes after them
pub record IsStructured (p : Listing) (names : List (List ℕ)) (comps : Partition) (parts : LexParts) (facts : List LexFact) : Type 0 where
  pub notes : List LexFact
  pub are_notes : AreNotes notes
  pub shape : HaveShape p comps parts
  pub is : facts ≡ listed p names parts notes
