-- To believe, for the modes.
-- What the facts of a certificate say of a program, and with which parts.
--
-- To believe: `IsStructured`, and below it Numbered.antt, Order.antt and Shape.antt.
use Rattle.std.specs.Prelude.{◌≡◌, ℕ, ◌<◌, IsTrue, List, length}
use Rattle.std.specs.List.{AllByRecursion}
use Rattle.call_components.specs.Partition.{Partition}
use Rattle.certificate.specs.declared.fact.Fact.{Fact}
use Rattle.cti_terms.specs.declared.predicates.Pred.{Pred}
use Rattle.cti_terms.specs.Listing.{Listing}
use Rattle.cert_structure.specs.declared.parts.Parts.{Parts}
use Rattle.cert_structure.specs.Order.{listed, is_note}
use Rattle.cert_structure.specs.Shape.{HaveShape}

-- the names of predicates are among these
abbrev pub AreNamed : List (List ℕ) → List Pred → Type 0
AreNamed names preds = AllByRecursion (λ (q : Pred). q.name.0 < length names) preds

abbrev pub AreNotes : List Fact → Type 0
AreNotes facts = AllByRecursion (λ f. IsTrue (is_note f)) facts

-- the facts are those of these parts, which have the shape of the program, and notes after them
pub record IsStructured (p : Listing) (names : List (List ℕ)) (comps : Partition) (parts : Parts) (facts : List Fact) : Type 0 where
  pub notes : List Fact
  pub are_notes : AreNotes notes
  pub shape : HaveShape p comps parts
  pub is : facts ≡ listed p names parts notes
