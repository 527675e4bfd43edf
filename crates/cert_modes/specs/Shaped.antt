-- Private.
-- What the test of modes needs of the shape of parts. Nothing here has to be believed.
use Rattle.std.specs.Prelude.{◌≡◌, ℕ, length}
use Rattle.std.specs.List.{AllByRecursion}
use Rattle.call_components.specs.Partition.{Partition}
use Rattle.cert_structure.specs.Numbered.{AreEach}
use Rattle.cert_structure.specs.Shape.{HasWidth, HaveShape, arity_in, items_of}
use Rattle.cert_structure.specs.declared.parts.Parts.{Parts}
use Rattle.cti_terms.specs.Listing.{Listing}
use Rattle.number_tests.specs.declared.level_part.LevelPart.{LevelPart}

abbrev pub IsWide : ℕ → LevelPart → Type 0
IsWide arity level = length level.coeffs ≡ arity

-- modes, ground rows and mappings for each predicate, and a precondition for each mapping, each of the predicate's
-- arity
pub record HaveSets (p : Listing) (parts : Parts) : Type 0 where
  pub modes : length parts.modes ≡ length p.preds
  pub grounds : AreEach (length p.preds) (λ a. AllByRecursion (HasWidth (arity_in p a))) parts.grounds
  pub levels : AreEach (length p.preds) (λ a. AllByRecursion (IsWide (arity_in p a))) parts.levels
  pub preconditions : AreEach (length p.preds) (λ a. AreEach (length (items_of parts.levels a)) (λ _. AllByRecursion (HasWidth (arity_in p a)))) parts.preconditions

-- parts with the shape of a program have them
abbrev pub ShapesHaveSets : Type 0
ShapesHaveSets = (p : Listing) (comps : Partition) (parts : Parts) → HaveShape p comps parts → HaveSets p parts
