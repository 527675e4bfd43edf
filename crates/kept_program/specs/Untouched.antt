-- Private.
-- What an edit of a program keeps of the predicates that it leaves untouched.
--
-- A predicate is known by its name and arity: after the edit it may have another number, and its mappings may have
-- others, too.
--
-- To believe: all of this file.
use Rattle.std.specs.Prelude.{◌≡◌, ◌↔◌, ℕ, Bool, true, List, slice_get, Some}
use Rattle.bool_diagrams.specs.declared.cube.Cell.{Cell}
use Rattle.cert_structure.specs.declared.parts.Parts.{Parts}
use Rattle.cti_terms.specs.Arithmetic.{kind_of}
use Rattle.cti_terms.specs.Listing.{Listing}
use Rattle.cti_terms.specs.declared.predicates.Pred.{Pred}
use Rattle.number_tests.specs.Levels.{items_of}
use Rattle.number_tests.specs.declared.level_part.LevelPart.{LevelPart}
use Rattle.termination_model.specs.sizes.Sizes.{rows_of}
use Rattle.kept_program.specs.ProgramParts.{ProgramParts}

-- in one of its mappings a predicate has this part, and its precondition there has these cubes
pub record HasMeasure (k : Parts) (q : ℕ) (part : LevelPart) (cubes : List (List Cell)) : Type 0 where
  pub mapping : ℕ
  pub part_is : slice_get (items_of k.levels q) mapping ≡ Some part
  pub cubes_are : slice_get (items_of k.preconditions q) mapping ≡ Some cubes

-- the predicate r has what the predicate q had: its size rows, the cubes of its ground rows, and its measures
pub record HasSameParts (old new : Parts) (q r : ℕ) : Type 0 where
  pub rows : rows_of new.rows r ≡ rows_of old.rows q
  pub grounds : items_of new.grounds r ≡ items_of old.grounds q
  pub measures : (part : LevelPart) (cubes : List (List Cell)) → HasMeasure new r part cubes ↔ HasMeasure old q part cubes

-- so it is with each predicate of a set
abbrev pub KeepsUntouched : ProgramParts → ProgramParts → (Pred → Bool) → Type 0
KeepsUntouched old new set =
    (q r : ℕ) (x : Pred) → slice_get old.program.preds q ≡ Some x → slice_get new.program.preds r ≡ Some x → set x ≡ true → HasSameParts old.parts new.parts q r

-- what is built in of a set is so in both programs, and of one kind
abbrev pub AreBuiltAlike : Listing → Listing → (Pred → Bool) → Type 0
AreBuiltAlike p new set =
    (q r : ℕ) (x : Pred) → slice_get p.preds q ≡ Some x → slice_get new.preds r ≡ Some x → set x ≡ true → kind_of new.arithmetic r ≡ kind_of p.arithmetic q
