-- To believe, for the modes by lists of mappings.
-- Lists as mappings: what preconditions and modes see of a list is where some measure of it has a positive coefficient.
--
-- To believe: all of this file, where preconditions and modes of lists are spoken of.
use Rattle.std.specs.Prelude.{ℤ, pos, None, ◌||◌, if◌then◌else◌, List, [], ◌∷◌, map}
use Rattle.cert_structure.specs.declared.parts.Parts.{Parts}
use Rattle.number_tests.specs.Levels.{is_positive}
use Rattle.number_tests.specs.declared.level_part.LevelPart.{LevelPart}
use Rattle.lex_certificate.specs.declared.parts.LexParts.{LexParts}

-- 1 where a number of either list is positive
abbrev pub united : List ℤ → List ℤ → List ℤ
united [] ys = ys
united (x ∷ xs) [] = x ∷ xs
united (x ∷ xs) (y ∷ ys) = (if is_positive x || is_positive y then pos 1 else pos 0) ∷ united xs ys

abbrev pub united_coefficients : List LevelPart → List ℤ
united_coefficients [] = []
united_coefficients (l ∷ ls) = united l.coeffs (united_coefficients ls)

-- a part whose coefficients are positive at the support of a list
abbrev pub union_part : List LevelPart → LevelPart
union_part ls = record { coeffs = united_coefficients ls; offset = pos 0 }

-- the parts with one mapping for each list, and without the proofs of falls
abbrev pub flat : LexParts → Parts
flat parts = record {
  norm = None;
  modes = parts.modes;
  rows = parts.rows;
  row_proofs = parts.row_proofs;
  grounds = parts.grounds;
  levels = map (map union_part) parts.lists;
  falls = [];
  preconditions = parts.preconditions;
  refutations = parts.stuck;
}
