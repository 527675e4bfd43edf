-- Private.
-- Parts of mappings that values give. Nothing here has to be believed.
use Rattle.std.specs.Prelude.{◌≡◌, ℕ, pos, map}
use Rattle.number_tests.specs.declared.level_part.LevelPart.{LevelPart}
use Rattle.termination_model.specs.claims.Claims.{Mapping}

-- the part of a predicate in a mapping
pub record IsPartOf (l : Mapping) (q : ℕ) (part : LevelPart) : Type 0 where
  pub coefficients : part.coeffs ≡ map pos (l.coefficients q)
  pub offset : part.offset ≡ pos (l.offset q)
