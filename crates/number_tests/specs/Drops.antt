-- To believe, for the modes by lists of mappings.
-- The level of a clause's head, less that of a call, less the number by which it has to drop.
--
-- To believe: `drop_of`.
use Rattle.std.specs.Prelude.{ℕ, ℤ, pos, negsuc, neg_ℤ, ◌-ℤ◌, Bool, true, false, List, [], ◌∷◌, ◌++◌, map}
use Rattle.cti_terms.specs.Tree.{Tree}
use Rattle.cti_terms.specs.declared.atom_list.Atom.{Atom}
use Rattle.cti_terms.specs.declared.clauses.Clause.{Clause}
use Rattle.number_tests.specs.Proved.{level_of}
use Rattle.number_tests.specs.declared.level_part.LevelPart.{LevelPart}
use Rattle.termination_model.specs.sizes.Rows.{scaled, added}

-- a level falls by 1, or may stay
abbrev pub fall_number : Bool → ℕ
fall_number true = 1
fall_number false = 0

-- the level of the head, less that of the call, less d
abbrev pub drop_of : (ℕ → Tree → List ℤ) → ℕ → Clause → Atom → LevelPart → LevelPart → List ℤ
drop_of expression d c b head call = added (level_of expression c.vars c.head head) (scaled (negsuc 0) (added (level_of expression c.vars b call) (pos d ∷ [])))

-- the head's offset and coefficients, and the call's with the other sign, and d less
abbrev pub drop_weights : ℕ → LevelPart → LevelPart → List ℤ
drop_weights d head call = (head.offset ∷ head.coeffs) ++ ((neg_ℤ call.offset -ℤ pos d) ∷ map neg_ℤ call.coeffs)
