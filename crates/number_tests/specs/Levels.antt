-- To believe, for the modes.
-- Parts of level mappings, by predicate and by mapping, and their coefficients.
--
-- To believe: all of this file. Predicates and mappings are numbered from 0 here.
use Rattle.std.specs.Prelude.{ℕ, ℤ, pos, negsuc, nat_lt, Bool, List, [], map, Option, None, Some, slice_get, unsigned_abs, unwrap_or}
use Rattle.number_tests.specs.declared.level_part.LevelPart.{LevelPart}

-- the items of this number
abbrev pub items_of : {A : Type 0} → List (List A) → ℕ → List A
items_of xs a = unwrap_or (slice_get xs a) []

-- an integer that is at least 0 as a natural number
abbrev pub natural : ℤ → ℕ
natural (pos n) = n
natural (negsuc n) = 0

-- whether a coefficient is positive
abbrev pub is_positive : ℤ → Bool
is_positive a = nat_lt 0 (natural a)

-- the coefficients of a mapping's part, and none where it has none
abbrev pub naturals : Option LevelPart → List ℕ
naturals None = []
naturals (Some level) = map natural level.coeffs

-- the same where the part is read by a mapping: its coefficients and its offset without their signs
abbrev pub natural_coefficients : Option LevelPart → List ℕ
natural_coefficients None = []
natural_coefficients (Some level) = map unsigned_abs level.coeffs

abbrev pub natural_offset : Option LevelPart → ℕ
natural_offset None = 0
natural_offset (Some level) = unsigned_abs level.offset

-- the coefficients of a predicate in the mapping of this number
abbrev pub coefficients_of : List (List LevelPart) → ℕ → ℕ → List ℕ
coefficients_of levels m q = naturals (slice_get (items_of levels q) m)
