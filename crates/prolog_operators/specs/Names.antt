-- To believe, for reading.
-- Names by number: a name's number is that of its text in a list of names, which only grows.
--
-- To believe: all of this file, and in cti_terms `number_of`.
use Rattle.std.specs.Prelude.{◌≡◌, ℕ, List, [], ◌++◌, slice_index_or}
use Rattle.cti_terms.specs.Numbers.{number_of}

-- the text of the name with this number; past the end there is none
abbrev pub name_text : List (List ℕ) → ℕ → List ℕ
name_text names n = slice_index_or names n []

-- the later names are the earlier ones, and more
abbrev pub Extends : List (List ℕ) → List (List ℕ) → Type 0
Extends earlier later = (more : List (List ℕ)) × (later ≡ earlier ++ more)

-- the text has this number, whatever names come later
abbrev pub IsNumber : List (List ℕ) → List ℕ → ℕ → Type 0
IsNumber names text n = (later : List (List ℕ)) → Extends names later → number_of later text ≡ n
