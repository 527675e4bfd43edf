-- To believe, for reading.
-- Names by number: the texts of names, in the order of their first use.
--
-- To believe: `number_of`, `with_text`. Texts are the same where their bytes are.
use Rattle.std.specs.Prelude.{ℕ, List, [], ◌∷◌, ◌++◌, if◌then◌else◌, nat_eq}
use Rattle.std.specs.List.{list_any, position_or_len}
use Rattle.std.specs.Cmp.Lexicographic.{pointwise}

-- the number of a text: its own where it is there, else the next
abbrev pub number_of : List (List ℕ) → List ℕ → ℕ
number_of texts text = position_or_len (pointwise nat_eq text) texts

-- the texts with this one: one that is there changes nothing, and a new one goes last
abbrev pub with_text : List (List ℕ) → List ℕ → List (List ℕ)
with_text texts text = if list_any (pointwise nat_eq text) texts then texts else texts ++ text ∷ []
