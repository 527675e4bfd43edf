-- Private.
-- Renaming variables, all at once.
--
-- To believe: `renamed`, by which `rename` speaks of rows.
use Rattle.std.specs.Prelude.{ℕ, ◌==◌, List, [], ◌∷◌, if◌then◌else◌}

-- the new name of a variable: the member of `to` at its place in `from`, or itself where it has none
abbrev pub renamed : List ℕ → List ℕ → ℕ → ℕ
renamed [] to v = v
renamed (f ∷ from) [] v = v
renamed (f ∷ from) (t ∷ to) v = if v == f then t else renamed from to v
