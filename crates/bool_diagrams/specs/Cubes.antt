-- To believe, for the modes.
-- The cubes of a set of truth rows: the one way in which a set is spelled.
--
-- A truth row is a list of values, of variable 0 first. A set of them is the test of its members. A cube has a cell
-- for each variable: false, true, or any.
--
-- To believe: all of this file.
use Rattle.std.specs.Prelude.{ℕ, zero, suc, Bool, true, false, not, ◌&&◌, if◌then◌else◌, List, [], ◌∷◌, ◌++◌, map, slice_index_or}
use Rattle.std.specs.List.{list_any}
use Rattle.bool_diagrams.specs.declared.cube.Cell.{Cell}
use Rattle.bool_diagrams.specs.declared.cube.Cell.TheVariants.{Zero, One, Any}
use Rattle.bool_diagrams.specs.declared.diagram.Diagram.{Diagram}
use Rattle.bool_diagrams.specs.Tree.{Tree}
use Rattle.bool_diagrams.specs.Rows.{iff, holds}

-- the rests of the rows that begin with a value
abbrev pub rests : Bool → (List Bool → Bool) → List Bool → Bool
rests b set row = set (b ∷ row)

-- whether two sets have the same rows of a length
unfoldable pub same_rows : (n : ℕ) → (List Bool → Bool) → (List Bool → Bool) → Bool
same_rows zero s t = iff (s []) (t [])
same_rows (suc n) s t = same_rows n (rests false s) (rests false t) && same_rows n (rests true s) (rests true t)

-- The cubes of a set of rows of length n. Of no length: the empty cube, if the set has the empty row. Else, where the
-- rests after false and after true are the same: any before each of their cubes. Where they differ: false before each
-- cube of the rests after false, then true before each cube of those after true. The set of 000, 010, 100 and 111 has
-- the cubes 0x0, 100 and 111
unfoldable pub cubes : (n : ℕ) → (List Bool → Bool) → List (List Cell)
cubes zero set = if set [] then [] ∷ [] else []
cubes (suc n) set =
    if same_rows n (rests false set) (rests true set)
    then map (λ cube. Any ∷ cube) (cubes n (rests false set))
    else map (λ cube. Zero ∷ cube) (cubes n (rests false set)) ++ map (λ cube. One ∷ cube) (cubes n (rests true set))

-- whether a cell allows a value
abbrev pub allows : Cell → Bool → Bool
allows Zero b = not b
allows One b = b
allows Any b = true

-- whether a cube has a row: each cell allows its value
abbrev pub covers : List Cell → List Bool → Bool
covers [] [] = true
covers [] (b ∷ row) = false
covers (cell ∷ cube) [] = false
covers (cell ∷ cube) (b ∷ row) = allows cell b && covers cube row

-- the rows that a list of cubes has
abbrev pub covered : List (List Cell) → List Bool → Bool
covered list row = list_any (λ cube. covers cube row) list

-- the values of a truth row, and false for later variables
abbrev pub values_of : List Bool → ℕ → Bool
values_of row v = slice_index_or row v false

-- the truth rows of a diagram
abbrev pub truth_rows : List Tree → Diagram → List Bool → Bool
truth_rows trees d row = holds trees d (values_of row)
