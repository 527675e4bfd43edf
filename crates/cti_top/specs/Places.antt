-- To believe, for reading.
-- Places in a text, as they are printed: lines and columns count from 1, and columns count bytes. A newline ends a
-- line.
--
-- To believe: all of this file.
use Rattle.std.specs.Prelude.{ℕ, suc, ◌==◌, List, [], ◌∷◌, take, if◌then◌else◌}

-- the line after these bytes, the first of which is in this line
abbrev pub line_from : ℕ → List ℕ → ℕ
line_from line [] = line
line_from line (b ∷ bs) = line_from (if b == 10 then suc line else line) bs

-- the column after these bytes, the first of which is in this column
abbrev pub column_from : ℕ → List ℕ → ℕ
column_from column [] = column
column_from column (b ∷ bs) = column_from (if b == 10 then 1 else suc column) bs

-- the line and the column of a byte of a text
abbrev pub line_of : List ℕ → ℕ → ℕ
line_of text at = line_from 1 (take at text)

abbrev pub column_of : List ℕ → ℕ → ℕ
column_of text at = column_from 1 (take at text)
