-- A procedure, to believe for who is blown.
-- The system of a clause with zeros in the place of each row with a number that does not fit.
--
-- To believe: `short_system`.
use Rattle.std.specs.Prelude.{ℕ, ℤ, pos, if◌then◌else◌, List, map}
use Rattle.cti_terms.specs.Tree.{Tree}
use Rattle.cti_terms.specs.declared.atom_list.Atom.{Atom}
use Rattle.linear_rows.specs.Replacing.{row_fits}
use Rattle.termination_model.specs.sizes.Systems.{system}

-- a row with a number that does not fit gives way to zeros
abbrev pub short_row : List ℤ → List ℤ
short_row r = if row_fits r then r else map (λ _. pos 0) r

abbrev pub short_system : (ℕ → Tree → List ℤ) → (ℕ → List (List ℤ)) → ℕ → List Atom → List (List ℤ)
short_system expression rows n bs = map short_row (system expression rows n bs)
