-- To believe, for the command.
-- What multipliers have to show of one clause: that it keeps the size rows of its head, and that mappings fall at a
-- call.
--
-- A clause keeps a size row of its head where multipliers show the row over the rows of its body. A mapping falls at a
-- call where multipliers show, over the rows of the atoms before the call, that the level of the head less that of the
-- call less 1 is at least 0. All these rows are over the clause's variables, and each number is to fit.
--
-- To believe: all of this file.
use Rattle.std.specs.Prelude.{◌≡◌, ℕ, ℤ, pos, negsuc, List, [], ◌∷◌, slice_get, Some}
use Rattle.cti_terms.specs.Tree.{Tree}
use Rattle.cti_terms.specs.declared.atom_list.Atom.{Atom}
use Rattle.cti_terms.specs.declared.clauses.Clause.{Clause}
use Rattle.linear_rows.specs.declared.multipliers.Multipliers.{Multipliers}
use Rattle.linear_rows.specs.declared.row.Rows.{Rows}
use Rattle.number_tests.specs.declared.level_part.LevelPart.{LevelPart}
use Rattle.termination_model.specs.sizes.Rows.{scaled, added}
use Rattle.termination_model.specs.sizes.Sizes.{rows_of}
use Rattle.termination_model.specs.sizes.Systems.{row_over}
use Rattle.termination_model.specs.sizes.ShortSystems.{short_system}
use Rattle.linear_rows.specs.Showing.{IsShown}

module _ (expression : ℕ → Tree → List ℤ) where
  -- multipliers show a size row of a clause's head over the rows of its body
  abbrev pub RowIsKept : List Rows → Clause → List ℤ → Multipliers → Type 0
  RowIsKept rows c row by =
      IsShown (short_system expression (rows_of rows) c.vars c.body) (row_over expression c.vars c.head.args row) by

  -- they show each of them
  abbrev pub RowsAreKept : List Rows → Clause → List Multipliers → Type 0
  RowsAreKept rows c ms =
      (i : ℕ) (row : List ℤ) (by : Multipliers) → slice_get (rows_of rows c.head.pred.0) i ≡ Some row → slice_get ms i ≡ Some by
      → RowIsKept rows c row by

  -- the level of an atom, over the given number of variables
  abbrev pub level_of : ℕ → Atom → LevelPart → List ℤ
  level_of vars a l = row_over expression vars a.args (l.offset ∷ l.coeffs)

  -- the level of the head, less that of the call, less 1
  abbrev pub fall_of : Clause → Atom → LevelPart → LevelPart → List ℤ
  fall_of c b head call = added (level_of c.vars c.head head) (scaled (negsuc 0) (added (level_of c.vars b call) (pos 1 ∷ [])))

  -- where the rows hold, each mapping falls from a clause's head to a call
  abbrev pub MappingsFall : List (List ℤ) → Clause → Atom → List LevelPart → List LevelPart → List Multipliers → Type 0
  MappingsFall rows c b heads calls ms =
      (m : ℕ) (head call : LevelPart) (by : Multipliers) → slice_get heads m ≡ Some head → slice_get calls m ≡ Some call → slice_get ms m ≡ Some by
      → IsShown rows (fall_of c b head call) by
