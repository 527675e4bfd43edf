-- To believe, for the modes.
-- The system of a clause up to an atom: the size rows of the atoms before it, over the clause's variables.
--
-- A size row of a predicate speaks of the sizes of its arguments. In a clause each argument has a size expression over
-- the clause's variables, which is put in the argument's place.
--
-- To believe: `row_over`, `system`. The expression is that of a norm, the rows are one list for each predicate, by its
-- number, and each list of numbers begins with the constant.
use Rattle.std.specs.Prelude.{ℕ, ℤ, List, [], ◌∷◌, ◌++◌, map}
use Rattle.cti_terms.specs.Tree.{Tree}
use Rattle.cti_terms.specs.declared.atom_list.Atom.{Atom}
use Rattle.linear_rows.specs.Replacing.{substituted}
pub use Rattle.linear_rows.specs.Replacing.{row_fits}

-- a row over arguments, over n variables instead
abbrev pub row_over : (ℕ → Tree → List ℤ) → ℕ → List Tree → List ℤ → List ℤ
row_over expression n ts = substituted n (map (expression n) ts)

-- the size rows of atoms, in order, over n variables
abbrev pub system : (ℕ → Tree → List ℤ) → (ℕ → List (List ℤ)) → ℕ → List Atom → List (List ℤ)
system expression rows n [] = []
system expression rows n (b ∷ bs) = map (row_over expression n b.args) (rows b.pred.0) ++ system expression rows n bs
