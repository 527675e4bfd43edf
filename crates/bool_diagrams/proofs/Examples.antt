-- The definitions at worked values.
use Rattle.std.proofs.Common.{◌≡◌, Bool, true, false, ◌&&◌, List, [], ◌∷◌, refl}
use Rattle.bool_diagrams.specs.declared.cube.Cell.TheVariants.{Zero, One, Any}
use Rattle.bool_diagrams.specs.Tree.{leaf, branch, value}
use Rattle.bool_diagrams.specs.Rows.{bit_of, iff}
use Rattle.bool_diagrams.specs.Renaming.{renamed}
use Rattle.bool_diagrams.specs.Cubes.{cubes, same_rows, values_of}

-- the rows of append: the third list is bound exactly where the first two are
abbrev append_rows : List Bool → Bool
append_rows row = iff (values_of row 2) (values_of row 0 && values_of row 1)

cubes_of_append : cubes 3 append_rows ≡ (Zero ∷ Any ∷ Zero ∷ []) ∷ (One ∷ Zero ∷ Zero ∷ []) ∷ (One ∷ One ∷ One ∷ []) ∷ []
unfolding cubes same_rows
cubes_of_append = refl

-- every row, and no row
cubes_of_all : cubes 2 (λ row. true) ≡ (Any ∷ Any ∷ []) ∷ []
unfolding cubes same_rows
cubes_of_all = refl

cubes_of_none : cubes 2 (λ row. false) ≡ []
unfolding cubes same_rows
cubes_of_none = refl

-- the set of the empty row
cubes_of_length_zero : cubes 0 (λ row. true) ≡ [] ∷ []
unfolding cubes
cubes_of_length_zero = refl

-- a decision tree of the conjunction of the variables 0 and 1, at the rows 3 and 2
tree_of_both : (value (branch 0 (leaf false) (branch 1 (leaf false) (leaf true))) (bit_of 3) ≡ true) × (value (branch 0 (leaf false) (branch 1 (leaf false) (leaf true))) (bit_of 2) ≡ false)
tree_of_both = (refl, refl)

-- a swap, and a variable that keeps its name
swapped : (renamed (0 ∷ 1 ∷ []) (1 ∷ 0 ∷ []) 0 ≡ 1) × (renamed (0 ∷ 1 ∷ []) (1 ∷ 0 ∷ []) 1 ≡ 0) × (renamed (0 ∷ 1 ∷ []) (1 ∷ 0 ∷ []) 5 ≡ 5)
swapped = (refl, refl, refl)
