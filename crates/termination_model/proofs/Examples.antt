-- The definitions at work.
use Rattle.std.proofs.Common.{◌≡◌, ℕ, ◌||◌, ℤ, pos, negsuc, Bool, true, false, List, [], ◌∷◌, refl}
use Rattle.term_size.specs.Occurrences.{size_row}
use Rattle.termination_model.specs.examples.Append.{append_cons}
use Rattle.termination_model.specs.claims.Descent.{mode_row}
use Rattle.termination_model.specs.grounds.Modes.{modes}
use Rattle.termination_model.specs.sizes.Sizes.{wide_system}
use Rattle.termination_model.specs.sizes.Systems.{row_over}
use Rattle.termination_model.specs.sizes.ShortSystems.{short_row, short_system}
use Rattle.termination_model.specs.mappings.View.{all_upper}

-- the sizes of the first two lists are together that of the third: x1 + x2 - x3 is at least 0, and at most 0
abbrev append_rows : ℕ → List (List ℤ)
append_rows q = (pos 0 ∷ pos 1 ∷ pos 1 ∷ negsuc 0 ∷ []) ∷ (pos 0 ∷ negsuc 0 ∷ negsuc 0 ∷ pos 1 ∷ []) ∷ []

-- append([X|Xs], Y, [X|Zs]) :- append(Xs, Y, Zs): the body says Xs + Y = Zs, over X, Xs, Y and Zs
system_of_append : short_system size_row append_rows 4 append_cons.body ≡ (pos 0 ∷ pos 0 ∷ pos 1 ∷ pos 1 ∷ negsuc 0 ∷ []) ∷ (pos 0 ∷ pos 0 ∷ negsuc 0 ∷ negsuc 0 ∷ pos 1 ∷ []) ∷ []
system_of_append = refl

-- and at the head the first row is the same, since both lists have one cell more
row_of_head : row_over size_row 4 append_cons.head.args (pos 0 ∷ pos 1 ∷ pos 1 ∷ negsuc 0 ∷ []) ≡ pos 0 ∷ pos 0 ∷ pos 1 ∷ pos 1 ∷ negsuc 0 ∷ []
row_of_head = refl

not_wide : wide_system size_row append_rows 4 append_cons.body ≡ false
not_wide = refl

-- a row with 2^127 in it gives way to zeros
too_large : short_row (pos 1 ∷ pos 170141183460469231731687303715884105728 ∷ []) ≡ pos 0 ∷ pos 0 ∷ []
too_large = refl

-- of the rows with the first or the third argument, the minimal ones
abbrev first_or_third : List Bool → Bool
first_or_third [] = false
first_or_third (a ∷ []) = a
first_or_third (a ∷ b ∷ []) = a
first_or_third (a ∷ b ∷ c ∷ rest) = a || c

two_modes : modes 3 first_or_third ≡ (1 ∷ []) ∷ (3 ∷ []) ∷ []
two_modes = refl

-- all rows: the empty mode alone
empty_mode : modes 2 (λ _. true) ≡ [] ∷ []
empty_mode = refl

-- a set that has the row 0 1, but not 1 1 above it, is not upward closed there
abbrev second_alone : List Bool → Bool
second_alone (false ∷ true ∷ []) = true
second_alone bs = false

not_upward : all_upper second_alone (mode_row (2 ∷ []) 1 2) ≡ false
not_upward = refl
