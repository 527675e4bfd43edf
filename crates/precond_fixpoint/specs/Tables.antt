-- Private.
-- Tables of lists of arguments. Nothing here has to be believed.
use Rattle.std.specs.Prelude.{◌≡◌, ℕ, List, slice_get, Some}
use Rattle.termination_model.specs.grounds.Modes.{chosen_up_to}

-- the table at each place has all lists of numbers from 1 to that
abbrev pub AreTables : List (List (List ℕ)) → Type 0
AreTables tables = (k : ℕ) (lists : List (List ℕ)) → slice_get tables k ≡ Some lists → lists ≡ chosen_up_to k k
