-- Private.
-- What is found where no list descends. Nothing here has to be believed.
use Rattle.std.specs.Prelude.{◌≡◌, ℕ, Bool, List, [], ◌∷◌, Option, None, Some}
use Rattle.number_tests.specs.declared.refutation.Refutation.{Refutation}
use Rattle.lex_turns.specs.declared.found_lists.FoundLists.{FoundLists}

abbrev pub IsNotFound : List ℕ → Bool → Option Refutation → FoundLists → Type 0
IsNotFound full large None f = f ≡ record { lists = []; refutation = None; blown = full ∷ []; large = large }
IsNotFound full large (Some r) f = f ≡ record { lists = []; refutation = Some r; blown = []; large = large }
