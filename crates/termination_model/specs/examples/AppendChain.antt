-- Private.
-- An example: the chain of append.
--
-- Its four steps begin with the image of the first clause, join that of the second, and change nothing in a second
-- pass.
use Rattle.std.specs.Prelude.{ℕ, zero, suc, ℤ, pos, negsuc, Bool, true, false, List, [], ◌∷◌, ◌++◌}
use Rattle.call_components.specs.Partition.{Partition}
use Rattle.linear_rows.specs.Blown.{all_of}
use Rattle.exact128.specs.Fits.{fits}
use Rattle.term_size.specs.Occurrences.{size_row}
use Rattle.termination_model.specs.examples.Append.{append}
use Rattle.termination_model.specs.chains.Chain.{IsLegalChain}
use Rattle.termination_model.specs.chains.ChainSteps.{Step}
use Rattle.termination_model.specs.declared.how.How.{How}
use Rattle.termination_model.specs.declared.how.How.TheVariants.{First, Join, Same}

-- rows of the sizes x1, x2, x3, the constant first
abbrev pub row : ℤ → ℤ → ℤ → ℤ → List ℤ
row b x y z = b ∷ x ∷ y ∷ z ∷ []

-- x1 is 0, and x2 = x3
abbrev pub nil_rows : List (List ℤ)
nil_rows = row (pos 0) (negsuc 0) (pos 0) (pos 0) ∷ row (pos 0) (pos 0) (negsuc 0) (pos 1) ∷ row (pos 0) (pos 0) (pos 1) (negsuc 0) ∷ []

-- x1 + x2 = x3
abbrev pub sum_rows : List (List ℤ)
sum_rows = row (pos 0) (negsuc 0) (negsuc 0) (pos 1) ∷ row (pos 0) (pos 1) (pos 1) (negsuc 0) ∷ []

-- and x1 is at least 1
abbrev pub at_least : List ℤ
at_least = row (negsuc 0) (pos 1) (pos 0) (pos 0)

abbrev pub step : ℕ → List (List ℤ) → How → List (List ℤ) → Step
step k image how rows = record { clause = k; image = image; image_weak = false; how = how; rows = rows; weak = false }

abbrev pub append_steps : List Step
append_steps =
    step 1 nil_rows First nil_rows
    ∷ step 2 (at_least ∷ sum_rows) Join sum_rows
    ∷ step 1 nil_rows Same sum_rows
    ∷ step 2 (sum_rows ++ at_least ∷ []) Same sum_rows
    ∷ []

-- the one component
abbrev pub alone : Partition
alone = record { of = 0 ∷ []; members = (0 ∷ []) ∷ []; recursive = true ∷ [] }

-- rows whose numbers fit
abbrev pub fit : List ℤ → Bool
fit = all_of fits

-- the chain ends with x1 + x2 = x3 for append, and with no rows for what is not a predicate
abbrev pub append_rows : ℕ → List (List ℤ)
append_rows zero = sum_rows
append_rows (suc q) = []

abbrev pub AppendHasThisChain : Type 0
AppendHasThisChain = IsLegalChain fit size_row append alone append_steps append_rows
