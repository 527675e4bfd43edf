-- Private.
-- The lists of rows before each step, and the values that are chosen from them in the reverse order.
use Rattle.std.specs.Prelude.{◌≡◌, ℕ, ℤ, pos, Bool, true, false, List, [], ◌∷◌, Option, Some, None, Result, Ok, Err, All, ◌<◌, length}
use Rattle.exact128.specs.Fractions.{Fraction, whole, then_do}
use Rattle.linear_rows.specs.Elimination.{rising}
use Rattle.linear_rows.specs.Step.{eliminated, all_eliminated}
use Rattle.linear_rows.specs.Blown.{blown_step}
use Rattle.linear_rows.specs.Solving.{greatest}
use Rattle.fourier.specs.declared.fault.ElimFault.{ElimFault}
use Rattle.fourier.specs.declared.fault.ElimFault.TheVariants.{Blown, Memory}
use Rattle.fourier.specs.declared.sequence.Steps.{Steps}

-- the rows before each of the steps that eliminate these columns
abbrev pub history_of : ℕ → List ℕ → List (List ℤ) → List (List (List ℤ))
history_of m [] rows = []
history_of m (k ∷ ks) rows = rows ∷ history_of m ks (eliminated m k rows)

-- each row has more than the given number of numbers
abbrev pub AllLongerThan : ℕ → List (List ℤ) → Type 0
AllLongerThan n rows = All (λ row. n < length row) rows

-- the values of these columns, from the rows before each step
abbrev pub values_back : List ℕ → List (List (List ℤ)) → Option (List Fraction)
values_back [] hs = Some []
values_back (k ∷ ks) [] = Some []
values_back (k ∷ ks) (rows ∷ hs) =
    then_do (values_back ks hs) (λ vs. then_do (greatest k vs (whole (pos 0)) (rising k rows)) (λ v. Some (v ∷ vs)))

-- the first blown step is this one, and has the fault; a brief step does not say which
abbrev pub IsBlownAt : Bool → ℕ → Bool → Option (ℕ × Bool) → Type 0
IsBlownAt false step wide blown = blown ≡ Some (step, wide)
IsBlownAt true step wide blown = (w : Bool) × (blown ≡ Some (step, w))

-- what steps answer that eliminate these columns: the rows before each and the rows left, or the first blown step
abbrev pub StepsSay : Bool → ℕ → List ℕ → List (List ℤ) → Result Steps ElimFault → Type 0
StepsSay brief m ks rows (Ok steps) =
    (steps.left ≡ all_eliminated m ks rows) × (steps.before ≡ history_of m ks rows) × (blown_step m ks rows ≡ None)
StepsSay brief m ks rows (Err (Blown step wide)) = IsBlownAt brief step wide (blown_step m ks rows)
StepsSay brief m ks rows (Err Memory) = Unit {0}
