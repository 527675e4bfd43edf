-- Private.
-- What the calls answer, in the words of elimination and solving.
use Rattle.std.specs.Prelude.{◌≡◌, ◌≤◌, ℕ, ℤ, Bool, List, [], ◌∷◌, length, true, false, Option, Some, None, Result, Ok, Err}
use Rattle.linear_rows.specs.Step.{eliminated, all_eliminated}
use Rattle.linear_rows.specs.Blown.{step_fault, blown_step}
use Rattle.linear_rows.specs.Plain.{plain_rows}
use Rattle.linear_rows.specs.declared.row.Rows.{Rows}
use Rattle.fourier.specs.declared.fault.ElimFault.{ElimFault}
use Rattle.fourier.specs.declared.fault.ElimFault.TheVariants.{Blown, Memory as NoMemory}
use Rattle.fourier.specs.declared.fault.StepFault.{StepFault}
use Rattle.fourier.specs.declared.fault.StepFault.TheVariants.{Wide, Many, Memory}

-- A brief step stops once its rows are too many, and then does not say whether a number is too large in it.

-- a test of numbers passes, or it is brief and the kept rows are too many
abbrev pub FitsUnless : Bool → List (List ℤ) → Bool → Type 0
FitsUnless false kept b = b ≡ true
FitsUnless true kept b = length kept ≤ 4096 → b ≡ true

-- the fault of a step that leaves too many rows
abbrev pub IsMany : Bool → Option Bool → Type 0
IsMany false fault = fault ≡ Some false
IsMany true fault = (wide : Bool) × (fault ≡ Some wide)

-- what a step answers: the rows that it leaves, or exactly its fault, but for what a brief one does not say; running
-- out of memory is free
abbrev pub StepSays : Bool → ℕ → ℕ → List (List ℤ) → Result (List (List ℤ)) StepFault → Type 0
StepSays brief m k rows (Ok left) = (left ≡ eliminated m k rows) × (step_fault m k rows ≡ None)
StepSays brief m k rows (Err Wide) = step_fault m k rows ≡ Some true
StepSays brief m k rows (Err Many) = IsMany brief (step_fault m k rows)
StepSays brief m k rows (Err Memory) = Unit {0}

-- a step's fault as that of an elimination in which the step has this number
abbrev pub fault_at : ℕ → StepFault → ElimFault
fault_at step Wide = Blown step true
fault_at step Many = Blown step false
fault_at step Memory = NoMemory

-- what the elimination of a column answers, for rows of m coefficients
abbrev pub Eliminates : ℕ → ℕ → List (List ℤ) → Result Rows ElimFault → Type 0
Eliminates m k rows (Ok left) = (plain_rows left.list ≡ eliminated m k rows) × (blown_step m (k ∷ []) rows ≡ None)
Eliminates m k rows (Err (Blown step wide)) = blown_step m (k ∷ []) rows ≡ Some (step, wide)
Eliminates m k rows (Err NoMemory) = Unit {0}

-- what the elimination of columns, one after the other, answers for rows of m coefficients
abbrev pub EliminatesAll : ℕ → List ℕ → List (List ℤ) → Result Rows ElimFault → Type 0
EliminatesAll m ks rows (Ok left) = (plain_rows left.list ≡ all_eliminated m ks rows) × (blown_step m ks rows ≡ None)
EliminatesAll m ks rows (Err (Blown step wide)) = blown_step m ks rows ≡ Some (step, wide)
EliminatesAll m ks rows (Err NoMemory) = Unit {0}
