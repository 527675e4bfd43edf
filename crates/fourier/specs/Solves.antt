-- Private.
-- What solving answers, in the words of linear_rows.
use Rattle.std.specs.Prelude.{◌≡◌, ℕ, ℤ, pos, Bool, true, false, List, Option, None, Some, Result, Ok, Err, length}
use Rattle.exact128.specs.Fractions.{then_do}
use Rattle.linear_rows.specs.Step.{columns}
use Rattle.linear_rows.specs.Solving.{Solution, common_of, made_whole}
use Rattle.linear_rows.specs.Solving.Solution.{Blown, Found, Refuted}
use Rattle.fourier.specs.History.{values_back}
use Rattle.fourier.specs.declared.fault.ElimFault.{ElimFault}
use Rattle.fourier.specs.declared.fault.ElimFault.TheVariants.{Blown as BlownFault, Memory}
use Rattle.linear_rows.specs.declared.solved.Solved.{Solved}
use Rattle.linear_rows.specs.declared.solved.Solved.TheVariants.{Point as PointFound, Refuted as RefutedBy}

-- an answer spells a solution; running out of memory is free
abbrev pub Spells : Solution → Result Solved ElimFault → Type 0
Spells s (Ok (PointFound p)) = s ≡ Found p.t p.w
Spells s (Ok (RefutedBy m)) = (m.scale ≡ pos 0) × (s ≡ Refuted m.list)
Spells s (Err (BlownFault step wide)) = s ≡ Blown step wide
Spells s (Err Memory) = Unit {0}

-- the same, but that a brief answer says of a blown solving only that it is blown
abbrev pub IsToldBlown : Bool → ℕ → Bool → Solution → Type 0
IsToldBlown false step wide s = s ≡ Blown step wide
IsToldBlown true step wide s = (n : ℕ) × (w : Bool) × (s ≡ Blown n w)

abbrev pub SpellsUnless : Bool → Solution → Result Solved ElimFault → Type 0
SpellsUnless brief s (Ok solved) = Spells s (Ok solved)
SpellsUnless brief s (Err (BlownFault step wide)) = IsToldBlown brief step wide s
SpellsUnless brief s (Err Memory) = Unit {0}

-- there is an answer exactly where the solving is not blown, and it spells the solution
abbrev pub SpellsOrBlown : Solution → Option Solved → Type 0
SpellsOrBlown s (Some solved) = Spells s (Ok solved)
SpellsOrBlown s None = (n : ℕ) × (w : Bool) × (s ≡ Blown n w)

-- the values as whole numbers, from the rows before each column's elimination
abbrev pub whole_back : List (List (List ℤ)) → Option (List ℤ)
whole_back hs = then_do (values_back (columns 1 (length hs)) hs) (λ vs. then_do (common_of (pos 1) vs) (λ c. made_whole c vs))
