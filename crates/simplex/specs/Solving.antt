-- Private.
-- When solving is blown.
use Rattle.std.specs.Prelude.{◌≡◌, Result, Ok, Err}
use Rattle.linear_rows.specs.Solving.{Solution}
use Rattle.linear_rows.specs.Solving.Solution.{Blown}
use Rattle.fourier.specs.declared.fault.ElimFault.{ElimFault}
use Rattle.fourier.specs.declared.fault.ElimFault.TheVariants.{Blown as BlownFault, Memory}
use Rattle.linear_rows.specs.declared.solved.Solved.{Solved}

-- a blown answer is that of elimination, with its step; running out of memory is free
abbrev pub IsBlownAs : Solution → Result Solved ElimFault → Type 0
IsBlownAs s (Ok solved) = Unit {0}
IsBlownAs s (Err (BlownFault step wide)) = s ≡ Blown step wide
IsBlownAs s (Err Memory) = Unit {0}
