-- A fault of the structure, as the parts' reader answers it.
use Rattle.std.proofs.Common.{◌≡◌, ◌⊎◌, inl, inr, sym, ◌∙◌, ℕ}
use Rattle.cert_structure.specs.declared.fault.PartsFault.{PartsFault}
use Rattle.cert_structure.specs.declared.fault.PartsFault.TheVariants.{Memory, Wrong}
use Rattle.fact_reading.specs.declared.stop.StructureReason.{StructureReason}
use Rattle.cert_checker.specs.StructureFaults.{structure_fault}

pub same_fault : (fault : PartsFault) (line other : ℕ) (why because : StructureReason) → fault ≡ Wrong line why → (fault ≡ Memory) ⊎ (fault ≡ Wrong other because)
    → structure_fault line why ≡ structure_fault other because
same_fault fault line other why because is (inl memory) = let both : Wrong line why ≡ Memory = sym is ∙ memory in cc
same_fault fault line other why because is (inr same) =
    let both : Wrong line why ≡ Wrong other because = sym is ∙ same in
    let lines : line ≡ other = cc in
    let reasons : why ≡ because = cc in
    λ i. structure_fault (lines i) (reasons i)
