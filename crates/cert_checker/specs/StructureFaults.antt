-- To believe, for the command.
-- The fault of a certificate whose structure is wrong: it comes before those of what the certificate claims.
--
-- To believe: all of this file, over `IsStructureFault` of cert_structure.
use Rattle.std.specs.Prelude.{ℕ, List}
use Rattle.call_components.specs.Partition.{AreComponents, Partition}
use Rattle.certificate.specs.declared.fact.Fact.{Fact}
use Rattle.cert_structure.specs.StructureFault.{IsStructureFault}
use Rattle.fact_reading.specs.declared.stop.StructureReason.{StructureReason}
use Rattle.fact_reading.specs.declared.stop.StructureReason.TheVariants as structure
use Rattle.cti_terms.specs.Listing.{Listing}
use Rattle.cert_checker.specs.declared.fault.Fault.{Fault}
use Rattle.cert_checker.specs.declared.reason.Reason.{Reason}
use Rattle.cert_checker.specs.declared.reason.Reason.TheVariants as reason

-- what is wrong with the structure, as a reason of a certificate
abbrev pub structure_reason : StructureReason → Reason
structure_reason structure.Version = reason.Version
structure_reason structure.Missing = reason.Missing
structure_reason structure.Extra = reason.Extra
structure_reason structure.Shape = reason.Shape

abbrev pub structure_fault : ℕ → StructureReason → Fault
structure_fault n why = record { line = n; reason = structure_reason why }

-- the facts up to this line begin those of a certificate of the program, and with the fact of the line they do not, for
-- this reason
pub record HasStructureFault (p : Listing) (names : List (List ℕ)) (facts : List Fact) (line : ℕ) (why : StructureReason) : Type 0 where
  pub comps : Partition
  pub components : AreComponents p comps
  pub fault : IsStructureFault p names comps facts line why
