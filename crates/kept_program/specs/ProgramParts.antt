-- Private.
-- What contracts see of a program with what is kept of it, and the facts of its certificate.
--
-- To believe: all of this file, over `facts_with`, which says how parts and notes are written.
use Rattle.std.specs.Prelude.{ℕ, List}
use Rattle.call_components.specs.Partition.{Partition}
use Rattle.cert_structure.specs.declared.parts.Parts.{Parts}
use Rattle.certificate.specs.declared.fact.Fact.{Fact}
use Rattle.cti_terms.specs.Listing.{Listing}
use Rattle.level_systems.specs.declared.found.Found.{Found}
use Rattle.numeric_model.specs.declared.step.Step.{Step}
use Rattle.report.specs.Solution.{facts_with}

-- a program with its components, the parts of its certificate, the steps of each component, and what was found of its
-- mappings
pub record ProgramParts : Type 0 where
  pub program : Listing
  pub components : Partition
  pub parts : Parts
  pub steps : List (List Step)
  pub found : List Found

-- the facts of the certificate, by the texts of names
abbrev pub certificate_facts : List (List ℕ) → ProgramParts → List Fact
certificate_facts names k = facts_with k.program names k.components k.parts k.steps k.found
