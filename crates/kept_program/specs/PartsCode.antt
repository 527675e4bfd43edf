-- Private.
-- How proofs distinguish programs with what is kept of them. Nothing here has to be believed.
use Rattle.std.specs.Prelude.{List, refl}
use Rattle.std.specs.Coded.{Coded, code_by, coded×, coded_list}
use Rattle.call_components.specs.contracts.partition.Components as components
use Rattle.call_components.specs.Partition.{Partition}
use Rattle.cert_structure.specs.contracts.parts.Parts as parts
use Rattle.cert_structure.specs.declared.parts.Parts.{Parts}
use Rattle.cti_terms.specs.Listing.{Listing}
use Rattle.cti_terms.specs.ListingCode.{coded_listing}
use Rattle.level_systems.specs.contracts.found.Found as found
use Rattle.level_systems.specs.declared.found.Found.{Found}
use Rattle.numeric_model.specs.contracts.step.Step as step
use Rattle.numeric_model.specs.declared.step.Step.{Step}
use Rattle.kept_program.specs.ProgramParts.{ProgramParts}

-- they are stored as their five fields
abbrev pub coded_parts : Coded ProgramParts
coded_parts =
    code_by (Listing × (Partition × (Parts × (List (List Step) × List Found))))
    (coded× coded_listing (coded× components.the_row.coded (coded× parts.the_row.coded (coded× (coded_list (coded_list step.the_row.coded)) (coded_list found.the_row.coded)))))
    (λ k. (k.program, (k.components, (k.parts, (k.steps, k.found)))))
    (λ v. record { program = v.0; components = v.1.0; parts = v.1.1.0; steps = v.1.1.1.0; found = v.1.1.1.1 }) (λ _. refl)
