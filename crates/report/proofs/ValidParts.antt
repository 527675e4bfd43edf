-- Parts whose numbers hold and whose modes are exact are a valid certificate.
use Rattle.std.proofs.Common.{refl}
use Rattle.call_components.specs.Partition.{AreComponents, Partition}
use Rattle.cert_checker.specs.Norms.{norm_in}
use Rattle.cert_structure.specs.Shape.{HaveShape}
use Rattle.cert_structure.specs.declared.parts.Parts.{Parts}
use Rattle.cti_terms.specs.Listing.{IsProgram, Listing}
use Rattle.term_size.specs.AnyNorm.{any_row, any_truth}
use Rattle.term_size.specs.declared.any_norm.AnyNorm.{AnyNorm}
use Rattle.cert_assembly.proofs.ModeLaws.{exact_modes_hold}
use Rattle.report.specs.Assembled.{NumbersHold, PartsAreValid}
use Rattle.cert_assembly.specs.ExactModes.{AreCounted, ModesAreExact}

pub parts_have_shape : (n : AnyNorm) (p : Listing) (comps : Partition) (parts : Parts) → IsProgram p → AreComponents p comps → AreCounted p comps parts → NumbersHold (any_row n) p comps parts → ModesAreExact (any_truth n) p comps parts → HaveShape p comps parts
parts_have_shape n p comps parts program components counted numbers exact =
    let h = exact_modes_hold (any_truth n) p comps parts program components counted exact in
    record {
      modes = h.modes;
      rows = numbers.sizes.shape;
      row_proofs = numbers.sizes.proofs_shape;
      grounds = h.grounds;
      levels = numbers.mappings.levels;
      falls = numbers.mappings.falls;
      preconditions = h.preconditions;
      refutations = numbers.mappings.refutations;
    }

pub parts_are_valid : PartsAreValid
parts_are_valid p names comps parts notes program components are counted numbers exact =
    let h = exact_modes_hold (any_truth (norm_in names parts.norm)) p comps parts program components counted exact in
    record {
      comps = comps;
      components = components;
      parts = parts;
      structured = record {
        notes = notes;
        are_notes = are;
        shape = parts_have_shape (norm_in names parts.norm) p comps parts program components counted numbers exact;
        is = refl;
      };
      hold = record {
        modes = h.hold;
        stated = numbers.sizes.stated;
        rows = numbers.sizes.hold;
        measures = numbers.mappings.measures_hold;
        falls = numbers.mappings.falls_hold;
        refutations = numbers.mappings.refutations_hold;
      };
    }
