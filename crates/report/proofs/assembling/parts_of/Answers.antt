use Rattle.std.proofs.Common.{ap, subst, sym}
use Rattle.cert_structure.specs.declared.parts.Parts.{Parts}
use Rattle.precond_fixpoint.specs.Solving.{AreLevels}
use Rattle.term_size.specs.AnyNorm.{any_row}
use Rattle.report.proofs.MappingParts.{levels_are}
use Rattle.report.proofs.assembling.parts_of.Goals as goal

pub put_sets-requires-clause-levels : goal.put_sets-requires-clause-levels
put_sets-requires-clause-levels c =
    let p = c.args.measured.now.p.now in
    let comps = c.args.measured.now.comps.now in
    subst (AreLevels p comps) (sym (ap (λ (x : Parts). x.levels) c.in_ok-put_mappings.ensures))
    (levels_are (any_row c.args.measured.now.norm) p comps c.args.sizes.now.rows c.args.found.now c.preds-program.ensures.sound c.requires.components c.requires.found)
