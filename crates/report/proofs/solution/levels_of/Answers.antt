use Rattle.std.proofs.Common.{subst, sym}
use Rattle.precond_fixpoint.specs.Solving.{AreLevels}
use Rattle.report.proofs.Inferred.{if_ok}
use Rattle.report.proofs.MappingParts.{levels_are}
use Rattle.report.proofs.solution.levels_of.Goals as goal

pub returns-clause-shape : goal.returns-clause-shape
returns-clause-shape c =
    let p = c.args.p.now in
    let comps = c.args.comps.now in
    if_ok c.levels.result _ _
    (λ levels same expression rows founds. subst (AreLevels p comps) (sym same) (levels_are expression p comps rows c.args.found.now c.preds-program.ensures.sound c.requires.components founds)) c.levels.ensures
