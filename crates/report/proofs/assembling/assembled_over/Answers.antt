use Rattle.std.proofs.Common.{◌≡◌, List, subst, sym}
use Rattle.level_systems.specs.declared.found.Found.{Found}
use Rattle.report.proofs.AssembledParts.{assembled}
use Rattle.report.specs.Assembly.{ArePartsOf}
use Rattle.cert_assembly.specs.Sizing.{IsSolvedChain}
use Rattle.term_size.specs.AnyNorm.{any_row}
use Rattle.report.proofs.assembling.assembled_over.Goals as goal

pub returns-clause-assembled : goal.returns-clause-assembled
returns-clause-assembled c =
    let p = c.args.measured.now.p.now in
    let names = c.args.names.now in
    let comps = c.args.measured.now.comps.now in
    let norm = c.args.measured.now.norm in
    let steps = c.into_parts-steps.result.0 in
    let sizes = c.into_parts-steps.result.1 in
    let are = c.into_parts-steps.ensures in
    let same : c.args.chain ≡ record { steps = steps; sizes = sizes } = λ i. record { steps = sym are.0 i; sizes = sym are.1 i } in
    let chain = subst (IsSolvedChain (any_row norm) p comps) same c.requires.chain in
    let parts = subst (λ (found : List Found). ArePartsOf norm c.args.named p comps sizes found c.in_ok-parts.parts) c.as_slice.ensures c.in_ok-parts.ensures in
    assembled norm c.args.named p names comps sizes c.in_ok-found.found c.in_ok-parts.parts steps
    c.preds-program.ensures.sound c.requires.components chain.legal chain.sizes chain.proofs chain.fits
    c.in_ok-found.ensures parts c.are_bounded.ensures c.requires.norm
