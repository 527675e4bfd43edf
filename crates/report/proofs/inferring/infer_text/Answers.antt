use Rattle.std.proofs.Common.{refl}
use Rattle.report.proofs.Inferred.{exact_facts, if_ok, norm_facts, valid_facts}
use Rattle.report.specs.Assembly.{facts_in}
use Rattle.report.specs.InferredText.{IsInferredText}
use Rattle.report.proofs.inferring.infer_text.Goals as goal

pub returns : goal.returns
returns c =
    let p = c.args.p.now in
    let names = c.args.names.now in
    let comps = c.in_ok-comps.comps in
    let program = c.preds-program.ensures.sound in
    let parted = c.in_ok-comps.ensures in
    let a = c.in_ok-assembled.assembled in
    let is = c.in_ok-assembled.ensures.assembled in
    let facts = facts_in p names comps a in
    let valid = valid_facts p names comps program parted a is facts refl in
    if_ok c.text.result _ (λ text. IsInferredText p names c.args.norm text.items)
    (λ text printed. record {
      facts = facts;
      printed = printed;
      valid = valid;
      exact = exact_facts p names comps program parted a is facts refl;
      bounded = c.valid_certificates_bound_their_modes.ensures p names facts program c.requires c.count-names.ensures.distinct valid;
      of_norm = norm_facts p names comps program parted a is facts refl c.args.norm c.in_ok-assembled.ensures.norm;
    }) c.text.ensures
