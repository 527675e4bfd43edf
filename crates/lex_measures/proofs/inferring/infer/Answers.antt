use Rattle.lex_measures.proofs.Inferred.{exact_facts, if_ok, valid_facts}
use Rattle.lex_measures.proofs.inferring.infer.Goals as goal

pub returns-clause-valid : goal.returns-clause-valid
returns-clause-valid c =
    if_ok c.certificate.result _ _
    (λ x same. valid_facts c.args.p.now c.args.names.now c.in_ok-comps.comps c.in_ok-comps.ensures c.in_ok-assembled.assembled c.in_ok-assembled.ensures x.facts same) c.certificate.ensures

pub returns-clause-exact : goal.returns-clause-exact
returns-clause-exact c =
    if_ok c.certificate.result _ _
    (λ x same. exact_facts c.args.p.now c.args.names.now c.in_ok-comps.comps c.in_ok-comps.ensures c.in_ok-assembled.assembled c.in_ok-assembled.ensures x.facts same) c.certificate.ensures

pub returns-clause-bounded : goal.returns-clause-bounded
returns-clause-bounded c =
    let p = c.args.p.now in
    let names = c.args.names.now in
    if_ok c.certificate.result _ _
    (λ x same.
    c.valid_lists_bound_their_modes.ensures p names x.facts c.preds-program.ensures.sound c.requires c.count-names.ensures.distinct
    (valid_facts p names c.in_ok-comps.comps c.in_ok-comps.ensures c.in_ok-assembled.assembled c.in_ok-assembled.ensures x.facts same)) c.certificate.ensures
