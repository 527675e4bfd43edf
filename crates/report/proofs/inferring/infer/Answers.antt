use Rattle.report.proofs.Inferred.{exact_facts, if_ok, norm_facts, valid_facts}
use Rattle.report.proofs.inferring.infer.Goals as goal

pub returns-clause-valid : goal.returns-clause-valid
returns-clause-valid c =
    let p = c.args.p.now in
    let names = c.args.names.now in
    let a = c.in_ok-assembled.assembled in
    if_ok c.certificate.result _ _
    (λ x same. valid_facts p names c.in_ok-comps.comps c.preds-program.ensures.sound c.in_ok-comps.ensures a c.in_ok-assembled.ensures.assembled x.facts same) c.certificate.ensures

pub returns-clause-exact : goal.returns-clause-exact
returns-clause-exact c =
    let p = c.args.p.now in
    let names = c.args.names.now in
    let a = c.in_ok-assembled.assembled in
    if_ok c.certificate.result _ _
    (λ x same. exact_facts p names c.in_ok-comps.comps c.preds-program.ensures.sound c.in_ok-comps.ensures a c.in_ok-assembled.ensures.assembled x.facts same) c.certificate.ensures

pub returns-clause-bounded : goal.returns-clause-bounded
returns-clause-bounded c =
    let p = c.args.p.now in
    let names = c.args.names.now in
    let a = c.in_ok-assembled.assembled in
    if_ok c.certificate.result _ _
    (λ x same.
    c.valid_certificates_bound_their_modes.ensures p names x.facts c.preds-program.ensures.sound c.requires c.count-names.ensures.distinct
    (valid_facts p names c.in_ok-comps.comps c.preds-program.ensures.sound c.in_ok-comps.ensures a c.in_ok-assembled.ensures.assembled x.facts same)) c.certificate.ensures

pub returns-clause-norm : goal.returns-clause-norm
returns-clause-norm c =
    let p = c.args.p.now in
    let names = c.args.names.now in
    let a = c.in_ok-assembled.assembled in
    if_ok c.certificate.result _ _
    (λ x same. norm_facts p names c.in_ok-comps.comps c.preds-program.ensures.sound c.in_ok-comps.ensures a c.in_ok-assembled.ensures.assembled x.facts same c.args.norm c.in_ok-assembled.ensures.norm) c.certificate.ensures
