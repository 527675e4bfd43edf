use Rattle.std.proofs.Common.{◌++◌, length, arith}
use Rattle.prolog_terms.specs.Terms.{tree_of}
use Rattle.clause_variables.specs.Terms.{occurrences}
use Rattle.clause_normal.specs.Views.{goals_of}
use Rattle.clause_normal.proofs.FitLemmas.{body_fit, made_fit}
use Rattle.clause_normal.proofs.clauses.add_implication.Goals as goal

pub returns-clause-few : goal.returns-clause-few
returns-clause-few c =
    let body = tree_of c.args.implication.now.body.now in
    let all = occurrences (tree_of c.args.implication.now.head.now) ++ occurrences body in
    omega (arith, c.in_ok-after.ensures.2, (body_fit c.args.names.now body c.requires.body.known).few_goals all)

pub returns-clause-fit : goal.returns-clause-fit
returns-clause-fit c =
    let names = c.args.names.now in
    let body = tree_of c.args.implication.now.body.now in
    let all = occurrences (tree_of c.args.implication.now.head.now) ++ occurrences body in
    made_fit (length names) c.args.made.now.items c.add_body.new.made.items c.args.next c.in_ok-call.call (goals_of names c.args.implication.now.body.now all) c.in_ok-after.ensures.1 c.in_ok-call.ensures.2
    ((body_fit names body c.requires.body.known).goals all)
