use Rattle.std.proofs.Common.{◌<◌, ◌≤◌, length, arith}
use Rattle.cti_terms.specs.declared.predicates.Pred.{Pred}
use Rattle.clause_normal.proofs.NumberingLemmas.{all_weaker, extends_more}
use Rattle.program_examples.proofs.clauses.query_of.Goals as goal

pub normal_query-found-requires-clause-known : goal.normal_query-found-requires-clause-known
normal_query-found-requires-clause-known c =
    let before = c.normal.new.names in
    let later = c.read_query.new.names in
    let more = extends_more before later c.in_ok-query.ensures.kept in
    all_weaker (λ (q : Pred). q.name.0 < length before) (λ (q : Pred). q.name.0 < length later) (λ q less. omega (arith, less, more)) c.in_ok-program.program.preds c.in_ok-program.ensures.known

pub normal_query-found-requires-clause-arithmetic : goal.normal_query-found-requires-clause-arithmetic
normal_query-found-requires-clause-arithmetic c = c.in_ok-program.ensures.arithmetic c.read_query.new.names c.in_ok-query.ensures.kept
