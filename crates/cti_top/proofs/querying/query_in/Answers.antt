use Rattle.std.proofs.Common.{◌≡◌, ◌∙◌, ℕ, List, sym, subst, arith}
use Rattle.prolog_terms.specs.Terms.{clause_of}
use Rattle.prolog_reader.proofs.NameLemmas.{extends_self}
use Rattle.cti_top.specs.Known.{known_of}
use Rattle.cti_top.specs.Queries.{IsQueryOf, ReadsQueryAs}
use Rattle.cti_top.proofs.AnswerLemmas.{if_err}
use Rattle.cti_top.proofs.QueryLemmas.{query_too_long, query_not_read, query_not_normal, known_later, same_equality}
use Rattle.cti_top.proofs.querying.query_in.Goals as goal

pub returns-then-query-gt-MOST_BYTES-clause-refused : goal.returns-then-query-gt-MOST_BYTES-clause-refused
returns-then-query-gt-MOST_BYTES-clause-refused c = query_too_long (known_of c.args.source.now) c.args.query.now (omega (arith, c.if-query-gt-MOST_BYTES.true))

pub returns-in_err-clause-clause-refused : goal.returns-in_err-clause-clause-refused
returns-in_err-clause-clause-refused c =
    if_err c.from_residual.result (λ e is. query_not_read (known_of c.args.source.now) c.args.query.now c.read_query.new.names c.in_err-clause.field-0.0 e (omega (arith, c.if-query-gt-MOST_BYTES.false))
    c.in_err-clause.ensures.begin is c.in_err-clause.ensures.refused) c.from_residual.ensures.1

pub normal_query-goal-requires-clause-known : goal.normal_query-goal-requires-clause-known
normal_query-goal-requires-clause-known c = known_later c.args.source.now.names c.read_query.new.names c.args.source.now.program.preds c.in_ok-clause.ensures.kept c.requires.known

pub normal_query-goal-requires-clause-arithmetic : goal.normal_query-goal-requires-clause-arithmetic
normal_query-goal-requires-clause-arithmetic c = c.requires.arithmetic c.read_query.new.names c.in_ok-clause.ensures.kept

pub normal_query-goal-requires-clause-clauses : goal.normal_query-goal-requires-clause-clauses
normal_query-goal-requires-clause-clauses c none =
    c.requires.room (sym (same_equality c.args.source.now.names c.read_query.new.names c.args.source.now.program.preds c.in_ok-clause.ensures.kept c.requires.known) ∙ none)

pub returns-clause-query : goal.returns-clause-query
returns-clause-query c =
    let known = known_of c.args.source.now in
    let query = c.args.query.now in
    let read = c.read_query.new.names in
    let same : c.normal_query-goal.new.names ≡ read = c.in_ok-goal.ensures.names in
    let reads : ReadsQueryAs known query read (clause_of c.in_ok-clause.clause) =
    record { named = c.in_ok-clause.ensures.names; reads = c.in_ok-clause.ensures.found read (extends_self read) } in
    let asked : IsQueryOf known query read c.normal_query-goal.new.program c.in_ok-goal.field-0 = record { clause = clause_of c.in_ok-clause.clause; reads = reads; normal = c.in_ok-goal.ensures.exact } in
    subst (λ (names : List (List ℕ)). IsQueryOf known query names c.normal_query-goal.new.program c.in_ok-goal.field-0) (sym same) asked

pub returns-in_err-goal-clause-refused : goal.returns-in_err-goal-clause-refused
returns-in_err-goal-clause-refused c =
    let known = known_of c.args.source.now in
    let query = c.args.query.now in
    let read = c.read_query.new.names in
    let reads : ReadsQueryAs known query read (clause_of c.in_ok-clause.clause) =
    record { named = c.in_ok-clause.ensures.names; reads = c.in_ok-clause.ensures.found read (extends_self read) } in
    if_err c.from_residual-in_err-goal.result (λ e is. query_not_normal known query read (clause_of c.in_ok-clause.clause) c.normal_query-goal.new.program c.in_err-goal.field-0.0 e
    (omega (arith, c.if-query-gt-MOST_BYTES.false)) is reads c.in_err-goal.ensures.exact) c.from_residual-in_err-goal.ensures.1
