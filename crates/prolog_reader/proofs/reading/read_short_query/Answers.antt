use Rattle.prolog_reader.specs.Naming.{query_own}
use Rattle.prolog_reader.proofs.TextNames.{names_begin, result_behind, fault_behind}
use Rattle.prolog_reader.proofs.reading.read_short_query.Goals as goal

pub returns-then-is_long-clause-begin : goal.returns-then-is_long-clause-begin
returns-then-is_long-clause-begin c = names_begin query_own c.args.names.now c.args.text.now

pub returns-clause-names : goal.returns-clause-names
returns-clause-names c =
    let put = c.in_ok-known.ensures.added in
    result_behind query_own c.args.names.now _ c.args.text.now c.read_term.new.names put c.read_term.result c.read_term.ensures.names

pub returns-clause-begin : goal.returns-clause-begin
returns-clause-begin c =
    let put = c.in_ok-known.ensures.added in
    fault_behind query_own c.args.names.now _ c.args.text.now c.read_term.new.names put c.read_term.result c.read_term.ensures.begin
