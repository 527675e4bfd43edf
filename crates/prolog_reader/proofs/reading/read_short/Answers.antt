use Rattle.prolog_reader.specs.Naming.{word_texts, operator_texts, text_own}
use Rattle.prolog_reader.proofs.NamingLemmas.{names_then}
use Rattle.prolog_reader.proofs.TextNames.{names_begin, result_behind, fault_behind}
use Rattle.prolog_reader.proofs.reading.read_short.Goals as goal

pub returns-then-is_long-clause-begin : goal.returns-then-is_long-clause-begin
returns-then-is_long-clause-begin c = names_begin text_own c.args.names.now c.args.text.now

pub returns-clause-names : goal.returns-clause-names
returns-clause-names c =
    let put = names_then c.args.names.now c.find_words.new.names c.standard.new.names word_texts operator_texts c.in_ok-words.ensures.added c.in_ok-ops.ensures.added in
    result_behind text_own c.args.names.now _ c.args.text.now c.read_clauses.new.names put c.read_clauses.result c.read_clauses.ensures.names

pub returns-clause-begin : goal.returns-clause-begin
returns-clause-begin c =
    let put = names_then c.args.names.now c.find_words.new.names c.standard.new.names word_texts operator_texts c.in_ok-words.ensures.added c.in_ok-ops.ensures.added in
    fault_behind text_own c.args.names.now _ c.args.text.now c.read_clauses.new.names put c.read_clauses.result c.read_clauses.ensures.begin
