use Rattle.std.proofs.Common.{ap, length, arith, subst, ℕ, List}
use Rattle.prolog_reader.specs.Meanings.{table_of}
use Rattle.prolog_reader.specs.Naming.{AreNamesOf, BeginNames, text_own}
use Rattle.prolog_reader.proofs.NameLemmas.{extends_self}
use Rattle.cti_top.proofs.AnswerLemmas.{if_err}
use Rattle.cti_top.proofs.SourceLemmas.{not_read, not_normal}
use Rattle.cti_top.proofs.source.program_in.Goals as goal

pub returns-in_err-text-clause-refused : goal.returns-in_err-text-clause-refused
returns-in_err-text-clause-refused c =
    let fault = c.in_err-text.field-0.0 in
    if_err c.from_residual.result (λ e is. not_read c.args.bytes.now c.read_text.new.names fault e is
    (subst (λ (ns : List (List ℕ)). BeginNames text_own ns c.args.bytes.now c.read_text.new.names fault) c.new-names.ensures c.in_err-text.ensures.begin)
    c.in_err-text.ensures.refused) c.from_residual.ensures.1

pub normal-program-requires-clause-room : goal.normal-program-requires-clause-room
normal-program-requires-clause-room c = omega (arith, c.read_text.ensures.few, c.requires.short, ap length c.new-names.ensures)

pub returns-in_err-program-clause-refused : goal.returns-in_err-program-clause-refused
returns-in_err-program-clause-refused c =
    let bytes = c.args.bytes.now in
    let read = c.read_text.new.names in
    if_err c.from_residual-in_err-program.result (λ e is. not_normal bytes read c.in_ok-text.text.clauses (table_of c.in_ok-text.text.ops) c.in_err-program.field-0.0 e is
    (record { named = subst (λ (ns : List (List ℕ)). AreNamesOf text_own ns bytes read) c.new-names.ensures c.in_ok-text.ensures.names; reads = c.in_ok-text.ensures.found read (extends_self _) })
    c.normal-program.new.names c.in_err-program.ensures.fault c.in_err-program.ensures.exact) c.from_residual-in_err-program.ensures.1

pub returns-clause-program : goal.returns-clause-program
returns-clause-program c = record {
  read = c.read_text.new.names;
  clauses = c.in_ok-text.text.clauses;
  reads = record { named = subst (λ (ns : List (List ℕ)). AreNamesOf text_own ns c.args.bytes.now c.read_text.new.names) c.new-names.ensures c.in_ok-text.ensures.names; reads = c.in_ok-text.ensures.found c.read_text.new.names (extends_self _) };
  named = c.in_ok-program.ensures.names;
  normal = c.in_ok-program.ensures.exact;
}
