use Rattle.std.proofs.Common.{ap, length, arith, subst, refl, ℕ, List}
use Rattle.prolog_reader.specs.Meanings.{table_of}
use Rattle.prolog_reader.specs.Naming.{AreNamesOf, BeginNames, text_own}
use Rattle.prolog_reader.proofs.NameLemmas.{extends_self}
use Rattle.cti_top.specs.Sessions.{session_names}
use Rattle.cti_top.proofs.AnswerLemmas.{if_err}
use Rattle.cti_top.proofs.SessionLemmas.{not_read, not_done}
use Rattle.cti_top.proofs.session.lines_of.Goals as goal

pub returns-in_err-text-clause-refused : goal.returns-in_err-text-clause-refused
returns-in_err-text-clause-refused c =
    let fault = c.in_err-text.field-0.0 in
    if_err c.from_residual.result (λ e is. not_read c.args.bytes.now c.read_text.new.names fault e is
    (subst (λ (ns : List (List ℕ)). BeginNames text_own ns c.args.bytes.now c.read_text.new.names fault) c.new-names.ensures c.in_err-text.ensures.begin)
    c.in_err-text.ensures.refused) c.from_residual.ensures.1

pub play-requires-clause-room : goal.play-requires-clause-room
play-requires-clause-room c = omega (arith, c.read_text.ensures.few, c.requires.short, ap length c.new-names.ensures)

pub returns-clause-lines : goal.returns-clause-lines
returns-clause-lines c =
    let read = c.read_text.new.names in
    let played = c.in_ok-play.ensures.played in
    record {
      names = session_names read;
      told = played.told;
      is = record {
        read = read;
        clauses = c.in_ok-text.text.clauses;
        table = table_of c.in_ok-text.text.ops;
        reads = record {
          named = subst (λ (ns : List (List ℕ)). AreNamesOf text_own ns c.args.bytes.now read) c.new-names.ensures c.in_ok-text.ensures.names;
          reads = c.in_ok-text.ensures.found read (extends_self _);
        };
        named = refl;
        done = played.done;
      };
      lines = played.lines;
    }

pub returns-in_err-play-clause-refused : goal.returns-in_err-play-clause-refused
returns-in_err-play-clause-refused c =
    let read = c.read_text.new.names in
    if_err c.from_residual-in_err-play.result (λ e is. not_done c.args.bytes.now read c.in_ok-text.text.clauses (table_of c.in_ok-text.text.ops) c.in_err-play.field-0.0 e is
    (record {
      named = subst (λ (ns : List (List ℕ)). AreNamesOf text_own ns c.args.bytes.now read) c.new-names.ensures c.in_ok-text.ensures.names;
      reads = c.in_ok-text.ensures.found read (extends_self _);
    })
    c.in_err-play.ensures.refused) c.from_residual-in_err-play.ensures.1
