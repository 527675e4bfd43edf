use Rattle.std.proofs.Common.{Bor, refl, ap}
use Rattle.prolog_operators.specs.declared.operators.Ops.{Ops}
use Rattle.term_parser.specs.Views.{token_of}
use Rattle.prolog_reader.proofs.clause_reading.ClauseReader.take.Goals as goal

pub next_symbol-requires-clause-given : goal.next_symbol-requires-clause-given
next_symbol-requires-clause-given c = c.requires.ready.given

pub next_symbol-requires-clause-within : goal.next_symbol-requires-clause-within
next_symbol-requires-clause-within c = c.requires.ready.within

pub next_symbol-requires-clause-within_before : goal.next_symbol-requires-clause-within_before
next_symbol-requires-clause-within_before c = c.requires.ready.within_before

pub next_symbol-requires-clause-room : goal.next_symbol-requires-clause-room
next_symbol-requires-clause-room c = c.requires.ready.room

pub next_symbol-requires-clause-numbered : goal.next_symbol-requires-clause-numbered
next_symbol-requires-clause-numbered c = c.requires.ready.numbered

pub next_symbol-requires-clause-few : goal.next_symbol-requires-clause-few
next_symbol-requires-clause-few c = c.requires.ready.few

pub is_touched-touched-requires : goal.is_touched-touched-requires
is_touched-touched-requires c = c.requires.ready.within.ended

pub step-requires : goal.step-requires
step-requires c = record { fits = c.requires.ready.fits }

pub returns-in_err-symbol-clause-names : goal.returns-in_err-symbol-clause-names
returns-in_err-symbol-clause-names c = (c.in_err-symbol.ensures.kept, c.in_err-symbol.ensures.more)

pub returns-in_err-step-clause-names : goal.returns-in_err-step-clause-names
returns-in_err-step-clause-names c = (c.in_ok-symbol.ensures.kept, c.in_ok-symbol.ensures.more)

pub returns-clause-names : goal.returns-clause-names
returns-clause-names c = (c.in_ok-symbol.ensures.kept, c.in_ok-symbol.ensures.more)

pub returns-clause-taken : goal.returns-clause-taken
returns-clause-taken c =
    let led = c.in_ok-step.ensures in
    record {
      symbol = token_of c.in_ok-symbol.symbol;
      is = c.in_ok-symbol.ensures.value;
      moves = rw c.is_touched-touched.ensures at led.0;
      fine = c.in_ok-symbol.ensures.fine;
      counted = led.3;
      fits = led.4;
      same = record { text = refl; ops = ap (λ (o : Bor Ops). o.now) led.1; names = led.2; is_query = refl };
      token = refl;
      after = c.in_ok-symbol.ensures.seen;
      numbered = c.in_ok-symbol.ensures.numbered;
      added = c.in_ok-symbol.ensures.added;
    }
