use Rattle.std.proofs.Common.{◌∷◌, refl, sym, subst}
use Rattle.prolog_operators.specs.declared.operators.Ops.{Ops}
use Rattle.prolog_terms.specs.declared.symbol.Known.{Known}
use Rattle.prolog_reader.specs.Knowing.{AreKnown}
use Rattle.prolog_operators.specs.Meanings.{table_of}
use Rattle.prolog_reader.specs.Scan.{closing_of, Finds}
use Rattle.prolog_reader.proofs.clause_reading.read_clause.Goals as goal

pub read-requires : goal.read-requires
read-requires c =
    let fresh = c.new-parser.ensures in
    record {
      begins = record {
        short = c.requires.short;
        same = c.requires.same;
        behind = c.requires.behind;
        given = c.requires.given;
        within = c.requires.within;
        known = subst (λ (k : Known). AreKnown c.args.names.now k) (sym fresh.1) c.requires.known;
        room = c.requires.room;
        empty = fresh.2;
        counted = fresh.3;
        first = refl;
        none = c.new-variables.ensures.none;
        numbered = c.new-variables.ensures.numbered;
      };
    }

pub returns-clause-found : goal.returns-clause-found
returns-clause-found c = λ later ts fault ext lexes.
    subst (λ (o : Ops). Finds later c.args.start.now.text.now fault (closing_of c.args.start.now.is_query fault) (table_of o) (c.args.start.now.first ∷ ts) c.read.new.lexer c.in_ok-found.found) c.new-parser.ensures.0
    (c.in_ok-found.ensures.found.found later ts fault ext lexes)

pub returns-clause-added : goal.returns-clause-added
returns-clause-added c = c.in_ok-found.ensures.found.added

pub returns-clause-fit : goal.returns-clause-fit
returns-clause-fit c = c.in_ok-found.ensures.found.fit

pub returns-clause-same : goal.returns-clause-same
returns-clause-same c = c.in_ok-found.ensures.moved.same

pub returns-in_err-found-clause-same : goal.returns-in_err-found-clause-same
returns-in_err-found-clause-same c = c.in_err-found.ensures.moved.same

pub returns-clause-on : goal.returns-clause-on
returns-clause-on c = c.in_ok-found.ensures.moved.on

pub returns-in_err-found-clause-on : goal.returns-in_err-found-clause-on
returns-in_err-found-clause-on c = c.in_err-found.ensures.moved.on

pub returns-clause-kept : goal.returns-clause-kept
returns-clause-kept c = c.in_ok-found.ensures.moved.kept

pub returns-in_err-found-clause-kept : goal.returns-in_err-found-clause-kept
returns-in_err-found-clause-kept c = c.in_err-found.ensures.moved.kept

pub returns-clause-few : goal.returns-clause-few
returns-clause-few c = c.in_ok-found.ensures.moved.few

pub returns-in_err-found-clause-few : goal.returns-in_err-found-clause-few
returns-in_err-found-clause-few c = c.in_err-found.ensures.moved.few
