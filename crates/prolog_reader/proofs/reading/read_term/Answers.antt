use Rattle.std.proofs.Common.{◌*◌, ◌∷◌, length, true, ap, sym, ◌∙◌, subst, arith}
use Rattle.prolog_tokens.specs.Cursor.{Cursor}
use Rattle.prolog_tokens.proofs.NextLemmas.{token_within}
use Rattle.prolog_terms.specs.Terms.{clause_of}
use Rattle.prolog_operators.specs.Meanings.{table_of}
use Rattle.prolog_reader.proofs.LexLemmas.{cursor}
use Rattle.prolog_operators.proofs.NameLemmas.{extends_self}
use Rattle.prolog_reader.proofs.RunLemmas.{given_here}
use Rattle.prolog_reader.specs.FoundFit.{IsClauseFit}
use Rattle.prolog_reader.specs.Scan.{Finds, closing_of}
use Rattle.prolog_reader.specs.declared.clause_reading.Found.{Found}
use Rattle.prolog_reader.proofs.QueryLemmas.{query_empty, query_lexical, query_refused, query_read, query_followed, query_then_lexical}
use Rattle.prolog_reader.proofs.TextNames.{named_start, all_named, some_named, refused_named, clause_named}
use Rattle.prolog_reader.proofs.reading.read_term.Goals as goal

pub returns-in-Ok-None : goal.returns-in-Ok-None
returns-in-Ok-None c = record {
  found = tt;
  refused = query_empty c.args.text.now c.args.names.now (table_of c.args.ops.now) c.new-lexer.result c.new-lexer.ensures c.requires.short (sym (rw c.in-Ok-None.field-0-is at c.in-Ok-None.ensures.value));
  names = tt;
  begin = some_named c.args.text.now c.args.names.now c.args.names.now c.new-lexer.result (named_start c.args.text.now c.args.names.now c.new-lexer.result c.new-lexer.ensures);
  kept = extends_self _;
  few = omega arith;
  fit = tt;
}

pub returns-in-Err : goal.returns-in-Err
returns-in-Err c = record {
  found = tt;
  refused = query_lexical c.args.text.now c.args.names.now (table_of c.args.ops.now) c.new-lexer.result c.new-lexer.ensures c.requires.short c.in-Err.fault (sym c.in-Err.ensures.value);
  names = tt;
  begin = some_named c.args.text.now c.args.names.now c.args.names.now c.new-lexer.result (named_start c.args.text.now c.args.names.now c.new-lexer.result c.new-lexer.ensures);
  kept = extends_self _;
  few = omega arith;
  fit = tt;
}

pub read_clause-requires : goal.read_clause-requires
read_clause-requires c =
    let is = sym (rw c.in-Ok-Some.field-0-is at c.in-Ok-Some.ensures.value) in
    let after = rw c.in-Ok-Some.field-0-is at c.in-Ok-Some.ensures.after in
    let given = given_here c.new-lexer.result c.args.text.now 0 c.in-Ok-Some.token c.new-lexer.ensures is in
    let within = token_within c.args.text.now c.in-Ok-Some.token given in
    record {
      short = c.requires.short;
      same = ap (λ (x : Cursor). x.text) after ∙ ap (λ (x : Cursor). x.text) c.new-lexer.ensures;
      behind = ap (λ (x : Cursor). x.at) after;
      given = given;
      within = record { ordered = omega (arith, within); ended = within.1 };
      known = c.requires.known;
      room = omega (arith, c.requires.room, c.requires.short);
    }

pub returns-in-Refused-clause-refused : goal.returns-in-Refused-clause-refused
returns-in-Refused-clause-refused c =
    let is = sym (rw c.in-Ok-Some.field-0-is at c.in-Ok-Some.ensures.value) in
    let after = rw c.in-Ok-Some.field-0-is at c.in-Ok-Some.ensures.after in
    let begins = after ∙ ap (λ (x : Cursor). cursor x.text c.in-Ok-Some.token.end) c.new-lexer.ensures in
    query_refused c.args.text.now c.args.names.now (table_of c.args.ops.now) c.new-lexer.result c.new-lexer.ensures c.requires.short c.read_clause.new.names c.in_ok-clause.ensures.kept c.in-Ok-Some.token is c.next.new.self c.read_clause.new.lexer begins c.in-Refused.kind c.in-Refused.at c.in_ok-clause.field-0 c.in-Refused.is c.in_ok-clause.ensures.found

pub returns-in-Ok-None-next-clause-found : goal.returns-in-Ok-None-next-clause-found
returns-in-Ok-None-next-clause-found c =
    let is = sym (rw c.in-Ok-Some.field-0-is at c.in-Ok-Some.ensures.value) in
    let after = rw c.in-Ok-Some.field-0-is at c.in-Ok-Some.ensures.after in
    let begins = after ∙ ap (λ (x : Cursor). cursor x.text c.in-Ok-Some.token.end) c.new-lexer.ensures in
    let finds = c.in_ok-clause.ensures.found in
    query_read c.args.text.now c.args.names.now (table_of c.args.ops.now) c.new-lexer.result c.new-lexer.ensures c.requires.short c.read_clause.new.names c.in_ok-clause.ensures.kept c.in-Ok-Some.token is c.next.new.self c.read_clause.new.lexer begins (clause_of c.in-Clause.clause) c.in_ok-clause.field-0
    (λ later ts fault ext lexes. subst (λ (x : Found). Finds later c.args.text.now fault (closing_of true fault) (table_of c.args.ops.now) (c.in-Ok-Some.token ∷ ts) c.read_clause.new.lexer x) c.in-Clause.is (finds later ts fault ext lexes)) (sym (rw c.in-Ok-None-next.field-0-is at c.in-Ok-None-next.ensures.value))

pub returns-in-Ok-Some-next-clause-refused : goal.returns-in-Ok-Some-next-clause-refused
returns-in-Ok-Some-next-clause-refused c =
    let is = sym (rw c.in-Ok-Some.field-0-is at c.in-Ok-Some.ensures.value) in
    let after = rw c.in-Ok-Some.field-0-is at c.in-Ok-Some.ensures.after in
    let begins = after ∙ ap (λ (x : Cursor). cursor x.text c.in-Ok-Some.token.end) c.new-lexer.ensures in
    let finds = c.in_ok-clause.ensures.found in
    query_followed c.args.text.now c.args.names.now (table_of c.args.ops.now) c.new-lexer.result c.new-lexer.ensures c.requires.short c.read_clause.new.names c.in_ok-clause.ensures.kept c.in-Ok-Some.token is c.next.new.self c.read_clause.new.lexer begins (clause_of c.in-Clause.clause) c.in_ok-clause.field-0
    (λ later ts fault ext lexes. subst (λ (x : Found). Finds later c.args.text.now fault (closing_of true fault) (table_of c.args.ops.now) (c.in-Ok-Some.token ∷ ts) c.read_clause.new.lexer x) c.in-Clause.is (finds later ts fault ext lexes)) c.in-Ok-Some-next.token (sym (rw c.in-Ok-Some-next.field-0-is at c.in-Ok-Some-next.ensures.value))

pub returns-in-Err-next-clause-refused : goal.returns-in-Err-next-clause-refused
returns-in-Err-next-clause-refused c =
    let is = sym (rw c.in-Ok-Some.field-0-is at c.in-Ok-Some.ensures.value) in
    let after = rw c.in-Ok-Some.field-0-is at c.in-Ok-Some.ensures.after in
    let begins = after ∙ ap (λ (x : Cursor). cursor x.text c.in-Ok-Some.token.end) c.new-lexer.ensures in
    let finds = c.in_ok-clause.ensures.found in
    query_then_lexical c.args.text.now c.args.names.now (table_of c.args.ops.now) c.new-lexer.result c.new-lexer.ensures c.requires.short c.read_clause.new.names c.in_ok-clause.ensures.kept c.in-Ok-Some.token is c.next.new.self c.read_clause.new.lexer begins (clause_of c.in-Clause.clause) c.in_ok-clause.field-0
    (λ later ts fault ext lexes. subst (λ (x : Found). Finds later c.args.text.now fault (closing_of true fault) (table_of c.args.ops.now) (c.in-Ok-Some.token ∷ ts) c.read_clause.new.lexer x) c.in-Clause.is (finds later ts fault ext lexes)) c.in-Err-next.fault (sym c.in-Err-next.ensures.value)

pub returns-in-Ok-None-next-clause-fit : goal.returns-in-Ok-None-next-clause-fit
returns-in-Ok-None-next-clause-fit c =
    let fit : IsClauseFit (length c.read_clause.new.names) (2 * c.in-Ok-Some.token.start) (2 * c.read_clause.new.lexer.at) (clause_of c.in-Clause.clause) =
    rw c.in-Clause.is at (c.in_ok-clause.ensures.fit (length c.read_clause.new.names) (omega arith)) in
    record { fit = fit.fit; small = omega (arith, fit.small, c.in_ok-clause.ensures.on, c.requires.short) }

pub returns-in-Refused-clause-begin : goal.returns-in-Refused-clause-begin
returns-in-Refused-clause-begin c =
    let is = sym (rw c.in-Ok-Some.field-0-is at c.in-Ok-Some.ensures.value) in
    let after = rw c.in-Ok-Some.field-0-is at c.in-Ok-Some.ensures.after in
    let begins = after ∙ ap (λ (x : Cursor). cursor x.text c.in-Ok-Some.token.end) c.new-lexer.ensures in
    refused_named c.args.text.now c.args.names.now c.args.names.now c.new-lexer.result (named_start c.args.text.now c.args.names.now c.new-lexer.result c.new-lexer.ensures) c.in-Ok-Some.token is (ap (λ (x : Cursor). x.text) c.new-lexer.ensures) c.next.new.self c.read_clause.new.lexer begins c.read_clause.new.names c.in_ok-clause.field-0 c.in_ok-clause.ensures.added

pub returns-in-Ok-Some-next-clause-begin : goal.returns-in-Ok-Some-next-clause-begin
returns-in-Ok-Some-next-clause-begin c =
    let is = sym (rw c.in-Ok-Some.field-0-is at c.in-Ok-Some.ensures.value) in
    let after = rw c.in-Ok-Some.field-0-is at c.in-Ok-Some.ensures.after in
    let begins = after ∙ ap (λ (x : Cursor). cursor x.text c.in-Ok-Some.token.end) c.new-lexer.ensures in
    refused_named c.args.text.now c.args.names.now c.args.names.now c.new-lexer.result (named_start c.args.text.now c.args.names.now c.new-lexer.result c.new-lexer.ensures) c.in-Ok-Some.token is (ap (λ (x : Cursor). x.text) c.new-lexer.ensures) c.next.new.self c.read_clause.new.lexer begins c.read_clause.new.names c.in_ok-clause.field-0 c.in_ok-clause.ensures.added

pub returns-in-Err-next-clause-begin : goal.returns-in-Err-next-clause-begin
returns-in-Err-next-clause-begin c =
    let is = sym (rw c.in-Ok-Some.field-0-is at c.in-Ok-Some.ensures.value) in
    let after = rw c.in-Ok-Some.field-0-is at c.in-Ok-Some.ensures.after in
    let begins = after ∙ ap (λ (x : Cursor). cursor x.text c.in-Ok-Some.token.end) c.new-lexer.ensures in
    refused_named c.args.text.now c.args.names.now c.args.names.now c.new-lexer.result (named_start c.args.text.now c.args.names.now c.new-lexer.result c.new-lexer.ensures) c.in-Ok-Some.token is (ap (λ (x : Cursor). x.text) c.new-lexer.ensures) c.next.new.self c.read_clause.new.lexer begins c.read_clause.new.names c.in_ok-clause.field-0 c.in_ok-clause.ensures.added

pub returns-in-Ok-None-next-clause-names : goal.returns-in-Ok-None-next-clause-names
returns-in-Ok-None-next-clause-names c =
    let is = sym (rw c.in-Ok-Some.field-0-is at c.in-Ok-Some.ensures.value) in
    let after = rw c.in-Ok-Some.field-0-is at c.in-Ok-Some.ensures.after in
    let begins = after ∙ ap (λ (x : Cursor). cursor x.text c.in-Ok-Some.token.end) c.new-lexer.ensures in
    all_named c.args.text.now c.args.names.now c.read_clause.new.names c.read_clause.new.lexer (clause_named c.args.text.now c.args.names.now c.args.names.now c.new-lexer.result (named_start c.args.text.now c.args.names.now c.new-lexer.result c.new-lexer.ensures) c.in-Ok-Some.token is (ap (λ (x : Cursor). x.text) c.new-lexer.ensures) c.next.new.self c.read_clause.new.lexer begins c.read_clause.new.names c.in_ok-clause.field-0 c.in_ok-clause.ensures.added c.in-Clause.clause c.in-Clause.is) (sym (rw c.in-Ok-None-next.field-0-is at c.in-Ok-None-next.ensures.value))
