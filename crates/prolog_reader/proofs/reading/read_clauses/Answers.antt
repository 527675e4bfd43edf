use Rattle.std.proofs.Common.{◌*◌, sum_by, ℕ, List, length, refl, ap, sym, ◌∙◌, subst, arith}
use Rattle.prolog_tokens.specs.Cursor.{Cursor}
use Rattle.prolog_tokens.proofs.NextLemmas.{token_within}
use Rattle.std.specs.List.{AllByRecursion}
use Rattle.std.proofs.lemmas.List.Sums.{sum_by_push}
use Rattle.prolog_terms.specs.Clauses.{Clause, nodes}
use Rattle.prolog_reader.specs.Fit.{IsFit}
use Rattle.prolog_reader.specs.FoundFit.{IsClauseFit}
use Rattle.prolog_reader.proofs.FitLemmas.{all_push}
use Rattle.prolog_terms.specs.Terms.{clause_of, tree_of}
use Rattle.prolog_operators.specs.Meanings.{table_of}
use Rattle.prolog_reader.specs.Words.{Words}
use Rattle.prolog_reader.specs.Directive.{effect}
use Rattle.prolog_reader.specs.Knowing.{done_effect}
use Rattle.prolog_reader.proofs.LexLemmas.{cursor}
use Rattle.prolog_operators.proofs.NameLemmas.{extends_self, extends_trans, extends_length}
use Rattle.prolog_reader.proofs.RunLemmas.{cursor_is, given_here}
use Rattle.prolog_reader.proofs.AnswerLemmas.{reading_start, ends_read, lexical_found, refused_found, bad_found, clause_found}
use Rattle.prolog_reader.proofs.TextNames.{named_start, all_named, some_named, refused_named, clause_named}
use Rattle.prolog_reader.proofs.reading.read_clauses.Goals as goal

pub clauses-init : goal.clauses-init
clauses-init c = record {
  reading = reading_start c.args.text.now c.args.names.now c.new-lexer.result (table_of c.args.ops) c.new-clauses.result c.new-lexer.ensures c.new-clauses.ensures c.requires.standard;
  named = named_start c.args.text.now c.args.names.now c.new-lexer.result c.new-lexer.ensures;
  same = ap (λ (x : Cursor). x.text) c.new-lexer.ensures;
  within = omega (arith, ap (λ (x : Cursor). x.at) c.new-lexer.ensures);
  names = omega arith;
  kept = extends_self _;
  each = λ count few. subst (λ (cs : List Clause). AllByRecursion (IsFit count) cs) (sym c.new-clauses.ensures) tt;
  small = omega (arith, ap (λ (cs : List Clause). sum_by (λ (k : Clause). nodes k.term) cs) c.new-clauses.ensures);
}

pub returns-in-Ok-None : goal.returns-in-Ok-None
returns-in-Ok-None c = record {
  found = ends_read c.args.text.now c.clauses.names c.clauses.names c.clauses.lexer (table_of c.clauses.ops) c.clauses.clauses c.clauses.invariant.reading (extends_self _) c.requires.short
      (sym (rw c.in-Ok-None.field-0-is at c.in-Ok-None.ensures.value));
  refused = tt;
  names = all_named c.args.text.now c.args.names.now c.clauses.names c.clauses.lexer c.clauses.invariant.named (sym (rw c.in-Ok-None.field-0-is at c.in-Ok-None.ensures.value));
  begin = tt;
  kept = c.clauses.invariant.kept;
  few = omega (arith, c.clauses.invariant.names, c.clauses.invariant.within);
  fit = record { each = c.clauses.invariant.each (length c.clauses.names) (omega arith); small = omega (arith, c.clauses.invariant.small, c.clauses.invariant.within, c.requires.short) };
}

pub returns-in-Err : goal.returns-in-Err
returns-in-Err c = record {
  found = tt;
  refused = lexical_found c.args.text.now c.clauses.names c.clauses.names c.clauses.lexer (table_of c.clauses.ops) c.clauses.clauses c.clauses.invariant.reading (extends_self _) c.requires.short c.in-Err.fault
      (sym c.in-Err.ensures.value);
  names = tt;
  begin = some_named c.args.text.now c.args.names.now c.clauses.names c.clauses.lexer c.clauses.invariant.named;
  kept = c.clauses.invariant.kept;
  few = omega (arith, c.clauses.invariant.names, c.clauses.invariant.within);
  fit = tt;
}

pub read_clause-requires : goal.read_clause-requires
read_clause-requires c =
    let is = sym (rw c.in-Ok-Some.field-0-is at c.in-Ok-Some.ensures.value) in
    let after = rw c.in-Ok-Some.field-0-is at c.in-Ok-Some.ensures.after in
    let progress = rw c.in-Ok-Some.field-0-is at c.in-Ok-Some.ensures.progress in
    let begins = after ∙ ap (λ (x : List ℕ). cursor x c.in-Ok-Some.token.end) c.clauses.invariant.same in
    let given = given_here c.clauses.lexer c.args.text.now c.clauses.lexer.at c.in-Ok-Some.token (cursor_is c.clauses.lexer c.args.text.now c.clauses.lexer.at c.clauses.invariant.same refl) is in
    let within = token_within c.args.text.now c.in-Ok-Some.token given in
    record {
      short = c.requires.short;
      same = ap (λ (x : Cursor). x.text) begins;
      behind = ap (λ (x : Cursor). x.at) begins;
      given = given;
      within = record { ordered = omega (arith, within); ended = within.1 };
      known = λ later ext. ap (λ (w : Words). w.known) (c.requires.words later (extends_trans c.args.names.now c.clauses.names later c.clauses.invariant.kept ext));
      room = omega (arith, c.requires.room, c.requires.short, c.clauses.invariant.names, progress);
    }

pub returns-in-Refused : goal.returns-in-Refused
returns-in-Refused c =
    let is = sym (rw c.in-Ok-Some.field-0-is at c.in-Ok-Some.ensures.value) in
    let after = rw c.in-Ok-Some.field-0-is at c.in-Ok-Some.ensures.after in
    let progress = rw c.in-Ok-Some.field-0-is at c.in-Ok-Some.ensures.progress in
    let begins = after ∙ ap (λ (x : List ℕ). cursor x c.in-Ok-Some.token.end) c.clauses.invariant.same in
    record {
      found = tt;
      refused = refused_found c.args.text.now c.clauses.names c.read_clause.new.names c.clauses.lexer (table_of c.clauses.ops) c.clauses.clauses c.clauses.invariant.reading c.in_ok-clause.ensures.kept c.requires.short c.in-Ok-Some.token is c.clauses.invariant.same c.next.new.self c.read_clause.new.lexer begins c.in-Refused.kind c.in-Refused.at c.in_ok-clause.field-0 c.in-Refused.is c.in_ok-clause.ensures.found;
      names = tt;
      begin = refused_named c.args.text.now c.args.names.now c.clauses.names c.clauses.lexer c.clauses.invariant.named c.in-Ok-Some.token is c.clauses.invariant.same c.next.new.self c.read_clause.new.lexer begins c.read_clause.new.names c.in_ok-clause.field-0 c.in_ok-clause.ensures.added;
      kept = extends_trans c.args.names.now c.clauses.names c.read_clause.new.names c.clauses.invariant.kept c.in_ok-clause.ensures.kept;
      few = omega (arith, c.clauses.invariant.names, progress, c.in_ok-clause.ensures.few, c.in_ok-clause.ensures.on);
      fit = tt;
    }

pub returns-then-not-branch-clause-refused : goal.returns-then-not-branch-clause-refused
returns-then-not-branch-clause-refused c =
    let is = sym (rw c.in-Ok-Some.field-0-is at c.in-Ok-Some.ensures.value) in
    let after = rw c.in-Ok-Some.field-0-is at c.in-Ok-Some.ensures.after in
    let progress = rw c.in-Ok-Some.field-0-is at c.in-Ok-Some.ensures.progress in
    let begins = after ∙ ap (λ (x : List ℕ). cursor x c.in-Ok-Some.token.end) c.clauses.invariant.same in
    bad_found c.args.text.now c.clauses.names c.read_clause.new.names c.clauses.lexer (table_of c.clauses.ops) c.clauses.clauses c.clauses.invariant.reading c.in_ok-clause.ensures.kept c.requires.short c.in-Ok-Some.token is c.clauses.invariant.same c.next.new.self c.read_clause.new.lexer begins c.in-Clause.clause c.in_ok-clause.field-0 c.in-Clause.is c.in_ok-clause.ensures.found
    (λ later ext. ap (λ (w : Words). effect w (table_of c.clauses.ops) (tree_of c.in-Clause.clause.term)) (c.requires.words later (extends_trans c.args.names.now c.read_clause.new.names later (extends_trans c.args.names.now c.clauses.names c.read_clause.new.names c.clauses.invariant.kept c.in_ok-clause.ensures.kept) ext)) ∙ c.in_ok-obey-in-Clause.ensures ∙ ap (λ b. done_effect b (table_of c.obey.new.ops)) c.if-not-branch.true)

pub returns-then-not-branch-clause-begin : goal.returns-then-not-branch-clause-begin
returns-then-not-branch-clause-begin c =
    let is = sym (rw c.in-Ok-Some.field-0-is at c.in-Ok-Some.ensures.value) in
    let after = rw c.in-Ok-Some.field-0-is at c.in-Ok-Some.ensures.after in
    let begins = after ∙ ap (λ (x : List ℕ). cursor x c.in-Ok-Some.token.end) c.clauses.invariant.same in
    refused_named c.args.text.now c.args.names.now c.clauses.names c.clauses.lexer c.clauses.invariant.named c.in-Ok-Some.token is c.clauses.invariant.same c.next.new.self c.read_clause.new.lexer begins c.read_clause.new.names c.in_ok-clause.field-0 c.in_ok-clause.ensures.added

pub clauses-preserved : goal.clauses-preserved
clauses-preserved c =
    let is = sym (rw c.in-Ok-Some.field-0-is at c.in-Ok-Some.ensures.value) in
    let after = rw c.in-Ok-Some.field-0-is at c.in-Ok-Some.ensures.after in
    let progress = rw c.in-Ok-Some.field-0-is at c.in-Ok-Some.ensures.progress in
    let begins = after ∙ ap (λ (x : List ℕ). cursor x c.in-Ok-Some.token.end) c.clauses.invariant.same in
    record {
      reading = clause_found c.args.text.now c.clauses.names c.read_clause.new.names c.clauses.lexer (table_of c.clauses.ops) c.clauses.clauses c.clauses.invariant.reading c.in_ok-clause.ensures.kept c.requires.short c.in-Ok-Some.token is c.clauses.invariant.same c.next.new.self c.read_clause.new.lexer begins c.in-Clause.clause c.in_ok-clause.field-0 (table_of c.obey.new.ops) c.push.new.self c.in-Clause.is c.in_ok-clause.ensures.found
          (λ later ext. ap (λ (w : Words). effect w (table_of c.clauses.ops) (tree_of c.in-Clause.clause.term)) (c.requires.words later (extends_trans c.args.names.now c.read_clause.new.names later (extends_trans c.args.names.now c.clauses.names c.read_clause.new.names c.clauses.invariant.kept c.in_ok-clause.ensures.kept) ext)) ∙ c.in_ok-obey-in-Clause.ensures ∙ ap (λ b. done_effect b (table_of c.obey.new.ops)) c.if-not-branch.false) c.in_ok-push-in-Clause.ensures.ok;
      named = clause_named c.args.text.now c.args.names.now c.clauses.names c.clauses.lexer c.clauses.invariant.named c.in-Ok-Some.token is c.clauses.invariant.same c.next.new.self c.read_clause.new.lexer begins c.read_clause.new.names c.in_ok-clause.field-0 c.in_ok-clause.ensures.added c.in-Clause.clause c.in-Clause.is;
      same = c.in_ok-clause.ensures.same;
      within = c.in_ok-clause.ensures.on.1;
      names = omega (arith, c.clauses.invariant.names, progress, c.in_ok-clause.ensures.few);
      kept = extends_trans c.args.names.now c.clauses.names c.read_clause.new.names c.clauses.invariant.kept c.in_ok-clause.ensures.kept;
      each = λ count few.
          let clause : IsClauseFit count (2 * c.in-Ok-Some.token.start) (2 * c.read_clause.new.lexer.at) (clause_of c.in-Clause.clause) =
          rw c.in-Clause.is at (c.in_ok-clause.ensures.fit count few) in
          let longer = extends_length c.clauses.names c.read_clause.new.names c.in_ok-clause.ensures.kept in
          subst (λ (cs : List Clause). AllByRecursion (IsFit count) cs) (sym c.in_ok-push-in-Clause.ensures.ok)
          (all_push (IsFit count) c.clauses.clauses (clause_of c.in-Clause.clause) (c.clauses.invariant.each count (omega (arith, few, longer))) clause.fit);
      small =
          let clause : IsClauseFit (length c.read_clause.new.names) (2 * c.in-Ok-Some.token.start) (2 * c.read_clause.new.lexer.at) (clause_of c.in-Clause.clause) =
          rw c.in-Clause.is at (c.in_ok-clause.ensures.fit (length c.read_clause.new.names) (omega arith)) in
          let sum = ap (λ (cs : List Clause). sum_by (λ (k : Clause). nodes k.term) cs) c.in_ok-push-in-Clause.ensures.ok ∙ sum_by_push (λ (k : Clause). nodes k.term) c.clauses.clauses (clause_of c.in-Clause.clause) in
          omega (arith, sum, clause.small, c.clauses.invariant.small, progress);
    }

pub clauses-smaller : goal.clauses-smaller
clauses-smaller c =
    let is = sym (rw c.in-Ok-Some.field-0-is at c.in-Ok-Some.ensures.value) in
    let after = rw c.in-Ok-Some.field-0-is at c.in-Ok-Some.ensures.after in
    let progress = rw c.in-Ok-Some.field-0-is at c.in-Ok-Some.ensures.progress in
    let begins = after ∙ ap (λ (x : List ℕ). cursor x c.in-Ok-Some.token.end) c.clauses.invariant.same in
    omega (arith, progress, c.in_ok-clause.ensures.on, ap (λ (x : Cursor). x.at) begins, ap (λ (x : List ℕ). length x) c.clauses.invariant.same)
