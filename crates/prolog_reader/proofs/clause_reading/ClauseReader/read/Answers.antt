use Rattle.std.proofs.Common.{refl, sym, ap, subst, arith, length, ℕ, List}
use Rattle.prolog_tokens.specs.Cursor.{Cursor}
use Rattle.prolog_reader.specs.declared.clause_reading.ClauseReader.{ClauseReader}
use Rattle.term_parser.specs.declared.state.Step.TheVariants as code
use Rattle.prolog_reader.specs.Progress.{start_of, IsBefore}
use Rattle.prolog_reader.proofs.ProgressLemmas.{before_first, is_ready, is_after, is_next, is_clause, is_refused, is_lexical_fault, is_end, is_moved, is_moved_here, is_broken}
use Rattle.prolog_reader.proofs.clause_reading.ClauseReader.read.Goals as goal

pub tokens-init : goal.tokens-init
tokens-init c = before_first (start_of c.args.lexer.now c.args.names.now c.args.self.now) c.requires.begins

pub take-requires : goal.take-requires
take-requires c = record { ready = is_ready (start_of c.args.lexer.now c.args.names.now c.args.self.now) c.requires.begins c.tokens.names c.tokens.lexer c.tokens.state c.tokens.self c.tokens.invariant }

pub returns-in_err-next-clause-moved : goal.returns-in_err-next-clause-moved
returns-in_err-next-clause-moved c = is_broken (start_of c.args.lexer.now c.args.names.now c.args.self.now) c.requires.begins c.tokens.names c.take.new.names c.tokens.lexer c.tokens.state c.tokens.self c.tokens.invariant c.in_err-next.ensures.names

pub returns-in-Finished-clause-found : goal.returns-in-Finished-clause-found
returns-in-Finished-clause-found c =
    let after = is_after (start_of c.args.lexer.now c.args.names.now c.args.self.now) c.requires.begins c.tokens.names c.take.new.names c.tokens.lexer c.tokens.state c.tokens.self c.take.new.self (code.Finished c.in-Finished.part) c.tokens.invariant
    (rw c.in-Finished.is at c.in_ok-next.ensures.taken) c.in_ok-next.ensures.names in
    is_clause (start_of c.args.lexer.now c.args.names.now c.args.self.now) c.requires.begins c.take.new.names c.tokens.lexer c.in-Finished.part c.take.new.self c.clause.result after c.clause.ensures

pub returns-in-Finished-clause-moved : goal.returns-in-Finished-clause-moved
returns-in-Finished-clause-moved c =
    let after = is_after (start_of c.args.lexer.now c.args.names.now c.args.self.now) c.requires.begins c.tokens.names c.take.new.names c.tokens.lexer c.tokens.state c.tokens.self c.take.new.self (code.Finished c.in-Finished.part) c.tokens.invariant
    (rw c.in-Finished.is at c.in_ok-next.ensures.taken) c.in_ok-next.ensures.names in
    is_moved_here (start_of c.args.lexer.now c.args.names.now c.args.self.now) c.requires.begins c.take.new.names c.tokens.lexer (code.Finished c.in-Finished.part) c.take.new.self after

pub returns-in-Refused-clause-found : goal.returns-in-Refused-clause-found
returns-in-Refused-clause-found c =
    let after = is_after (start_of c.args.lexer.now c.args.names.now c.args.self.now) c.requires.begins c.tokens.names c.take.new.names c.tokens.lexer c.tokens.state c.tokens.self c.take.new.self (code.Refused c.in-Refused.refusal) c.tokens.invariant
    (rw c.in-Refused.is at c.in_ok-next.ensures.taken) c.in_ok-next.ensures.names in
    is_refused (start_of c.args.lexer.now c.args.names.now c.args.self.now) c.requires.begins c.take.new.names c.tokens.lexer c.refused.new.lexer c.in-Refused.refusal c.take.new.self c.refused.result after c.refused.ensures.fault c.refused.ensures.fit

pub returns-in-Refused-clause-moved : goal.returns-in-Refused-clause-moved
returns-in-Refused-clause-moved c =
    let after = is_after (start_of c.args.lexer.now c.args.names.now c.args.self.now) c.requires.begins c.tokens.names c.take.new.names c.tokens.lexer c.tokens.state c.tokens.self c.take.new.self (code.Refused c.in-Refused.refusal) c.tokens.invariant
    (rw c.in-Refused.is at c.in_ok-next.ensures.taken) c.in_ok-next.ensures.names in
    is_moved (start_of c.args.lexer.now c.args.names.now c.args.self.now) c.requires.begins c.take.new.names c.tokens.lexer c.refused.new.lexer (code.Refused c.in-Refused.refusal) c.take.new.self after c.refused.ensures.text c.refused.ensures.on.0 c.refused.ensures.on.1

pub refused-requires-clause-short : goal.refused-requires-clause-short
refused-requires-clause-short c =
    let after = is_after (start_of c.args.lexer.now c.args.names.now c.args.self.now) c.requires.begins c.tokens.names c.take.new.names c.tokens.lexer c.tokens.state c.tokens.self c.take.new.self (code.Refused c.in-Refused.refusal) c.tokens.invariant
    (rw c.in-Refused.is at c.in_ok-next.ensures.taken) c.in_ok-next.ensures.names in
    omega (arith, c.requires.begins.short, ap (λ (x : List ℕ). length x) after.same.text)

pub refused-requires-clause-within : goal.refused-requires-clause-within
refused-requires-clause-within c =
    let after = is_after (start_of c.args.lexer.now c.args.names.now c.args.self.now) c.requires.begins c.tokens.names c.take.new.names c.tokens.lexer c.tokens.state c.tokens.self c.take.new.self (code.Refused c.in-Refused.refusal) c.tokens.invariant
    (rw c.in-Refused.is at c.in_ok-next.ensures.taken) c.in_ok-next.ensures.names in
    let size = ap (λ (x : Cursor). length x.text) after.lexed in
    omega (arith, size, ap (λ (x : Cursor). x.at) after.lexed, after.within.ended)

pub returns-in-Err-clause-found : goal.returns-in-Err-clause-found
returns-in-Err-clause-found c =
    let after = is_after (start_of c.args.lexer.now c.args.names.now c.args.self.now) c.requires.begins c.tokens.names c.take.new.names c.tokens.lexer c.tokens.state c.tokens.self c.take.new.self (code.Continue c.in-Continue.next) c.tokens.invariant
    (rw c.in-Continue.is at c.in_ok-next.ensures.taken) c.in_ok-next.ensures.names in
    is_lexical_fault (start_of c.args.lexer.now c.args.names.now c.args.self.now) c.requires.begins c.take.new.names c.tokens.lexer c.next.new.self c.in-Continue.next c.take.new.self c.in-Err.fault after (sym c.in-Err.ensures.value)

pub returns-in-Err-clause-moved : goal.returns-in-Err-clause-moved
returns-in-Err-clause-moved c =
    let after = is_after (start_of c.args.lexer.now c.args.names.now c.args.self.now) c.requires.begins c.tokens.names c.take.new.names c.tokens.lexer c.tokens.state c.tokens.self c.take.new.self (code.Continue c.in-Continue.next) c.tokens.invariant
    (rw c.in-Continue.is at c.in_ok-next.ensures.taken) c.in_ok-next.ensures.names in
    let at = ap (λ (x : Cursor). x.at) c.in-Err.ensures.after in
    let size = ap (λ (x : Cursor). length x.text) after.lexed in
    is_moved (start_of c.args.lexer.now c.args.names.now c.args.self.now) c.requires.begins c.take.new.names c.tokens.lexer c.next.new.self (code.Continue c.in-Continue.next) c.take.new.self after (ap (λ (x : Cursor). x.text) c.in-Err.ensures.after) (omega (arith, at))
    (omega (arith, at, size, ap (λ (x : Cursor). x.at) after.lexed, after.within.ended))

pub end-requires-clause-short : goal.end-requires-clause-short
end-requires-clause-short c =
    let after = is_after (start_of c.args.lexer.now c.args.names.now c.args.self.now) c.requires.begins c.tokens.names c.take.new.names c.tokens.lexer c.tokens.state c.tokens.self c.take.new.self (code.Continue c.in-Continue.next) c.tokens.invariant
    (rw c.in-Continue.is at c.in_ok-next.ensures.taken) c.in_ok-next.ensures.names in
    omega (arith, c.requires.begins.short, ap (λ (x : List ℕ). length x) after.same.text)

pub end-requires-clause-fits : goal.end-requires-clause-fits
end-requires-clause-fits c =
    let after = is_after (start_of c.args.lexer.now c.args.names.now c.args.self.now) c.requires.begins c.tokens.names c.take.new.names c.tokens.lexer c.tokens.state c.tokens.self c.take.new.self (code.Continue c.in-Continue.next) c.tokens.invariant
    (rw c.in-Continue.is at c.in_ok-next.ensures.taken) c.in_ok-next.ensures.names in
    (after.counted, after.fits)

pub returns-in-Ok-None-clause-found : goal.returns-in-Ok-None-clause-found
returns-in-Ok-None-clause-found c =
    let after = is_after (start_of c.args.lexer.now c.args.names.now c.args.self.now) c.requires.begins c.tokens.names c.take.new.names c.tokens.lexer c.tokens.state c.tokens.self c.take.new.self (code.Continue c.in-Continue.next) c.tokens.invariant
    (rw c.in-Continue.is at c.in_ok-next.ensures.taken) c.in_ok-next.ensures.names in
    is_end (start_of c.args.lexer.now c.args.names.now c.args.self.now) c.requires.begins c.take.new.names c.tokens.lexer c.next.new.self c.in-Continue.next c.take.new.self c.in_ok-found-in-Ok-None.found after (sym (rw c.in-Ok-None.field-0-is at c.in-Ok-None.ensures.value))
    (rw c.in-Ok-None.field-0-is at c.in-Ok-None.ensures.after) c.in_ok-found-in-Ok-None.ensures

pub returns-in-Ok-None-clause-moved : goal.returns-in-Ok-None-clause-moved
returns-in-Ok-None-clause-moved c =
    let after = is_after (start_of c.args.lexer.now c.args.names.now c.args.self.now) c.requires.begins c.tokens.names c.take.new.names c.tokens.lexer c.tokens.state c.tokens.self c.take.new.self (code.Continue c.in-Continue.next) c.tokens.invariant
    (rw c.in-Continue.is at c.in_ok-next.ensures.taken) c.in_ok-next.ensures.names in
    let at = rw c.in-Ok-None.field-0-is at c.in-Ok-None.ensures.after in
    let ends = ap (λ (x : Cursor). x.at) at in
    let size = ap (λ (x : Cursor). length x.text) after.lexed in
    is_moved (start_of c.args.lexer.now c.args.names.now c.args.self.now) c.requires.begins c.take.new.names c.tokens.lexer c.next.new.self (code.Continue c.in-Continue.next) c.take.new.self after (ap (λ (x : Cursor). x.text) at) (omega (arith, ends, size, ap (λ (x : Cursor). x.at) after.lexed, after.within.ended)) (omega (arith, ends))

pub returns-in_err-found-in-Ok-None-clause-moved : goal.returns-in_err-found-in-Ok-None-clause-moved
returns-in_err-found-in-Ok-None-clause-moved c =
    let after = is_after (start_of c.args.lexer.now c.args.names.now c.args.self.now) c.requires.begins c.tokens.names c.take.new.names c.tokens.lexer c.tokens.state c.tokens.self c.take.new.self (code.Continue c.in-Continue.next) c.tokens.invariant
    (rw c.in-Continue.is at c.in_ok-next.ensures.taken) c.in_ok-next.ensures.names in
    let at = rw c.in-Ok-None.field-0-is at c.in-Ok-None.ensures.after in
    let ends = ap (λ (x : Cursor). x.at) at in
    let size = ap (λ (x : Cursor). length x.text) after.lexed in
    is_moved (start_of c.args.lexer.now c.args.names.now c.args.self.now) c.requires.begins c.take.new.names c.tokens.lexer c.next.new.self (code.Continue c.in-Continue.next) c.take.new.self after (ap (λ (x : Cursor). x.text) at) (omega (arith, ends, size, ap (λ (x : Cursor). x.at) after.lexed, after.within.ended)) (omega (arith, ends))

pub tokens-smaller : goal.tokens-smaller
tokens-smaller c =
    let after = rw c.in-Ok-Some.field-0-is at c.in-Ok-Some.ensures.after in
    let at = ap (λ (x : Cursor). x.at) after in
    let progress = rw c.in-Ok-Some.field-0-is at c.in-Ok-Some.ensures.progress in
    let size = ap (λ (x : Cursor). length x.text) c.tokens.invariant.lexed in
    omega (arith, at, progress, size)

pub tokens-preserved : goal.tokens-preserved
tokens-preserved c =
    let after = is_after (start_of c.args.lexer.now c.args.names.now c.args.self.now) c.requires.begins c.tokens.names c.take.new.names c.tokens.lexer c.tokens.state c.tokens.self c.take.new.self (code.Continue c.in-Continue.next) c.tokens.invariant
    (rw c.in-Continue.is at c.in_ok-next.ensures.taken) c.in_ok-next.ensures.names in
    let next = is_next (start_of c.args.lexer.now c.args.names.now c.args.self.now) c.requires.begins c.take.new.names c.tokens.lexer c.next.new.self c.in-Continue.next c.take.new.self c.in-Ok-Some.token after (sym (rw c.in-Ok-Some.field-0-is at c.in-Ok-Some.ensures.value))
    (rw c.in-Ok-Some.field-0-is at c.in-Ok-Some.ensures.after) (rw c.in-Ok-Some.field-0-is at c.in-Ok-Some.ensures.progress) in
    subst (λ (q : ClauseReader). IsBefore (start_of c.args.lexer.now c.args.names.now c.args.self.now) c.take.new.names c.next.new.self c.in-Continue.next q) (sym c.advance.ensures) next
