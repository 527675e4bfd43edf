use Rattle.std.proofs.Common.{sym, ◌∙◌}
use Rattle.prolog_tokens.proofs.AppendLemmas.{at_err}
use Rattle.prolog_tokens.proofs.SpellingLemmas.{quoted_part}
use Rattle.prolog_tokens.proofs.quoting.quote.Goals as goal

pub returns-in_err-quote_byte-clause-err : goal.returns-in_err-quote_byte-clause-err
returns-in_err-quote_byte-clause-err c =
    at_err _ c.from_residual-in_err-quote_byte.result
    (quoted_part c.args.out.now.items c.args.text.now _ c.loop-byte.byte-index (sym c.is_plain_word.ensures ∙ c.if-is_plain_word.false) (sym c.is_empty_list.ensures ∙ c.if-is_empty_list.false) (c.in_err-quote_byte.ensures.err ∙ c.loop-byte.invariant))

pub returns-in_err-push-2-clause-err : goal.returns-in_err-push-2-clause-err
returns-in_err-push-2-clause-err c =
    at_err _ c.from_residual-in_err-push-2.result
    (quoted_part c.args.out.now.items c.args.text.now _ c.loop-byte.byte-index (sym c.is_plain_word.ensures ∙ c.if-is_plain_word.false) (sym c.is_empty_list.ensures ∙ c.if-is_empty_list.false) (c.in_err-push-2.ensures.items ∙ c.loop-byte.invariant))
