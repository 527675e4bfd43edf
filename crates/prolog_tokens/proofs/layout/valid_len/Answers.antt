use Rattle.std.proofs.Common.{length, ap, sym, ◌∙◌}
use Rattle.std.proofs.lemmas.Str.{utf8_valid_len-IsUtf8}
use Rattle.prolog_tokens.proofs.layout.valid_len.Goals as goal

pub returns-in-Ok-clause-value : goal.returns-in-Ok-clause-value
returns-in-Ok-clause-value c = let cases = c.in-Ok.ensures.cases in ap length cases.0 ∙ sym (utf8_valid_len-IsUtf8 c.args.bytes.now cases.1)
