use Rattle.std.proofs.Common.{sym, ◌∙◌}
use Rattle.term_size.proofs.DotLaws.{dot_here, dot_later}
use Rattle.term_size.proofs.list_size.ListSize.among.Goals as goal

pub returns-then-is_dot_text : goal.returns-then-is_dot_text
returns-then-is_dot_text c = sym (c.loop-i.invariant ∙ dot_here c.args.names.now c.loop-i.i c.text.result.now c.text.ensures (sym c.is_dot_text.ensures ∙ c.if-is_dot_text.true))

pub loop-i-preserved : goal.loop-i-preserved
loop-i-preserved c = c.loop-i.invariant ∙ dot_later c.args.names.now c.loop-i.i c.text.result.now c.text.ensures (sym c.is_dot_text.ensures ∙ c.if-is_dot_text.false)
