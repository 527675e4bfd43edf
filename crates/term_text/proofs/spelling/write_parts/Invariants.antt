use Rattle.std.proofs.Common.{◌≡◌, ◌++◌}
use Rattle.term_text.specs.Left.{left_text, left_work}
use Rattle.term_text.proofs.spelling.write_parts.Given as goal

-- what is written and what is left are what is to be written
abbrev pub invariant-loop-part : goal.invariant-loop-part
invariant-loop-part l = l.out.items ++ left_text l.names l.stack.items ≡ l.fn.out.items ++ left_text l.names l.fn.stack.items

abbrev pub decreases-loop-part : goal.decreases-loop-part
decreases-loop-part l = left_work l.stack.items
