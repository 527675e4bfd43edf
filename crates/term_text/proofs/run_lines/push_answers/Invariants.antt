use Rattle.std.proofs.Common.{◌≡◌, ◌++◌, flat_map, drop}
use Rattle.term_text.specs.RunLines.{answer_line}
use Rattle.term_text.proofs.run_lines.push_answers.Given as goal

-- what is written and the lines that are left are all of them
abbrev pub invariant-loop-answer : goal.invariant-loop-answer
invariant-loop-answer l =
    l.out.items ++ flat_map (answer_line l.names l.program.preds) (drop l.answer-index l.answers) ≡ l.fn.out.items ++ flat_map (answer_line l.names l.program.preds) l.answers
