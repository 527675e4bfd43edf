use Rattle.std.proofs.Common.{map, ap, ◌∙◌}
use Rattle.lex_turns.specs.Tracking.{drops_first, gone_first}
use Rattle.lex_turns.proofs.Courses.{start_course}
use Rattle.lex_turns.proofs.searching.start.Goals as goal

pub returns : goal.returns
returns c = λ at.
    let same = c.as_slice-calls.ensures.value in
    start_course c.args.p.now c.args.component.now at (record { gone = c.in_ok-gone.gone; drops = c.in_ok-drops.drops; measures = c.new.result }) (c.in_ok-gone.ensures ∙ ap (map gone_first) same) (c.in_ok-drops.ensures ∙ ap (map drops_first) same) c.new.ensures
