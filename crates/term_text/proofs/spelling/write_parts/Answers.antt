use Rattle.std.proofs.Common.{◌++◌, ap, sym, ◌∙◌, append_assoc, arith}
use Rattle.term_text.specs.Left.{part_text, left_text}
use Rattle.term_text.proofs.LeftLemmas.{taken_text, taken_work}
use Rattle.term_text.proofs.spelling.write_parts.Goals as goal

pub loop-part-smaller : goal.loop-part-smaller
loop-part-smaller c =
    let taken = taken_work c.loop-part.stack.items c.pop.new.self.items c.in-Some.part c.in-Some.ensures.items in
    omega (arith, taken, c.in_ok-begin_part.ensures.work)

pub loop-part-preserved : goal.loop-part-preserved
loop-part-preserved c =
    let names = c.args.names.now in
    let out = c.loop-part.out.items in
    let rest = c.pop.new.self.items in
    c.in_ok-begin_part.ensures.text ∙ append_assoc out (part_text names c.in-Some.part) (left_text names rest)
    ∙ ap (λ t. out ++ t) (sym (taken_text names c.loop-part.stack.items rest c.in-Some.part c.in-Some.ensures.items)) ∙ c.loop-part.invariant
