use Rattle.std.proofs.Common.{FitsSigned, rules, ap, sym, ◌∙◌}
use Rattle.std.specs.Int.{w128}
use Rattle.std.proofs.lemmas.Int.{to_z-of_z}
use Rattle.ld_resolver.specs.Values.{known, some_wide, step_by, stack_by}
use Rattle.ld_resolver.proofs.ValueLaws.{stack_more, wide_stays, known_more}
use Rattle.ld_resolver.proofs.values.calculate.Goals as goal

pub loop-operator-preserved : goal.loop-operator-preserved
loop-operator-preserved c =
    let rest = c.pop.new.self.items in
    let x = c.in-Some.operator in
    let old = known c.loop-operator.values.items in
    let fits : FitsSigned w128 c.in-Some-take.number = search rules in
    let items = simp to_z-of_z at c.in_ok-push-in-Some-take.ensures.items in
    ap (stack_by rest) (ap known items ∙ known_more c.take.new.values.items c.in-Some-take.number ∙ sym c.in-Some-take.ensures)
    ∙ sym (stack_more rest x old)
    ∙ ap (λ xs. stack_by xs old) (sym c.in-Some.ensures.items)
    ∙ c.loop-operator.invariant

pub returns-in-None : goal.returns-in-None
returns-in-None c =
    let rest = c.pop.new.self.items in
    let x = c.in-Some.operator in
    let old = known c.loop-operator.values.items in
    ap some_wide (sym c.loop-operator.invariant ∙ ap (λ xs. stack_by xs old) c.in-Some.ensures.items ∙ stack_more rest x old)
    ∙ wide_stays rest (step_by x old) c.in-None.ensures
