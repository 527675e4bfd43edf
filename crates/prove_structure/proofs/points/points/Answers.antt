use Rattle.std.proofs.Common.{◌∙◌, sym}
use Rattle.prove_structure.proofs.LoopLemmas.{points_end, points_bad, points_other, points_more}
use Rattle.prove_structure.proofs.points.points.Goals as goal

pub returns-in-Ok-None : goal.returns-in-Ok-None
returns-in-Ok-None c =
    sym c.loop-fact.invariant
    ∙ points_other _ _ c.loop-fact.points _ _ _ _ c.in-Some.ensures.cases.0 (rw c.in-Ok-None.field-0-is at c.in-Ok-None.ensures)

pub returns-in-Err-Shape : goal.returns-in-Err-Shape
returns-in-Err-Shape c =
    rw c.wrong.ensures
    (sym c.loop-fact.invariant
    ∙ points_bad _ _ c.loop-fact.points _ _ _ _ c.in-Some.ensures.cases.0 (rw c.in-Err-Shape.field-0-is at c.in-Err-Shape.ensures))

pub loop-fact-preserved : goal.loop-fact-preserved
loop-fact-preserved c =
    let taken = rw c.in-Ok-Some.field-0-is at c.in-Ok-Some.ensures in
    rw c.in_ok-push-in-Ok-Some.ensures.ok
    (points_more _ _ c.loop-fact.points _ _ _ _ c.in-Some.ensures.cases.0 _ taken ∙ c.loop-fact.invariant)

pub returns : goal.returns
returns c = sym c.loop-fact.invariant ∙ points_end _ _ c.loop-fact.points _ _ c.in_default.ensures.cases
