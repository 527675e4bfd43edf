use Rattle.std.proofs.Common.{rules, ◌≡◌, ℕ, get_or, slice_get, Some, ap, ◌∙◌, arith, below_more, FitsSigned}
use Rattle.std.specs.Int.{w128}
use Rattle.std.proofs.lemmas.Int.{to_z-of_z}
use Rattle.termination_model.proofs.Lists.{one_element, there}
use Rattle.level_systems.specs.declared.position.Position.{Position}
use Rattle.level_systems.proofs.ValueLaws.{no_value, position_value}
use Rattle.level_systems.proofs.values.coefficient_at.Goals.{else-positions-i-via-then-positions-i+else-positions-i-2, else-positions-i-via-else-positions-i}
use Rattle.level_systems.proofs.values.coefficient_at.Goals as goal

pub returns-then-positions-i-2 : goal.returns-then-positions-i-2
returns-then-positions-i-2 c = λ cs l e.
    let f : FitsSigned w128 c.entry.result = search rules in
    let positions = c.args.positions.now in
    let i = c.loop-i.i in
    let x : Position = get_or positions i (record { pred = record { 0 = 0 }; argument = 0 }) in
    let at : slice_get positions i ≡ Some x = there positions i (record { pred = record { 0 = 0 }; argument = 0 }) c.loop-i-test.true in
    simp to_z-of_z (c.entry.ensures ∙ position_value positions c.args.values.now i c.args.pred.0 c.args.argument x c.requires at c.if-positions-i.true c.if-positions-i-2.true c.loop-i-test.true cs l e)

pub loop-i-preserved : goal.loop-i-preserved
loop-i-preserved c =
    let positions = c.args.positions.now in
    let i = c.loop-i.i in
    let x : Position = get_or positions i (record { pred = record { 0 = 0 }; argument = 0 }) in
    let at : slice_get positions i ≡ Some x = there positions i (record { pred = record { 0 = 0 }; argument = 0 }) c.loop-i-test.true in
    below_more (λ (j : ℕ). (y : Position) → slice_get positions j ≡ Some y → y.pred.0 ≡ c.args.pred.0 → y.argument ≡ c.args.argument → ⊥) i c.loop-i.invariant (λ y ey e f.
    let same : x ≡ y = one_element positions i x y at ey in
    elim c.else-positions-i.branch [
      | else-positions-i-via-then-positions-i+else-positions-i-2 w ↦ w.if-positions-i-2.false (ap (λ (z : Position). z.argument) same ∙ f)
      | else-positions-i-via-else-positions-i w ↦ w.if-positions-i.false (ap (λ (z : Position). z.pred.0) same ∙ e)
    ])

pub returns : goal.returns
returns c = λ cs l e. no_value c.args.positions.now c.args.pred.0 c.args.argument (λ j lt x at s t. c.loop-i.invariant j (omega (arith, lt)) x at s t) cs
