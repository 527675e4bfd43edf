use Rattle.std.proofs.Common.{sym, subst, ◌∙◌}
use Rattle.level_dual.specs.Vanishing.{IsVoid}
use Rattle.level_dual.proofs.excluding.exclude.Goals as goal

pub returns-then-is_known-clause-excluded : goal.returns-then-is_known-clause-excluded
returns-then-is_known-clause-excluded c = λ yes size truth expression comps rows r h known.
    let p = c.args.p.now in
    let positions = c.args.component.now.positions.items in
    let void = c.is_known.ensures c.if-is_known.true expression p comps rows r positions known in
    c.in_ok-marks.ensures size truth expression comps rows r h (subst (IsVoid expression p comps rows r positions) c.as_slice.ensures.value void)

pub returns-clause-known : goal.returns-clause-known
returns-clause-known c = λ size truth expression comps rows r h known.
    let p = c.args.p.now in
    let positions = c.args.component.now.positions.items in
    let void = c.in_ok-is_void.ensures c.if-not-branch.false size truth expression comps rows r h in
    subst (IsVoid expression p comps rows r positions) (c.as_slice-2.ensures.value ∙ sym c.from_vec.ensures) void

pub returns-clause-excluded : goal.returns-clause-excluded
returns-clause-excluded c = λ yes size truth expression comps rows r h known.
    let p = c.args.p.now in
    let positions = c.args.component.now.positions.items in
    let void = c.in_ok-is_void.ensures c.if-not-branch.false size truth expression comps rows r h in
    c.in_ok-marks.ensures size truth expression comps rows r h (subst (IsVoid expression p comps rows r positions) c.as_slice-2.ensures.value void)
