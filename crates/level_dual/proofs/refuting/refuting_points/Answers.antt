use Rattle.std.proofs.Common.{◌≡◌, ℤ, List, Option, None, Some, Ok, Err, map, sym, subst, ◌∙◌}
use Rattle.fourier.specs.Solves.{Spells}
use Rattle.fourier.specs.declared.fault.ElimFault.{ElimFault}
use Rattle.linear_rows.specs.declared.solved.Solved.{Solved}
use Rattle.linear_rows.specs.Plain.{plain_rows}
use Rattle.linear_rows.specs.Solving.{Solution, solution}
use Rattle.linear_rows.specs.Solving.Solution.{Blown, Found, Refuted}
use Rattle.number_tests.specs.declared.pair_point.PairPoint.{PairPoint}
use Rattle.level_systems.specs.Held.{live_of}
use Rattle.level_systems.specs.Refuted.{ArePointsIf, AreSpelled, RefuteIf, solution_of}
use Rattle.level_systems.specs.declared.own_call.OwnCall.{OwnCall}
use Rattle.level_dual.proofs.Results.{if_ok}
use Rattle.level_dual.proofs.SolvedSystems.{no_point, one_refutation, solution_same}
use Rattle.level_dual.proofs.refuting.refuting_points.Goals as goal

-- the points of multipliers that refute, or why there are none
refute_if : (owns : List OwnCall) (s : Solution) (vs : List ℤ) → s ≡ Refuted vs → (o : Option (List PairPoint)) → ArePointsIf owns vs o → RefuteIf owns s o
refute_if owns s vs e None h = λ ws f spelled. h (subst (AreSpelled owns) (one_refutation s ws vs f e) spelled)
refute_if owns s vs e (Some xs) h = (vs, e, h)

pub returns-in-Ok-Refuted-clause-exact : goal.returns-in-Ok-Refuted-clause-exact
returns-in-Ok-Refuted-clause-exact c = λ alone.
    let x = c.args.component.now in
    let system = c.in_ok-system.system in
    let told : solution system.width (plain_rows system.list) ≡ Refuted c.in-Ok-Refuted.by.list =
    (subst (λ (s : Solved). Spells (solution system.width (plain_rows system.list)) (Ok s)) c.in-Ok-Refuted.field-0-is (c.in-Ok-Refuted.ensures.exact alone)).1 in
    if_ok c.points_of.result (λ o are. λ expression re recalled.
    let same = solution_same expression re x recalled system.width (plain_rows system.list) c.as_slice-calls.result.now c.as_slice.result.now c.as_slice-2.result.now c.as_slice-calls.ensures.value c.as_slice.ensures.value c.as_slice-2.ensures.value
    c.in_ok-system.ensures.width (c.in_ok-system.ensures.rows expression re) in
    refute_if (live_of x.calls.items) (solution_of expression x (map re (live_of x.calls.items))) c.in-Ok-Refuted.by.list (sym same ∙ told) o
    (subst (λ (zs : List ℤ). ArePointsIf (live_of x.calls.items) zs o) c.as_slice-in-Ok-Refuted.ensures (subst (λ (owns : List OwnCall). ArePointsIf (live_of owns) c.as_slice-in-Ok-Refuted.result.now o) c.as_slice-calls.ensures.value are))) (c.points_of.ensures.exact alone)

pub returns-in-Ok-Point-clause-exact : goal.returns-in-Ok-Point-clause-exact
returns-in-Ok-Point-clause-exact c = λ alone.
    let x = c.args.component.now in
    let system = c.in_ok-system.system in
    let told : solution system.width (plain_rows system.list) ≡ Found c.in-Ok-Point.field-0-0.t c.in-Ok-Point.field-0-0.w =
    subst (λ (s : Solved). Spells (solution system.width (plain_rows system.list)) (Ok s)) c.in-Ok-Point.field-0-is (c.in-Ok-Point.ensures.exact alone) in
    λ expression re recalled vs e spelled.
    let same = solution_same expression re x recalled system.width (plain_rows system.list) c.as_slice-calls.result.now c.as_slice.result.now c.as_slice-2.result.now c.as_slice-calls.ensures.value c.as_slice.ensures.value c.as_slice-2.ensures.value
    c.in_ok-system.ensures.width (c.in_ok-system.ensures.rows expression re) in
    no_point (solution system.width (plain_rows system.list)) c.in-Ok-Point.field-0-0.t c.in-Ok-Point.field-0-0.w vs told (same ∙ e)

pub returns-in-Err-Blown-clause-exact : goal.returns-in-Err-Blown-clause-exact
returns-in-Err-Blown-clause-exact c = λ alone.
    let x = c.args.component.now in
    let system = c.in_ok-system.system in
    let told : solution system.width (plain_rows system.list) ≡ Blown c.in-Err-Blown.field-0-0 c.in-Err-Blown.field-0-1 =
    subst (λ (f : ElimFault). Spells (solution system.width (plain_rows system.list)) (Err f)) c.in-Err-Blown.field-0-is (c.in-Err-Blown.ensures.exact alone) in
    λ expression re recalled vs e spelled.
    let same = solution_same expression re x recalled system.width (plain_rows system.list) c.as_slice-calls.result.now c.as_slice.result.now c.as_slice-2.result.now c.as_slice-calls.ensures.value c.as_slice.ensures.value c.as_slice-2.ensures.value
    c.in_ok-system.ensures.width (c.in_ok-system.ensures.rows expression re) in
    let refuted : solution system.width (plain_rows system.list) ≡ Refuted vs = same ∙ e in
    cc
