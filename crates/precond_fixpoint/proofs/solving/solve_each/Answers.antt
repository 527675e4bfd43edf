use Rattle.std.proofs.Common.{◌≡◌, ℕ, inl, inr, length, drop, sym, subst, arith}
use Rattle.std.proofs.lemmas.Bool.{cases_eq}
use Rattle.std.proofs.lemmas.List.{take_at}
use Rattle.bool_diagrams.proofs.CallerLemmas.{keeps_same, keeps_twice}
use Rattle.precond_fixpoint.specs.Solving.{IsSolved}
use Rattle.precond_fixpoint.proofs.ComponentLaws.{solved_after}
use Rattle.precond_fixpoint.proofs.SettingLaws.{setting_later}
use Rattle.termination_model.specs.grounds.Grounds.{Family}
use Rattle.truth_rows.proofs.CallerLemmas.{family_later}
use Rattle.truth_rows.specs.Sets.{AreSets, family_of}
use Rattle.precond_fixpoint.proofs.solving.solve_each.Goals as goal

pub loop-c-init : goal.loop-c-init
loop-c-init g c = record {
  keeps = keeps_same _;
  marks = c.requires.marks;
  pre = c.requires.pre;
  sets = c.requires.sets;
  allowed = c.requires.allowed;
  solved = λ d lt. absurd (omega arith);
}

pub solve_component-requires-clause-setting : goal.solve_component-requires-clause-setting
solve_component-requires-clause-setting g c = setting_later c.args.setting.now c.args.table.now c.loop-c.table c.loop-c.invariant.keeps c.requires.setting

pub solve_component-requires-clause-pre : goal.solve_component-requires-clause-pre
solve_component-requires-clause-pre g c = subst (AreSets c.args.setting.now.program.now.preds c.loop-c.table) (sym c.deref_mut.ensures.value) c.loop-c.invariant.pre

pub loop-c-preserved : goal.loop-c-preserved
loop-c-preserved g c =
    let i = c.loop-c.invariant in
    let truth = g.N.Norm.truth c.args.setting.now.norm.now in
    let p = c.args.setting.now.program.now in
    let comps = c.args.setting.now.comps.now in
    let levels = c.args.setting.now.levels.now in
    let grounds = c.args.setting.now.grounds.now in
    let T = c.args.table.now in
    let T1 = c.loop-c.table in
    let T2 = c.solve_component.new.table in
    let new = c.solve_component.new.sets in
    let one = c.in_ok-solve_component.ensures in
    let here = subst (λ (f : Family). IsSolved truth p comps f levels T2 new c.loop-c.c) (family_later p.preds T T1 i.keeps grounds c.requires.setting.grounds.known) one.solved in
    let pre = c.solve_component.new.pre in
    let same : length pre ≡ c.loop-c.state.pre.len = omega (arith, one.pre.each, i.pre.each) in
    rw (take_at pre (drop (length pre) c.loop-c.state.pre.items) c.loop-c.state.pre.len same)
    (record {
      keeps = keeps_twice _ _ _ i.keeps c.solve_component.ensures.keeps;
      marks = one.marks;
      pre = one.pre;
      sets = one.sets;
      allowed = one.allowed;
      solved = λ d lt. elim (cases_eq d c.loop-c.c) [
        | inl same ↦ subst (λ (k : ℕ). IsSolved truth p comps (family_of p.preds T grounds) levels T2 new k) (sym same) here
        | inr other ↦ solved_after truth p comps (family_of p.preds T grounds) levels T1 T2 c.solve_component.ensures.keeps c.loop-c.sets new i.sets c.loop-c.c one.others
            c.requires.setting.program c.requires.setting.components d (omega arith) (i.solved d (omega arith))
      ];
    })
