use Rattle.std.proofs.Common.{◌≡◌, ◌+◌, ◌++◌, ◌∷◌, [], ℕ, List, length, drop, ap, refl, sym, subst, ◌∙◌, arith}
use Rattle.std.proofs.lemmas.List.{length-replicate, take_at}
use Rattle.bool_diagrams.proofs.CallerLemmas.{keeps_same, keeps_twice}
use Rattle.bool_diagrams.specs.declared.diagram.Diagram.{Diagram}
use Rattle.precond_fixpoint.specs.Solving.{AreColumns, IsSolution}
use Rattle.precond_fixpoint.proofs.ComponentLaws.{solution_first, solution_later}
use Rattle.precond_fixpoint.proofs.FamilyLaws.{empty_columns}
use Rattle.precond_fixpoint.proofs.SettingLaws.{component_later, setting_later}
use Rattle.precond_fixpoint.proofs.StartLaws.{pushed, pushed_length}
use Rattle.truth_rows.specs.Sets.{family_of}
use Rattle.precond_fixpoint.proofs.families.member_sets.Goals as goal

pub loop-m-init : goal.loop-m-init
loop-m-init g c =
    let is = c.in_ok-columns.ensures in
    record {
      keeps = keeps_same _;
      marks = c.requires.marks;
      sets = c.requires.sets;
      each = ap length is ∙ length-replicate (length c.args.component.now.members.now) [];
      solutions = record {
        families = [];
        each = refl;
        solutions = λ m family e. cc;
        own = subst (AreColumns [] c.args.component.now.members.now) (sym is) (empty_columns c.args.component.now.members.now (length c.args.component.now.members.now));
      };
    }

pub greatest_sets-requires-clause-setting : goal.greatest_sets-requires-clause-setting
greatest_sets-requires-clause-setting g c = setting_later c.args.setting.now c.args.table.now c.loop-m.table c.loop-m.invariant.keeps c.requires.setting

pub greatest_sets-requires-clause-component : goal.greatest_sets-requires-clause-component
greatest_sets-requires-clause-component g c = component_later c.args.setting.now c.args.component.now c.args.table.now c.loop-m.table c.loop-m.invariant.keeps c.requires.component

pub loop-m-preserved : goal.loop-m-preserved
loop-m-preserved g c =
    let i = c.loop-m.invariant in
    let truth = g.N.Norm.truth c.args.setting.now.norm.now in
    let p = c.args.setting.now.program.now in
    let ranks = c.args.setting.now.ranks.now in
    let rank = c.args.component.now.rank in
    let m = c.loop-m.m in
    let old = c.args.table.now in
    let mid = c.loop-m.table in
    let now = c.greatest_sets.new.table in
    let new = c.greatest_sets.new.sets in
    let allowed = c.args.component.now.allowed.now in
    let grounds = c.args.setting.now.grounds.now in
    let levels = c.args.setting.now.levels.now in
    let families = i.solutions.families in
    let columns = c.push_sets.new.columns in
    let one = solution_first truth p ranks rank levels m new old mid i.keeps allowed grounds c.requires.component.allowed c.requires.setting.grounds now c.in_ok-greatest_sets.ensures.solution in
    let same : length columns ≡ c.loop-m.columns.len = omega arith in
    rw (take_at columns (drop (length columns) c.loop-m.columns.items) c.loop-m.columns.len same)
    (record {
      keeps = keeps_twice _ _ _ i.keeps c.greatest_sets.ensures.keeps;
      marks = c.in_ok-greatest_sets.ensures.marks;
      sets = c.in_ok-greatest_sets.ensures.solution.sets;
      each = c.push_sets.ensures.each ∙ ap length c.deref_mut.ensures.value ∙ i.each;
      solutions = record {
        families = families ++ new ∷ [];
        each = pushed_length families new ∙ ap (λ n. n + 1) i.solutions.each;
        solutions = pushed (λ (m : ℕ) (family : List Diagram). IsSolution truth p ranks rank (family_of p.preds old allowed) (family_of p.preds old grounds) levels now m family) families new
            (λ m family e. solution_later truth p ranks rank levels m family mid now c.greatest_sets.ensures.keeps (family_of p.preds old allowed) (family_of p.preds old grounds) (i.solutions.solutions m family e))
            (subst (λ (m : ℕ). IsSolution truth p ranks rank (family_of p.preds old allowed) (family_of p.preds old grounds) levels now m new) (sym i.solutions.each) one);
        own = c.in_ok-push_sets.ensures.pushed families (subst (AreColumns families c.args.component.now.members.now) (sym c.deref_mut.ensures.value) i.solutions.own);
      };
    })
