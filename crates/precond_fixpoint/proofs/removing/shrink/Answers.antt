use Rattle.std.proofs.Common.{subst, ◌∙◌, arith}
use Rattle.bool_diagrams.proofs.CallerLemmas.{keeps_same, keeps_twice}
use Rattle.groundness.specs.Marks.{HasUser}
use Rattle.truth_rows.specs.Rules.{KeepsSets}
use Rattle.truth_rows.specs.Sets.{family_of}
use Rattle.precond_fixpoint.specs.Removing.{is_ranked}
use Rattle.precond_fixpoint.proofs.MemberLaws.{nothing_needed}
use Rattle.precond_fixpoint.proofs.RoundLaws.{greatest_there, kept_first, kept_there, needed_twice}
use Rattle.precond_fixpoint.proofs.SettingLaws.{component_later, setting_later}
use Rattle.precond_fixpoint.proofs.removing.shrink.Goals as goal

pub mark_members-requires : goal.mark_members-requires
mark_members-requires g c = λ q j h. omega (arith, c.requires.setting.heads.within q j h, c.requires.marks)

pub loop-init : goal.loop-init
loop-init g c = record {
  keeps = keeps_same _;
  marks = c.mark_members.ensures.each ∙ c.requires.marks;
  sets = c.requires.sets;
  needed = nothing_needed (g.N.Norm.truth c.args.setting.now.norm.now) c.args.setting.now.program.now c.args.table.now c.args.setting.now.ranks.now c.args.component.now.rank c.args.setting.now.grounds.now c.args.component.now.allowed.now c.args.sets.now;
  inside = λ q row h. h;
  kept = λ j k at off member.
      let m = c.requires.component.members.all k.head.pred.0 member in
      absurd {A = KeepsSets (g.N.Norm.truth c.args.setting.now.norm.now) (family_of c.args.setting.now.program.now.preds c.args.table.now c.args.sets.now) (family_of c.args.setting.now.program.now.preds c.args.table.now c.args.component.now.allowed.now) (family_of c.args.setting.now.program.now.preds c.args.table.now c.args.setting.now.grounds.now) (is_ranked c.args.setting.now.ranks.now c.args.component.now.rank) k} (off (c.in_ok-mark_members.ensures.marked m.0 j m.1 m.2 (subst (λ q. HasUser c.args.setting.now.heads.now q j) m.3 (c.requires.setting.heads.all j k at))));
}

pub remove_next-requires-clause-setting : goal.remove_next-requires-clause-setting
remove_next-requires-clause-setting g c = setting_later c.args.setting.now c.args.table.now c.loop.table c.loop.invariant.keeps c.requires.setting

pub remove_next-requires-clause-component : goal.remove_next-requires-clause-component
remove_next-requires-clause-component g c = component_later c.args.setting.now c.args.component.now c.args.table.now c.loop.table c.loop.invariant.keeps c.requires.component

pub remove_next-requires-clause-kept : goal.remove_next-requires-clause-kept
remove_next-requires-clause-kept g c =
    kept_there (g.N.Norm.truth c.args.setting.now.norm.now) c.args.setting.now.program.now c.args.setting.now.ranks.now c.args.component.now.rank c.args.table.now c.args.setting.now.grounds.now c.args.component.now.allowed.now c.requires.setting.grounds c.requires.component.allowed c.loop.table c.loop.invariant.keeps
    c.loop.marks (family_of c.args.setting.now.program.now.preds c.loop.table c.loop.sets) c.loop.invariant.kept

pub loop-preserved : goal.loop-preserved
loop-preserved g c =
    let i = c.loop.invariant in
    let a = c.in_ok-remove_next.ensures in
    record {
      keeps = keeps_twice _ _ _ i.keeps c.remove_next.ensures.keeps;
      marks = a.marks;
      sets = a.sets;
      needed = needed_twice (g.N.Norm.truth c.args.setting.now.norm.now) c.args.setting.now.program.now c.args.setting.now.ranks.now c.args.component.now.rank c.args.table.now c.args.setting.now.grounds.now c.args.component.now.allowed.now c.requires.setting.grounds c.requires.component.allowed c.loop.table i.keeps
          c.remove_next.new.table c.args.sets.now c.loop.sets c.remove_next.new.sets i.needed a.needed;
      inside = λ q row h. i.inside q row (a.inside q row h);
      kept = kept_first (g.N.Norm.truth c.args.setting.now.norm.now) c.args.setting.now.program.now c.args.setting.now.ranks.now c.args.component.now.rank c.args.table.now c.args.setting.now.grounds.now c.args.component.now.allowed.now c.requires.setting.grounds c.requires.component.allowed c.loop.table i.keeps
          c.remove_next.new.marks (family_of c.args.setting.now.program.now.preds c.remove_next.new.table c.remove_next.new.sets) a.kept;
    }

pub returns-clause-greatest : goal.returns-clause-greatest
returns-clause-greatest g c =
    let i = c.loop.invariant in
    let a = c.in_ok-remove_next.ensures in
    let truth = g.N.Norm.truth c.args.setting.now.norm.now in
    let kept = kept_first truth c.args.setting.now.program.now c.args.setting.now.ranks.now c.args.component.now.rank c.args.table.now c.args.setting.now.grounds.now c.args.component.now.allowed.now c.requires.setting.grounds c.requires.component.allowed c.loop.table i.keeps
    c.remove_next.new.marks (family_of c.args.setting.now.program.now.preds c.remove_next.new.table c.remove_next.new.sets) a.kept in
    greatest_there truth c.args.setting.now.program.now c.args.setting.now.ranks.now c.args.component.now.rank c.args.table.now c.args.setting.now.grounds.now c.args.component.now.allowed.now c.requires.setting.grounds c.requires.component.allowed
    c.remove_next.new.table (keeps_twice _ _ _ i.keeps c.remove_next.ensures.keeps) c.args.sets.now c.remove_next.new.sets
    (needed_twice truth c.args.setting.now.program.now c.args.setting.now.ranks.now c.args.component.now.rank c.args.table.now c.args.setting.now.grounds.now c.args.component.now.allowed.now c.requires.setting.grounds c.requires.component.allowed c.loop.table i.keeps
    c.remove_next.new.table c.args.sets.now c.loop.sets c.remove_next.new.sets i.needed a.needed)
    (λ q row h. i.inside q row (a.inside q row h))
    (λ j k at member. kept j k at (a.done c.if-branch.false j) member)
