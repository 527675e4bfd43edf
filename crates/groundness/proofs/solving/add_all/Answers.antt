use Rattle.std.proofs.Common.{◌∙◌, refl, arith}
use Rattle.bool_diagrams.proofs.CallerLemmas.{keeps_same, keeps_twice}
use Rattle.truth_rows.specs.Sets.{family_of}
use Rattle.termination_model.specs.chains.Chain.{is_member}
use Rattle.groundness.proofs.ComponentLaws.{least_over, marked_member, needed_more}
use Rattle.groundness.proofs.RoundLaws.{kept_later}
use Rattle.groundness.proofs.solving.add_all.Goals as goal

pub mark_members-requires : goal.mark_members-requires
mark_members-requires g c = λ q j h. omega (arith, c.requires.setting.heads.within q j h, c.requires.marks)

pub loop-init : goal.loop-init
loop-init g c =
    record {
      keeps = keeps_same _;
      sets = c.requires.sets;
      each = c.in_ok-mark_members.ensures.each ∙ c.requires.marks;
      needed = λ other closed inside. inside;
      inside = λ q row t. t;
      others = λ r off. refl;
      closed = λ j k at member off.
          absurd (off (marked_member c.args.setting.now.program.now c.args.setting.now.comps.now c.requires.setting.components c.args.c c.members.result.now c.members.ensures c.args.setting.now.heads.now c.mark_members.new.self c.in_ok-mark_members.ensures.marked
          j k (c.requires.setting.heads.all j k at) member));
    }

pub loop-preserved : goal.loop-preserved
loop-preserved g c =
    let i = c.loop.invariant in
    let a = c.in_ok-add_next.ensures in
    let p = c.args.setting.now.program.now in
    record {
      keeps = keeps_twice _ _ _ i.keeps a.keeps;
      sets = a.sets;
      each = a.each;
      needed = needed_more (g.N.Norm.truth c.args.setting.now.norm.now) p (is_member c.args.setting.now.comps.now c.args.c) (family_of p.preds c.args.table.now c.args.sets.now) (family_of p.preds c.loop.table c.loop.sets) (family_of p.preds c.add_next.new.table c.add_next.new.sets) i.needed a.needed;
      inside = λ q row t. a.inside q row (i.inside q row t);
      others = λ r off. a.others r off ∙ i.others r off;
      closed = a.closed;
    }

pub returns-clause-others : goal.returns-clause-others
returns-clause-others g c = λ r off. c.in_ok-add_next.ensures.others r off ∙ c.loop.invariant.others r off

pub returns-clause-least : goal.returns-clause-least
returns-clause-least g c =
    let i = c.loop.invariant in
    let a = c.in_ok-add_next.ensures in
    let p = c.args.setting.now.program.now in
    let m = is_member c.args.setting.now.comps.now c.args.c in
    let old = family_of p.preds c.args.table.now c.args.sets.now in
    let now = family_of p.preds c.loop.table c.loop.sets in
    let new = family_of p.preds c.add_next.new.table c.add_next.new.sets in
    least_over (g.N.Norm.truth c.args.setting.now.norm.now) p m old new (λ r off. kept_later p.preds c.args.table.now c.add_next.new.table (keeps_twice _ _ _ i.keeps a.keeps) c.args.sets.now c.requires.sets.known c.add_next.new.sets r (a.others r off ∙ i.others r off)) c.requires.start (λ q row t. a.inside q row (i.inside q row t))
    (needed_more (g.N.Norm.truth c.args.setting.now.norm.now) p m old now new i.needed a.needed)
    (λ j k at member. a.closed j k at member (a.done c.if-branch.false j))
